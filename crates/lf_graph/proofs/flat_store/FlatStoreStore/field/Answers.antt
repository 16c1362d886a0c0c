use Rattle.std.proofs.Common.{ap, option_map, sym, ◌∙◌}
use Rattle.lf_graph.specs.declared.cells.Cell.{Cell}
use Rattle.lf_graph.proofs.FlatStores.FlatFound.{seen_as, there, value_found}
use Rattle.lf_graph.proofs.flat_store.FlatStoreStore.field.Goals as goal

pub returns-in_default-clause-value : goal.returns-in_default-clause-value
returns-in_default-clause-value g c =
    let r = there (seen_as c.self.invariant c.self.view_is) c.args.o c.requires.there in
    sym (value_found (seen_as c.self.invariant c.self.view_is) c.args.o r.row r.kept_is c.args.key ∙ ap (option_map (λ (x : Cell). x.value)) (sym c.in_default.ensures))

pub returns-clause-value : goal.returns-clause-value
returns-clause-value g c =
    let r = there (seen_as c.self.invariant c.self.view_is) c.args.o c.requires.there in
    sym (value_found (seen_as c.self.invariant c.self.view_is) c.args.o r.row r.kept_is c.args.key ∙ ap (option_map (λ (x : Cell). x.value)) (sym c.in-Some.ensures))
