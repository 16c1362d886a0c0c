use Rattle.std.proofs.Common.{ap, option_map, sym, ◌∙◌}
use Rattle.lf_base.specs.Links.{without}
use Rattle.lf_base.specs.Names.{same_key}
use Rattle.lf_base.specs.TakeResult.{drop_field}
use Rattle.lf_graph.specs.declared.cells.Cell.{Cell}
use Rattle.lf_graph.specs.Cells.{cells_of, walked_keys}
use Rattle.lf_graph.specs.ChainMaps.{heads_of}
use Rattle.lf_graph.specs.Chains.{refield}
use Rattle.lf_graph.specs.FlatRows.{chain_of}
use Rattle.lf_graph.proofs.FieldTable.FieldPairs.{fields_without}
use Rattle.lf_graph.proofs.FlatStores.FlatFound.{list_here, row_is_there, seen_as, value_found}
use Rattle.lf_graph.proofs.FlatStores.FlatFound as found
use Rattle.lf_graph.proofs.FlatStores.FlatSteps.{flat_refielded, rows_refielded, rows_untouched, stored_changed}
use Rattle.lf_graph.proofs.flat_store.FlatStoreStore.take_field.Goals as goal

pub returns-in_default-clause-value : goal.returns-in_default-clause-value
returns-in_default-clause-value g c = sym (found.no_value (seen_as c.self.invariant c.self.view_is) c.args.o c.requires.there c.args.key (sym c.in_default.ensures))

pub returns-in_default-clause-rows : goal.returns-in_default-clause-rows
returns-in_default-clause-rows g c =
    let before = seen_as c.self.invariant c.self.view_is in
    let r = found.there before c.args.o c.requires.there in
    rows_untouched before c.args.o r.row r.kept_is c.args.key (sym c.in_default.ensures)

pub invariant_of-self : goal.invariant_of-self
invariant_of-self g c =
    let before = seen_as c.self.invariant c.self.view_is in
    let r = c.at.result.now in
    let keys = walked_keys (cells_of c.self.inside.cells) c.args.o r.fields in
    flat_refielded c.set_fields.new.self c.unlink-fields.new.self before c.args.o r (c.at.ensures c.args.o c.place-place.ensures) (c.set_fields.ensures.lists (chain_of c.self.inside.chains) c.self.invariant.chains) c.unlink-fields.ensures.others
    c.unlink-fields.result (without same_key c.args.key keys) (c.unlink-fields.ensures.lists keys (list_here before c.args.o r (c.at.ensures c.args.o c.place-place.ensures))) (stored_changed (heads_of c.self.inside.chains.rows) (heads_of c.set_fields.new.self.rows) c.args.o r (refield c.unlink-fields.result) (c.at.ensures c.args.o c.place-place.ensures) (c.set_fields.ensures.rows c.args.o c.place-place.ensures))

pub returns-clause-value : goal.returns-clause-value
returns-clause-value g c =
    sym (value_found (seen_as c.self.invariant c.self.view_is) c.args.o c.at.result.now (c.at.ensures c.args.o c.place-place.ensures) c.args.key ∙ ap (option_map (λ (x : Cell). x.value)) (sym c.in-Some.ensures))

pub returns-clause-rows : goal.returns-clause-rows
returns-clause-rows g c =
    let before = seen_as c.self.invariant c.self.view_is in
    let r = c.at.result.now in
    let keys = walked_keys (cells_of c.self.inside.cells) c.args.o r.fields in
    let list = list_here before c.args.o r (c.at.ensures c.args.o c.place-place.ensures) in
    rows_refielded c.set_fields.new.self c.unlink-fields.new.self before c.args.o r (c.at.ensures c.args.o c.place-place.ensures) (c.set_fields.ensures.lists (chain_of c.self.inside.chains) c.self.invariant.chains) c.unlink-fields.ensures.others
    c.unlink-fields.result (without same_key c.args.key keys) (c.unlink-fields.ensures.lists keys list) (stored_changed (heads_of c.self.inside.chains.rows) (heads_of c.set_fields.new.self.rows) c.args.o r (refield c.unlink-fields.result) (c.at.ensures c.args.o c.place-place.ensures) (c.set_fields.ensures.rows c.args.o c.place-place.ensures))
    (λ fields. drop_field fields c.args.key)
    (fields_without (cells_of c.self.inside.cells) (cells_of c.unlink-fields.new.self) c.args.o c.args.key r.fields keys c.unlink-fields.ensures.value list)
