use Rattle.std.proofs.Common.{None, Some, ap, sym, ◌∙◌}
use Rattle.lf_base.specs.FieldOrder.{field_after}
use Rattle.lf_graph.specs.Cells.{cells_of, walked_keys}
use Rattle.lf_graph.specs.StoredRows.{fields_at}
use Rattle.lf_graph.proofs.FlatStores.FlatFound.{fields_found, list_here, row_is_there, seen_as, there}
use Rattle.lf_graph.proofs.flat_store.FlatStoreStore.field_after.Goals as goal

pub row-requires : goal.row-requires
row-requires g c = row_is_there (seen_as c.self.invariant c.self.view_is) c.args.o c.requires.there

pub returns-in-Some-clause-field : goal.returns-in-Some-clause-field
returns-in-Some-clause-field g c =
    let before = seen_as c.self.invariant c.self.view_is in
    let r = there before c.args.o c.requires.there in
    c.after.ensures r.row.fields (walked_keys (cells_of c.self.inside.cells) c.args.o r.row.fields) (list_here before c.args.o r.row r.kept_is)
    ∙ ap (λ l. field_after l (Some c.in-Some.key)) (sym (fields_found before c.args.o r.row r.kept_is))
    ∙ ap (field_after (fields_at c.args.self.now.rows c.args.o)) (sym c.in-Some.is)

pub returns-in-None-clause-field : goal.returns-in-None-clause-field
returns-in-None-clause-field g c =
    let before = seen_as c.self.invariant c.self.view_is in
    c.first.ensures (walked_keys (cells_of c.self.inside.cells) c.args.o c.row.result.now.fields) (list_here before c.args.o c.row.result.now c.row.ensures)
    ∙ ap (λ l. field_after l None) (sym (fields_found before c.args.o c.row.result.now c.row.ensures))
    ∙ ap (field_after (fields_at c.args.self.now.rows c.args.o)) (sym c.in-None.is)
