use Rattle.std.proofs.Common.{ap, slice_get, sym, ◌∙◌}
use Rattle.lf_graph.specs.Cells.{cells_of, walked_keys}
use Rattle.lf_graph.proofs.FlatStores.FlatFound.{fields_found, list_here, row_is_there, seen_as}
use Rattle.lf_graph.proofs.flat_store.FlatStoreStore.field_at.Goals as goal

pub row-row-requires : goal.row-row-requires
row-row-requires g c = row_is_there (seen_as c.self.invariant c.self.view_is) c.args.o c.requires.there

pub returns-clause-field : goal.returns-clause-field
returns-clause-field g c =
    c.at.ensures (walked_keys (cells_of c.self.inside.cells) c.args.o c.row-row.result.now.fields) (list_here (seen_as c.self.invariant c.self.view_is) c.args.o c.row-row.result.now c.row-row.ensures)
    ∙ ap (λ l. slice_get l c.args.at) (sym (fields_found (seen_as c.self.invariant c.self.view_is) c.args.o c.row-row.result.now c.row-row.ensures))
