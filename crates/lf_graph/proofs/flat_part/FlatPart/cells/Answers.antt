use Rattle.std.proofs.Common.{ap, subst, sym, ◌∙◌, ◌≡◌}
use Rattle.std.specs.Option.{IfSome}
use Rattle.lf_graph.specs.FlatParts.{PartView, part_cells, rows_cells}
use Rattle.lf_graph.proofs.FlatStores.PartRows.{cells_of_part}
use Rattle.lf_graph.proofs.flat_part.FlatPart.cells.Goals as goal

pub returns : goal.returns
returns c =
    subst (λ n. IfSome c.counted_cells.result (λ cells. cells ≡ n))
    (ap rows_cells c.as_slice.ensures ∙ sym (cells_of_part c.self.inside.region c.self.inside.rows) ∙ ap (λ (v : PartView). part_cells v.rows) c.self.view_is) c.counted_cells.ensures
