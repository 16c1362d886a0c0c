use Rattle.std.proofs.Common.{Some, ap, arith, length, refl, slice_get, sym, ◌+◌, ◌∙◌, ◌≡◌}
use Rattle.std.proofs.lemmas.List.{take_all}
use Rattle.std.proofs.lemmas.Option.{slice_get_read}
use Rattle.lf_graph.specs.FlatParts.{rows_cells}
use Rattle.lf_graph.proofs.FlatStores.PartRows.{cells_more, no_cells}
use Rattle.lf_graph.proofs.flat_part.counted_cells.Goals as goal

pub loop-row-init : goal.loop-row-init
loop-row-init c = no_cells c.args.rows.now

pub loop-row-preserved : goal.loop-row-preserved
loop-row-preserved c =
    let here : slice_get c.args.rows.now c.loop-row.row-index ≡ Some c.row-item.result = slice_get_read c.args.rows.now (length c.args.rows.now) c.loop-row.row-index c.row-item.result refl (grind arith) c.row-item.is in
    c.in_ok-cells.ensures ∙ (λ i. c.loop-row.invariant i + (1 + c.len.ensures i)) ∙ sym (cells_more c.args.rows.now c.loop-row.row-index c.row-item.result here)

pub returns : goal.returns
returns c = c.loop-row.invariant ∙ ap rows_cells (take_all c.loop-row.row-index c.args.rows.now (grind arith))
