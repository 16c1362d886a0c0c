use Rattle.std.proofs.Common.{arith, length, map, refl, subst, take, ◌+◌, ◌++◌, ◌≤◌, ◌≡◌}
use Rattle.std.proofs.lemmas.List.{take_all}
use Rattle.std.proofs.lemmas.Option.{slice_get_read}
use Rattle.lf_graph.specs.FlatParts.{part_row, rows_cells}
use Rattle.lf_graph.specs.StoredRows.{SameByOwner}
use Rattle.lf_graph.proofs.FlatStores.PartMoves.{cells_within, name_is_new, no_row_put, one_row_put}
use Rattle.lf_graph.proofs.FlatStores.PartRows.{cells_more, each_at}
use Rattle.lf_graph.proofs.flat_store.FlatStore.put_rows.Goals as goal

pub loop-row-init : goal.loop-row-init
loop-row-init c = (no_row_put c.args.region c.args.self.now.rows c.args.rows.now, omega arith)

pub put_row-requires-clause-part : goal.put_row-requires-clause-part
put_row-requires-clause-part c = each_at c.args.rows.now c.loop-row.row-index c.row-item.result c.requires.part.each (slice_get_read c.args.rows.now (length c.args.rows.now) c.loop-row.row-index c.row-item.result refl (grind arith) c.row-item.is)

pub put_row-requires-clause-new : goal.put_row-requires-clause-new
put_row-requires-clause-new c = name_is_new c.args.region c.args.self.now.rows c.loop-row.self.rows c.args.rows.now c.loop-row.row-index c.row-item.result (slice_get_read c.args.rows.now (length c.args.rows.now) c.loop-row.row-index c.row-item.result refl (grind arith) c.row-item.is) c.loop-row.invariant.0 c.requires.new c.requires.part.names

pub put_row-requires-clause-room : goal.put_row-requires-clause-room
put_row-requires-clause-room c =
    let rows = c.args.rows.now in
    let a = c.loop-row.invariant.1 in
    let b = c.requires.room in
    let d : rows_cells (take (c.loop-row.row-index + 1) rows) ≤ rows_cells rows = cells_within rows (c.loop-row.row-index + 1) in
    let e : rows_cells (take (c.loop-row.row-index + 1) rows) ≡ rows_cells (take c.loop-row.row-index rows) + (1 + length c.row-item.result.fields) = cells_more rows c.loop-row.row-index c.row-item.result (slice_get_read rows (length rows) c.loop-row.row-index c.row-item.result refl (grind arith) c.row-item.is) in
    grind arith

pub loop-row-preserved : goal.loop-row-preserved
loop-row-preserved c =
    let rows = c.args.rows.now in
    let there = slice_get_read rows (length rows) c.loop-row.row-index c.row-item.result refl (grind arith) c.row-item.is in
    let a = c.loop-row.invariant.1 in
    let b = c.put_row.ensures.room in
    let e : rows_cells (take (c.loop-row.row-index + 1) rows) ≡ rows_cells (take c.loop-row.row-index rows) + (1 + length c.row-item.result.fields) = cells_more rows c.loop-row.row-index c.row-item.result there in
    (one_row_put c.args.region c.args.self.now.rows c.loop-row.self.rows rows c.loop-row.row-index c.row-item.result there c.loop-row.invariant.0 c.put_row.new.self.rows c.put_row.ensures.rows, grind arith)

pub returns : goal.returns
returns c = subst (λ l. SameByOwner c.loop-row.self.rows (c.args.self.now.rows ++ map (part_row c.args.region) l)) (take_all c.loop-row.row-index c.args.rows.now (grind arith)) c.loop-row.invariant.0
