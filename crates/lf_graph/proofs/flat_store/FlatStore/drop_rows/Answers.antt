use Rattle.std.proofs.Common.{arith, length, map, refl, subst}
use Rattle.std.proofs.lemmas.List.{take_all}
use Rattle.std.proofs.lemmas.Option.{slice_get_read}
use Rattle.lf_graph.specs.declared.flat_part.PartRow.{PartRow}
use Rattle.lf_graph.specs.RowChanges.{without_rows}
use Rattle.lf_graph.specs.StoredRows.{SameByOwner}
use Rattle.lf_graph.proofs.FlatStores.PartMoves.{no_row_dropped, one_row_dropped}
use Rattle.lf_graph.proofs.flat_store.FlatStore.drop_rows.Goals as goal

pub loop-row-init : goal.loop-row-init
loop-row-init c = no_row_dropped c.args.self.now.rows c.args.rows.now

pub loop-row-preserved : goal.loop-row-preserved
loop-row-preserved c = one_row_dropped c.args.self.now.rows c.loop-row.self.rows c.drop_if_there.new.self.rows c.args.rows.now c.loop-row.row-index c.row-item.result (slice_get_read c.args.rows.now (length c.args.rows.now) c.loop-row.row-index c.row-item.result refl (grind arith) c.row-item.is) c.loop-row.invariant c.drop_if_there.ensures.rows

pub returns : goal.returns
returns c = subst (λ l. SameByOwner c.loop-row.self.rows (without_rows c.args.self.now.rows (map (λ (r : PartRow). r.name) l))) (take_all c.loop-row.row-index c.args.rows.now (grind arith)) c.loop-row.invariant
