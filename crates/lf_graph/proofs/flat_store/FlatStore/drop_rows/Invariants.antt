use Rattle.std.proofs.Common.{map, take}
use Rattle.lf_graph.specs.declared.flat_part.PartRow.{PartRow}
use Rattle.lf_graph.specs.RowChanges.{without_rows}
use Rattle.lf_graph.specs.StoredRows.{SameByOwner}
use Rattle.lf_graph.proofs.flat_store.FlatStore.drop_rows.Given as goal

abbrev pub invariant-loop-row : goal.invariant-loop-row
invariant-loop-row l = SameByOwner l.self.rows (without_rows l.initial.self.rows (map (λ (r : PartRow). r.name) (take l.row-index l.rows)))
