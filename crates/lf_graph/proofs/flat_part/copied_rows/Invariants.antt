use Rattle.std.proofs.Common.{length, ◌-◌}
use Rattle.lf_base.specs.declared.values.Owner.TheVariants.{In}
use Rattle.lf_graph.specs.FlatRows.{IsFlat, chain_of}
use Rattle.lf_graph.proofs.FlatStores.PartRows.{Copying}
use Rattle.lf_graph.proofs.flat_part.copied_rows.Given as goal

abbrev pub invariant-loop-next : goal.invariant-loop-next
invariant-loop-next l = (flat : IsFlat l.chains l.cells) → Copying l.chains l.cells flat l.fn.region l.rows l.next

abbrev pub decreases-loop-next : goal.decreases-loop-next
decreases-loop-next l = length (chain_of l.chains (In l.fn.region)) - length l.rows
