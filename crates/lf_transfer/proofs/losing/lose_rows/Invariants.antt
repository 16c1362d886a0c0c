use Rattle.std.proofs.Common.{length, ◌+◌, ◌≡◌, ◌≤◌}
use Rattle.lf_base.specs.declared.values.Value.{Value}
use Rattle.lf_base.specs.FreezeResult.{freeze_result}
use Rattle.lf_base.specs.PlainState.{State}
use Rattle.lf_transfer.specs.Freezing.{MayLoseAll}
use Rattle.lf_transfer.proofs.Freezes.LostRegions.{Losing}
use Rattle.lf_transfer.proofs.losing.lose_rows.Given as goal

abbrev pub invariant-loop-r : goal.invariant-loop-r
invariant-loop-r g l = record {
  losing : (s : State) (v : Value) → MayLoseAll (g.S.Store.rows l.store) l.fn.regions s v l.taken.keys l.losing
      → Losing (freeze_result s v) l.losing l.r-index l.fn.regions l.regions l.fn.work.names l.work.names;
  room : l.work.spare + length l.work.names ≡ l.fn.work.spare + length l.fn.work.names;
  fits : length l.losing ≤ l.r-index + l.work.spare;
}
