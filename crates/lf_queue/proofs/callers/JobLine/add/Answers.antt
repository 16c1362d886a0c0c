use Rattle.std.proofs.Common.{refl, subst, sym}
use Rattle.lf_queue.specs.Queues.{IsAboveAll}
use Rattle.lf_queue.proofs.RisingNumbers.{above_spawned}
use Rattle.lf_queue.proofs.callers.JobLine.add.Goals as goal

pub invariant_of-self : goal.invariant_of-self
invariant_of-self c = subst (IsAboveAll c.self.inside.next) (sym c.in_err-reserve.ensures.unchanged) c.self.invariant

pub spawn-requires-clause-above : goal.spawn-requires-clause-above
spawn-requires-clause-above c = subst (IsAboveAll c.self.inside.next) (sym c.in_ok-reserve.ensures.room) c.self.invariant

pub invariant_of-self-2 : goal.invariant_of-self-2
invariant_of-self-2 c =
    subst (IsAboveAll _) (sym c.spawn.ensures) (
    above_spawned c.self.inside.next _ c.reserve.new.self refl (subst (IsAboveAll c.self.inside.next) (sym c.in_ok-reserve.ensures.room) c.self.invariant))
