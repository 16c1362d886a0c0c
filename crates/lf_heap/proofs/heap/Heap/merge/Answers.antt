use Rattle.std.proofs.Common.{arith}
use Rattle.lf_heap.proofs.Calls.Rests.{notices_then}
use Rattle.lf_heap.proofs.States.Steps.{steps_follow}
use Rattle.lf_heap.proofs.heap.Heap.merge.Goals as goal

pub settle-requires-clause-noticed : goal.settle-requires-clause-noticed
settle-requires-clause-noticed g c κs within =
    let s = c.self.inside.parts.state in
    let work = c.self.inside.work in
    let both = steps_follow s c.merge.new.self.state c.drop_slot.new.self.state work c.merge.new.work c.drop_slot.new.work 1 1 c.in_ok-merge.ensures.follows c.drop_slot.ensures.follows in
    notices_then s work c.self.inside.rows c.self.invariant c.drop_slot.new.self.state c.drop_slot.new.work 2 (omega arith) both
