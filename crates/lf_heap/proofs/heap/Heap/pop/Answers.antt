use Rattle.std.proofs.Common.{arith}
use Rattle.lf_heap.proofs.Calls.Rests.{notices_then}
use Rattle.lf_heap.proofs.heap.Heap.pop.Goals as goal

pub settle-requires-clause-noticed : goal.settle-requires-clause-noticed
settle-requires-clause-noticed g c κs within = notices_then c.self.inside.parts.state c.self.inside.work c.self.inside.rows c.self.invariant c.drop_slot.new.self.state c.drop_slot.new.work 1 (omega arith) c.drop_slot.ensures.follows
