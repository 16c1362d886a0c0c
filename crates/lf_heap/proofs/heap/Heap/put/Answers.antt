use Rattle.std.proofs.Common.{ap, arith, length}
use Rattle.lf_base.specs.Operands.{slot_below}
use Rattle.lf_base.specs.PlainState.{State}
use Rattle.lf_heap.specs.Heaps.{Domain}
use Rattle.lf_heap.proofs.Calls.Rests.{notices_then}
use Rattle.lf_heap.proofs.Calls.OperandSlots.{put_down_length}
use Rattle.lf_heap.proofs.heap.Heap.put.Goals as goal

pub settle-requires-clause-noticed : goal.settle-requires-clause-noticed
settle-requires-clause-noticed g c κs within = notices_then c.self.inside.parts.state c.self.inside.work c.self.inside.rows c.self.invariant c.move_last.new.self.state c.move_last.new.work 1 (omega arith) c.move_last.ensures.follows

pub returns-clause-room : goal.returns-clause-room
returns-clause-room g c =
    let s = c.args.self.now.state in
    let view = ap (λ (d : Domain). d.spare) c.self.view_is in
    let state = ap (λ (t : State). length t.slots) c.move_last.ensures.state in
    omega (arith, c.settle.ensures.room, c.move_last.ensures.room, ap (λ (t : State). length t.slots) c.settle.ensures.state, state, view, ap (λ (d : Domain). length d.state.slots) c.self.view_is, put_down_length c.self.inside.parts.state c.args.at (slot_below c.self.inside.parts.state 0) (omega (arith, c.requires, ap (λ (d : Domain). length d.state.slots) c.self.view_is)))

pub returns-clause-slots : goal.returns-clause-slots
returns-clause-slots g c =
    omega (
      arith,
      ap (λ (t : State). length t.slots) c.settle.ensures.state,
      ap (λ (t : State). length t.slots) c.move_last.ensures.state,
      ap (λ (d : Domain). length d.state.slots) c.self.view_is,
      put_down_length c.self.inside.parts.state c.args.at (slot_below c.self.inside.parts.state 0) (omega (arith, c.requires, ap (λ (d : Domain). length d.state.slots) c.self.view_is)),
    )
