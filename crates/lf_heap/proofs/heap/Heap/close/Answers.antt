use Rattle.std.proofs.Common.{ap, arith, length}
use Rattle.lf_base.specs.Operands.{set_value}
use Rattle.lf_base.specs.Owners.{bridge_of}
use Rattle.lf_base.specs.PlainChanges.{slot_at}
use Rattle.lf_base.specs.PlainState.{State}
use Rattle.lf_heap.specs.Heaps.{Domain}
use Rattle.lf_heap.proofs.Calls.Rests.{notices_then}
use Rattle.lf_heap.proofs.Calls.SlotsAfter.{closed_slots}
use Rattle.lf_heap.proofs.heap.Heap.close.Goals as goal

pub settle-requires-clause-noticed : goal.settle-requires-clause-noticed
settle-requires-clause-noticed g c κs within =
    let s = c.self.inside.parts.state in
    notices_then s c.self.inside.work c.self.inside.rows c.self.invariant c.close.new.self.state c.close.new.work (length s.rows) (omega arith) c.in_ok-close.ensures.follows

pub returns-clause-slots : goal.returns-clause-slots
returns-clause-slots g c =
    let s = c.self.inside.parts.state in
    omega (
      arith,
      ap (λ (t : State). length t.slots) c.settle.ensures.state,
      ap (λ (t : State). length t.slots) c.in_ok-close.ensures.state,
      closed_slots c.args.at (bridge_of s (set_value (slot_at s.slots c.args.at))) s,
      ap (λ (d : Domain). length d.state.slots) c.self.view_is,
    )

pub returns-clause-room : goal.returns-clause-room
returns-clause-room g c =
    let s = c.self.inside.parts.state in
    omega (
      arith,
      c.settle.ensures.room,
      c.close.ensures.room,
      ap (λ (t : State). length t.slots) c.settle.ensures.state,
      ap (λ (t : State). length t.slots) c.in_ok-close.ensures.state,
      closed_slots c.args.at (bridge_of s (set_value (slot_at s.slots c.args.at))) s,
      ap (λ (d : Domain). d.spare) c.self.view_is,
      ap (λ (d : Domain). length d.state.slots) c.self.view_is,
    )
