use Rattle.std.proofs.Common.{None, ap, arith, length}
use Rattle.lf_base.specs.PlainState.{State}
use Rattle.lf_heap.specs.Heaps.{Domain}
use Rattle.lf_heap.proofs.Calls.Rests.{notices_then}
use Rattle.lf_heap.proofs.Slots.SlotPlaces.{put_length}
use Rattle.lf_heap.proofs.heap.Heap.unset.Goals as goal

pub settle-requires-clause-noticed : goal.settle-requires-clause-noticed
settle-requires-clause-noticed g c κs within = notices_then c.self.inside.parts.state c.self.inside.work c.self.inside.rows c.self.invariant c.replace_slot.new.self.state c.replace_slot.new.work 1 (omega arith) c.replace_slot.ensures.follows

pub returns-clause-room : goal.returns-clause-room
returns-clause-room g c =
    omega (
      arith,
      c.settle.ensures.room,
      c.replace_slot.ensures.room,
      ap (λ (t : State). length t.slots) c.settle.ensures.state,
      ap (λ (t : State). length t.slots) c.replace_slot.ensures.state,
      ap (λ (d : Domain). d.spare) c.self.view_is,
      ap (λ (d : Domain). length d.state.slots) c.self.view_is,
      put_length c.self.inside.parts.state.slots c.args.at None,
    )

pub returns-clause-slots : goal.returns-clause-slots
returns-clause-slots g c =
    omega (
      arith,
      ap (λ (t : State). length t.slots) c.settle.ensures.state,
      ap (λ (t : State). length t.slots) c.replace_slot.ensures.state,
      ap (λ (d : Domain). length d.state.slots) c.self.view_is,
      put_length c.self.inside.parts.state.slots c.args.at None,
    )
