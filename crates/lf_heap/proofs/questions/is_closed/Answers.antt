use Rattle.std.proofs.Common.{None, Some, ap, not, ◌∙◌}
use Rattle.lf_base.specs.PlainChanges.{put_slot, with_slot_at}
use Rattle.lf_base.specs.Questions.{of_bridge}
use Rattle.lf_base.specs.WalkCounts.{is_open}
use Rattle.lf_heap.proofs.Answered.WithoutSlot.{bridge_is, lack_unset}
use Rattle.lf_heap.proofs.questions.is_closed.Goals as goal

pub returns-clause-answer : goal.returns-clause-answer
returns-clause-answer g c s at d there holds =
    let e = c.in_ok-r.ensures c.args.regions.now s d in
    let bridge = bridge_is s c.args.v c.in_ok-r.r e in
    let lack = lack_unset s at there c.args.v c.in_ok-r.r holds bridge.value in
    ap (λ b. Some (not b)) (c.is_open_without_slot-open.ensures.«open» s (put_slot s.slots at None) d bridge.inside lack) ∙ ap (of_bridge (λ r. not (is_open (with_slot_at s at None) r))) e
