use Rattle.std.proofs.Common.{ap, arith, length, subst, sym, ◌∙◌, ◌≤◌}
use Rattle.lf_base.specs.CloseResult.{leads_into}
use Rattle.lf_base.specs.PlainChanges.{slot_at}
use Rattle.lf_transfer.specs.Closing.{IsSlotShut}
use Rattle.lf_transfer.proofs.Closings.SlotLoops.{closing_of_equal, one_more_shut}
use Rattle.lf_transfer.proofs.closing.close_slots.Goals as goal
use Rattle.lf_transfer.proofs.closing.close_slots.Goals.{else-at-kept, then-at-kept}

pub close_slot-requires-clause-closing : goal.close_slot-requires-clause-closing
close_slot-requires-clause-closing g c κs within =
    let h = c.requires.closing in
    (h.0, (c.args.kept, (h.1.0, (h.1.1.0, (λ e. c.if-at-kept.true (sym e), c.loop-at.invariant.closing h.0 h.1.0 h.1.1.0 h.1.1.1)))))

pub loop-at-preserved : goal.loop-at-preserved
loop-at-preserved g c =
    let h = c.requires.closing in
    record {
      closing = λ s r before first. elim c.if-at-kept.branch [
        | then-at-kept w ↦ closing_of_equal s c.args.kept r c.args.within.now.keys before _ _ _ _ _ _ _ _ (ap g.S.Store.rows w.store-is) w.regions-is w.slots-is w.names-is
            (w.close_slot.ensures.closing s c.args.kept r before (λ e. w.if-at-kept.true (sym e)) (c.loop-at.invariant.closing s r before first))
        | else-at-kept w ↦ closing_of_equal s c.args.kept r c.args.within.now.keys before _ _ _ _ _ _ _ _ (ap g.S.Store.rows w.store-is) w.regions-is w.slots-is w.names-is
            (c.loop-at.invariant.closing s r before first)
      ];
      shut = λ s r before first. elim c.if-at-kept.branch [
        | then-at-kept w ↦ one_more_shut (leads_into s r) c.args.kept c.loop-at.at c.loop-at.slots c.if-at-kept.slots (c.loop-at.invariant.shut s r before first)
            (λ i other. ap (λ l. slot_at l i) w.slots-is ∙ w.close_slot.ensures.others i other)
            (λ apart. subst (λ l. IsSlotShut (leads_into s r) (slot_at l c.loop-at.at)) (sym w.slots-is)
            (w.close_slot.ensures.shut s c.args.kept r before (λ e. apart (sym e)) (c.loop-at.invariant.closing s r before first)))
        | else-at-kept w ↦ one_more_shut (leads_into s r) c.args.kept c.loop-at.at c.loop-at.slots c.if-at-kept.slots (c.loop-at.invariant.shut s r before first)
            (λ i other. ap (λ l. slot_at l i) w.slots-is)
            (λ apart. absurd (apart w.if-at-kept.false))
      ];
      slots = elim c.if-at-kept.branch [
        | then-at-kept w ↦ ap length w.slots-is ∙ w.close_slot.ensures.length ∙ c.loop-at.invariant.slots
        | else-at-kept w ↦ ap length w.slots-is ∙ c.loop-at.invariant.slots
      ];
      room = λ o. elim c.if-at-kept.branch [
        | then-at-kept w ↦ subst (λ st. g.S.Store.spare c.args.store.now o ≤ g.S.Store.spare st o) (sym w.store-is) (omega (arith, c.loop-at.invariant.room o, w.close_slot.ensures.room o))
        | else-at-kept w ↦ subst (λ st. g.S.Store.spare c.args.store.now o ≤ g.S.Store.spare st o) (sym w.store-is) (c.loop-at.invariant.room o)
      ];
    }

pub returns-clause-shut : goal.returns-clause-shut
returns-clause-shut g c s r before first i below other = c.loop-at.invariant.shut s r before first i (omega (arith, below, c.loop-at-test.false, c.loop-at.invariant.slots)) other
