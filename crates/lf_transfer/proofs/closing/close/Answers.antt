use Rattle.std.proofs.Common.{None, Some, ap, cond, is_some, subst, sym, ◌∙◌, ◌≡◌}
use Rattle.lf_base.specs.declared.faults.Fault.TheVariants.{NotBridge}
use Rattle.lf_base.specs.CloseResult.{close_refusal_by, close_result}
use Rattle.lf_base.specs.PlainChanges.{slot_at}
use Rattle.lf_domain.specs.Counts.{CountsOf}
use Rattle.lf_transfer.specs.Closing.{HoldsBridge, LetsLoose}
use Rattle.lf_transfer.proofs.Closings.HeldBridges.{bridge_held, holds_here, no_bridge, no_slot}
use Rattle.lf_transfer.proofs.Closings.SlotPlaces.{slot_found}
use Rattle.lf_transfer.proofs.closing.close.Goals as goal

pub returns-in_default-clause-answer : goal.returns-in_default-clause-answer
returns-in_default-clause-answer g c s opened =
    sym (ap (close_refusal_by s) (ap (λ l. slot_at l c.args.kept) opened.in_slots ∙ slot_found c.args.slots.now c.args.kept None c.requires.kept ∙ c.in_default.is))

pub returns-in_default-clause-slots : goal.returns-in_default-clause-slots
returns-in_default-clause-slots g c s r opened held = absurd (no_slot s c.args.kept r held (ap (λ l. slot_at l c.args.kept) opened.in_slots ∙ slot_found c.args.slots.now c.args.kept None c.requires.kept ∙ c.in_default.is))

pub returns-in_default-clause-counts : goal.returns-in_default-clause-counts
returns-in_default-clause-counts g c s r opened held = absurd (no_slot s c.args.kept r held (ap (λ l. slot_at l c.args.kept) opened.in_slots ∙ slot_found c.args.slots.now c.args.kept None c.requires.kept ∙ c.in_default.is))

pub returns-in_default-clause-loose : goal.returns-in_default-clause-loose
returns-in_default-clause-loose g c s r opened held = absurd (no_slot s c.args.kept r held (ap (λ l. slot_at l c.args.kept) opened.in_slots ∙ slot_found c.args.slots.now c.args.kept None c.requires.kept ∙ c.in_default.is))

pub returns-in_default-bridge_of-clause-answer : goal.returns-in_default-bridge_of-clause-answer
returns-in_default-bridge_of-clause-answer g c s opened =
    sym (ap (close_refusal_by s) (ap (λ l. slot_at l c.args.kept) opened.in_slots ∙ slot_found c.args.slots.now c.args.kept None c.requires.kept ∙ c.in-Some.is)
    ∙ ap (λ b. cond (is_some b) None (Some NotBridge)) (sym (c.bridge_of.ensures c.args.regions.now s opened.domain) ∙ c.in_default-bridge_of.is))

pub returns-in_default-bridge_of-clause-slots : goal.returns-in_default-bridge_of-clause-slots
returns-in_default-bridge_of-clause-slots g c s r opened held = absurd (no_bridge s c.args.kept r held c.in-Some.value
    (ap (λ l. slot_at l c.args.kept) opened.in_slots ∙ slot_found c.args.slots.now c.args.kept None c.requires.kept ∙ c.in-Some.is) (sym (c.bridge_of.ensures c.args.regions.now s opened.domain) ∙ c.in_default-bridge_of.is))

pub returns-in_default-bridge_of-clause-counts : goal.returns-in_default-bridge_of-clause-counts
returns-in_default-bridge_of-clause-counts g c s r opened held = absurd (no_bridge s c.args.kept r held c.in-Some.value
    (ap (λ l. slot_at l c.args.kept) opened.in_slots ∙ slot_found c.args.slots.now c.args.kept None c.requires.kept ∙ c.in-Some.is) (sym (c.bridge_of.ensures c.args.regions.now s opened.domain) ∙ c.in_default-bridge_of.is))

pub returns-in_default-bridge_of-clause-loose : goal.returns-in_default-bridge_of-clause-loose
returns-in_default-bridge_of-clause-loose g c s r opened held = absurd (no_bridge s c.args.kept r held c.in-Some.value
    (ap (λ l. slot_at l c.args.kept) opened.in_slots ∙ slot_found c.args.slots.now c.args.kept None c.requires.kept ∙ c.in-Some.is) (sym (c.bridge_of.ensures c.args.regions.now s opened.domain) ∙ c.in_default-bridge_of.is))

pub close_region-requires-clause-opened : goal.close_region-requires-clause-opened
close_region-requires-clause-opened g c κs within =
    let h = c.requires.opened in (
      h.0,
      (
        h.1,
        holds_here h.0 c.args.kept c.in-Some-bridge_of.r c.in-Some.value
            (ap (λ l. slot_at l c.args.kept) h.1.in_slots ∙ slot_found c.args.slots.now c.args.kept None c.requires.kept ∙ c.in-Some.is) (sym (c.bridge_of.ensures c.args.regions.now h.0 h.1.domain) ∙ c.in-Some-bridge_of.is),
      ),
    )

pub returns-clause-answer : goal.returns-clause-answer
returns-clause-answer g c s opened =
    sym (ap (close_refusal_by s) (ap (λ l. slot_at l c.args.kept) opened.in_slots ∙ slot_found c.args.slots.now c.args.kept None c.requires.kept ∙ c.in-Some.is)
    ∙ ap (λ b. cond (is_some b) None (Some NotBridge)) (sym (c.bridge_of.ensures c.args.regions.now s opened.domain) ∙ c.in-Some-bridge_of.is))

pub returns-clause-slots : goal.returns-clause-slots
returns-clause-slots g c s r opened held =
    let is : c.in-Some-bridge_of.r ≡ r = bridge_held s c.args.kept r held c.in-Some.value c.in-Some-bridge_of.r
    (ap (λ l. slot_at l c.args.kept) opened.in_slots ∙ slot_found c.args.slots.now c.args.kept None c.requires.kept ∙ c.in-Some.is) (sym (c.bridge_of.ensures c.args.regions.now s opened.domain) ∙ c.in-Some-bridge_of.is) in
    subst (λ q. c.close_region.new.slots ≡ (close_result s c.args.kept q).slots) is (c.close_region.ensures.slots s opened (subst (HoldsBridge s c.args.kept) (sym is) held))

pub returns-clause-counts : goal.returns-clause-counts
returns-clause-counts g c s r opened held =
    let is : c.in-Some-bridge_of.r ≡ r = bridge_held s c.args.kept r held c.in-Some.value c.in-Some-bridge_of.r
    (ap (λ l. slot_at l c.args.kept) opened.in_slots ∙ slot_found c.args.slots.now c.args.kept None c.requires.kept ∙ c.in-Some.is) (sym (c.bridge_of.ensures c.args.regions.now s opened.domain) ∙ c.in-Some-bridge_of.is) in
    subst (λ q. CountsOf (g.S.Store.rows c.close_region.new.store) c.close_region.new.regions (close_result s c.args.kept q)) is (c.close_region.ensures.counts s opened (subst (HoldsBridge s c.args.kept) (sym is) held))

pub returns-clause-loose : goal.returns-clause-loose
returns-clause-loose g c s r opened held =
    let is : c.in-Some-bridge_of.r ≡ r = bridge_held s c.args.kept r held c.in-Some.value c.in-Some-bridge_of.r
    (ap (λ l. slot_at l c.args.kept) opened.in_slots ∙ slot_found c.args.slots.now c.args.kept None c.requires.kept ∙ c.in-Some.is) (sym (c.bridge_of.ensures c.args.regions.now s opened.domain) ∙ c.in-Some-bridge_of.is) in
    subst (λ q. LetsLoose s (close_result s c.args.kept q) c.args.work.now.names c.close_region.new.work.names) is (c.close_region.ensures.loose s opened (subst (HoldsBridge s c.args.kept) (sym is) held))
