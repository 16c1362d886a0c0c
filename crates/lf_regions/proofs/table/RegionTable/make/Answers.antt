use Rattle.std.proofs.Common.{◌∙◌, Some, ap, arith, cond, is_some, subst, sym, ℕ}
use Rattle.slab.specs.Slab.{Slab, Updates, slab_len}
use Rattle.lf_base.specs.Names.{same_name}
use Rattle.lf_regions.specs.declared.region.Region.{Region}
use Rattle.lf_regions.specs.RegionChanges.{new_region}
use Rattle.lf_regions.proofs.KeptRegions.{absent_no_key, kept_order, made_by_calls, made_by_calls_keeps, same_slots_keep}
use Rattle.lf_regions.proofs.Places.{place_entered}
use Rattle.lf_regions.proofs.table.RegionTable.make.Goals as goal

pub returns-in_err-reserve-clause-rising : goal.returns-in_err-reserve-clause-rising
returns-in_err-reserve-clause-rising c =
    kept_order _ _ (same_slots_keep c.self.inside.regions c.reserve.new.self c.self.inside.index.entries c.self.invariant.kept (ap (λ (slab : Slab Region). slab.slots) c.reserve.ensures.rest_kept))

pub returns-in_err-reserve-2-clause-rising : goal.returns-in_err-reserve-2-clause-rising
returns-in_err-reserve-2-clause-rising c =
    kept_order _ _ (same_slots_keep c.self.inside.regions c.reserve.new.self c.self.inside.index.entries c.self.invariant.kept (ap (λ (slab : Slab Region). slab.slots) c.reserve.ensures.rest_kept))

pub returns-in_err-insert-clause-rising : goal.returns-in_err-insert-clause-rising
returns-in_err-insert-clause-rising c =
    rw c.in_err-insert.ensures.err (
    kept_order _ _ (same_slots_keep c.self.inside.regions c.reserve.new.self c.self.inside.index.entries c.self.invariant.kept (ap (λ (slab : Slab Region). slab.slots) c.reserve.ensures.rest_kept)))

pub invariant_of-self-2 : goal.invariant_of-self-2
invariant_of-self-2 c =
    place_entered c.self.inside.regions c.self.inside.places c.self.inside.index.entries c.self.invariant c.insert_reserved.new.self c.enter.new.places c.args.r c.vacant_key-key.result c.insert.new.self.entries c.in_ok-insert.ensures.entries (
    made_by_calls_keeps c.self.inside.regions c.reserve.new.self c.insert_reserved.new.self c.self.inside.index.entries c.insert.new.self.entries c.self.invariant.kept c.args.self.now c.self.view_is c.args.r c.vacant_key-key.result c.requires (ap (λ (slab : Slab Region). slab.slots) c.reserve.ensures.rest_kept) c.vacant_key-key.ensures.vacant c.in_ok-insert.ensures.entries (subst (λ key. Updates c.reserve.new.self c.insert_reserved.new.self key (Some (new_region c.args.r))) (c.insert_reserved.ensures.key ∙ sym c.vacant_key-key.ensures.value) c.insert_reserved.ensures.updates)
    (omega (
      arith,
      c.insert_reserved.ensures.len,
      c.in_ok-insert.ensures.len,
      ap (λ (slab : Slab Region). slab_len slab) c.reserve.ensures.rest_kept,
      c.self.invariant.kept.count,
      ap {B = ℕ} (λ b. cond b 0 1) (ap is_some c.in_ok-insert.ensures.old ∙ absent_no_key c.self.inside.regions c.self.inside.index.entries c.self.invariant.kept c.args.self.now c.self.view_is c.args.r c.requires),
    )))
    (λ q. c.enter.ensures q ∙ ap (cond (same_name c.args.r q) (Some c.vacant_key-key.result)) (c.reserve-2.ensures.places q))

pub returns-clause-made : goal.returns-clause-made
returns-clause-made c =
    made_by_calls c.self.inside.regions c.reserve.new.self c.insert_reserved.new.self c.self.inside.index.entries c.insert.new.self.entries c.self.invariant.kept c.args.self.now c.self.view_is c.args.r c.vacant_key-key.result c.requires (ap (λ (slab : Slab Region). slab.slots) c.reserve.ensures.rest_kept) c.vacant_key-key.ensures.vacant c.in_ok-insert.ensures.entries (subst (λ key. Updates c.reserve.new.self c.insert_reserved.new.self key (Some (new_region c.args.r))) (c.insert_reserved.ensures.key ∙ sym c.vacant_key-key.ensures.value) c.insert_reserved.ensures.updates)

pub returns-clause-rising : goal.returns-clause-rising
returns-clause-rising c = kept_order _ _ ((invariant_of-self-2 c).kept)
