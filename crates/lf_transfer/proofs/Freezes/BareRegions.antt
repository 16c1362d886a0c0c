-- The regions that a freeze leaves bare: those of the plan, and those that were bare before, whose suspects stay.
use Rattle.std.proofs.Common.{List, Some, ap, eqb, false, filter, not, refl, sym, true, ◌&&◌, ◌∙◌, ◌≡◌, ℕ}
use Rattle.std.proofs.lemmas.Bool.{and_from}
use Rattle.lf_base.specs.declared.ids.ObjId.{ObjId}
use Rattle.lf_base.specs.declared.values.Owner.TheVariants.{In}
use Rattle.lf_base.specs.declared.values.Value.{Value}
use Rattle.lf_base.specs.Edges.{Edge, edges}
use Rattle.lf_base.specs.FreezeResult.{freeze_result, freeze_set}
use Rattle.lf_base.specs.Names.{same_name}
use Rattle.lf_base.specs.Noticing.{Noticed}
use Rattle.lf_base.specs.Owners.{has_name, has_row, is_bridge, is_in, owner_in}
use Rattle.lf_base.specs.Ownership.{is_owned, is_owning, owning_edges}
use Rattle.lf_base.specs.PlainState.{State}
use Rattle.lf_base.specs.Sets.{Member}
use Rattle.lf_base.specs.Settling.{WatchedBy, Watches}
use Rattle.lf_base.specs.Suspects.{Bare, Object, Region, Suspect}
use Rattle.lf_base.specs.WalkCounts.{borrowed}
use Rattle.lf_base.specs.WellFormed.{WellFormed}
use Rattle.lf_base.proofs.ListLemmas.Filters.{Member_filter}
use Rattle.lf_base.proofs.ListLemmas.Tests.{by_test, count_none, any_none}
use Rattle.lf_base.proofs.NameLemmas.SameNames.{same_name_itself}
use Rattle.lf_frozen.specs.declared.row.FrozenRow.{FrozenRow}
use Rattle.lf_laws.proofs.Changes.Freezing.{freeze_keeps}
use Rattle.lf_laws.proofs.Dropping.CountsJustifyDropping.{into_zero, owned_zero, zero_into, zero_owned}
use Rattle.lf_laws.proofs.Dropping.RowsInPlace.{rows_in_place}
use Rattle.lf_laws.proofs.Dropping.RowsWithout.{owner_stay}
use Rattle.lf_laws.proofs.Edges.FrozenCounts.{owning_freeze}
use Rattle.lf_laws.proofs.Losses.FreezeNoticed.{freeze_noticed}
use Rattle.lf_laws.proofs.Rows.RowsByName.{has_name_Member, owner_has}
use Rattle.lf_transfer.specs.Freezing.{Freezing, IsFreezeOf, is_bare_region}
use Rattle.lf_transfer.proofs.Freezes.FrozenCounts.{not_in, same_borrows}
use Rattle.lf_transfer.proofs.Freezes.LostRegions.{bridge_was}

no_number : (n : ℕ) → n ≡ 0 → eqb n 0 ≡ true
no_number n e = ap (λ m. eqb m 0) e

module _ (s : State) (well : WellFormed s) (before : List FrozenRow) (v : Value) (plan : Freezing) (p : IsFreezeOf s before v plan) (old new : List Suspect) (noticed : Noticed s old)
    (stay : (u : Suspect) → Member u old → Member u new) (named : (r : ObjId) → Member r (filter (is_bare_region (freeze_result s v)) plan.regions) → Member (Region r) new) where
  abbrev t : State
  t = freeze_result s v

  module _ (r : ObjId) (owner : owner_in (t).rows r ≡ Some (In r)) (bare : Bare t r) where
    bridge : is_bridge (t).rows r ≡ true
    bridge = ap (is_in r) owner ∙ same_name_itself r

    none_borrow : borrowed t r ≡ 0
    none_borrow = into_zero t (rows_in_place t (freeze_keeps s v well)) r bare.unborrowed

    none_own : owning_edges t r ≡ 0
    none_own = owned_zero t (rows_in_place t (freeze_keeps s v well)) r bare.unowned

    not_owned : is_owned t r ≡ false
    not_owned = any_none (λ (e : Edge). is_owning (t).rows e.from r && same_name e.to r) (edges t) (λ e m. count_none (λ (e : Edge). is_owning (t).rows e.from r && same_name e.to r) (edges t) none_own e m)

    is_bare : is_bare_region t r ≡ true
    is_bare = and_from _ _ bridge (and_from _ _ (ap not not_owned) (no_number (borrowed t r) none_borrow))

    in_plan : has_name plan.regions r ≡ true → WatchedBy t new r
    in_plan h = (Region r, (named r (Member_filter (is_bare_region t) r plan.regions (has_name_Member r plan.regions h) is_bare), refl))

    module _ (out : has_name plan.regions r ≡ false) where
      was : (has_row (freeze_set s v) r ≡ false) × (is_bridge s.rows r ≡ true)
      was = bridge_was s well v r bridge

      owner_was : owner_in s.rows r ≡ Some (In r)
      owner_was = sym (owner_stay s.rows (λ o. has_row (freeze_set s v) o) r (was).0) ∙ owner

      bare_was : Bare s r
      bare_was = record {
        unowned = zero_owned s (rows_in_place s well) r (sym (owning_freeze s v well r (owner_has s.rows r (In r) owner_was) (was).0) ∙ none_own);
        unborrowed = zero_into s (rows_in_place s well) r (sym (same_borrows s well before v plan p r out) ∙ none_borrow);
      }

      still : (u : Suspect) → Watches s r u → Watches t r u
      still (Region q) w = w
      still (Object o) w = owner_stay s.rows (λ o. has_row (freeze_set s v) o) o (not_in s well before v plan p r out o (ap (is_in r) w ∙ same_name_itself r)) ∙ w

      watched : WatchedBy t new r
      watched = let u = noticed.regions r owner_was bare_was in (u.0, (stay u.0 u.1.0, still u.0 u.1.1))

  watches : (r : ObjId) → owner_in (t).rows r ≡ Some (In r) → Bare t r → WatchedBy t new r
  watches r owner bare = by_test (has_name plan.regions r) (in_plan r owner bare) (watched r owner bare)

  pub bare_noticed : Noticed t new
  bare_noticed = freeze_noticed s v well old new noticed stay watches
