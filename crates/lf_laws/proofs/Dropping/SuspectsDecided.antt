-- Each suspect has a justification, or goes with rows that can go.
use Rattle.std.proofs.Common.{Bool, None, Option, Some, ap, false, inl, inr, refl, subst, sym, true, ◌∙◌, ◌≡◌, ◌⊎◌}
use Rattle.lf_base.specs.declared.ids.ObjId.{ObjId}
use Rattle.lf_base.specs.declared.values.Owner.{Owner}
use Rattle.lf_base.specs.declared.values.Owner.TheVariants.{Frozen, In, Local}
use Rattle.lf_base.specs.Kept.{is_owned_by, points, points_into}
use Rattle.lf_base.specs.Names.{same_name}
use Rattle.lf_base.specs.Owners.{is_in, owner_in}
use Rattle.lf_base.specs.PlainState.{State}
use Rattle.lf_base.specs.Settling.{CanGo, Idle, Spent}
use Rattle.lf_base.specs.Suspects.{Bare, Object, Region, Suspect}
use Rattle.lf_laws.proofs.Rows.OwnerTests.{in_region, in_is}
use Rattle.lf_laws.proofs.Dropping.CountsJustifyDropping.{inner_goes, into_zero, local_goes, owned_zero, points_zero, region_goes}
use Rattle.std.proofs.lemmas.Bool.{both_ways}
use Rattle.lf_laws.proofs.Rows.RowsByName.{owner_is}
use Rattle.lf_base.proofs.NameLemmas.SameNames.{same_name_itself}
use Rattle.lf_laws.proofs.Dropping.RowsInPlace.{RowsInPlace}
use Rattle.lf_base.specs.Losses.{of_region}

pub data Decision (s : State) (u : Suspect) : Type 0 where
  idle : Idle s u → Decision s u
  goes : (gone : ObjId → Bool) → CanGo s gone → Spent gone u → Decision s u

some_not : {X : Type 0} (v : X) → None ≡ Some v → ⊥
some_not v e = cc

local_in : (r : ObjId) → Some Local ≡ Some (In r) → ⊥
local_in r e = cc

frozen_in : (r : ObjId) → Some Frozen ≡ Some (In r) → ⊥
frozen_in r e = cc

frozen_local : Some Frozen ≡ Some Local → ⊥
frozen_local e = cc

module _ (s : State) (g : RowsInPlace s) where
  bare_or : (r : ObjId) (b d : Bool) → is_owned_by s.rows s r ≡ b → points_into s.rows s r ≡ d → (Bare s r) ⊎ (Bare s r → ⊥)
  bare_or r true d e h = inr (λ k. both_ways _ k.unowned e)
  bare_or r false true e h = inr (λ k. both_ways _ k.unborrowed h)
  bare_or r false false e h = inl (record { unowned = e; unborrowed = h })

  bare_test : (r : ObjId) → (Bare s r) ⊎ (Bare s r → ⊥)
  bare_test r = bare_or r (is_owned_by s.rows s r) (points_into s.rows s r) refl refl

  region_in : (r : ObjId) → owner_in s.rows r ≡ Some (In r) → Bare s r → CanGo s (of_region s r)
  region_in r h b = region_goes s g r h (into_zero s g r b.unborrowed) (owned_zero s g r b.unowned)

  local_choice : (o : ObjId) → owner_in s.rows o ≡ Some Local → (b : Bool) → points s.rows s o ≡ b → Decision s (Object o)
  local_choice o h true n = idle ((λ k. n), (λ r k. absurd (local_in r (sym h ∙ k))))
  local_choice o h false n = goes (same_name o) (local_goes s g o h (points_zero s g o Local h tt n)) (same_name_itself o)

  in_same : (o r q : ObjId) → owner_in s.rows o ≡ Some (In r) → owner_in s.rows o ≡ Some (In q) → r ≡ q
  in_same o r q h k = in_is r q (owner_is s.rows o (In r) (In q) h k)

  inner_choice : (o r : ObjId) → owner_in s.rows o ≡ Some (In r) → (Bare s r → ⊥) → (b c : Bool) → same_name r o ≡ b → points s.rows s o ≡ c → Decision s (Object o)
  inner_choice o r h n true c d p = idle ((λ k. absurd (local_in r (sym k ∙ h))), (λ q k. ((λ b. n (subst (Bare s) (sym (in_same o r q h k)) b)), (λ z. absurd (both_ways _ z (ap (λ m. same_name m o) (sym (in_same o r q h k)) ∙ d))))))
  inner_choice o r h n false true d p = idle ((λ k. p), (λ q k. ((λ b. n (subst (Bare s) (sym (in_same o r q h k)) b)), (λ z. p))))
  inner_choice o r h n false false d p = goes (same_name o) (inner_goes s g o r h d n (points_zero s g o (In r) h d p)) (same_name_itself o)

  object_choice : (o : ObjId) (w : Option Owner) → owner_in s.rows o ≡ w → Decision s (Object o)
  object_choice o None h = idle ((λ k. absurd (some_not Local (sym h ∙ k))), (λ r k. absurd (some_not (In r) (sym h ∙ k))))
  object_choice o (Some Frozen) h = idle ((λ k. absurd (frozen_local (sym h ∙ k))), (λ r k. absurd (frozen_in r (sym h ∙ k))))
  object_choice o (Some Local) h = local_choice o h (points s.rows s o) refl
  object_choice o (Some (In r)) h = elim (bare_test r) [
    | inl b ↦ goes (of_region s r) (region_in r (g.bridge o r h) b) (ap (is_in r) h ∙ same_name_itself r)
    | inr n ↦ inner_choice o r h n (same_name r o) (points s.rows s o) refl refl
  ]

  region_choice : (r : ObjId) (b : Bool) → is_in r (owner_in s.rows r) ≡ b → Decision s (Region r)
  region_choice r false h = idle (λ k b. both_ways _ h (ap (is_in r) k ∙ same_name_itself r))
  region_choice r true h = elim (bare_test r) [
    | inl b ↦ goes (of_region s r) (region_in r (in_region r (owner_in s.rows r) h) b) h
    | inr n ↦ idle (λ k b. n b)
  ]

  pub decision : (u : Suspect) → Decision s u
  decision (Object o) = object_choice o (owner_in s.rows o) refl
  decision (Region r) = region_choice r (is_in r (owner_in s.rows r)) refl
