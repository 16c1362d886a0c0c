-- Pools that get one more unit.
use Rattle.std.proofs.Common.{◌≡◌, ◌≢◌, ℕ, Bool, true, false, cond, ◌++◌, ◌≤◌, List, [], option_map, Option, Some, None, refl, ap, sym, ◌∙◌, subst, arith}
use Rattle.std.specs.Prelude.{eqb}
use Rattle.std.proofs.lemmas.Bool.Decides.{Decides-eqb}
use Rattle.lf_base.specs.declared.ids.ObjId.{ObjId}
use Rattle.lf_base.specs.declared.values.Owner.{Owner}
use Rattle.lf_base.specs.Names.{same_owner}
use Rattle.lf_graph.specs.StoredRows.{CountedRow, SameByOwner, rows_of}
use Rattle.lf_graph.proofs.Stores.Reordered.{rows_append, same_owner_is, same_owner_itself}
use Rattle.std.proofs.lemmas.List.{append-nil}
use Rattle.lf_poolstore.specs.declared.place.Place.{Place}
use Rattle.lf_poolstore.specs.Pools.{AddsUnit, ArePools, Numbers, SamePools, UnitsAt, place_of, rows_by, spare_by, unit_by, unit_of}
use Rattle.lf_poolstore.specs.Units.{IsWhole, StandsAt, UnitView}
use Rattle.lf_poolstore.proofs.PoolRows.{some_same, unit_there}

-- the same index, numbers and units
module _ (index led : ObjId → Option Place) (numbers next : Numbers) (at now : UnitsAt) (same : SamePools numbers next at now) where
  units_same : (w : Owner) → unit_of next now w ≡ unit_of numbers at w
  units_same w = ap (unit_by now) (same.number w) ∙ go (numbers w) where
    go : (t : Option ℕ) → unit_by now t ≡ unit_by at t
    go None = refl
    go (Some m) = same.unit m

  pub same_kept : ArePools index numbers at → ((o : ObjId) → led o ≡ index o) → ArePools led next now
  same_kept is leads =
      record {
        whole = λ m t e. is.whole m t (sym (same.unit m) ∙ e);
        owned = λ m t e. same.number t.owner ∙ is.owned m t (sym (same.unit m) ∙ e);
        there = λ w. ap (option_map (λ (u : UnitView). u.owner)) (units_same w) ∙ is.there w ∙ ap (option_map (λ _. w)) (sym (same.number w));
        indexed = λ m t o x e s. leads o ∙ is.indexed m t o x (sym (same.unit m) ∙ e) s;
      }

  pub same_rows : (rows after : List CountedRow) → ((w : Owner) → rows_of w rows ≡ rows_by (unit_of numbers at w)) → ((w : Owner) → rows_of w after ≡ rows_by (unit_of next now w)) → SameByOwner after rows
  same_rows rows after shown shown_now w = shown_now w ∙ ap rows_by (units_same w) ∙ sym (shown w)

  pub same_room : (names left : ℕ) → names ≤ left → (w : Owner) → spare_by names (unit_of numbers at w) ≤ spare_by left (unit_of next now w)
  same_room names left l w = subst (λ t. spare_by names (unit_of numbers at w) ≤ spare_by left t) (sym (units_same w)) (go (unit_of numbers at w)) where
    go : (t : Option UnitView) → spare_by names t ≤ spare_by left t
    go None = omega arith
    go (Some u) = omega (arith, l)

module _ (index : ObjId → Option Place) (numbers next : Numbers) (at now : UnitsAt) (is : ArePools index numbers at) (n : ℕ) (v : UnitView) (adds : AddsUnit numbers next at now n v) (free : numbers v.owner ≡ None) (whole : IsWhole v) where
  -- a unit now is the new one, or one of before
  data Now (m : ℕ) (t : UnitView) : Type 0 where
    this : n ≡ m → t ≡ v → Now m t
    that : eqb n m ≡ false → at m ≡ Some t → Now m t

  differs : (m : ℕ) → eqb n m ≡ false → m ≢ n
  differs m d e = let t : eqb n m ≡ true = (Decides-eqb n m).1 (sym e) in cc (t, d)

  now_at : (m : ℕ) (t : UnitView) → now m ≡ Some t → Now m t
  now_at m t e = go (eqb n m) refl where
    go : (b : Bool) → eqb n m ≡ b → Now m t
    go true k = let s = (Decides-eqb n m).0 k in this s (some_same t v (sym e ∙ ap now (sym s) ∙ adds.here))
    go false k = that k (sym (adds.others m (differs m k)) ∙ e)

  -- what an owner's unit is now: the new one, or that of before
  unit_now : (w : Owner) (b : Bool) → same_owner v.owner w ≡ b → unit_of next now w ≡ cond b (Some v) (unit_of numbers at w)
  unit_now w true k = ap (unit_by now) (adds.number w ∙ ap (λ b. cond b (Some n) (numbers w)) k) ∙ adds.here
  unit_now w false k = ap (unit_by now) (adds.number w ∙ ap (λ b. cond b (Some n) (numbers w)) k) ∙ go (numbers w) refl where
    go : (t : Option ℕ) → numbers w ≡ t → unit_by now t ≡ unit_by at t
    go None e = refl
    go (Some m) e = let t = unit_there index numbers at is w m e in adds.others m (λ s. let g = sym t.1 ∙ ap at s ∙ adds.vacant in absurd (cc g))

  no_other : (w : Owner) → same_owner v.owner w ≡ true → numbers w ≡ None
  no_other w k = ap numbers (sym (same_owner_is v.owner w k)) ∙ free

  pub added_kept : (led : ObjId → Option Place) → ((r : ObjId) (x : ℕ) → StandsAt v x r → led r ≡ Some (place_of n x)) → ((m : ℕ) (t : UnitView) (r : ObjId) (x : ℕ) → at m ≡ Some t → StandsAt t x r → led r ≡ Some (place_of m x)) → ArePools led next now
  added_kept led this_led that_led =
      record {
        whole = λ m t e. whole_now m t (now_at m t e);
        owned = λ m t e. owned_now m t (now_at m t e);
        there = λ w. there_now w (same_owner v.owner w) refl;
        indexed = λ m t r x e s. indexed_now m t r x s (now_at m t e);
      }
    where
      whole_now : (m : ℕ) (t : UnitView) → Now m t → IsWhole t
      whole_now m t (this k e) = subst IsWhole (sym e) whole
      whole_now m t (that d e) = is.whole m t e

      owned_now : (m : ℕ) (t : UnitView) → Now m t → next t.owner ≡ Some m
      owned_now m t (this k e) =
          ap (λ (y : UnitView). next y.owner) e ∙ adds.number v.owner ∙ ap (λ b. cond b (Some n) (numbers v.owner)) (same_owner_itself v.owner) ∙ ap Some k
      owned_now m t (that d e) = adds.number t.owner ∙ (elim (same_owner v.owner t.owner) as (λ b. same_owner v.owner t.owner ≡ b → cond b (Some n) (numbers t.owner) ≡ Some m) [
        | true ↦ λ k. let none = no_other t.owner k in let some = is.owned m t e in absurd (cc (none, some))
        | false ↦ λ _. is.owned m t e
      ] refl)

      there_now : (w : Owner) (b : Bool) → same_owner v.owner w ≡ b → option_map (λ (u : UnitView). u.owner) (unit_of next now w) ≡ option_map (λ _. w) (next w)
      there_now w true k =
          ap (option_map (λ (u : UnitView). u.owner)) (unit_now w true k) ∙ ap Some (same_owner_is v.owner w k)
          ∙ sym (ap (option_map (λ _. w)) (adds.number w ∙ ap (λ b. cond b (Some n) (numbers w)) k))
      there_now w false k =
          ap (option_map (λ (u : UnitView). u.owner)) (unit_now w false k) ∙ is.there w ∙ sym (ap (option_map (λ _. w)) (adds.number w ∙ ap (λ b. cond b (Some n) (numbers w)) k))

      indexed_now : (m : ℕ) (t : UnitView) (r : ObjId) (x : ℕ) → StandsAt t x r → Now m t → led r ≡ Some (place_of m x)
      indexed_now m t r x s (this k e) = this_led r x (subst (λ y. StandsAt y x r) e s) ∙ ap (λ j. Some (place_of j x)) k
      indexed_now m t r x s (that d e) = that_led m t r x e s

  pub added_rows : (rows after : List CountedRow) → ((w : Owner) → rows_of w rows ≡ rows_by (unit_of numbers at w)) → ((w : Owner) → rows_of w after ≡ rows_by (unit_of next now w)) → SameByOwner after (rows ++ v.rows)
  added_rows rows after shown shown_now w = shown_now w ∙ go (same_owner v.owner w) refl ∙ sym (rows_append w rows v.rows) where
    go : (b : Bool) → same_owner v.owner w ≡ b → rows_by (unit_of next now w) ≡ rows_of w rows ++ rows_of w v.rows
    go true k =
        ap rows_by (unit_now w true k)
        ∙ sym (λ i. (shown w ∙ ap (λ t. rows_by (unit_by at t)) (no_other w k)) i ++ (whole.under w ∙ ap (λ b. cond b v.rows []) k) i)
    go false k = ap rows_by (unit_now w false k) ∙ sym (append-nil (rows_by (unit_of numbers at w))) ∙ sym (λ i. shown w i ++ (whole.under w ∙ ap (λ b. cond b v.rows []) k) i)

  pub added_room : (names : ℕ) (w : Owner) → spare_by names (unit_of numbers at w) ≤ spare_by names (unit_of next now w)
  added_room names w = go (same_owner v.owner w) refl where
    go : (b : Bool) → same_owner v.owner w ≡ b → spare_by names (unit_of numbers at w) ≤ spare_by names (unit_of next now w)
    go true k = let z = ap (λ t. spare_by names (unit_by at t)) (no_other w k) in omega (arith, z)
    go false k = let z = ap (spare_by names) (unit_now w false k) in omega (arith, z)
