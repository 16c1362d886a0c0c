-- Pools after a change of one unit.
use Rattle.std.proofs.Common.{◌≢◌, ◌≡◌, ℕ, Bool, true, false, cond, not, min, ◌+◌, ◌<◌, ◌≤◌, is_some, List, [], ◌∷◌, ◌++◌, length, slice_index_or, slice_set, option_map, Option, Some, None, refl, ap, sym, ◌∙◌, subst, zero, suc, arith}
use Rattle.std.specs.Prelude.{eqb}
use Rattle.std.proofs.lemmas.Bool.Decides.{Decides-eqb}
use Rattle.std.proofs.lemmas.List.{get_or-set_other, get_or-set_same}
use Rattle.lf_base.specs.declared.ids.ObjId.{ObjId}
use Rattle.lf_base.specs.declared.values.Owner.{Owner}
use Rattle.lf_graph.specs.RowChanges.{changed, without_row}
use Rattle.lf_graph.specs.StoredRows.{CountedRow, IsNewName, SameByOwner, is_named, is_under, row_named, rows_of}
use Rattle.lf_graph.proofs.ListLemmas.{filter_turns}
use Rattle.lf_graph.proofs.Stores.Changes.{KeepsOwner, at_keeps_owner, rows_of_map}
use Rattle.lf_poolstore.specs.declared.place.Place.{Place}
use Rattle.lf_poolstore.specs.Pools.{ArePools, Numbers, UnitsAt, place_of, rows_by, spare_by, unit_by, unit_of}
use Rattle.lf_poolstore.specs.Units.{IsWhole, StandsAt, UnitView, place_in}
use Rattle.lf_base.specs.Names.{same_name, same_owner}
use Rattle.lf_base.proofs.NameLemmas.SameNames.{same_name_is}
use Rattle.lf_graph.proofs.Stores.Reordered.{rows_append, same_owner_is, same_owner_itself}
use Rattle.std.proofs.lemmas.List.{append-nil}
use Rattle.lf_poolstore.proofs.PoolRows.{Slots, found_there, some_same, unit_there}

-- ---- changes of rows that go owner by owner
-- what is done to rows is done to those of each owner, and nothing where the name has no row
pub record Turning (f : List CountedRow → List CountedRow) (o : ObjId) : Type 0 where
  pub turns : (w : Owner) (rows : List CountedRow) → rows_of w (f rows) ≡ f (rows_of w rows)
  pub away : (rows : List CountedRow) → row_named rows o ≡ None → f rows ≡ rows

not_named : (o : ObjId) (c : CountedRow) (cs : List CountedRow) → row_named (c ∷ cs) o ≡ None → (is_named o c ≡ false) × (row_named cs o ≡ None)
not_named o c cs e = elim (is_named o c) as (λ b. cond b (Some c) (row_named cs o) ≡ None → (b ≡ false) × (row_named cs o ≡ None)) [
  | true ↦ λ k. absurd (cc k)
  | false ↦ λ k. (refl, k)
] e

pub changed_turns : (o : ObjId) (g : CountedRow → CountedRow) → KeepsOwner g → Turning (λ rows. changed rows o g) o
changed_turns o g keeps = record { turns = λ w rows. rows_of_map w (λ c. cond (is_named o c) (g c) c) (at_keeps_owner o g keeps) rows; away = stays } where
  stays : (rows : List CountedRow) → row_named rows o ≡ None → changed rows o g ≡ rows
  stays [] e = refl
  stays (c ∷ cs) e = let n = not_named o c cs e in λ i. ap (λ b. cond b (g c) c) n.0 i ∷ stays cs n.1 i

pub without_turns : (o : ObjId) → Turning (λ rows. without_row rows o) o
without_turns o = record { turns = λ w rows. filter_turns (is_under w) (λ c. not (is_named o c)) rows; away = stays } where
  stays : (rows : List CountedRow) → row_named rows o ≡ None → without_row rows o ≡ rows
  stays [] e = refl
  stays (c ∷ cs) e = let n = not_named o c cs e in ap (λ b. cond (not b) (c ∷ without_row cs o) (without_row cs o)) n.0 ∙ ap (λ t. c ∷ t) (stays cs n.1)

-- ---- a unit in the place of another one
in_range : (ss : Slots) (n : ℕ) (u : UnitView) → slice_index_or ss n None ≡ Some u → n < length ss
in_range [] n u e = cc
in_range (s ∷ ss) zero u e = omega arith
in_range (s ∷ ss) (suc n) u e = let l = in_range ss n u e in omega (arith, l)

pub slot_set : (ss : Slots) (n : ℕ) (u v : UnitView) → slice_index_or ss n None ≡ Some u → (m : ℕ) → slice_index_or (slice_set ss n (Some v)) m None ≡ cond (eqb n m) (Some v) (slice_index_or ss m None)
slot_set ss n u v e m = elim (eqb n m) as (λ b. eqb n m ≡ b → slice_index_or (slice_set ss n (Some v)) m None ≡ cond b (Some v) (slice_index_or ss m None)) [
  | true ↦ λ t. ap (λ k. slice_index_or (slice_set ss n (Some v)) k None) (sym ((Decides-eqb n m).0 t)) ∙ get_or-set_same ss n (Some v) None (in_range ss n u e)
  | false ↦ λ f. get_or-set_other ss n m (Some v) None (λ k. let t : eqb n m ≡ true = (Decides-eqb n m).1 (sym k) in cc (t, f))
] refl

-- a row that stands in a unit stands in no other
pub stands_alone : (index : ObjId → Option Place) (numbers : Numbers) (at : UnitsAt) → ArePools index numbers at → (n : ℕ) (u : UnitView) (o : ObjId) (x : ℕ) → at n ≡ Some u → StandsAt u x o
    → (m : ℕ) (t : UnitView) → eqb n m ≡ false → at m ≡ Some t → row_named t.rows o ≡ None
stands_alone index numbers at is n u o x here stands m t d e = go (row_named t.rows o) refl (place_in t o) refl where
  number_in : ℕ → Option Place → ℕ
  number_in j None = j
  number_in j (Some q) = q.unit

  go : (r : Option CountedRow) → row_named t.rows o ≡ r → (y : Option ℕ) → place_in t o ≡ y → r ≡ None
  go None g y k = refl
  go (Some c) g None k = let h = sym (ap is_some g) ∙ (is.whole m t e).placed o ∙ ap is_some k in absurd (cc h)
  go (Some c) g (Some y) k =
      let p = sym (is.indexed n u o x here stands) ∙ is.indexed m t o y e k in
      let same : eqb n m ≡ true = (Decides-eqb n m).1 (ap (number_in n) p) in
      absurd (cc (same, d))

module _ (index : ObjId → Option Place) (numbers : Numbers) (at now : UnitsAt) (is : ArePools index numbers at) (n : ℕ) (u v : UnitView) (here : at n ≡ Some u) (change : (m : ℕ) → now m ≡ cond (eqb n m) (Some v) (at m))
    (owner : v.owner ≡ u.owner) (whole : IsWhole v) where
  -- a unit now is the new one, or one of before
  data Now (m : ℕ) (t : UnitView) : Type 0 where
    this : n ≡ m → t ≡ v → Now m t
    that : eqb n m ≡ false → at m ≡ Some t → Now m t

  now_at : (m : ℕ) (t : UnitView) → now m ≡ Some t → Now m t
  now_at m t e = go (eqb n m) refl (sym (change m) ∙ e) where
    go : (b : Bool) → eqb n m ≡ b → cond b (Some v) (at m) ≡ Some t → Now m t
    go true k g = this ((Decides-eqb n m).0 k) (sym (some_same v t g))
    go false k g = that k g

  owners_stay : (t : Option ℕ) → option_map (λ (x : UnitView). x.owner) (unit_by now t) ≡ option_map (λ (x : UnitView). x.owner) (unit_by at t)
  owners_stay None = refl
  owners_stay (Some m) = ap (option_map (λ (x : UnitView). x.owner)) (change m) ∙ go (eqb n m) refl where
    go : (b : Bool) → eqb n m ≡ b → option_map (λ (x : UnitView). x.owner) (cond b (Some v) (at m)) ≡ option_map (λ (x : UnitView). x.owner) (at m)
    go false k = refl
    go true k = ap Some owner ∙ ap (option_map (λ (x : UnitView). x.owner)) (sym here ∙ ap at ((Decides-eqb n m).0 k))

  -- where the index leads to the rows of this unit and of all others
  pub kept_by : (led : ObjId → Option Place) → ((r : ObjId) (x : ℕ) → StandsAt v x r → led r ≡ Some (place_of n x)) → ((m : ℕ) (t : UnitView) (r : ObjId) (x : ℕ) → eqb n m ≡ false → at m ≡ Some t → StandsAt t x r → led r ≡ Some (place_of m x))
      → ArePools led numbers now
  kept_by led this_led that_led = record {
    whole = λ m t e. whole_now m t (now_at m t e);
    owned = λ m t e. owned_now m t (now_at m t e);
    there = λ w. owners_stay (numbers w) ∙ is.there w;
    indexed = λ m t r x e s. indexed_now m t r x s (now_at m t e);
  } where
    whole_now : (m : ℕ) (t : UnitView) → Now m t → IsWhole t
    whole_now m t (this k e) = subst IsWhole (sym e) whole
    whole_now m t (that d e) = is.whole m t e

    owned_now : (m : ℕ) (t : UnitView) → Now m t → numbers t.owner ≡ Some m
    owned_now m t (this k e) = ap (λ (y : UnitView). numbers y.owner) e ∙ ap numbers owner ∙ is.owned n u here ∙ ap Some k
    owned_now m t (that d e) = is.owned m t e

    indexed_now : (m : ℕ) (t : UnitView) (r : ObjId) (x : ℕ) → StandsAt t x r → Now m t → led r ≡ Some (place_of m x)
    indexed_now m t r x s (this k e) = this_led r x (subst (λ y. StandsAt y x r) e s) ∙ ap (λ j. Some (place_of j x)) k
    indexed_now m t r x s (that d e) = that_led m t r x d e s

  pub changed_kept : ((r : ObjId) (x : ℕ) → StandsAt v x r → StandsAt u x r) → ArePools index numbers now
  changed_kept fewer = kept_by index (λ r x s. is.indexed n u r x here (fewer r x s)) (λ m t r x d e s. is.indexed m t r x e s)

  -- the rows of each owner are changed as those of the unit are
  module _ (o : ObjId) (x : ℕ) (stands : StandsAt u x o) (f : List CountedRow → List CountedRow) (turning : Turning f o) (rows_are : v.rows ≡ f u.rows) where
    elsewhere : (m : ℕ) (t : UnitView) → eqb n m ≡ false → at m ≡ Some t → row_named t.rows o ≡ None
    elsewhere m t d e = stands_alone index numbers at is n u o x here stands m t d e

    rows_stay : (t : Option ℕ) → rows_by (unit_by now t) ≡ f (rows_by (unit_by at t))
    rows_stay None = sym (turning.away [] refl)
    rows_stay (Some m) = ap rows_by (change m) ∙ go (eqb n m) refl (at m) refl where
      go : (b : Bool) → eqb n m ≡ b → (t : Option UnitView) → at m ≡ t → rows_by (cond b (Some v) (at m)) ≡ f (rows_by (at m))
      go true k t e = rows_are ∙ ap (λ y. f (rows_by y)) (sym here ∙ ap at ((Decides-eqb n m).0 k))
      go false k None e = ap rows_by e ∙ sym (turning.away [] refl) ∙ sym (ap (λ y. f (rows_by y)) e)
      go false k (Some t) e = ap rows_by e ∙ sym (turning.away t.rows (elsewhere m t k e)) ∙ sym (ap (λ y. f (rows_by y)) e)

    pub turned_shown : (rows : List CountedRow) → ((w : Owner) → rows_of w rows ≡ rows_by (unit_of numbers at w)) → (w : Owner) → rows_of w (f rows) ≡ rows_by (unit_of numbers now w)
    turned_shown rows shown w = turning.turns w rows ∙ ap f (shown w) ∙ sym (rows_stay (numbers w))

    pub changed_rows : (rows new : List CountedRow) → ((w : Owner) → rows_of w rows ≡ rows_by (unit_of numbers at w)) → ((w : Owner) → rows_of w new ≡ rows_by (unit_of numbers now w)) → SameByOwner new (f rows)
    changed_rows rows new shown shown_now w = shown_now w ∙ rows_stay (numbers w) ∙ sym (turning.turns w rows ∙ ap f (shown w))

  -- the rows of each owner where those of the unit stay
  pub unit_stays : v.rows ≡ u.rows → (rows new : List CountedRow) → ((w : Owner) → rows_of w rows ≡ rows_by (unit_of numbers at w)) → ((w : Owner) → rows_of w new ≡ rows_by (unit_of numbers now w)) → SameByOwner new rows
  unit_stays same rows new shown shown_now w = shown_now w ∙ stay (numbers w) ∙ sym (shown w) where
    stay : (t : Option ℕ) → rows_by (unit_by now t) ≡ rows_by (unit_by at t)
    stay None = refl
    stay (Some m) = ap rows_by (change m) ∙ go (eqb n m) refl where
      go : (b : Bool) → eqb n m ≡ b → rows_by (cond b (Some v) (at m)) ≡ rows_by (at m)
      go false k = refl
      go true k = same ∙ ap rows_by (sym here ∙ ap at ((Decides-eqb n m).0 k))

  -- the room of each owner
  pub changed_room : (k names left : ℕ) → names ≤ left + k → u.spare ≤ v.spare + k → (w : Owner) → spare_by names (unit_of numbers at w) ≤ spare_by left (unit_of numbers now w) + k
  changed_room k names left l1 l w = go (numbers w) where
    more : min names u.spare ≤ min left v.spare + k
    more = omega (arith, l1, l)

    same : (t : Option UnitView) → spare_by names t ≤ spare_by left t + k
    same None = omega arith
    same (Some t) = omega (arith, l1)

    at_number : (m : ℕ) (b : Bool) → eqb n m ≡ b → spare_by names (at m) ≤ spare_by left (cond b (Some v) (at m)) + k
    at_number m true t = subst (λ y. spare_by names y ≤ min left v.spare + k) (sym here ∙ ap at ((Decides-eqb n m).0 t)) more
    at_number m false t = same (at m)

    go : (t : Option ℕ) → spare_by names (unit_by at t) ≤ spare_by left (unit_by now t) + k
    go None = omega arith
    go (Some m) = subst (λ y. spare_by names (at m) ≤ spare_by left y + k) (sym (change m)) (at_number m (eqb n m) refl)

-- ---- a row comes last in a unit, and the index is led to it
module _ (index led : ObjId → Option Place) (numbers : Numbers) (at now : UnitsAt) (is : ArePools index numbers at) (n : ℕ) (u v : UnitView) (here : at n ≡ Some u) (change : (m : ℕ) → now m ≡ cond (eqb n m) (Some v) (at m))
    (owner : v.owner ≡ u.owner) (whole : IsWhole v) (rows : List CountedRow) (shown : (w : Owner) → rows_of w rows ≡ rows_by (unit_of numbers at w)) (o : ObjId) (x : ℕ) (new : IsNewName rows o)
    (places : (q : ObjId) → place_in v q ≡ cond (same_name o q) (Some x) (place_in u q)) (led_is : (q : ObjId) → led q ≡ cond (same_name o q) (Some (place_of n x)) (index q)) where
  -- no unit has a row of that name
  nowhere : (m : ℕ) (t : UnitView) (y : ℕ) → at m ≡ Some t → StandsAt t y o → ⊥
  nowhere m t y e s =
      let found = found_there index numbers at is rows shown o m t y e s in
      let some = sym (ap is_some (sym found ∙ new)) ∙ (is.whole m t e).placed o ∙ ap is_some s in
      cc some

  led_other : (m : ℕ) (t : UnitView) (r : ObjId) (y : ℕ) → at m ≡ Some t → StandsAt t y r → led r ≡ Some (place_of m y)
  led_other m t r y e s = led_is r ∙ (elim (same_name o r) as (λ b. same_name o r ≡ b → cond b (Some (place_of n x)) (index r) ≡ Some (place_of m y)) [
    | true ↦ λ k. absurd (nowhere m t y e (subst (λ z. StandsAt t y z) (sym (same_name_is o r k)) s))
    | false ↦ λ _. is.indexed m t r y e s
  ] refl)

  led_this : (r : ObjId) (y : ℕ) → StandsAt v y r → led r ≡ Some (place_of n y)
  led_this r y s = led_is r ∙ (elim (same_name o r) as (λ b. cond b (Some x) (place_in u r) ≡ Some y → cond b (Some (place_of n x)) (index r) ≡ Some (place_of n y)) [
    | true ↦ λ k. ap (λ z. Some (place_of n z)) (some_same x y k)
    | false ↦ λ k. is.indexed n u r y here k
  ] (sym (places r) ∙ s))

  pub pushed_kept : ArePools led numbers now
  pushed_kept = kept_by index numbers at now is n u v here change owner whole led led_this (λ m t r y d e s. led_other m t r y e s)

  pub pushed_rows : (c : CountedRow) → v.rows ≡ u.rows ++ c ∷ [] → (c.row).owner ≡ u.owner → (after : List CountedRow) → ((w : Owner) → rows_of w after ≡ rows_by (unit_of numbers now w)) → SameByOwner after (rows ++ c ∷ [])
  pushed_rows c are under after shown_now w = shown_now w ∙ go (numbers w) refl ∙ sym (rows_append w rows (c ∷ []) ∙ ap (λ t. t ++ rows_of w (c ∷ [])) (shown w)) where
    -- the row is under w exactly where w has the unit's number
    go : (t : Option ℕ) → numbers w ≡ t → rows_by (unit_by now t) ≡ rows_by (unit_of numbers at w) ++ rows_of w (c ∷ [])
    go t e = sym (ap (λ k. rows_by (unit_by at k) ++ rows_of w (c ∷ [])) e ∙ one t e) where
      away : same_owner (c.row).owner w ≡ false → rows_of w (c ∷ []) ≡ []
      away f = ap (λ b. cond b (c ∷ []) []) f

      not_this : (s : Option ℕ) → numbers w ≡ s → s ≢ Some n → same_owner (c.row).owner w ≡ false
      not_this s e d = elim (same_owner (c.row).owner w) as (λ b. same_owner (c.row).owner w ≡ b → b ≡ false) [
        | true ↦ λ k. absurd (d (sym e ∙ ap numbers (sym (same_owner_is (c.row).owner w k) ∙ under) ∙ is.owned n u here))
        | false ↦ λ _. refl
      ] refl

      one : (s : Option ℕ) → numbers w ≡ s → rows_by (unit_by at s) ++ rows_of w (c ∷ []) ≡ rows_by (unit_by now s)
      one None e = ap (λ l. [] ++ l) (away (not_this None e (λ z. cc)))
      one (Some m) e = elim (eqb n m) as (λ b. eqb n m ≡ b → rows_by (at m) ++ rows_of w (c ∷ []) ≡ rows_by (now m)) [
        | true ↦ λ k.
            let same = (Decides-eqb n m).0 k in
            let there : at m ≡ Some u = ap at (sym same) ∙ here in
            let own : u.owner ≡ w = owned_by m there e in
            ap (λ y. rows_by y ++ rows_of w (c ∷ [])) there ∙ ap (λ b. u.rows ++ cond b (c ∷ []) []) (ap (λ y. same_owner y w) (under ∙ own) ∙ same_owner_itself w) ∙ sym are
            ∙ ap rows_by (sym (change m ∙ ap (λ b. cond b (Some v) (at m)) k))
        | false ↦ λ k.
            ap (λ l. rows_by (at m) ++ l) (away (not_this (Some m) e (λ z. let t : eqb n m ≡ true = (Decides-eqb n m).1 (sym (some_same m n z)) in cc (t, k))))
            ∙ append-nil (rows_by (at m)) ∙ ap rows_by (sym (change m ∙ ap (λ b. cond b (Some v) (at m)) k))
      ] refl where
        owned_by : (j : ℕ) → at j ≡ Some u → numbers w ≡ Some j → u.owner ≡ w
        owned_by j f g = let t = unit_there index numbers at is w j g in ap (λ (y : UnitView). y.owner) (some_same u t.0 (sym f ∙ t.1)) ∙ t.2
