-- The rows of units by their owners, and what is found among them.
use Rattle.std.proofs.Common.{◌≡◌, ◌≢◌, ℕ, Bool, true, false, cond, is_some, List, [], ◌∷◌, ◌++◌, slice_index_or, option_map, Option, Some, None, refl, ap, sym, ◌∙◌, zero, suc}
use Rattle.std.proofs.lemmas.List.{append-nil}
use Rattle.lf_base.specs.declared.ids.ObjId.{ObjId}
use Rattle.lf_base.specs.declared.values.Owner.{Owner}
use Rattle.lf_base.specs.Names.{same_owner}
use Rattle.lf_graph.specs.StoredRows.{CountedRow, HasRow, is_under, owner_by, row_named, rows_beside, rows_of, rows_of_maybe}
use Rattle.lf_graph.proofs.Stores.Reordered.{rows_append, same_owner_is, same_owner_itself}
use Rattle.lf_graph.proofs.Stores.RowsByOwner.{under_its_owner}
use Rattle.lf_graph.proofs.Stores.Walks.{no_name_filter}
use Rattle.lf_poolstore.specs.declared.place.Place.{Place}
use Rattle.lf_poolstore.specs.Pools.{ArePools, Numbers, UnitsAt, place_of, rows_by, slot_rows, unit_by, unit_of}
use Rattle.lf_poolstore.specs.Units.{IsWhole, StandsAt, UnitView, place_in}

abbrev pub Slots : Type 0
Slots = List (Option UnitView)

-- a unit that isn't of that owner
abbrev IsOther : Owner → UnitView → Type 0
IsOther w u = IsWhole u × (same_owner u.owner w ≡ false)

none_of : (w : Owner) (s : Option UnitView) → ((u : UnitView) → s ≡ Some u → IsOther w u) → rows_of w (rows_by s) ≡ []
none_of w None k = refl
none_of w (Some u) k = let o = k u refl in o.0.under w ∙ ap (λ b. cond b u.rows []) o.1

none_under : (w : Owner) (ss : Slots) → ((n : ℕ) → (u : UnitView) → slice_index_or ss n None ≡ Some u → IsOther w u) → rows_of w (slot_rows ss) ≡ []
none_under w [] k = refl
none_under w (s ∷ ss) k = rows_append w (rows_by s) (slot_rows ss) ∙ (λ i. none_of w s (k zero) i ++ none_under w ss (λ n. k (suc n)) i)

one_under : (w : Owner) (ss : Slots) (n : ℕ) (u : UnitView) → slice_index_or ss n None ≡ Some u → IsWhole u → same_owner u.owner w ≡ true
    → ((m : ℕ) → (v : UnitView) → slice_index_or ss m None ≡ Some v → m ≢ n → IsOther w v) → rows_of w (slot_rows ss) ≡ u.rows
one_under w [] n u e h o k = cc
one_under w (s ∷ ss) zero u e h o k =
    rows_append w (rows_by s) (slot_rows ss)
    ∙ (λ i. (ap (λ t. rows_of w (rows_by t)) e ∙ h.under w ∙ ap (λ b. cond b u.rows []) o) i ++ none_under w ss (λ m v f. k (suc m) v f (λ z. absurd (cc z))) i)
    ∙ append-nil u.rows
one_under w (s ∷ ss) (suc n) u e h o k =
    rows_append w (rows_by s) (slot_rows ss)
    ∙ (λ i. none_of w s (λ v f. k zero v f (λ z. absurd (cc z))) i ++ one_under w ss n u e h o (λ m v f d. k (suc m) v f (λ z. d (ap less z))) i)
  where
    less : ℕ → ℕ
    less zero = zero
    less (suc m) = m

pub some_same : {X : Type 0} (x y : X) → Some x ≡ Some y → x ≡ y
some_same x y e = ap (or x) e where
  or : {X : Type 0} → X → Option X → X
  or z None = z
  or z (Some v) = v

-- the unit of an owner's number
pub unit_there : (index : ObjId → Option Place) (numbers : Numbers) (at : UnitsAt) → ArePools index numbers at → (w : Owner) (n : ℕ) → numbers w ≡ Some n → (u : UnitView) × (at n ≡ Some u) × (u.owner ≡ w)
unit_there index numbers at is w n e = go (at n) refl where
  told : option_map (λ (u : UnitView). u.owner) (at n) ≡ Some w
  told = sym (ap (λ t. option_map (λ (u : UnitView). u.owner) (unit_by at t)) e) ∙ is.there w ∙ ap (option_map (λ _. w)) e

  go : (t : Option UnitView) → at n ≡ t → (u : UnitView) × (at n ≡ Some u) × (u.owner ≡ w)
  go None f = let g = sym (ap (option_map (λ (u : UnitView). u.owner)) f) ∙ told in absurd (cc g)
  go (Some u) f = (u, f, some_same u.owner w (sym (ap (option_map (λ (u : UnitView). u.owner)) f) ∙ told))

module _ (index : ObjId → Option Place) (numbers : Numbers) (ss : Slots) (is : ArePools index numbers (λ n. slice_index_or ss n None)) where
  abbrev at : UnitsAt
  at n = slice_index_or ss n None

  -- another unit has another owner
  other_owner : (w : Owner) (n : Option ℕ) → numbers w ≡ n → (m : ℕ) (v : UnitView) → at m ≡ Some v → n ≢ Some m → IsOther w v
  other_owner w n e m v f d = (is.whole m v f, go (same_owner v.owner w) refl) where
    go : (b : Bool) → same_owner v.owner w ≡ b → b ≡ false
    go false g = refl
    go true g = absurd (d (sym e ∙ ap numbers (sym (same_owner_is v.owner w g)) ∙ is.owned m v f))

  -- the rows of an owner are those of its unit
  pub shown_rows : (w : Owner) → rows_of w (slot_rows ss) ≡ rows_by (unit_of numbers (λ n. slice_index_or ss n None) w)
  shown_rows w = go (numbers w) refl where
    go : (n : Option ℕ) → numbers w ≡ n → rows_of w (slot_rows ss) ≡ rows_by (unit_by at n)
    go None e = none_under w ss (λ m v f. other_owner w None e m v f (λ z. cc))
    go (Some n) e =
        let t = unit_there index numbers at is w n e in
        one_under w ss n t.0 t.1 (is.whole n t.0 t.1) (ap (λ o. same_owner o w) t.2 ∙ same_owner_itself w) (λ m v f d. other_owner w (Some n) e m v f (λ z. d (sym (some_same n m z))))
        ∙ sym (ap rows_by t.1)

-- ---- names that are found, and names that aren't
-- the row of that name stands in a unit
pub record Stood (index : ObjId → Option Place) (at : UnitsAt) (rows : List CountedRow) (o : ObjId) : Type 0 where
  pub number : ℕ
  pub unit : UnitView
  pub unit_is : at number ≡ Some unit
  pub row : ℕ
  pub stands : StandsAt unit row o
  pub place : index o ≡ Some (place_of number row)

some_there : {X : Type 0} (t : Option X) → is_some t ≡ true → (x : X) × (t ≡ Some x)
some_there None e = absurd (cc e)
some_there (Some x) e = (x, refl)

module _ (index : ObjId → Option Place) (numbers : Numbers) (at : UnitsAt) (is : ArePools index numbers at) (rows : List CountedRow) (shown : (w : Owner) → rows_of w rows ≡ rows_by (unit_of numbers at w)) (o : ObjId) where
  -- the rows of a unit's owner
  pub unit_rows : (n : ℕ) (u : UnitView) → at n ≡ Some u → rows_of u.owner rows ≡ u.rows
  unit_rows n u e = shown u.owner ∙ ap (λ t. rows_by (unit_by at t)) (is.owned n u e) ∙ ap rows_by e

  -- a row that is found is that of its owner's unit
  record Under (c : CountedRow) : Type 0 where
    number : ℕ
    unit : UnitView
    unit_is : at number ≡ Some unit
    found : row_named unit.rows o ≡ Some c
    row : ℕ
    stands : StandsAt unit row o

  under : (c : CountedRow) → row_named rows o ≡ Some c → Under c
  under c e = go (numbers (c.row).owner) refl where
    here : row_named (rows_of (c.row).owner rows) o ≡ Some c
    here = under_its_owner rows o c e

    go : (n : Option ℕ) → numbers (c.row).owner ≡ n → Under c
    go None f =
        let none : row_named (rows_of (c.row).owner rows) o ≡ None = ap (λ t. row_named t o) (shown (c.row).owner ∙ ap (λ t. rows_by (unit_by at t)) f) in
        absurd (cc (none, here))
    go (Some n) f =
        let t = unit_there index numbers at is (c.row).owner n f in
        let found : row_named (t.0).rows o ≡ Some c = sym (ap (λ r. row_named r o) (shown (c.row).owner ∙ ap (λ k. rows_by (unit_by at k)) f ∙ ap rows_by t.1)) ∙ here in
        let x = some_there (place_in t.0 o) (sym ((is.whole n t.0 t.1).placed o) ∙ ap is_some found) in
        record { number = n; unit = t.0; unit_is = t.1; found = found; row = x.0; stands = x.1 }

  -- a row that stands in a unit is the one that is found
  pub found_there : (n : ℕ) (u : UnitView) (x : ℕ) → at n ≡ Some u → StandsAt u x o → row_named rows o ≡ row_named u.rows o
  found_there n u x e s = go (some_there (row_named u.rows o) ((is.whole n u e).placed o ∙ ap is_some s)) (row_named rows o) refl where
    go : (c : CountedRow) × (row_named u.rows o ≡ Some c) → (t : Option CountedRow) → row_named rows o ≡ t → t ≡ row_named u.rows o
    go some None f =
        let none : row_named u.rows o ≡ None = sym (ap (λ r. row_named r o) (unit_rows n u e)) ∙ no_name_filter (is_under u.owner) rows o f in
        absurd (cc (none, some.1))
    go some (Some c) f =
        let v = under c f in
        let p = sym (is.indexed v.number v.unit o v.row v.unit_is v.stands) ∙ is.indexed n u o x e s in
        let same : v.number ≡ n = ap (number_in v.number) p in
        let unit : v.unit ≡ u = some_same v.unit u (sym v.unit_is ∙ ap at same ∙ e) in
        sym v.found ∙ ap (λ (w : UnitView). row_named w.rows o) unit
      where
        number_in : ℕ → Option Place → ℕ
        number_in m None = m
        number_in m (Some p) = p.unit

  -- a row that is there stands where the index leads
  pub stood : HasRow rows o → Stood index at rows o
  stood h =
      let c = some_there (row_named rows o) h in
      let u = under c.0 c.1 in
      record { number = u.number; unit = u.unit; unit_is = u.unit_is; row = u.row; stands = u.stands; place = is.indexed u.number u.unit o u.row u.unit_is u.stands }

  -- where the index doesn't lead to a row of that name, there is none
  pub lost : ((n x : ℕ) → (u : UnitView) → index o ≡ Some (place_of n x) → at n ≡ Some u → StandsAt u x o → ⊥) → row_named rows o ≡ None
  lost k = go (row_named rows o) refl where
    go : (t : Option CountedRow) → row_named rows o ≡ t → t ≡ None
    go None e = refl
    go (Some c) e = let u = under c e in absurd (k u.number u.row u.unit (is.indexed u.number u.unit o u.row u.unit_is u.stands) u.unit_is u.stands)

  -- the owner of a row that stands in a unit
  pub owner_there : (n : ℕ) (u : UnitView) (x : ℕ) → at n ≡ Some u → StandsAt u x o → owner_by (row_named rows o) ≡ Some u.owner
  owner_there n u x e s = go (row_named rows o) refl (found_there n u x e s) where
    go : (t : Option CountedRow) → row_named rows o ≡ t → t ≡ row_named u.rows o → owner_by t ≡ Some u.owner
    go None f g = let h = (is.whole n u e).placed o ∙ ap is_some s in absurd (cc (g, h))
    go (Some c) f g =
        let v = under c f in
        elim (same_owner u.owner (c.row).owner) as (λ b. same_owner u.owner (c.row).owner ≡ b → Some ((c.row).owner) ≡ Some u.owner) [
          | true ↦ λ t. ap Some (sym (same_owner_is u.owner (c.row).owner t))
          | false ↦ λ t.
              let here : row_named (rows_of (c.row).owner u.rows) o ≡ Some c = under_its_owner u.rows o c (sym g) in
              let none = ap (λ r. row_named r o) ((is.whole n u e).under (c.row).owner ∙ ap (λ b. cond b u.rows []) t) in
              absurd (cc (here, none))
        ] refl

  -- the rows beside a row that stands in a unit
  pub beside_there : (n : ℕ) (u : UnitView) (x : ℕ) → at n ≡ Some u → StandsAt u x o → rows_beside rows o ≡ u.rows
  beside_there n u x e s = ap (λ t. rows_of_maybe t rows) (owner_there n u x e s) ∙ unit_rows n u e
