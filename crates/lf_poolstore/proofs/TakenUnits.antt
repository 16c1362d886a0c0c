-- Pools from which a unit is taken.
use Rattle.std.proofs.Common.{◌≡◌, ◌≢◌, ℕ, Bool, true, false, cond, not, List, [], option_map, Option, Some, None, refl, ap, sym, ◌∙◌}
use Rattle.lf_base.specs.declared.ids.ObjId.{ObjId}
use Rattle.lf_base.specs.declared.values.Owner.{Owner}
use Rattle.lf_base.specs.Names.{same_owner}
use Rattle.lf_graph.specs.StoredRows.{CountedRow, SameByOwner, is_under, rows_of, rows_outside}
use Rattle.lf_graph.proofs.ListLemmas.{filter_within}
use Rattle.lf_graph.proofs.Stores.Reordered.{same_owner_is, same_owner_itself}
use Rattle.lf_graph.proofs.FlatStores.FlatView.{owner_flips}
use Rattle.lf_graph.proofs.Stores.Walks.{none_outside}
use Rattle.lf_poolstore.specs.declared.place.Place.{Place}
use Rattle.lf_poolstore.specs.Pools.{ArePools, Numbers, UnitsAt, rows_by, unit_by, unit_of}
use Rattle.lf_poolstore.specs.Units.{UnitView}
use Rattle.lf_poolstore.proofs.PoolRows.{some_same, unit_there}

module _ (index : ObjId → Option Place) (numbers next : Numbers) (at now : UnitsAt) (is : ArePools index numbers at) (v : Owner) (n : ℕ) (number : numbers v ≡ Some n) (gone : now n ≡ None) (others : (m : ℕ) → m ≢ n → now m ≡ at m)
    (next_is : (w : Owner) → next w ≡ cond (same_owner v w) None (numbers w)) where
  -- a unit that is left was there, under another number
  was : (m : ℕ) (t : UnitView) → now m ≡ Some t → (m ≢ n) × (at m ≡ Some t)
  was m t e = let d : m ≢ n = λ z. let x = sym (ap now z ∙ gone) ∙ e in cc x in (d, sym (others m d) ∙ e)

  other : (m : ℕ) (t : UnitView) → m ≢ n → at m ≡ Some t → same_owner v t.owner ≡ false
  other m t d e = elim (same_owner v t.owner) as (λ b. same_owner v t.owner ≡ b → b ≡ false) [
    | true ↦ λ k. absurd (d (some_same m n (sym (is.owned m t e) ∙ ap numbers (sym (same_owner_is v t.owner k)) ∙ number)))
    | false ↦ λ _. refl
  ] refl

  -- the unit of an owner now
  pub unit_now : (w : Owner) (b : Bool) → same_owner v w ≡ b → unit_of next now w ≡ cond b None (unit_of numbers at w)
  unit_now w true k = ap (unit_by now) (next_is w ∙ ap (λ b. cond b None (numbers w)) k)
  unit_now w false k = ap (unit_by now) (next_is w ∙ ap (λ b. cond b None (numbers w)) k) ∙ go (numbers w) refl where
    go : (t : Option ℕ) → numbers w ≡ t → unit_by now t ≡ unit_by at t
    go None e = refl
    go (Some m) e = others m (λ z. let t = unit_there index numbers at is w m e in let u = unit_there index numbers at is v n number in
        let same : t.0 ≡ u.0 = some_same t.0 u.0 (sym t.1 ∙ ap at z ∙ u.1) in
        let y : same_owner v w ≡ true = ap (λ o. same_owner o w) (sym u.2 ∙ ap (λ (x : UnitView). x.owner) (sym same) ∙ t.2) ∙ same_owner_itself w in cc (y, k))

  pub taken_kept : ArePools index next now
  taken_kept = record {
    whole = λ m t e. is.whole m t (was m t e).1;
    owned = λ m t e. let w = was m t e in next_is t.owner ∙ ap (λ b. cond b None (numbers t.owner)) (other m t w.0 w.1) ∙ is.owned m t w.1;
    there = λ w. there_now w (same_owner v w) refl;
    indexed = λ m t o x e s. is.indexed m t o x (was m t e).1 s;
  } where
    there_now : (w : Owner) (b : Bool) → same_owner v w ≡ b → option_map (λ (u : UnitView). u.owner) (unit_of next now w) ≡ option_map (λ _. w) (next w)
    there_now w true k = ap (option_map (λ (u : UnitView). u.owner)) (unit_now w true k) ∙ sym (ap (option_map (λ _. w)) (next_is w ∙ ap (λ b. cond b None (numbers w)) k))
    there_now w false k = ap (option_map (λ (u : UnitView). u.owner)) (unit_now w false k) ∙ is.there w ∙ sym (ap (option_map (λ _. w)) (next_is w ∙ ap (λ b. cond b None (numbers w)) k))

-- the rows of another owner are all left
other_left : (v w : Owner) (rows : List CountedRow) → same_owner v w ≡ false → rows_of w (rows_outside v rows) ≡ rows_of w rows
other_left v w rows n = filter_within (is_under w) (λ c. not (is_under v c)) each rows where
  each : (c : CountedRow) → is_under w c ≡ true → not (is_under v c) ≡ true
  each c e = let p : (c.row).owner ≡ w = same_owner_is (c.row).owner w e in ap not (ap (λ u. same_owner u v) p ∙ owner_flips v w n)

module _ (index : ObjId → Option Place) (numbers next : Numbers) (at now : UnitsAt) (is : ArePools index numbers at) (v : Owner) (n : ℕ) (number : numbers v ≡ Some n) (gone : now n ≡ None) (others : (m : ℕ) → m ≢ n → now m ≡ at m)
    (next_is : (w : Owner) → next w ≡ cond (same_owner v w) None (numbers w)) where
  pub taken_rows : (rows after : List CountedRow) → ((w : Owner) → rows_of w rows ≡ rows_by (unit_of numbers at w)) → ((w : Owner) → rows_of w after ≡ rows_by (unit_of next now w)) → SameByOwner after (rows_outside v rows)
  taken_rows rows after shown shown_now w = shown_now w ∙ go (same_owner v w) refl where
    go : (b : Bool) → same_owner v w ≡ b → rows_by (unit_of next now w) ≡ rows_of w (rows_outside v rows)
    go true k = ap rows_by (unit_now index numbers next at now is v n number gone others next_is w true k) ∙ sym (ap (λ o. rows_of w (rows_outside o rows)) (same_owner_is v w k) ∙ none_outside w rows)
    go false k = ap rows_by (unit_now index numbers next at now is v n number gone others next_is w false k) ∙ sym (other_left v w rows k ∙ shown w)

-- an owner without a unit has no rows to leave
pub none_taken : (v : Owner) (rows : List CountedRow) → rows_of v rows ≡ [] → SameByOwner rows (rows_outside v rows)
none_taken v rows e w = go (same_owner v w) refl where
  go : (b : Bool) → same_owner v w ≡ b → rows_of w rows ≡ rows_of w (rows_outside v rows)
  go true k = ap (λ o. rows_of o rows) (sym (same_owner_is v w k)) ∙ e ∙ sym (ap (λ o. rows_of w (rows_outside o rows)) (same_owner_is v w k) ∙ none_outside w rows)
  go false k = sym (other_left v w rows k)
