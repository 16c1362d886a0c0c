-- A store that counts one edge more or one less.
use Rattle.std.proofs.Common.{Bool, List, None, Option, Some, [], ap, arith, cond, false, length, refl, subst, sym, true, ℕ, ◌+◌, ◌-◌, ◌<◌, ◌^◌, ◌∙◌, ◌∷◌, ◌≡◌, ◌||◌}
use Rattle.std.proofs.lemmas.List.Sums.{count_by-le-length}
use Rattle.std.specs.List.{count_by}
use Rattle.std.specs.Option.{is_some, option_map}
use Rattle.lf_base.specs.declared.ids.ObjId.{ObjId}
use Rattle.lf_base.specs.declared.values.Key.{Key}
use Rattle.lf_base.specs.declared.values.Owner.{Owner}
use Rattle.lf_base.specs.EdgeLists.{SameEdges}
use Rattle.lf_base.specs.Edges.{Edge}
use Rattle.lf_base.specs.Names.{same_name}
use Rattle.lf_base.specs.Owners.{has_row, owner_in, row_at, row_owner}
use Rattle.lf_base.specs.PlainState.{Row}
use Rattle.lf_base.specs.Sets.{Differ}
use Rattle.lf_base.specs.TakeResult.{field_at, row_field}
use Rattle.lf_base.proofs.NameLemmas.SameNames.{same_name_flips, same_name_is, same_name_itself}
use Rattle.lf_graph.specs.RowChanges.{changed, lowered, raised, with_refs}
use Rattle.lf_graph.specs.StoreCounts.{IsStoreOf}
use Rattle.lf_graph.specs.StoredRows.{AreRowsOf, CountedRow, HasRow, NamesDiffer, SameByOwner, field_value_at, fields_by, owner_at, owner_by, refs_at, refs_by, row_named}
use Rattle.lf_graph.proofs.Stores.AfterCalls.{found_after}
use Rattle.lf_graph.proofs.Stores.Changes.{at_keeps_name, found_changed}
use Rattle.lf_graph.proofs.Stores.StateRows.{counts_store, found_of, names_map, same_store}
use Rattle.lf_domain.proofs.EdgeTests.{count_cons, left_of, lowered_bit, raised_bit, zero_bit}

-- ---- a row's owner
owner_of_found : (t : Option CountedRow) → row_owner (option_map (λ c. c.row) t) ≡ owner_by t
owner_of_found None = refl
owner_of_found (Some c) = refl

-- the owner that the store tells is the state's
pub owner_told : (rows : List CountedRow) (of : List Row) (o : ObjId) → AreRowsOf rows of → owner_in of o ≡ owner_at rows o
owner_told rows of o a = ap row_owner (found_of rows of o a) ∙ owner_of_found (row_named rows o)

has_found : (rows : List Row) (o : ObjId) → has_row rows o ≡ is_some (row_at rows o)
has_found [] o = refl
has_found (r ∷ rs) o = elim (same_name r.name o) as (λ b. (b || has_row rs o) ≡ is_some (cond b (Some r) (row_at rs o))) [ true ↦ refl | false ↦ has_found rs o ]

found_has : (t : Option CountedRow) → is_some t ≡ is_some (option_map (λ c. c.row) t)
found_has None = refl
found_has (Some c) = refl

field_found : (t : Option CountedRow) (k : Key) → field_at (fields_by t) k ≡ row_field (option_map (λ c. c.row) t) k
field_found None k = refl
field_found (Some c) k = refl

-- the value of a field that the store tells is the state's
pub field_told : (rows : List CountedRow) (of : List Row) (o : ObjId) (k : Key) → AreRowsOf rows of → field_value_at rows o k ≡ row_field (row_at of o) k
field_told rows of o k a = field_found (row_named rows o) k ∙ ap (λ t. row_field t k) (sym (found_of rows of o a))

-- the store has a row of a name where the state has one
pub row_told : (rows : List CountedRow) (of : List Row) (o : ObjId) → AreRowsOf rows of → is_some (row_named rows o) ≡ has_row of o
row_told rows of o a = found_has (row_named rows o) ∙ ap is_some (sym (found_of rows of o a)) ∙ sym (has_found of o)

some_owned : (t : Option CountedRow) (w : Owner) → owner_by t ≡ Some w → is_some t ≡ true
some_owned None w e = absurd (cc)
some_owned (Some c) w e = refl

pub owned_has_row : (rows : List CountedRow) (o : ObjId) (w : Owner) → owner_at rows o ≡ Some w → HasRow rows o
owned_has_row rows o w e = some_owned (row_named rows o) w e

some_not_owned : (t : Option CountedRow) → owner_by t ≡ None → is_some t ≡ true → ⊥
some_not_owned None e h = let z : false ≡ true = h in cc
some_not_owned (Some c) e h = absurd (cc)

other_row : (rows : List CountedRow) (o q : ObjId) → owner_at rows o ≡ None → HasRow rows q → same_name o q ≡ false
other_row rows o q e h =
    elim (same_name o q) as (λ b. same_name o q ≡ b → b ≡ false) [
      | true ↦ λ t. absurd (some_not_owned (row_named rows o) e (ap (λ p. is_some (row_named rows p)) (same_name_is o q t) ∙ h))
      | false ↦ λ t. refl
    ] refl

-- ---- the count of each row after another count was given to one
refs_found : (f : ℕ → ℕ) (b : Bool) (t u : Option CountedRow) → u ≡ cond b (option_map (λ c. with_refs (f c.refs) c) t) t → is_some u ≡ true
    → (is_some t ≡ true) × (refs_by u ≡ cond b (f (refs_by t)) (refs_by t))
refs_found f true None u e h = absurd (let z : false ≡ true = sym (ap is_some e) ∙ h in cc)
refs_found f false None u e h = absurd (let z : false ≡ true = sym (ap is_some e) ∙ h in cc)
refs_found f true (Some c) u e h = (refl, ap refs_by e)
refs_found f false (Some c) u e h = (refl, ap refs_by e)

refs_after : (rows new : List CountedRow) (o q : ObjId) (f : ℕ → ℕ) → NamesDiffer rows → SameByOwner new (changed rows o (λ c. with_refs (f c.refs) c)) → HasRow new q
    → HasRow rows q × (refs_at new q ≡ cond (same_name q o) (f (refs_at rows q)) (refs_at rows q))
refs_after rows new o q f d same h =
    let g : CountedRow → CountedRow = λ c. with_refs (f c.refs) c in
    let differ : NamesDiffer (changed rows o g) = subst (Differ same_name) (sym (names_map _ (at_keeps_name o g (λ r. refl)) rows)) d in
    refs_found f (same_name q o) (row_named rows q) (row_named new q) (found_after new (changed rows o g) q same differ ∙ found_changed o g (λ r. refl) rows q) h

-- a store that has the same rows under each owner
pub store_same : (rows new : List CountedRow) (of : List Row) (es : List Edge) → SameByOwner new rows → IsStoreOf rows of es → IsStoreOf new of es
store_same rows new of es same s = record {
  rows = same_store rows new of s.rows same;
  refs = λ q h.
      let e = found_after new rows q same (s.rows).differ in
      ap refs_by e ∙ s.refs q (ap is_some (sym e) ∙ h);
}

-- ---- the calls of a store
module _ (rows : List CountedRow) (of : List Row) (es : List Edge) (s : IsStoreOf rows of es) (e : Edge) where
  abbrev to_row : ObjId → Edge → Bool
  to_row q x = same_name x.to q

  pub refs_few : length es < 2 ^ 63 → (w : Owner) → owner_at rows e.to ≡ Some w → refs_at rows e.to < 2 ^ 64 - 1
  refs_few few w k = omega (arith, s.refs e.to (owned_has_row rows e.to w k), count_by-le-length (to_row e.to) es, few)

  -- one edge more
  pub store_with : (new : List CountedRow) → SameByOwner new (raised rows e.to) → IsStoreOf new of (e ∷ es)
  store_with new same = record {
    rows = same_store (raised rows e.to) new of (counts_store rows of e.to (λ c. with_refs (c.refs + 1) c) (λ c. refl) s.rows) same;
    refs = λ q h.
        let f = refs_after rows new e.to q (λ n. n + 1) (s.rows).differ same h in
        f.1 ∙ raised_bit (refs_at rows q) (same_name q e.to) (same_name e.to q) (same_name_flips q e.to)
        ∙ ap (λ n. cond (same_name e.to q) 1 0 + n) (s.refs q f.0) ∙ sym (count_cons (to_row q) e es);
  }

  pub store_with_nowhere : owner_at rows e.to ≡ None → IsStoreOf rows of (e ∷ es)
  store_with_nowhere k = record {
    rows = s.rows;
    refs = λ q h. s.refs q h ∙ sym (zero_bit (count_by (to_row q) es) (same_name e.to q) (other_row rows e.to q k h)) ∙ sym (count_cons (to_row q) e es);
  }

  -- one edge less
  module _ (fs : List Edge) (same_edges : SameEdges es (e ∷ fs)) where
    counted_apart : (q : ObjId) → HasRow rows q → refs_at rows q ≡ cond (same_name e.to q) 1 0 + count_by (to_row q) fs
    counted_apart q h = s.refs q h ∙ same_edges (to_row q) ∙ count_cons (to_row q) e fs

    pub refs_some : (w : Owner) → owner_at rows e.to ≡ Some w → 0 < refs_at rows e.to
    refs_some w k =
        let one : cond (same_name e.to e.to) 1 0 ≡ 1 = ap {B = ℕ} (λ b. cond b 1 0) (same_name_itself e.to) in
        omega (arith, counted_apart e.to (owned_has_row rows e.to w k), one)

    pub store_without : (w : Owner) → owner_at rows e.to ≡ Some w → (new : List CountedRow) → SameByOwner new (lowered rows e.to) → IsStoreOf new of fs
    store_without w k new same = record {
      rows = same_store (lowered rows e.to) new of (counts_store rows of e.to (λ c. with_refs (c.refs - 1) c) (λ c. refl) s.rows) same;
      refs = λ q h.
          let f = refs_after rows new e.to q (λ n. n - 1) (s.rows).differ same h in
          left_of (cond (same_name e.to q) 1 0) _ _ (
          ap (λ n. cond (same_name e.to q) 1 0 + n) f.1
          ∙ lowered_bit (refs_at rows q) (same_name q e.to) (same_name e.to q) (same_name_flips q e.to)
          (λ t. subst (λ p. 0 < refs_at rows p) (sym (same_name_is q e.to t)) (refs_some w k))
          ∙ counted_apart q f.0
          );
    }

    pub store_without_nowhere : owner_at rows e.to ≡ None → IsStoreOf rows of fs
    store_without_nowhere k = record {
      rows = s.rows;
      refs = λ q h. counted_apart q h ∙ zero_bit (count_by (to_row q) fs) (same_name e.to q) (other_row rows e.to q k h);
    }
