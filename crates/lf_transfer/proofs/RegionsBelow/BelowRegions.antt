-- All regions below one, found region by region.
use Rattle.std.proofs.Common.{Bool, List, Some, [], ap, arith, cond, false, inl, inr, length, refl, slice_get, subst, sym, true, ℕ, ◌+◌, ◌++◌, ◌<◌, ◌||◌, ◌∙◌, ◌∷◌, ◌≡◌, ◌≤◌, ◌⊎◌}
use Rattle.std.proofs.lemmas.Bool.{or_cases}
use Rattle.std.proofs.lemmas.List.{append-nil, append_assoc, length-append}
use Rattle.std.proofs.Math.Bool.{or-false, or-true}
use Rattle.indexmap.specs.IndexSet.{IndexSet, spare}
use Rattle.lf_base.specs.declared.ids.ObjId.{ObjId}
use Rattle.lf_base.specs.declared.values.Owner.TheVariants.{In}
use Rattle.lf_base.specs.Names.{name_below, same_name}
use Rattle.lf_base.specs.Owners.{has_name, is_bridge, owner_in}
use Rattle.lf_base.specs.Ownership.{Above, below, direct, owns}
use Rattle.lf_base.specs.PlainChanges.{insert_row}
use Rattle.lf_base.specs.PlainState.{Row, State}
use Rattle.lf_base.specs.Sets.{Differ, Member}
use Rattle.lf_base.proofs.NameLemmas.SameNames.{same_name_is}
use Rattle.lf_barrier.specs.Descents.{region_targets}
use Rattle.lf_barrier.proofs.Descents.OwnedBelow.{above_more, all_below, child_owned, owned_child}
use Rattle.lf_barrier.proofs.MovingEdges.RowLoops.{head_there}
use Rattle.lf_barrier.proofs.Surveys.SurveyRows.{head_at}
use Rattle.lf_domain.specs.Counts.{IsDomain}
use Rattle.lf_domain.proofs.StoreEdges.{row_told}
use Rattle.lf_graph.specs.StoredRows.{CountedRow, HasRow, plain, rows_by_name}
use Rattle.lf_laws.proofs.Owners.PathsOfSets.{below_path}
use Rattle.lf_laws.proofs.Rows.RowsByName.{Member_has_name, RowAt, has_append, has_name_Member, owner_has, row_of}
use Rattle.lf_laws.proofs.Rows.OwnerTests.{in_region}
use Rattle.lf_regions.specs.declared.region.Region.{Region}
use Rattle.lf_transfer.specs.Below.{FindsBridges, HoldsRowNames}
use Rattle.lf_transfer.proofs.RegionsBelow.FoundBridges.{holds_on, no_more_than_stored}

-- the region is r or lies below it
abbrev IsReached : ObjId → State → ObjId → Type 0
IsReached r s t = (r ≡ t) ⊎ Above s r t

module _ {H : Type 0} (rows : List CountedRow) (r : ObjId) (room : ℕ) where
  -- the regions before the place are done: all that they own is in the set, of which each is r or below it
  pub record Descending (i : ℕ) (names : IndexSet ObjId H) : Type 0 where
    pub done : List ObjId
    pub left : List ObjId
    pub count : length done ≡ i
    pub split : names.keys ≡ done ++ left
    pub reach : (table : List Region) (s : State) → IsDomain rows table s → (t : ObjId) → has_name names.keys t ≡ true → IsReached r s t
    pub closed : (table : List Region) (s : State) → IsDomain rows table s → (q t : ObjId) → has_name done q ≡ true → owns s q t ≡ true → has_name names.keys t ≡ true
    pub start : has_name names.keys r ≡ true
    pub holds : HoldsRowNames rows names
    pub capacity : room ≤ length names.keys + spare names

  pub descending_begins : (names : IndexSet ObjId H) → names.keys ≡ r ∷ [] → HasRow rows r → length rows ≤ room → room ≤ length names.keys + spare names → Descending 0 names
  descending_begins names is there enough capacity =
      let only : (t : ObjId) → has_name names.keys t ≡ true → r ≡ t = λ t h. same_name_is r t (sym (or-false (same_name r t)) ∙ ap (λ l. has_name l t) (sym is) ∙ h) in
      record {
        done = [];
        left = names.keys;
        count = refl;
        split = refl;
        reach = λ table s d t h. inl (only t h);
        closed = λ table s d q t h o. absurd (let z : false ≡ true = h in cc);
        start = ap (λ l. has_name l r) is ∙ head_there r [];
        holds = record {
          differ = subst (Differ same_name) (sym is) (refl, tt);
          there = λ t h. subst (HasRow rows) (only t h) there;
          room = omega (arith, enough, capacity);
        };
        capacity = capacity;
      }

  module _ (i : ℕ) (names : IndexSet ObjId H) (g : Descending i names) where
    pub few : length names.keys ≤ length rows
    few = no_more_than_stored rows names.keys (g.holds).differ (g.holds).there

    module _ (q : ObjId) (at : slice_get names.keys i ≡ Some q) where
      next_left : (rest : List ObjId) × (g.left ≡ q ∷ rest)
      next_left = head_at g.done g.left i q g.count (sym at ∙ ap (λ l. slice_get l i) g.split)

      names_now : names.keys ≡ g.done ++ q ∷ (next_left).0
      names_now = g.split ∙ ap (λ l. g.done ++ l) (next_left).1

      is_named : has_name names.keys q ≡ true
      is_named = ap (λ l. has_name l q) names_now ∙ has_append g.done (q ∷ (next_left).0) q ∙ ap (λ b. has_name g.done q || b) (head_there q (next_left).0) ∙ or-true (has_name g.done q)

      above_child : (table : List Region) (s : State) → IsDomain rows table s → (t : ObjId) → owns s q t ≡ true → Above s r t
      above_child table s d t o = elim (g.reach table s d q is_named) as (λ _. Above s r t) [
        | inl e ↦ direct (ap (λ n. owns s n t) e ∙ o)
        | inr up ↦ above_more rows table s d r q t up o
      ]

      pub descending_on : (after : IndexSet ObjId H) → FindsBridges rows q (region_targets rows q) names after → Descending (i + 1) after
      descending_on after f =
          let e = f.takes in
          let kept : (t : ObjId) → has_name names.keys t ≡ true → has_name after.keys t ≡ true = λ t h. ap (λ l. has_name l t) e.grows ∙ has_append names.keys e.more t ∙ ap (λ b. b || has_name e.more t) h in
          record {
            done = g.done ++ q ∷ [];
            left = (next_left).0 ++ e.more;
            count = length-append g.done (q ∷ []) ∙ ap (λ n. n + 1) g.count;
            split = e.grows ∙ ap (λ l. l ++ e.more) names_now ∙ append_assoc g.done (q ∷ (next_left).0) e.more ∙ sym (append_assoc g.done (q ∷ []) ((next_left).0 ++ e.more));
            reach = λ table s d t h. elim (e.only t h) as (λ _. IsReached r s t) [
              | inl k ↦ g.reach table s d t k
              | inr k ↦ inr (above_child table s d t (child_owned rows table s d q t k.0 k.1))
            ];
            closed = λ table s d p t h o. elim (or_cases (has_name g.done p) (has_name (q ∷ []) p) (sym (has_append g.done (q ∷ []) p) ∙ h)) as (λ _. has_name after.keys t ≡ true) [
              | inl k ↦ kept t (g.closed table s d p t k o)
              | inr k ↦
                  let same : q ≡ p = same_name_is q p (sym (or-false (same_name q p)) ∙ k) in
                  let child = owned_child rows table s d q t (subst (λ n. owns s n t ≡ true) (sym same) o) in
                  e.covered t child.0 child.1
            ];
            start = kept r g.start;
            holds = holds_on rows q (region_targets rows q) names after g.holds f;
            capacity = omega (arith, g.capacity, f.capacity);
          }

    -- ---- the walk is over
    module _ (over : length names.keys ≤ i) (table : List Region) (s : State) (d : IsDomain rows table s) where
      all_done : names.keys ≡ g.done
      all_done = go g.left g.split where
        go : (left : List ObjId) → names.keys ≡ g.done ++ left → names.keys ≡ g.done
        go [] split = split ∙ append-nil g.done
        go (x ∷ xs) split = absurd (omega (arith, over, g.count, ap length split, length-append g.done (x ∷ xs)))

      closed_all : (q t : ObjId) → has_name names.keys q ≡ true → owns s q t ≡ true → has_name names.keys t ≡ true
      closed_all q t h o = g.closed table s d q t (ap (λ l. has_name l q) (sym all_done) ∙ h) o

      found_below : (q : ObjId) → has_name names.keys q ≡ true → has_name (r ∷ below s r) q ≡ true
      found_below q h = elim (g.reach table s d q h) as (λ _. has_name (r ∷ below s r) q ≡ true) [
        | inl e ↦ Member_has_name q (r ∷ below s r) (inl e)
        | inr up ↦ Member_has_name q (r ∷ below s r) (inr ((below_path s r q).1 up))
      ]

      below_found : (q : ObjId) → has_name (r ∷ below s r) q ≡ true → has_name names.keys q ≡ true
      below_found q h = elim (has_name_Member q (r ∷ below s r) h) as (λ _. has_name names.keys q ≡ true) [
        | inl e ↦ subst (λ n. has_name names.keys n ≡ true) e g.start
        | inr m ↦ all_below rows table s d names.keys closed_all r q ((below_path s r q).0 m) g.start
      ]

      pub all_found : (q : ObjId) → has_name names.keys q ≡ has_name (r ∷ below s r) q
      all_found q = same_test (has_name names.keys q) (has_name (r ∷ below s r) q) (found_below q) (below_found q) where
        same_test : (a b : Bool) → (a ≡ true → b ≡ true) → (b ≡ true → a ≡ true) → a ≡ b
        same_test true b f h = sym (f refl)
        same_test false true f h = h refl
        same_test false false f h = refl

pub bridge_there : (rows : List CountedRow) (table : List Region) (s : State) (r : ObjId) → IsDomain rows table s → is_bridge s.rows r ≡ true → HasRow rows r
bridge_there rows table s r d b = row_told rows s.rows r ((d.counts).store).rows ∙ owner_has s.rows r (In r) (in_region r (owner_in s.rows r) b)

-- ---- a state has as many rows as the store
inserted_length : (r : Row) (rows : List Row) → length (insert_row r rows) ≡ length rows + 1
inserted_length r [] = refl
inserted_length r (x ∷ xs) = elim (name_below r.name x.name) as (λ b. length (cond b (r ∷ (x ∷ xs)) (x ∷ insert_row r xs)) ≡ length (x ∷ xs) + 1) [
  | true ↦ omega arith
  | false ↦ omega (arith, inserted_length r xs)
]

ordered_length : (rows : List CountedRow) → length (rows_by_name (plain rows)) ≡ length rows
ordered_length [] = refl
ordered_length (c ∷ cs) = omega (arith, inserted_length c.row (rows_by_name (plain cs)), ordered_length cs)

pub as_many_rows : (rows : List CountedRow) (table : List Region) (s : State) → IsDomain rows table s → length s.rows ≡ length rows
as_many_rows rows table s d = sym (ap length (((d.counts).store).rows).rise) ∙ ordered_length rows

-- room for all rows of a store that has a bridge is some room
pub some_room : (rows : List CountedRow) (table : List Region) (s : State) (r : ObjId) → IsDomain rows table s → is_bridge s.rows r ≡ true → (room : ℕ) → length s.rows ≤ room → 0 < room
some_room rows table s r d b room enough = go (row_of s.rows r (In r) (in_region r (owner_in s.rows r) b)) where
  go : RowAt s.rows r (In r) → 0 < room
  go x = some_member s.rows x.row x.mem enough where
    some_member : (xs : List Row) (y : Row) → Member y xs → length xs ≤ room → 0 < room
    some_member [] y m h = absurd m
    some_member (x ∷ xs) y m h = omega (arith, h)
