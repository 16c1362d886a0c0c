-- A walk down from a region: the regions that were looked into have all that they own on the list.
use Rattle.std.proofs.Common.{Bool, List, Some, [], ap, arith, false, flat_map, inl, inr, length, ltb, refl, reverse, slice_get, subst, sym, true, ℕ, ◌+◌, ◌++◌, ◌-◌, ◌<◌, ◌||◌, ◌∙◌, ◌∷◌, ◌≡◌, ◌≤◌, ◌⊎◌}
use Rattle.std.proofs.lemmas.Bool.{lt-ltb, ltb-true}
use Rattle.std.proofs.lemmas.List.{append-nil, append_assoc, length-append}
use Rattle.std.proofs.lemmas.List.Folds.{list_any-append}
use Rattle.lf_base.specs.declared.ids.ObjId.{ObjId}
use Rattle.lf_base.specs.declared.values.Owner.TheVariants.{In}
use Rattle.lf_base.specs.Owners.{has_name, owner_in}
use Rattle.lf_base.specs.Ownership.{Above, owns}
use Rattle.lf_base.specs.PlainState.{State}
use Rattle.lf_base.specs.Sets.{Member}
use Rattle.lf_base.specs.Suspects.{Region as region_place}
use Rattle.lf_base.specs.WalkCounts.{borrowed}
use Rattle.lf_base.proofs.ListLemmas.Filters.{Member_filter}
use Rattle.lf_base.proofs.ListLemmas.Members.{Member_flat_map, Member_right, any_Member}
use Rattle.lf_base.proofs.ListLemmas.Tests.{none_any}
use Rattle.lf_barrier.specs.Descents.{is_child, region_targets}
use Rattle.lf_barrier.proofs.Descents.OwnedBelow.{all_below, owned_child}
use Rattle.lf_barrier.proofs.Surveys.SurveySteps.{flat_more, zero_if_not_positive}
use Rattle.lf_domain.specs.Counts.{IsDomain}
use Rattle.lf_domain.proofs.NewRowCounts.{borrowed_told}
use Rattle.lf_graph.specs.StoredRows.{CountedRow, owner_at}
use Rattle.lf_laws.proofs.Edges.FrozenEdges.{near_borrowed}
use Rattle.lf_laws.proofs.Rows.RowsByName.{Member_has_name, has_name_Member}
use Rattle.lf_regions.specs.declared.region.Region.{Region}
use Rattle.lf_regions.specs.Regions.{borrowed_of}
use Rattle.lf_settle.specs.WorkLists.{WorkList}
use Rattle.lf_heap.specs.Openness.{HasChildRoom, IsOpenBelow, Lists, Looks, children, some_borrowed}
use Rattle.lf_heap.proofs.RegionWalks.FoundLists.{left_from, lists_longer, lists_on, lists_one, none_left, region_listed}
use Rattle.lf_heap.proofs.RegionWalks.OwnedOnce.{Once, ReachedFrom, below_next, is_owned_child, no_more_than_rows, not_itself, once_on, once_one, reached_on}

-- the counts say whether a region is borrowed
module _ (rows : List CountedRow) (regions : List Region) (s : State) (d : IsDomain rows regions s) where
  pub borrowed_is : (q : ObjId) → borrowed_of regions q ≡ borrowed s q
  borrowed_is q = borrowed_told s d.well_formed rows regions d.counts q ∙ sym (near_borrowed s d.well_formed q)

  pub some_is_borrowed : (os : List ObjId) → some_borrowed regions os ≡ true → (q : ObjId) × (Member q os × (0 < borrowed s q))
  some_is_borrowed os e =
      let x = any_Member (λ c. ltb 0 (borrowed_of regions c)) os e in
      (x.0, (x.1.0, subst (λ n. 0 < n) (borrowed_is x.0) (ltb-true 0 (borrowed_of regions x.0) x.1.1)))

  pub none_is_borrowed : (os : List ObjId) → some_borrowed regions os ≡ false → (q : ObjId) → Member q os → borrowed s q ≡ 0
  none_is_borrowed os e q m =
      zero_if_not_positive (borrowed s q) (λ h.
      let z : true ≡ false = sym (lt-ltb 0 (borrowed_of regions q) (subst (λ n. 0 < n) (sym (borrowed_is q)) h)) ∙ none_any (λ c. ltb 0 (borrowed_of regions c)) os e q m in cc)

  pub is_child_owned : (q t : ObjId) → owns s q t ≡ true → Member t (children rows q)
  is_child_owned q t o = let c = owned_child rows regions s d q t o in Member_filter (λ o. is_child q o (owner_at rows o)) t (region_targets rows q) c.0 c.1

-- ---- the walk
module _ (rows : List CountedRow) (regions : List Region) (r : ObjId) (old : WorkList) where
  pub record Walking (at : ℕ) (now : WorkList) : Type 0 where
    pub done : List ObjId
    pub left : List ObjId
    pub place : at ≡ length old.suspects + length done
    pub lists : Lists old now (done ++ left)
    pub closed : done ++ left ≡ r ∷ flat_map (children rows) done
    pub shut : some_borrowed regions (flat_map (children rows) done) ≡ false
    pub once : Once (done ++ left)
    pub reach : (s : State) → IsDomain rows regions s → ReachedFrom s r (done ++ left)

  pub walk_begins : (now : WorkList) → now.suspects ≡ region_place r ∷ old.suspects → now.spare + 1 ≡ old.spare → Walking (length old.suspects) now
  walk_begins now e room = record {
    done = [];
    left = r ∷ [];
    place = omega arith;
    lists = lists_one old now r e room;
    closed = refl;
    shut = refl;
    once = once_one r;
    reach = λ s d t m. elim m as (λ _. (r ≡ t) ⊎ Above s r t) [ inl e ↦ inl e | inr n ↦ absurd n ];
  }

  module _ (at : ℕ) (now : WorkList) (g : Walking at now) where
    pub region_there : at < length now.suspects → (q : ObjId) × (slice_get (reverse now.suspects) at ≡ Some (region_place q))
    region_there less = region_listed old now g.done g.left at g.lists g.place less

    module _ (q : ObjId) (is : slice_get (reverse now.suspects) at ≡ Some (region_place q)) where
      this_region : (rest : List ObjId) × (g.left ≡ q ∷ rest)
      this_region = left_from old now g.done g.left at g.lists g.place q is

      found_now : g.done ++ g.left ≡ g.done ++ q ∷ (this_region).0
      found_now = ap (λ l. g.done ++ l) (this_region).1

      closed_now : g.done ++ q ∷ (this_region).0 ≡ r ∷ flat_map (children rows) g.done
      closed_now = sym found_now ∙ g.closed

      once_now : Once (g.done ++ q ∷ (this_region).0)
      once_now = subst Once found_now g.once

      reach_now : (s : State) → IsDomain rows regions s → ReachedFrom s r (g.done ++ q ∷ (this_region).0)
      reach_now s d = subst (ReachedFrom s r) found_now (g.reach s d)

      pub room_for_children : (s : State) → IsDomain rows regions s → owner_in s.rows r ≡ Some (In r) → length s.rows ≤ old.spare → HasChildRoom rows q (region_targets rows q) now
      room_for_children s d b room =
          let all = (g.done ++ q ∷ (this_region).0) ++ children rows q in
          omega (
            arith,
            room,
            (g.lists).room,
            ap length found_now,
            length-append (g.done ++ q ∷ (this_region).0) (children rows q),
            no_more_than_rows rows regions s d r all b (reached_on rows regions s d r q g.done (this_region).0 (reach_now s d)) (once_on rows regions s d r q g.done (this_region).0 (reach_now s d) closed_now once_now),
          )

      module _ (after : WorkList) (found : Bool) (looks : Looks rows regions q (region_targets rows q) now after found) where
        pub found_lists : Lists old after ((g.done ++ g.left) ++ children rows q)
        found_lists = lists_on old now after (g.done ++ g.left) (children rows q) g.lists looks.lists

        pub found_below : found ≡ true → (s : State) → IsDomain rows regions s → IsOpenBelow s r true
        found_below e s d =
            let x = some_is_borrowed rows regions s d (children rows q) (sym looks.told ∙ e) in
            (x.0, (below_next rows regions s d r q x.0 (reach_now s d q (Member_right q g.done (q ∷ (this_region).0) (inl refl))) (is_owned_child rows regions s d q x.0 x.1.0), x.1.1))

        -- the place comes nearer to the end of the list's room
        pub less_left : at < length now.suspects → after.spare + length after.suspects - (at + 1) < now.spare + length now.suspects - at
        less_left less = omega (arith, less, lists_longer now after (children rows q) looks.lists, (looks.lists).room)

        pub walk_on : (s : State) → IsDomain rows regions s → found ≡ false → Walking (at + 1) after
        walk_on s0 d0 e = record {
          done = g.done ++ q ∷ [];
          left = (this_region).0 ++ children rows q;
          place = omega (arith, g.place, length-append g.done (q ∷ []));
          lists = subst (Lists old after) all found_lists;
          closed = sym all ∙ ap (λ l. l ++ children rows q) g.closed ∙ ap (λ l. r ∷ l) (sym (flat_more (children rows) g.done q));
          shut = ap (some_borrowed regions) (flat_more (children rows) g.done q) ∙ list_any-append (λ c. ltb 0 (borrowed_of regions c)) (flat_map (children rows) g.done) (children rows q)
              ∙ (λ i. g.shut i || (sym looks.told ∙ e) i);
          once = subst Once regrouped (once_on rows regions s0 d0 r q g.done (this_region).0 (reach_now s0 d0) closed_now once_now);
          reach = λ s d. subst (ReachedFrom s r) regrouped (reached_on rows regions s d r q g.done (this_region).0 (reach_now s d));
        } where
          regrouped : (g.done ++ q ∷ (this_region).0) ++ children rows q ≡ (g.done ++ q ∷ []) ++ ((this_region).0 ++ children rows q)
          regrouped = append_assoc g.done (q ∷ (this_region).0) (children rows q) ∙ sym (append_assoc g.done (q ∷ []) ((this_region).0 ++ children rows q))

          all : (g.done ++ g.left) ++ children rows q ≡ (g.done ++ q ∷ []) ++ ((this_region).0 ++ children rows q)
          all = ap (λ l. l ++ children rows q) found_now ∙ regrouped

    -- all that was found was looked into
    pub none_below : length now.suspects ≤ at → (s : State) → IsDomain rows regions s → IsOpenBelow s r false
    none_below most s d q up =
        let over : g.left ≡ [] = none_left old now g.done g.left at g.lists g.place most in
        let all : g.done ≡ r ∷ flat_map (children rows) g.done = sym (ap (λ l. g.done ++ l) over ∙ append-nil g.done) ∙ g.closed in
        let inside : (p t : ObjId) → has_name g.done p ≡ true → owns s p t ≡ true → Member t (flat_map (children rows) g.done) = λ p t h o.
        Member_flat_map (children rows) p t g.done (has_name_Member p g.done h) (is_child_owned rows regions s d p t o) in
        let below : has_name g.done q ≡ true = all_below rows regions s d g.done (λ p t h o. Member_has_name t g.done (subst (Member t) (sym all) (inr (inside p t h o)))) r q up (Member_has_name r g.done (subst (Member r) (sym all) (inl refl))) in
        elim (subst (Member q) all (has_name_Member q g.done below)) as (λ _. borrowed s q ≡ 0) [
          | inl e ↦ absurd (not_itself rows regions s d r (subst (Above s r) (sym e) up))
          | inr m ↦ none_is_borrowed rows regions s d (flat_map (children rows) g.done) g.shut q m
        ]
