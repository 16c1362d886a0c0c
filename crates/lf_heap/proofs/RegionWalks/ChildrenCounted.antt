-- Whether a region is open, and how many of those are that a region owns directly.
use Rattle.std.proofs.Common.{Bool, List, Some, [], ap, arith, cond, count_by, false, filter, inl, inr, length, refl, reverse, slice_get, subst, sym, true, ℕ, ◌&&◌, ◌+◌, ◌++◌, ◌*◌, ◌<◌, ◌∙◌, ◌∷◌, ◌≡◌, ◌≤◌}
use Rattle.std.proofs.lemmas.Bool.{and_from, and_parts, false_from_ne_true}
use Rattle.std.proofs.lemmas.List.{append-nil, append_assoc, length-append}
use Rattle.std.proofs.lemmas.List.Sums.{length-filter, sum_by-cons}
use Rattle.lf_base.specs.declared.ids.ObjId.{ObjId}
use Rattle.lf_base.specs.declared.values.Owner.TheVariants.{In}
use Rattle.lf_base.specs.Names.{same_name}
use Rattle.lf_base.specs.Owners.{bridges, is_bridge, names, owner_in}
use Rattle.lf_base.specs.Ownership.{below, direct, owns}
use Rattle.lf_base.specs.PlainState.{State}
use Rattle.lf_base.specs.Sets.{Differ, Member}
use Rattle.lf_base.specs.Suspects.{Region as region_place}
use Rattle.lf_base.specs.WalkCounts.{is_open, open_children}
use Rattle.lf_base.proofs.ListLemmas.Filters.{Member_filter, Member_of_filter}
use Rattle.lf_base.proofs.ListLemmas.Members.{Member_right}
use Rattle.lf_base.proofs.ListLemmas.Sublists.{count_sub, sub_filter}
use Rattle.lf_base.proofs.ListLemmas.Tests.{none_any, none_count}
use Rattle.lf_base.proofs.NameLemmas.NameOrder.{order_differ}
use Rattle.lf_base.proofs.NameLemmas.SameNames.{same_name_is}
use Rattle.lf_domain.specs.Counts.{IsDomain}
use Rattle.lf_domain.proofs.CountedEdges.{region_there}
use Rattle.lf_domain.proofs.StoreEdges.{owner_told}
use Rattle.lf_base.specs.EdgeLists.{near_edges}
use Rattle.lf_graph.specs.StoredRows.{CountedRow}
use Rattle.lf_laws.proofs.Edges.EdgeParts.{count_app}
use Rattle.lf_laws.proofs.Owners.OwnersGoRound.{bridge_listed}
use Rattle.lf_laws.proofs.Owners.PathsOfSets.{open_path}
use Rattle.lf_regions.specs.declared.region.Region.{Region}
use Rattle.lf_regions.specs.Regions.{borrowed_of, has_region}
use Rattle.lf_settle.specs.WorkLists.{WorkList}
use Rattle.lf_heap.specs.Openness.{IsOpenBelow, Lists, children}
use Rattle.lf_heap.proofs.RegionWalks.FoundLists.{left_from, lists_longer, none_left, region_listed}
use Rattle.lf_heap.proofs.RegionWalks.OwnedOnce.{Once, children_once, is_owned_child, no_more_than, no_more_than_rows, owned_is_bridge, times}
use Rattle.lf_heap.proofs.RegionWalks.WalksDown.{borrowed_is, is_child_owned}

-- ---- names that differ stand in a list once
once_differ : (os : List ObjId) → Differ same_name os → Once os
once_differ [] d t = omega arith
once_differ (o ∷ os) d t = elim (same_name o t) as (λ b. same_name o t ≡ b → times t (o ∷ os) ≤ 1) [
  | true ↦ λ e.
      let none : times t os ≡ 0 = none_count (λ p. same_name p t) os (λ p m. ap (same_name p) (sym (same_name_is o t e)) ∙ none_any (λ p. same_name p o) os d.0 p m) in
      omega (arith, none, sum_by-cons (λ p. cond (same_name p t) 1 0) o os, ap {B = ℕ} (λ b. cond b 1 0) e)
  | false ↦ λ e. omega (arith, once_differ os d.1 t, sum_by-cons (λ p. cond (same_name p t) 1 0) o os, ap {B = ℕ} (λ b. cond b 1 0) e)
] refl

once_filter : (p : ObjId → Bool) (os : List ObjId) → Once os → Once (filter p os)
once_filter p os once t = omega (arith, once t, count_sub (λ o. same_name o t) (λ o. same_name o t) (λ o h. h) (sub_filter p os))

-- of names that stand in a list once, no more pass a test than in a list that has those that pass
pub no_more_pass : (p q : ObjId → Bool) (os ps : List ObjId) → Once os → ((o : ObjId) → Member o os → p o ≡ true → Member o ps × (q o ≡ true)) → count_by p os ≤ count_by q ps
no_more_pass p q os ps once passes = omega (
  arith,
  length-filter p os,
  length-filter q ps,
  no_more_than (filter p os) (filter q ps) (once_filter p os once) (λ o m.
      let f = Member_of_filter p o os m in
      let k = passes o f.0 f.1 in
      Member_filter q o ps k.0 k.1),
)

-- ---- an open region
module _ (rows : List CountedRow) (regions : List Region) (s : State) (d : IsDomain rows regions s) where
  pub region_counted : (r : ObjId) → owner_in s.rows r ≡ Some (In r) → has_region regions r ≡ true
  region_counted r b = region_there rows regions s.rows (near_edges s) r d.counts (d.well_formed).bridge r (sym (owner_told rows s.rows r ((d.counts).store).rows) ∙ b)

  pub open_itself : (r : ObjId) → 0 < borrowed_of regions r → true ≡ is_open s r
  open_itself r some = sym ((open_path s r).1 (inl (subst (λ n. 0 < n) (borrowed_is rows regions s d r) some)))

  pub open_by_others : (r : ObjId) (found : Bool) → borrowed_of regions r ≤ 0 → IsOpenBelow s r found → found ≡ is_open s r
  open_by_others r true none x = sym ((open_path s r).1 (inr x))
  open_by_others r false none x = sym (false_from_ne_true _ (λ h. elim ((open_path s r).0 h) as (λ _. ⊥) [
    | inl some ↦ omega (arith, none, some, borrowed_is rows regions s d r)
    | inr below ↦ omega (arith, x below.0 below.1.0, below.1.1)
  ]))

  -- ---- the regions that a region owns
  pub children_counted : (r : ObjId) → count_by (is_open s) (children rows r) ≡ open_children s r
  children_counted r =
      let differ : Once (bridges s) = once_filter (is_bridge s.rows) (names s.rows) (once_differ (names s.rows) (order_differ (names s.rows) (d.well_formed).rows_rise)) in
      omega (
        arith,
        no_more_pass (is_open s) (λ c. owns s r c && is_open s c) (children rows r) (bridges s) (children_once rows regions s d r) (λ c m o.
            let own = is_owned_child rows regions s d r c m in
            (bridge_listed s r c own, and_from (owns s r c) (is_open s c) own o)),
        no_more_pass (λ c. owns s r c && is_open s c) (is_open s) (bridges s) (children rows r) differ (λ c m o.
            let p = and_parts (owns s r c) (is_open s c) o in
            (is_child_owned rows regions s d r c p.0, p.1)),
      )

  pub few_children : (r : ObjId) → owner_in s.rows r ≡ Some (In r) → length (children rows r) ≤ length s.rows
  few_children r b = no_more_than_rows rows regions s d r (children rows r) b (λ t m. inr (direct (is_owned_child rows regions s d r t m))) (children_once rows regions s d r)

-- ---- the children gone over one by one
module _ (rows : List CountedRow) (regions : List Region) (r : ObjId) (old : WorkList) where
  pub record CountingOpen (at count : ℕ) (now : WorkList) : Type 0 where
    pub done : List ObjId
    pub left : List ObjId
    pub split : children rows r ≡ done ++ left
    pub place : at ≡ length old.suspects + length done
    pub lists : Lists old now (done ++ left)
    pub counted : (s : State) → IsDomain rows regions s → count ≡ count_by (is_open s) done
    pub few : count ≤ length done

  pub counting_begins : (now : WorkList) → Lists old now (children rows r) → CountingOpen (length old.suspects) 0 now
  counting_begins now f = record { done = []; left = children rows r; split = refl; place = omega arith; lists = f; counted = λ s d. refl; few = omega arith }

  module _ (at count : ℕ) (now : WorkList) (g : CountingOpen at count now) where
    pub room_for_walk : (s : State) → IsDomain rows regions s → owner_in s.rows r ≡ Some (In r) → 2 * length s.rows ≤ old.spare → length s.rows ≤ now.spare
    room_for_walk s d b room = omega (arith, room, (g.lists).room, ap length g.split, few_children rows regions s d r b)

    listed : length now.suspects ≡ length old.suspects + length (children rows r)
    listed = omega (arith, lists_longer old now (g.done ++ g.left) g.lists, ap length g.split)

    pub child_there : at < length old.suspects + length (children rows r) → (c : ObjId) × (slice_get (reverse now.suspects) at ≡ Some (region_place c))
    child_there less = region_listed old now g.done g.left at g.lists g.place (omega (arith, less, listed))

    pub all_counted : length old.suspects + length (children rows r) ≤ at → (s : State) → IsDomain rows regions s → count ≡ open_children s r
    all_counted most s d =
        let over : g.left ≡ [] = none_left old now g.done g.left at g.lists g.place (omega (arith, most, listed)) in
        let all : children rows r ≡ g.done = g.split ∙ ap (λ l. g.done ++ l) over ∙ append-nil g.done in
        g.counted s d ∙ ap (count_by (is_open s)) (sym all) ∙ children_counted rows regions s d r

    module _ (c : ObjId) (is : slice_get (reverse now.suspects) at ≡ Some (region_place c)) where
      this_child : (rest : List ObjId) × (g.left ≡ c ∷ rest)
      this_child = left_from old now g.done g.left at g.lists g.place c is

      split_here : children rows r ≡ g.done ++ c ∷ (this_child).0
      split_here = g.split ∙ ap (λ l. g.done ++ l) (this_child).1

      split_next : children rows r ≡ (g.done ++ c ∷ []) ++ (this_child).0
      split_next = split_here ∙ sym (append_assoc g.done (c ∷ []) (this_child).0)

      pub child_is_bridge : (s : State) → IsDomain rows regions s → owner_in s.rows c ≡ Some (In c)
      child_is_bridge s d = owned_is_bridge rows regions s d r c (is_owned_child rows regions s d r c (subst (Member c) (sym split_here) (Member_right c g.done (c ∷ (this_child).0) (inl refl))))

      module _ (more : ℕ) (found : Bool) (told : (s : State) → IsDomain rows regions s → owner_in s.rows c ≡ Some (In c) → found ≡ is_open s c) (is_more : more ≡ count + cond found 1 0) where
        pub counting_on : (after : WorkList) → after ≡ now → CountingOpen (at + 1) more after
        counting_on after same = record {
          done = g.done ++ c ∷ [];
          left = (this_child).0;
          split = split_next;
          place = omega (arith, g.place, length-append g.done (c ∷ []));
          lists = subst (λ w. Lists old w ((g.done ++ c ∷ []) ++ (this_child).0)) (sym same) (subst (Lists old now) (sym g.split ∙ split_next) g.lists);
          counted = λ s d. omega (
            arith,
            is_more,
            g.counted s d,
            ap {B = ℕ} (λ b. cond b 1 0) (told s d (child_is_bridge s d)),
            count_app (is_open s) g.done (c ∷ []),
            sum_by-cons (λ o. cond (is_open s o) 1 0) c [],
          );
          few = omega (arith, is_more, bit_low found, g.few, length-append g.done (c ∷ []));
        } where
          bit_low : (b : Bool) → cond b 1 0 ≤ 1
          bit_low true = omega arith
          bit_low false = omega arith
