-- The rows that a freeze takes, found one after the other: they are those of the least set.
use Rattle.std.proofs.Common.{Bool, List, None, Option, Some, [], ap, cond, false, filter, inl, inr, length, map, refl, slice_get, subst, sym, true, ℕ, ◌&&◌, ◌+◌, ◌++◌, ◌||◌, ◌∙◌, ◌∷◌, ◌≡◌}
use Rattle.std.proofs.lemmas.Bool.{and_from, and_parts, or_cases, or_left}
use Rattle.std.proofs.lemmas.List.{append-nil, append_assoc, length-append}
use Rattle.std.proofs.lemmas.List.Folds.{list_any-append}
use Rattle.std.proofs.Math.Bool.{or-false, or-true}
use Rattle.std.specs.List.{list_any}
use Rattle.lf_base.specs.declared.ids.ObjId.{ObjId}
use Rattle.lf_base.specs.declared.values.Owner.{Owner}
use Rattle.lf_base.specs.declared.values.Owner.TheVariants.{Frozen, In, Local}
use Rattle.lf_base.specs.declared.values.Value.{Value}
use Rattle.lf_base.specs.Edges.{field_targets}
use Rattle.lf_base.specs.FreezeResult.{FreezeClosed, brings_in, freeze_set}
use Rattle.lf_base.specs.Names.{same_name, same_owner, targets_of_value}
use Rattle.lf_base.specs.Owners.{has_name, has_row, is_in}
use Rattle.lf_base.specs.PlainState.{Row, State}
use Rattle.lf_base.specs.Sets.{Differ, Member}
use Rattle.lf_base.specs.TouchedEdges.{row_fields}
use Rattle.lf_base.proofs.ListLemmas.Filters.{Member_filter, Member_of_filter}
use Rattle.lf_base.proofs.ListLemmas.Members.{Member_left, Member_map, Member_of_append, Member_of_map, Member_right}
use Rattle.lf_base.proofs.NameLemmas.SameNames.{same_name_flips, same_name_is, same_name_itself}
use Rattle.lf_barrier.proofs.Descents.OwnedRegions.{named_here}
use Rattle.lf_barrier.proofs.MovingEdges.FieldLoops.{fields_told}
use Rattle.lf_barrier.proofs.MovingEdges.RowLoops.{head_there}
use Rattle.lf_barrier.proofs.Surveys.SurveyRows.{head_at, none_at}
use Rattle.lf_domain.specs.Counts.{IsDomain}
use Rattle.lf_domain.proofs.StoreEdges.{owner_told, row_told}
use Rattle.lf_frozen.specs.declared.row.FrozenRow.{FrozenRow}
use Rattle.lf_graph.specs.RowOrder.{names_under}
use Rattle.lf_graph.specs.StoredRows.{AreRowsOf, CountedRow, HasRow, fields_at, is_under, owner_at, owner_by, plain, row_named, rows_of}
use Rattle.lf_graph.proofs.Stores.Reordered.{same_owner_is, same_owner_itself}
use Rattle.lf_laws.proofs.Dropping.RowsInPlace.{rows_in_place}
use Rattle.lf_laws.proofs.Owners.PathsOfSets.{freeze_closed, freeze_least, freeze_within}
use Rattle.lf_laws.proofs.Rows.OwnerTests.{in_region}
use Rattle.lf_laws.proofs.Rows.RowsByName.{Member_has_name, at_mem, has_append, has_name_Member, mem_has, owner_mem, row_there}
use Rattle.lf_regions.specs.declared.region.Region.{Region}
use Rattle.lf_transfer.specs.declared.taking.Taking.{Taking}
use Rattle.lf_transfer.specs.Taking.{IsTaking, Takes, brought, frozen_of, is_stored, owned_rows, region_of, region_with}
use Rattle.lf_transfer.proofs.Taken.TakenObjects.{differ_with}
use Rattle.lf_barrier.proofs.Surveys.SurveySteps.{has_if}

any_last : {X : Type 0} (p : X → Bool) (xs : List X) (x : X) → list_any p (xs ++ x ∷ []) ≡ (list_any p xs || p x)
any_last p xs x = list_any-append p xs (x ∷ []) ∙ ap (λ b. list_any p xs || b) (or-false (p x))

pub name_found : (rows : List CountedRow) (o : ObjId) (c : CountedRow) → row_named rows o ≡ Some c → (c.row).name ≡ o
name_found [] o c e = absurd (cc)
name_found (x ∷ xs) o c e =
    elim (same_name (x.row).name o) as (λ b. same_name (x.row).name o ≡ b → cond b (Some x) (row_named xs o) ≡ Some c → (c.row).name ≡ o) [
      | true ↦ λ h k. let same : x ≡ c = cc in ap (λ (y : CountedRow). (y.row).name) (sym same) ∙ same_name_is (x.row).name o h
      | false ↦ λ h k. name_found xs o c k
    ] refl e

found_there : (t : Option CountedRow) (w : Owner) → owner_by t ≡ Some w → (c : CountedRow) × ((t ≡ Some c) × ((c.row).owner ≡ w))
found_there None w e = absurd (cc)
found_there (Some c) w e = (c, (refl, (let z : (c.row).owner ≡ w = cc in z)))

pub row_found_member : (rows : List CountedRow) (o : ObjId) (c : CountedRow) → row_named rows o ≡ Some c → Member c rows
row_found_member [] o c e = absurd (cc)
row_found_member (x ∷ xs) o c e =
    elim (same_name (x.row).name o) as (λ b. cond b (Some x) (row_named xs o) ≡ Some c → Member c (x ∷ xs)) [
      | true ↦ λ k. inl (let z : x ≡ c = cc in z)
      | false ↦ λ k. inr (row_found_member xs o c k)
    ] e

-- ---- what a row brings in
region_is : (w : Option Owner) (r : ObjId) → region_of w ≡ Some r → w ≡ Some (In r)
region_is (Some (In q)) r e = let same : q ≡ r = cc in ap (λ n. Some (In n)) same
region_is (Some Local) r e = absurd (cc)
region_is (Some Frozen) r e = absurd (cc)
region_is None r e = absurd (cc)

module _ (rows : List CountedRow) (regions : List Region) (s : State) (d : IsDomain rows regions s) where
  abbrev a : AreRowsOf rows s.rows
  a = ((d.counts).store).rows

  pub owner_under : (r o : ObjId) → Member o (names_under (In r) rows) → owner_at rows o ≡ Some (In r)
  owner_under r o m =
      let x = Member_of_map (λ (y : Row). y.name) o (plain (rows_of (In r) rows)) m in
      let c = Member_of_map (λ (y : CountedRow). y.row) x.0 (rows_of (In r) rows) x.1.0 in
      let under = Member_of_filter (is_under (In r)) c.0 rows c.1.0 in
      let name : ((c.0).row).name ≡ o = ap (λ (y : Row). y.name) c.1.1 ∙ x.1.1 in
      ap (owner_at rows) (sym name) ∙ ap owner_by (named_here rows c.0 (a).differ under.0) ∙ ap Some (same_owner_is ((c.0).row).owner (In r) under.1)

  pub under_owner : (r o : ObjId) → owner_at rows o ≡ Some (In r) → Member o (names_under (In r) rows)
  under_owner r o e =
      let c = found_there (row_named rows o) (In r) e in
      let m : Member c.0 rows = row_found_member rows o c.0 c.1.0 in
      let inside : Member c.0 (rows_of (In r) rows) = Member_filter (is_under (In r)) c.0 rows m (ap (λ w. same_owner w (In r)) c.1.1 ∙ same_owner_itself (In r)) in
      subst (λ n. Member n (names_under (In r) rows)) (name_found rows o c.0 c.1.0)
      (Member_map (λ (y : Row). y.name) (c.0).row (plain (rows_of (In r) rows)) (Member_map (λ (y : CountedRow). y.row) c.0 (rows_of (In r) rows) inside))

  brought_bridge : (p o : ObjId) (t : Option ObjId) → region_of (owner_at rows p) ≡ t → Member o (owned_rows rows p t) → (owner_at rows p ≡ Some (In p)) × (owner_at rows o ≡ Some (In p))
  brought_bridge p o None e m = absurd m
  brought_bridge p o (Some r) e m =
      elim (same_name r p) as (λ b. same_name r p ≡ b → Member o (cond b (names_under (In r) rows) []) → (owner_at rows p ≡ Some (In p)) × (owner_at rows o ≡ Some (In p))) [
        | true ↦ λ h n. let same : r ≡ p = same_name_is r p h in
            (region_is (owner_at rows p) r e ∙ ap (λ q. Some (In q)) same, owner_under r o n ∙ ap (λ q. Some (In q)) same)
        | false ↦ λ h n. absurd n
      ] refl m

  bridge_brings : (p o : ObjId) → owner_at rows p ≡ Some (In p) → owner_at rows o ≡ Some (In p) → Member o (brought rows p)
  bridge_brings p o e f =
      Member_right o (field_targets (fields_at rows p)) (owned_rows rows p (region_of (owner_at rows p)))
      (subst (λ w. Member o (owned_rows rows p (region_of w))) (sym e) (subst (λ b. Member o (cond b (names_under (In p) rows) [])) (sym (same_name_itself p)) (under_owner p o f)))

  -- a row of the store is one of the state
  pub state_row : (o : ObjId) → HasRow rows o → (y : Row) × (Member y s.rows × (y.name ≡ o))
  state_row o h = row_there s.rows o (sym (row_told rows s.rows o a) ∙ h)

  store_row : (y : Row) → Member y s.rows → HasRow rows y.name
  store_row y m = row_told rows s.rows y.name a ∙ mem_has y s.rows m

  pub fields_is : (y : Row) → Member y s.rows → fields_at rows y.name ≡ y.fields
  fields_is y m = fields_told rows s.rows y.name a ∙ ap row_fields (at_mem s.rows (rows_in_place s d.well_formed).distinct y m)

  pub owner_is_at : (y : Row) → Member y s.rows → owner_at rows y.name ≡ Some (y.owner)
  owner_is_at y m = sym (owner_told rows s.rows y.name a) ∙ owner_mem s.rows (rows_in_place s d.well_formed).distinct y m

  brings : (x y : Row) → Member x s.rows → Member y s.rows → Member y.name (brought rows x.name) → brings_in x y ≡ true
  brings x y m n b = elim (Member_of_append y.name (field_targets (fields_at rows x.name)) (owned_rows rows x.name (region_of (owner_at rows x.name))) b) as (λ _. brings_in x y ≡ true) [
    | inl k ↦ or_left _ _ (Member_has_name y.name (field_targets x.fields) (subst (λ l. Member y.name (field_targets l)) (fields_is x m) k))
    | inr k ↦
        let z = brought_bridge x.name y.name (region_of (owner_at rows x.name)) refl k in
        let both : (is_in x.name (Some (x.owner)) && is_in x.name (Some (y.owner))) ≡ true =
        and_from _ _ (ap (is_in x.name) (sym (owner_is_at x m) ∙ z.0) ∙ same_name_itself x.name) (ap (is_in x.name) (sym (owner_is_at y n) ∙ z.1) ∙ same_name_itself x.name) in
        ap (λ c. has_name (field_targets x.fields) y.name || c) both ∙ or-true _
  ]

  brings_back : (x y : Row) → Member x s.rows → Member y s.rows → brings_in x y ≡ true → Member y.name (brought rows x.name)
  brings_back x y m n e = elim (or_cases (has_name (field_targets x.fields) y.name) (is_in x.name (Some (x.owner)) && is_in x.name (Some (y.owner))) e) as (λ _. Member y.name (brought rows x.name)) [
    | inl k ↦ Member_left y.name (field_targets (fields_at rows x.name)) (owned_rows rows x.name (region_of (owner_at rows x.name)))
        (subst (λ l. Member y.name (field_targets l)) (sym (fields_is x m)) (has_name_Member y.name (field_targets x.fields) k))
    | inr k ↦
        let p = and_parts (is_in x.name (Some (x.owner))) (is_in x.name (Some (y.owner))) k in
        bridge_brings x.name y.name (owner_is_at x m ∙ in_region x.name (Some (x.owner)) p.0) (owner_is_at y n ∙ in_region x.name (Some (y.owner)) p.1)
  ]

  -- ---- what is taken first, and what a row that is taken brings in
  pub first_within : (v : Value) (o : ObjId) → Member o (targets_of_value v) → HasRow rows o → has_row (freeze_set s v) o ≡ true
  first_within v o m h =
      let y = state_row o h in
      subst (λ n. has_row (freeze_set s v) n ≡ true) y.1.1 (mem_has y.0 (freeze_set s v) ((freeze_closed s v).first y.0 y.1.0 (subst (λ n. Member n (targets_of_value v)) (sym y.1.1) m)))

  pub next_within : (v : Value) (p o : ObjId) → has_row (freeze_set s v) p ≡ true → Member o (brought rows p) → HasRow rows o → has_row (freeze_set s v) o ≡ true
  next_within v p o k m h =
      let x = row_there (freeze_set s v) p k in
      let y = state_row o h in
      let b : brings_in x.0 y.0 ≡ true = brings x.0 y.0 (freeze_within s v x.0 x.1.0) y.1.0 (subst (λ n. Member n (brought rows (x.0).name)) (sym y.1.1) (subst (λ n. Member o (brought rows n)) (sym x.1.1) m)) in
      subst (λ n. has_row (freeze_set s v) n ≡ true) y.1.1 (mem_has y.0 (freeze_set s v) ((freeze_closed s v).next x.0 y.0 x.1.0 y.1.0 b))

  -- ---- all of it was found
  module _ (v : Value) (taken : List ObjId) (first : (o : ObjId) → Member o (targets_of_value v) → HasRow rows o → has_name taken o ≡ true)
      (next : (p o : ObjId) → has_name taken p ≡ true → Member o (brought rows p) → HasRow rows o → has_name taken o ≡ true) where
    abbrev named : Row → Bool
    named y = has_name taken y.name

    closed : FreezeClosed s v (filter named s.rows)
    closed = record {
      first = λ y m t. Member_filter named y s.rows m (first y.name t (store_row y m));
      next = λ x y m n e.
          let z = Member_of_filter named x s.rows m in
          Member_filter named y s.rows n (next x.name y.name z.1 (brings_back x y z.0 n e) (store_row y n));
    }

    pub all_found : (o : ObjId) → has_row (freeze_set s v) o ≡ true → has_name taken o ≡ true
    all_found o h =
        let x = row_there (freeze_set s v) o h in
        subst (λ n. has_name taken n ≡ true) x.1.1 (Member_of_filter named x.0 s.rows (freeze_least s v (filter named s.rows) closed x.0 x.1.0)).1

-- ---- the rows found one after the other
region_marked : (os : List ObjId) (w : Option Owner) (q : ObjId) → has_name (region_with os (region_of w)) q ≡ (has_name os q || is_in q w)
region_marked os (Some (In r)) q = has_if true os r q ∙ ap (λ b. has_name os q || b) (same_name_flips r q)
region_marked os (Some Local) q = sym (or-false _)
region_marked os (Some Frozen) q = sym (or-false _)
region_marked os None q = sym (or-false _)

region_differs : (os : List ObjId) (w : Option Owner) → Differ same_name os → Differ same_name (region_with os (region_of w))
region_differs os (Some (In r)) d = differ_with os r d
region_differs os (Some Local) d = d
region_differs os (Some Frozen) d = d
region_differs os None d = d

map_more : {X Y : Type 0} (f : X → Y) (xs : List X) (x : X) → map f (xs ++ x ∷ []) ≡ map f xs ++ f x ∷ []
map_more f [] x = refl
map_more f (y ∷ ys) x = ap (λ l. f y ∷ l) (map_more f ys x)

module _ (rows : List CountedRow) (v : Value) where
  abbrev Within : List ObjId → Type 0
  Within taken = (regions : List Region) (s : State) → IsDomain rows regions s → (o : ObjId) → has_name taken o ≡ true → has_row (freeze_set s v) o ≡ true

  pub record Finding (i : ℕ) (taken regions : List ObjId) (frozen : List FrozenRow) : Type 0 where
    pub done : List ObjId
    pub left : List ObjId
    pub count : length done ≡ i
    pub split : taken ≡ done ++ left
    pub there : (o : ObjId) → has_name taken o ≡ true → HasRow rows o
    pub differ : Differ same_name taken
    pub first : (o : ObjId) → Member o (targets_of_value v) → HasRow rows o → has_name taken o ≡ true
    pub next : (p o : ObjId) → has_name done p ≡ true → Member o (brought rows p) → HasRow rows o → has_name taken o ≡ true
    pub within : Within taken
    pub once : Differ same_name regions
    pub lies : (q : ObjId) → has_name regions q ≡ list_any (λ o. is_in q (owner_at rows o)) done
    pub copied : frozen ≡ map (frozen_of rows) done

  pub finding_begins : (none taken regions : List ObjId) (frozen : List FrozenRow) → none ≡ [] → regions ≡ [] → frozen ≡ [] → Takes (is_stored rows) (targets_of_value v) none taken → Finding 0 taken regions frozen
  finding_begins none taken regions frozen e f h t =
      let only : (o : ObjId) → has_name taken o ≡ true → Member o (targets_of_value v) × HasRow rows o = λ o k.
      elim (t.only o k) as (λ _. Member o (targets_of_value v) × HasRow rows o) [
        | inl m ↦ absurd (let z : false ≡ true = ap (λ l. has_name l o) (sym e) ∙ m in cc)
        | inr m ↦ m
      ] in
      record {
        done = [];
        left = taken;
        count = refl;
        split = refl;
        there = λ o k. (only o k).1;
        differ = t.differ (subst (Differ same_name) (sym e) tt);
        first = t.covered;
        next = λ p o k m r. absurd (let z : false ≡ true = k in cc);
        within = λ table s d o k. let z = only o k in first_within rows table s d v o z.0 z.1;
        once = subst (Differ same_name) (sym f) tt;
        lies = λ q. ap (λ l. has_name l q) f;
        copied = h;
      }

  module _ (i : ℕ) (taken regions : List ObjId) (frozen : List FrozenRow) (g : Finding i taken regions frozen) where
    module _ (p : ObjId) (at : Some p ≡ slice_get taken i) where
      next_left : (rest : List ObjId) × (g.left ≡ p ∷ rest)
      next_left = head_at g.done g.left i p g.count (at ∙ ap (λ l. slice_get l i) g.split)

      taken_now : taken ≡ g.done ++ p ∷ (next_left).0
      taken_now = g.split ∙ ap (λ l. g.done ++ l) (next_left).1

      is_taken : has_name taken p ≡ true
      is_taken = ap (λ l. has_name l p) taken_now ∙ has_append g.done (p ∷ (next_left).0) p ∙ ap (λ b. has_name g.done p || b) (head_there p (next_left).0) ∙ or-true (has_name g.done p)

      pub row_is_there : HasRow rows p
      row_is_there = g.there p is_taken

      pub finding_on : (after regions_after : List ObjId) (frozen_after : List FrozenRow) → Takes (is_stored rows) (brought rows p) taken after → regions_after ≡ region_with regions (region_of (owner_at rows p))
          → frozen_after ≡ frozen ++ frozen_of rows p ∷ [] → Finding (i + 1) after regions_after frozen_after
      finding_on after regions_after frozen_after t e f =
          let kept : (o : ObjId) → has_name taken o ≡ true → has_name after o ≡ true = λ o h. ap (λ l. has_name l o) t.grows ∙ has_append taken t.more o ∙ ap (λ b. b || has_name t.more o) h in
          record {
            done = g.done ++ p ∷ [];
            left = (next_left).0 ++ t.more;
            count = length-append g.done (p ∷ []) ∙ ap (λ n. n + 1) g.count;
            split = t.grows ∙ ap (λ l. l ++ t.more) taken_now ∙ append_assoc g.done (p ∷ (next_left).0) t.more ∙ sym (append_assoc g.done (p ∷ []) ((next_left).0 ++ t.more));
            there = λ o h. elim (t.only o h) as (λ _. HasRow rows o) [ inl k ↦ g.there o k | inr k ↦ k.1 ];
            differ = t.differ g.differ;
            first = λ o m h. kept o (g.first o m h);
            next = λ q o h m r. elim (or_cases (has_name g.done q) (has_name (p ∷ []) q) (sym (has_append g.done (p ∷ []) q) ∙ h)) as (λ _. has_name after o ≡ true) [
              | inl k ↦ kept o (g.next q o k m r)
              | inr k ↦
                  let same : p ≡ q = same_name_is p q (sym (or-false (same_name p q)) ∙ k) in
                  t.covered o (subst (λ n. Member o (brought rows n)) (sym same) m) r
            ];
            within = λ table s d o h. elim (t.only o h) as (λ _. has_row (freeze_set s v) o ≡ true) [
              | inl k ↦ g.within table s d o k
              | inr k ↦ next_within rows table s d v p o (g.within table s d p is_taken) k.0 k.1
            ];
            once = subst (Differ same_name) (sym e) (region_differs regions (owner_at rows p) g.once);
            lies = λ q. ap (λ l. has_name l q) e ∙ region_marked regions (owner_at rows p) q ∙ ap (λ b. b || is_in q (owner_at rows p)) (g.lies q) ∙ sym (any_last (λ o. is_in q (owner_at rows o)) g.done p);
            copied = f ∙ ap (λ l. l ++ frozen_of rows p ∷ []) g.copied ∙ sym (map_more (frozen_of rows) g.done p);
          }

    pub found_all : None ≡ slice_get taken i → taken ≡ g.done
    found_all none =
        let over : g.left ≡ [] = none_at g.done g.left i g.count (none ∙ ap (λ l. slice_get l i) g.split) in
        g.split ∙ ap (λ l. g.done ++ l) over ∙ append-nil g.done

pub found : (rows : List CountedRow) (v : Value) (i : ℕ) (all : Taking) (g : Finding rows v i (all.taken).keys (all.regions).keys all.rows) → None ≡ slice_get (all.taken).keys i → IsTaking rows v all
found rows v i all g none =
    let same = found_all rows v i (all.taken).keys (all.regions).keys all.rows g none in
    record {
      there = g.there;
      differ = g.differ;
      first = g.first;
      next = λ p o h m r. g.next p o (ap (λ l. has_name l p) (sym same) ∙ h) m r;
      once = g.once;
      lies = λ q. g.lies q ∙ ap (list_any (λ o. is_in q (owner_at rows o))) (sym same);
      copied = g.copied ∙ ap (map (frozen_of rows)) (sym same);
    }
