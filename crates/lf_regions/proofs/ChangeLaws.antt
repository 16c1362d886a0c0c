-- What the changes of a list of regions do to each name.
use Rattle.std.proofs.Common.{◌≡◌, ◌∙◌, ◌&&◌, ◌||◌, ◌↔◌, List, [], ◌∷◌, Option, Some, None, ap, Bool, cond, false, map, not, refl, sym, true, inl, inr, subst, unwrap_or, option_map}
use Rattle.std.proofs.lemmas.Bool.{both_ways, or_parts}
use Rattle.std.proofs.Math.Bool.{or_assoc, or_comm}
use Rattle.std.specs.List.{find}
use Rattle.lf_base.specs.declared.ids.ObjId.{ObjId}
use Rattle.lf_base.specs.Names.{name_below, same_name}
use Rattle.lf_base.specs.Sets.{InOrder, Member}
use Rattle.lf_base.proofs.ListLemmas.Members.{Member_any, Member_map, Member_of_map, any_Member}
use Rattle.lf_base.proofs.ListLemmas.Sublists.{order_all, order_tail}
use Rattle.lf_base.proofs.NameLemmas.NameOrder.{below_apart, below_asym, name_below_trans, not_below_itself}
use Rattle.lf_base.proofs.NameLemmas.SameNames.{other_way, same_name_is, same_name_itself}
use Rattle.lf_regions.specs.declared.region.Region.{Region}
use Rattle.lf_regions.specs.NextName.{is_above, next_name}
use Rattle.lf_regions.specs.RegionChanges.{new_region, with_region, without_region}
use Rattle.lf_regions.specs.Regions.{InNameOrder, has_region, region_named, region_names}

-- what a search finds is in the list and passes
module _ {X : Type 0} (p : X → Bool) where
  pub found_in : (xs : List X) (y : X) → find p xs ≡ Some y → Member y xs × (p y ≡ true)
  found_in [] y e = absurd (cc)
  found_in (x ∷ xs) y e = go (p x) refl e (found_in xs y)
    where
      go : (b : Bool) → p x ≡ b → cond b (Some x) (find p xs) ≡ Some y → (find p xs ≡ Some y → Member y xs × (p y ≡ true)) → Member y (x ∷ xs) × (p y ≡ true)
      go true test e later = let same : x ≡ y = ap (λ o. unwrap_or o x) e in (inl same, ap p (sym same) ∙ test)
      go false test e later = let found = later e in (inr found.0, found.1)

  none_in : (xs : List X) → find p xs ≡ None → (y : X) → Member y xs → p y ≡ false
  none_in [] e y m = absurd m
  none_in (x ∷ xs) e y m = go (p x) refl e m (λ later there. none_in xs later y there)
    where
      go : (b : Bool) → p x ≡ b → cond b (Some x) (find p xs) ≡ None → Member y (x ∷ xs) → (find p xs ≡ None → Member y xs → p y ≡ false) → p y ≡ false
      go true test e m later = absurd (cc)
      go false test e (inl same) later = ap p (sym same) ∙ test
      go false test e (inr m) later = later e m

  none_from : (xs : List X) → ((y : X) → Member y xs → p y ≡ false) → find p xs ≡ None
  none_from [] h = refl
  none_from (x ∷ xs) h = ap (λ b. cond b (Some x) (find p xs)) (h x (inl refl)) ∙ none_from xs (λ y m. h y (inr m))

pub region_found : (regions : List Region) (r : ObjId) (region : Region) → region_named regions r ≡ Some region → Member region regions × (region.name ≡ r)
region_found regions r region e =
    let found = found_in (λ (x : Region). same_name x.name r) regions region e in
    (found.0, same_name_is region.name r found.1)

pub name_there : (regions : List Region) (r : ObjId) → (has_region regions r ≡ true) ↔ Member r (region_names regions)
name_there regions r = (
  λ e. let found = any_Member (λ (x : Region). same_name x.name r) regions e in
      subst (λ q. Member q (region_names regions)) (same_name_is found.0.name r found.1.1) (Member_map (λ (x : Region). x.name) found.0 regions found.1.0),
  λ m. let found = Member_of_map (λ (x : Region). x.name) r regions m in
      Member_any (λ (x : Region). same_name x.name r) found.0 regions found.1.0 (ap (λ n. same_name n r) found.1.1 ∙ same_name_itself r),
)

pub each_region_found : (regions : List Region) (region : Region) → InNameOrder regions → Member region regions → region_named regions region.name ≡ Some region
each_region_found [] region o m = absurd m
each_region_found (x ∷ xs) region o (inl same) =
    ap (λ b. cond b (Some x) (region_named xs region.name)) (ap (λ (y : Region). same_name y.name region.name) same ∙ same_name_itself region.name) ∙ ap (λ (y : Region). Some y) same
each_region_found (x ∷ xs) region o (inr m) =
    let apart = below_apart x.name region.name (order_all name_below name_below_trans x.name (region_names xs) o region.name (Member_map (λ (y : Region). y.name) region xs m)) in
    ap (λ b. cond b (Some x) (region_named xs region.name)) apart ∙ each_region_found xs region (order_tail name_below name_below_trans x.name (region_names xs) o) m

-- a new region
pub made_other : (regions : List Region) (r q : ObjId) → same_name r q ≡ false → region_named (with_region regions r) q ≡ region_named regions q
made_other [] r q differ = ap (λ b. cond b (Some (new_region r)) None) differ
made_other (x ∷ xs) r q differ =
    elim (name_below r x.name) as (λ b. region_named (cond b (new_region r ∷ x ∷ xs) (x ∷ with_region xs r)) q ≡ region_named (x ∷ xs) q) [
      | true ↦ ap (λ b. cond b (Some (new_region r)) (region_named (x ∷ xs) q)) differ
      | false ↦ ap (λ o. cond (same_name x.name q) (Some x) o) (made_other xs r q differ)
    ]

pub made_is_found : (regions : List Region) (r : ObjId) → has_region regions r ≡ false → region_named (with_region regions r) r ≡ Some (new_region r)
made_is_found [] r absent = ap (λ b. cond b (Some (new_region r)) None) (same_name_itself r)
made_is_found (x ∷ xs) r absent =
    let apart = or_parts (same_name x.name r) (has_region xs r) absent in
    elim (name_below r x.name) as (λ b. region_named (cond b (new_region r ∷ x ∷ xs) (x ∷ with_region xs r)) r ≡ Some (new_region r)) [
      | true ↦ ap (λ b. cond b (Some (new_region r)) (region_named (x ∷ xs) r)) (same_name_itself r)
      | false ↦ ap (λ b. cond b (Some x) (region_named (with_region xs r) r)) apart.0 ∙ made_is_found xs r apart.1
    ]

pub made_names : (regions : List Region) (r q : ObjId) → has_region (with_region regions r) q ≡ (same_name r q || has_region regions q)
made_names [] r q = refl
made_names (x ∷ xs) r q =
    elim (name_below r x.name) as (λ b. has_region (cond b (new_region r ∷ x ∷ xs) (x ∷ with_region xs r)) q ≡ (same_name r q || has_region (x ∷ xs) q)) [
      | true ↦ refl
      | false ↦ ap (λ b. same_name x.name q || b) (made_names xs r q)
          ∙ sym (or_assoc (same_name x.name q) (same_name r q) (has_region xs q))
          ∙ ap (λ b. b || has_region xs q) (or_comm (same_name x.name q) (same_name r q))
          ∙ or_assoc (same_name r q) (same_name x.name q) (has_region xs q)
    ]

-- the end of a region
pub ended_other : (regions : List Region) (r q : ObjId) → same_name r q ≡ false → region_named (without_region regions r) q ≡ region_named regions q
ended_other [] r q differ = refl
ended_other (x ∷ xs) r q differ = go (same_name x.name r) refl (ended_other xs r q differ)
  where
    go : (b : Bool) → same_name x.name r ≡ b → region_named (without_region xs r) q ≡ region_named xs q
        → region_named (cond (not b) (x ∷ without_region xs r) (without_region xs r)) q ≡ cond (same_name x.name q) (Some x) (region_named xs q)
    go true test later = later ∙ sym (ap (λ b. cond b (Some x) (region_named xs q)) (ap (λ n. same_name n q) (same_name_is x.name r test) ∙ differ))
    go false test later = ap (λ o. cond (same_name x.name q) (Some x) o) later

pub ended_here : (regions : List Region) (r : ObjId) → region_named (without_region regions r) r ≡ None
ended_here [] r = refl
ended_here (x ∷ xs) r = go (same_name x.name r) refl (ended_here xs r)
  where
    go : (b : Bool) → same_name x.name r ≡ b → region_named (without_region xs r) r ≡ None
        → region_named (cond (not b) (x ∷ without_region xs r) (without_region xs r)) r ≡ None
    go true test later = later
    go false test later = ap (λ b. cond b (Some x) (region_named (without_region xs r) r)) test ∙ later

drop_same : (s h : Bool) → (not s && h) ≡ (not s && (s || h))
drop_same true h = refl
drop_same false h = refl

keep_other : (s c h : Bool) → (s ≡ true → c ≡ false) → (c || (not s && h)) ≡ (not s && (c || h))
keep_other true true h apart = apart refl
keep_other true false h apart = refl
keep_other false c h apart = refl

pub ended_has : (regions : List Region) (r q : ObjId) → has_region (without_region regions r) q ≡ (not (same_name r q) && has_region regions q)
ended_has [] r q = elim (same_name r q) as (λ b. false ≡ (not b && false)) [ true ↦ refl | false ↦ refl ]
ended_has (x ∷ xs) r q = go (same_name x.name r) refl (ended_has xs r q)
  where
    go : (b : Bool) → same_name x.name r ≡ b → has_region (without_region xs r) q ≡ (not (same_name r q) && has_region xs q)
        → has_region (cond (not b) (x ∷ without_region xs r) (without_region xs r)) q ≡ (not (same_name r q) && (same_name x.name q || has_region xs q))
    go true test later =
        later
        ∙ drop_same (same_name r q) (has_region xs q)
        ∙ ap (λ n. not (same_name r q) && (same_name n q || has_region xs q)) (sym (same_name_is x.name r test))
    go false test later =
        ap (λ b. same_name x.name q || b) later
        ∙ keep_other (same_name r q) (same_name x.name q) (has_region xs q) (λ e. ap (same_name x.name) (sym (same_name_is r q e)) ∙ test)

-- a write at one name, which keeps the names
module _ (r : ObjId) (f : Region → Region) (name_stays : (region : Region) → (f region).name ≡ region.name) where
  abbrev written_at : Region → Region
  written_at x = cond (same_name x.name r) (f x) x

  at_name : (x : Region) → (written_at x).name ≡ x.name
  at_name x = elim (same_name x.name r) as (λ b. (cond b (f x) x).name ≡ x.name) [ true ↦ name_stays x | false ↦ refl ]

  pub written_names : (regions : List Region) → region_names (map written_at regions) ≡ region_names regions
  written_names [] = refl
  written_names (x ∷ xs) = ap (λ n. n ∷ region_names (map written_at xs)) (at_name x) ∙ ap (λ l. x.name ∷ l) (written_names xs)

  pub written_named : (regions : List Region) (q : ObjId) → region_named (map written_at regions) q ≡ option_map written_at (region_named regions q)
  written_named [] q = refl
  written_named (x ∷ xs) q =
      ap (λ n. cond (same_name n q) (Some (written_at x)) (region_named (map written_at xs) q)) (at_name x)
      ∙ go (same_name x.name q) (written_named xs q)
    where
      go : (b : Bool) → region_named (map written_at xs) q ≡ option_map written_at (region_named xs q)
          → cond b (Some (written_at x)) (region_named (map written_at xs) q) ≡ option_map written_at (cond b (Some x) (region_named xs q))
      go true later = refl
      go false later = later

  pub written_other : (regions : List Region) (q : ObjId) → same_name r q ≡ false → region_named (map written_at regions) q ≡ region_named regions q
  written_other regions q differ = written_named regions q ∙ go (region_named regions q) refl
    where
      go : (o : Option Region) → region_named regions q ≡ o → option_map written_at o ≡ o
      go None e = refl
      go (Some y) e = ap (λ b. Some (cond b (f y) y)) (ap (λ n. same_name n r) (region_found regions q y e).1 ∙ other_way r q differ)

  pub written_here : (regions : List Region) (region : Region) → region_named regions r ≡ Some region → region_named (map written_at regions) r ≡ Some (f region)
  written_here regions region e =
      written_named regions r ∙ ap (option_map written_at) e
      ∙ ap (λ b. Some (cond b (f region) region)) (ap (λ n. same_name n r) (region_found regions r region e).1 ∙ same_name_itself r)

  pub written_order : (regions : List Region) → InNameOrder regions → InNameOrder (map written_at regions)
  written_order regions o = subst (InOrder name_below) (sym (written_names regions)) o

-- the next name
least_found : (p : ObjId → Bool) (ns : List ObjId) → InOrder name_below ns → (name other : ObjId) → find p ns ≡ Some name → Member other ns → p other ≡ true → name_below other name ≡ false
least_found p [] o name other e m pass = absurd m
least_found p (x ∷ xs) o name other e m pass = go (p x) refl e m (λ later there. least_found p xs (order_tail name_below name_below_trans x xs o) name other later there pass)
  where
    go : (b : Bool) → p x ≡ b → cond b (Some x) (find p xs) ≡ Some name → Member other (x ∷ xs) → (find p xs ≡ Some name → Member other xs → name_below other name ≡ false) → name_below other name ≡ false
    go true test e (inl same) later = ap (name_below other) (sym (ap (λ o. unwrap_or o x) e)) ∙ ap (λ n. name_below n x) (sym same) ∙ not_below_itself x
    go true test e (inr m) later =
        ap (name_below other) (sym (ap (λ o. unwrap_or o x) e))
        ∙ below_asym x other (order_all name_below name_below_trans x xs o other m)
    go false test e (inl same) later = absurd (both_ways (p other) (ap p (sym same) ∙ test) pass)
    go false test e (inr m) later = later e m

pub next_least : (regions : List Region) (after : Option ObjId) (name other : ObjId) → InNameOrder regions → next_name regions after ≡ Some name → Member other (region_names regions) → is_above after other ≡ true → name_below other name ≡ false
next_least regions after name other o = least_found (is_above after) (region_names regions) o name other

pub next_none : (regions : List Region) (after : Option ObjId) → (next_name regions after ≡ None) ↔ ((name : ObjId) → Member name (region_names regions) → is_above after name ≡ false)
next_none regions after = (none_in (is_above after) (region_names regions), none_from (is_above after) (region_names regions))
