-- What is read of a list of regions after a change: whether a name has a region, its number and its flag.
use Rattle.std.proofs.Common.{List, None, Option, Some, [], ap, cond, false, map, refl, sym, true, ◌||◌, ◌∙◌, ◌∷◌, ◌≡◌}
use Rattle.std.specs.Option.{option_map, option_map_or}
use Rattle.lf_base.specs.declared.ids.ObjId.{ObjId}
use Rattle.lf_base.specs.Names.{same_name}
use Rattle.lf_base.specs.Owners.{has_name}
use Rattle.lf_base.proofs.NameLemmas.SameNames.{same_name_is}
use Rattle.lf_regions.specs.declared.region.Region.{Region}
use Rattle.lf_regions.specs.RegionChanges.{new_region, with_region, without_region}
use Rattle.lf_regions.specs.Regions.{has_region, region_named, region_names}
use Rattle.lf_regions.proofs.ChangeLaws.{ended_here, ended_other, made_is_found, made_other, written_here, written_named, written_other}

-- the region of a name that is in the list
pub there_found : (regions : List Region) (r : ObjId) → has_region regions r ≡ true → (region : Region) × (region_named regions r ≡ Some region)
there_found [] r h = absurd (cc)
there_found (x ∷ xs) r h = elim (same_name x.name r) as (λ b. (b || has_region xs r) ≡ true → (y : Region) × (cond b (Some x) (region_named xs r) ≡ Some y)) [
  | true ↦ λ e. (x, refl)
  | false ↦ λ e. there_found xs r e
] h

absent_none : (regions : List Region) (r : ObjId) → has_region regions r ≡ false → region_named regions r ≡ None
absent_none [] r h = refl
absent_none (x ∷ xs) r h = elim (same_name x.name r) as (λ b. (b || has_region xs r) ≡ false → cond b (Some x) (region_named xs r) ≡ None) [
  | true ↦ λ e. absurd (cc)
  | false ↦ λ e. absent_none xs r e
] h

-- whether a name is there is told by the list of names
names_tell : (regions : List Region) (q : ObjId) → has_name (region_names regions) q ≡ has_region regions q
names_tell [] q = refl
names_tell (x ∷ xs) q = ap (λ b. same_name x.name q || b) (names_tell xs q)

pub same_names_tell : (xs ys : List Region) (q : ObjId) → region_names xs ≡ region_names ys → has_region xs q ≡ has_region ys q
same_names_tell xs ys q e = sym (names_tell xs q) ∙ ap (λ ns. has_name ns q) e ∙ names_tell ys q

-- what is read of a region, where one is found
module _ {X : Type 0} (read : Region → X) (none : X) where
  abbrev pub read_of : List Region → ObjId → X
  read_of regions q = option_map_or read (region_named regions q) none

  pub read_absent : (regions : List Region) (r : ObjId) → has_region regions r ≡ false → read_of regions r ≡ none
  read_absent regions r h = ap (λ t. option_map_or read t none) (absent_none regions r h)

  -- one answer for the name that is changed, and another one for other names
  by_name : (xs : List Region) (r q : ObjId) (x y : X) → read_of xs r ≡ x → (same_name r q ≡ false → read_of xs q ≡ y) → read_of xs q ≡ cond (same_name r q) x y
  by_name xs r q x y here other = elim (same_name r q) as (λ b. same_name r q ≡ b → read_of xs q ≡ cond b x y) [
    | true ↦ λ e. ap (read_of xs) (sym (same_name_is r q e)) ∙ here
    | false ↦ λ e. other e
  ] refl

  pub read_made : (regions : List Region) (r q : ObjId) → has_region regions r ≡ false → read (new_region r) ≡ none → read_of (with_region regions r) q ≡ read_of regions q
  read_made regions r q new blank = elim (same_name r q) as (λ b. same_name r q ≡ b → read_of (with_region regions r) q ≡ read_of regions q) [
    | true ↦ λ e.
        ap (read_of (with_region regions r)) (sym (same_name_is r q e))
        ∙ ap (λ t. option_map_or read t none) (made_is_found regions r new)
        ∙ blank
        ∙ sym (read_absent regions r new)
        ∙ ap (read_of regions) (same_name_is r q e)
    | false ↦ λ e. ap (λ t. option_map_or read t none) (made_other regions r q e)
  ] refl

  pub read_ended : (regions : List Region) (r q : ObjId) → read_of (without_region regions r) q ≡ cond (same_name r q) none (read_of regions q)
  read_ended regions r q = by_name (without_region regions r) r q none (read_of regions q)
      (ap (λ t. option_map_or read t none) (ended_here regions r))
      (λ e. ap (λ t. option_map_or read t none) (ended_other regions r q e))

  -- a write at one name, which keeps the names
  module _ (r : ObjId) (f : Region → Region) (name_stays : (region : Region) → (f region).name ≡ region.name) where
    abbrev written : List Region → List Region
    written regions = map (λ x. cond (same_name x.name r) (f x) x) regions

    -- of what is read
    pub read_written : (regions : List Region) (q : ObjId) (value : X) → has_region regions r ≡ true → ((region : Region) → read (f region) ≡ value)
        → read_of (written regions) q ≡ cond (same_name r q) value (read_of regions q)
    read_written regions q value there sets =
        let found = there_found regions r there in
        by_name (written regions) r q value (read_of regions q)
        (ap (λ t. option_map_or read t none) (written_here r f name_stays regions found.0 found.1) ∙ sets found.0)
        (λ e. ap (λ t. option_map_or read t none) (written_other r f name_stays regions q e))

    -- of something else
    pub read_stays : ((region : Region) → read (f region) ≡ read region) → (regions : List Region) (q : ObjId) → read_of (written regions) q ≡ read_of regions q
    read_stays stays regions q = ap (λ t. option_map_or read t none) (written_named r f name_stays regions q) ∙ go (region_named regions q)
      where
        go : (t : Option Region) → option_map_or read (option_map (λ x. cond (same_name x.name r) (f x) x) t) none ≡ option_map_or read t none
        go None = refl
        go (Some y) = elim (same_name y.name r) as (λ b. read (cond b (f y) y) ≡ read y) [ true ↦ stays y | false ↦ refl ]
