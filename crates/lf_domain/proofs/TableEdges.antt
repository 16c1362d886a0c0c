-- A table of regions that counts one edge more or one less.
use Rattle.std.proofs.Common.{Bool, List, ap, arith, cond, false, refl, sym, true, ℕ, ◌+◌, ◌||◌, ◌∙◌, ◌∷◌, ◌≡◌, ◌≤◌}
use Rattle.std.specs.List.{count_by, list_any}
use Rattle.lf_base.specs.declared.ids.ObjId.{ObjId}
use Rattle.lf_base.specs.EdgeLists.{SameEdges}
use Rattle.lf_base.specs.Edges.{Edge}
use Rattle.lf_base.specs.Names.{same_name}
use Rattle.lf_base.specs.Owners.{is_bridge}
use Rattle.lf_base.specs.PlainState.{Row}
use Rattle.lf_base.specs.WalkCounts.{borrows}
use Rattle.lf_base.proofs.NameLemmas.SameNames.{same_name_is}
use Rattle.lf_regions.specs.declared.region.Region.{Region}
use Rattle.lf_regions.specs.RegionChanges.{with_borrowed, with_owned}
use Rattle.lf_regions.specs.Regions.{borrowed_of, has_region, owned_of}
use Rattle.lf_regions.specs.TableCounts.{IsTableOf, owns_region}
use Rattle.lf_regions.proofs.RegionNumbers.{read_stays, read_written, same_names_tell}
use Rattle.lf_regions.proofs.ChangeLaws.{written_names}
use Rattle.lf_domain.proofs.EdgeTests.{any_counts, count_cons, left_of, same_any, some_of}

-- ---- what is read of the table after a change of one region
module _ (regions : List Region) (r q : ObjId) where
  pub has_borrowed : (n : ℕ) → has_region (with_borrowed regions r n) q ≡ has_region regions q
  has_borrowed n = same_names_tell (with_borrowed regions r n) regions q (written_names r (λ x. record x { borrowed = n }) (λ x. refl) regions)

  pub has_owned : (b : Bool) → has_region (with_owned regions r b) q ≡ has_region regions q
  has_owned b = same_names_tell (with_owned regions r b) regions q (written_names r (λ x. record x { owned = b }) (λ x. refl) regions)

  pub number_borrowed : (n : ℕ) → has_region regions r ≡ true → borrowed_of (with_borrowed regions r n) q ≡ cond (same_name r q) n (borrowed_of regions q)
  number_borrowed n there = read_written (λ (x : Region). x.borrowed) 0 r (λ x. record x { borrowed = n }) (λ x. refl) regions q n there (λ x. refl)

  pub number_owned : (b : Bool) → borrowed_of (with_owned regions r b) q ≡ borrowed_of regions q
  number_owned b = read_stays (λ (x : Region). x.borrowed) 0 r (λ x. record x { owned = b }) (λ x. refl) (λ x. refl) regions q

  pub flag_borrowed : (n : ℕ) → owned_of (with_borrowed regions r n) q ≡ owned_of regions q
  flag_borrowed n = read_stays (λ (x : Region). x.owned) false r (λ x. record x { borrowed = n }) (λ x. refl) (λ x. refl) regions q

  pub flag_owned : (b : Bool) → has_region regions r ≡ true → owned_of (with_owned regions r b) q ≡ cond (same_name r q) b (owned_of regions q)
  flag_owned b there = read_written (λ (x : Region). x.owned) false r (λ x. record x { owned = b }) (λ x. refl) regions q b there (λ x. refl)

-- a number by the name that was written or another one
pub by_name : (f : ObjId → ℕ) (g : ℕ → ℕ) (r q : ObjId) → cond (same_name r q) (g (f r)) (f q) ≡ cond (same_name r q) (g (f q)) (f q)
by_name f g r q = elim (same_name r q) as (λ b. same_name r q ≡ b → cond b (g (f r)) (f q) ≡ cond b (g (f q)) (f q)) [
  | true ↦ λ t. ap (λ p. g (f p)) (same_name_is r q t)
  | false ↦ λ t. refl
] refl

-- ---- one edge
module _ (regions : List Region) (of : List Row) (es : List Edge) (t : IsTableOf regions of es) (e : Edge) where
  -- what an edge more, and an edge less, make of the table
  pub record More (after : List Region) : Type 0 where
    pub there : (r : ObjId) → has_region after r ≡ has_region regions r
    pub borrowed : (r : ObjId) → is_bridge of r ≡ true → borrowed_of after r ≡ cond (borrows of r e) 1 0 + borrowed_of regions r
    pub owned : (r : ObjId) → is_bridge of r ≡ true → owned_of after r ≡ (owns_region of r e || owned_of regions r)

  pub record Less (after : List Region) : Type 0 where
    pub there : (r : ObjId) → has_region after r ≡ has_region regions r
    pub borrowed : (r : ObjId) → is_bridge of r ≡ true → cond (borrows of r e) 1 0 + borrowed_of after r ≡ borrowed_of regions r
    pub owned : (r : ObjId) → is_bridge of r ≡ true → owned_of after r ≡ cond (owns_region of r e) false (owned_of regions r)

  pub table_more : (after : List Region) → More after → IsTableOf after of (e ∷ es)
  table_more after m = record {
    regions = λ r. m.there r ∙ t.regions r;
    borrowed = λ r b. m.borrowed r b ∙ ap (λ n. cond (borrows of r e) 1 0 + n) (t.borrowed r b) ∙ sym (count_cons (borrows of r) e es);
    owned = λ r b. m.owned r b ∙ ap (λ x. owns_region of r e || x) (t.owned r b);
  }

  module _ (fs : List Edge) (same : SameEdges es (e ∷ fs)) where
    -- of a region that the edge owns no other edge is an owner
    no_other : (r : ObjId) → count_by (owns_region of r) es ≤ 1 → owns_region of r e ≡ true → list_any (owns_region of r) fs ≡ false
    no_other r one h =
        let a : cond (owns_region of r e) 1 0 ≡ 1 = ap {B = ℕ} (λ c. cond c 1 0) h in
        let n : count_by (owns_region of r) fs ≡ 0 = omega (arith, a, one, same (owns_region of r), count_cons (owns_region of r) e fs) in
        any_counts (owns_region of r) fs ∙ ap some_of n

    flag_left : (r : ObjId) → (owns_region of r e ≡ true → count_by (owns_region of r) es ≤ 1) → is_bridge of r ≡ true
        → cond (owns_region of r e) false (owned_of regions r) ≡ list_any (owns_region of r) fs
    flag_left r one b = elim (owns_region of r e) as (λ x. owns_region of r e ≡ x → cond x false (owned_of regions r) ≡ list_any (owns_region of r) fs) [
      | true ↦ λ h. sym (no_other r (one h) h)
      | false ↦ λ h. t.owned r b ∙ same_any (owns_region of r) es (e ∷ fs) same ∙ ap (λ x. x || list_any (owns_region of r) fs) h
    ] refl

    pub table_less : ((r : ObjId) → is_bridge of r ≡ true → owns_region of r e ≡ true → count_by (owns_region of r) es ≤ 1) → (after : List Region) → Less after → IsTableOf after of fs
    table_less one after l = record {
      regions = λ r. l.there r ∙ t.regions r;
      borrowed = λ r b. left_of (cond (borrows of r e) 1 0) _ _ (l.borrowed r b ∙ t.borrowed r b ∙ same (borrows of r) ∙ count_cons (borrows of r) e fs);
      owned = λ r b. l.owned r b ∙ flag_left r (one r b) b;
    }
