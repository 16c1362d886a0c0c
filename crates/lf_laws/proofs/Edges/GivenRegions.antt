-- What it does to borrows and owning edges that all rows of a region are given to another owner: to another region, or as local rows.
use Rattle.std.proofs.Common.{Bool, List, None, Option, Some, ap, arith, cond, false, not, refl, sym, true, ◌&&◌, ◌+◌, ◌||◌, ◌∙◌, ◌≡◌}
use Rattle.std.specs.List.{count_by}
use Rattle.lf_base.specs.Edges.{Content, Edge, Field, Slot, Source}
use Rattle.lf_base.specs.MergeResult.{relabel_region}
use Rattle.lf_base.specs.Names.{same_name}
use Rattle.lf_base.specs.Owners.{is_in, is_local_at, owner_in}
use Rattle.lf_base.specs.Ownership.{is_from, is_in_other, is_owning}
use Rattle.lf_base.specs.PlainState.{Row}
use Rattle.lf_base.specs.WalkCounts.{borrows, is_borrower}
use Rattle.lf_base.specs.declared.ids.ObjId.{ObjId}
use Rattle.lf_base.specs.declared.values.Owner.{Owner}
use Rattle.lf_base.specs.declared.values.Owner.TheVariants.{Frozen, In, Local}
use Rattle.lf_base.proofs.ListLemmas.Tests.{none_count}
use Rattle.lf_base.proofs.NameLemmas.SameNames.{other_way, same_name_is, same_name_itself}
use Rattle.lf_laws.proofs.Changes.RelabelledRegion.{region_owner, swapped}
use Rattle.lf_laws.proofs.Edges.EdgeParts.{bit, counts_one, counts_same}
use Rattle.lf_laws.proofs.Edges.GivenRows.{comes}
use Rattle.std.proofs.Math.Bool.{and-false, and-true, or-false, or-true}
use Rattle.std.proofs.lemmas.Bool.{both_ways}

-- by whether a region is the one that is given away
by_region : (b d : ObjId) (P : Bool → Type 0) → (same_name b d ≡ true → P true) → (same_name b d ≡ false → P false) → P (same_name b d)
by_region b d P f g = elim (same_name b d) as (λ c. same_name b d ≡ c → P c) [ true ↦ f | false ↦ g ] refl

-- ---- one owner before and after
module _ (b : ObjId) where
  pub in_other : (w : Owner) (q : ObjId) (u : Option Owner) → is_in q (Some w) ≡ false → same_name b q ≡ false → is_in q (swapped b w u) ≡ is_in q u
  in_other w q None h n = refl
  in_other w q (Some Local) h n = refl
  in_other w q (Some Frozen) h n = refl
  in_other w q (Some (In d)) h n = by_region b d (λ c. is_in q (Some (cond c w (In d))) ≡ same_name q d)
      (λ e. h ∙ sym (ap (same_name q) (sym (same_name_is b d e)) ∙ other_way b q n))
      (λ e. refl)

  in_gone : (w : Owner) (u : Option Owner) → is_in b (Some w) ≡ false → is_in b (swapped b w u) ≡ false
  in_gone w None h = refl
  in_gone w (Some Local) h = refl
  in_gone w (Some Frozen) h = refl
  in_gone w (Some (In d)) h = by_region b d (λ c. is_in b (Some (cond c w (In d))) ≡ false) (λ e. h) (λ e. e)

  in_joined : (a : ObjId) (u : Option Owner) → is_in a (swapped b (In a) u) ≡ (is_in a u || is_in b u)
  in_joined a None = refl
  in_joined a (Some Local) = refl
  in_joined a (Some Frozen) = refl
  in_joined a (Some (In d)) = by_region b d (λ c. is_in a (Some (cond c (In a) (In d))) ≡ (same_name a d || c))
      (λ e. same_name_itself a ∙ sym (or-true (same_name a d)))
      (λ e. sym (or-false (same_name a d)))

  local_joined : (a : ObjId) (u : Option Owner) → is_local_at (swapped b (In a) u) ≡ is_local_at u
  local_joined a None = refl
  local_joined a (Some Local) = refl
  local_joined a (Some Frozen) = refl
  local_joined a (Some (In d)) = by_region b d (λ c. is_local_at (Some (cond c (In a) (In d))) ≡ false) (λ e. refl) (λ e. refl)

  local_freed : (u : Option Owner) → is_local_at (swapped b Local u) ≡ (is_local_at u || is_in b u)
  local_freed None = refl
  local_freed (Some Local) = refl
  local_freed (Some Frozen) = refl
  local_freed (Some (In d)) = by_region b d (λ c. is_local_at (Some (cond c Local (In d))) ≡ c) (λ e. refl) (λ e. refl)

  not_both : (u : Option Owner) → is_local_at u ≡ true → is_in b u ≡ true → ⊥
  not_both None e h = cc
  not_both (Some Local) e h = cc
  not_both (Some Frozen) e h = cc
  not_both (Some (In d)) e h = cc

  -- it owned bridge c, and owns it no more where the new owner is no other region
  owns_less : (w : Owner) (c : ObjId) (u : Option Owner) → is_in_other c (Some w) ≡ false → same_name b c ≡ false
      → bit (is_in_other c (swapped b w u)) + bit (is_in b u) ≡ bit (is_in_other c u)
  owns_less w c None h n = refl
  owns_less w c (Some Local) h n = refl
  owns_less w c (Some Frozen) h n = refl
  owns_less w c (Some (In d)) h n = by_region b d (λ k. bit (is_in_other c (Some (cond k w (In d)))) + bit k ≡ bit (not (same_name d c)))
      (λ e. omega (arith, ap bit h, ap (λ z. bit (not z)) (ap (λ z. same_name z c) (sym (same_name_is b d e)) ∙ n)))
      (λ e. omega arith)

  owns_same : (a c : ObjId) (u : Option Owner) → same_name a c ≡ false → same_name b c ≡ false → is_in_other c (swapped b (In a) u) ≡ is_in_other c u
  owns_same a c None h n = refl
  owns_same a c (Some Local) h n = refl
  owns_same a c (Some Frozen) h n = refl
  owns_same a c (Some (In d)) h n = by_region b d (λ k. is_in_other c (Some (cond k (In a) (In d))) ≡ not (same_name d c))
      (λ e. ap not h ∙ sym (ap not (ap (λ z. same_name z c) (sym (same_name_is b d e)) ∙ n)))
      (λ e. refl)

-- ---- the tests of an edge
module _ (rows : List Row) (b : ObjId) where
  module _ (w : Owner) where
    abbrev given : List Row
    given = relabel_region rows b w

    owner_then : (o : ObjId) → owner_in given o ≡ swapped b w (owner_in rows o)
    owner_then o = region_owner b w rows o

    -- the region has no rows then
    pub borrows_gone : (es : List Edge) → is_in b (Some w) ≡ false → count_by (borrows given b) es ≡ 0
    borrows_gone es h = none_count (borrows given b) es (λ e m.
        ap (λ c. is_borrower given e.from && c) (ap (is_in b) (owner_then e.to) ∙ in_gone b w (owner_in rows e.to) h) ∙ and-false (is_borrower given e.from))

    less_owning : (c : ObjId) → is_in_other c (Some w) ≡ false → same_name b c ≡ false → (f : Source) (to : Bool) → bit (is_owning given f c && to) + bit (is_from rows b f && to) ≡ bit (is_owning rows f c && to)
    less_owning c h n Slot to = refl
    less_owning c h n (Content k) to = omega arith
    less_owning c h n (Field p) true =
        omega (
          arith,
          ap (λ u. bit (is_in_other c u)) (owner_then p),
          owns_less b w c (owner_in rows p) h n,
          ap bit (and-true (is_in_other c (owner_in given p))),
          ap bit (and-true (is_in b (owner_in rows p))),
          ap bit (and-true (is_in_other c (owner_in rows p))),
        )
    less_owning c h n (Field p) false =
        omega (
          arith,
          ap bit (and-false (is_in_other c (owner_in given p))),
          ap bit (and-false (is_in b (owner_in rows p))),
          ap bit (and-false (is_in_other c (owner_in rows p))),
        )

    -- bridge c is owned by its rows no more
    pub owning_less : (es : List Edge) (c : ObjId) → is_in_other c (Some w) ≡ false → same_name b c ≡ false
        → count_by (λ e. is_owning given e.from c && same_name e.to c) es + count_by (λ e. is_from rows b e.from && same_name e.to c) es
        ≡ count_by (λ e. is_owning rows e.from c && same_name e.to c) es
    owning_less es c h n = counts_one (λ (e : Edge). is_owning given e.from c && same_name e.to c) (λ (e : Edge). is_from rows b e.from && same_name e.to c) (λ (e : Edge). is_owning rows e.from c && same_name e.to c) es
        (λ e m. less_owning c h n e.from (same_name e.to c))

  -- ---- given to another region
  module _ (a : ObjId) where
    abbrev merged : List Row
    merged = relabel_region rows b (In a)

    pub borrower_merged : (f : Source) → is_borrower merged f ≡ is_borrower rows f
    borrower_merged Slot = refl
    borrower_merged (Field p) = ap is_local_at (owner_then (In a) p) ∙ local_joined b a (owner_in rows p)
    borrower_merged (Content c) = refl

    pub merged_other : (es : List Edge) (q : ObjId) → same_name a q ≡ false → same_name b q ≡ false → count_by (borrows merged q) es ≡ count_by (borrows rows q) es
    merged_other es q n m = counts_same (borrows merged q) (borrows rows q) es (λ e.
        ap (λ c. c && is_in q (owner_in merged e.to)) (borrower_merged e.from)
        ∙ ap (λ c. is_borrower rows e.from && c) (ap (is_in q) (owner_then (In a) e.to) ∙ in_other b (In a) q (owner_in rows e.to) (other_way a q n) m))

    not_in_both : same_name b a ≡ false → (u : Option Owner) → is_in a u ≡ true → is_in b u ≡ true → ⊥
    not_in_both n None e h = cc
    not_in_both n (Some Local) e h = cc
    not_in_both n (Some Frozen) e h = cc
    not_in_both n (Some (In d)) e h = both_ways _ n (ap (same_name b) (same_name_is a d e) ∙ h)

    pub merged_home : (es : List Edge) → same_name b a ≡ false → count_by (borrows merged a) es ≡ count_by (borrows rows a) es + count_by (borrows rows b) es
    merged_home es n = sym (counts_one (borrows rows a) (borrows rows b) (borrows merged a) es (λ e m.
        sym (
        ap (λ c. bit (c && is_in a (owner_in merged e.to))) (borrower_merged e.from)
        ∙ ap (λ c. bit (is_borrower rows e.from && c)) (ap (is_in a) (owner_then (In a) e.to) ∙ in_joined b a (owner_in rows e.to))
        ∙ comes (is_borrower rows e.from) (is_in a (owner_in rows e.to)) (is_in b (owner_in rows e.to)) (not_in_both n (owner_in rows e.to))
        )))

    pub owning_merged : (c : ObjId) → same_name a c ≡ false → same_name b c ≡ false → (f : Source) → is_owning merged f c ≡ is_owning rows f c
    owning_merged c h n Slot = refl
    owning_merged c h n (Field p) = ap (is_in_other c) (owner_then (In a) p) ∙ owns_same b a c (owner_in rows p) h n
    owning_merged c h n (Content k) = refl

    pub merged_owning : (es : List Edge) (c : ObjId) → same_name a c ≡ false → same_name b c ≡ false
        → count_by (λ e. is_owning merged e.from c && same_name e.to c) es ≡ count_by (λ e. is_owning rows e.from c && same_name e.to c) es
    merged_owning es c h n = counts_same (λ (e : Edge). is_owning merged e.from c && same_name e.to c) (λ (e : Edge). is_owning rows e.from c && same_name e.to c) es
        (λ e. ap (λ k. k && same_name e.to c) (owning_merged c h n e.from))

  -- ---- as local rows
  abbrev freed : List Row
  freed = relabel_region rows b Local

  freed_source : (f : Source) (into : Bool) → bit (is_borrower rows f && into) + bit (is_from rows b f && into) ≡ bit (is_borrower freed f && into)
  freed_source Slot into = omega arith
  freed_source (Content c) into = refl
  freed_source (Field p) true =
      let u : Option Owner = owner_in rows p in
      omega (
        arith,
        ap (λ z. bit (is_local_at z)) (owner_then Local p),
        ap bit (local_freed b u),
        comes true (is_local_at u) (is_in b u) (not_both b u),
        ap bit (and-true (is_local_at u)),
        ap bit (and-true (is_in b u)),
        ap bit (and-true (is_local_at (owner_in freed p))),
      )
  freed_source (Field p) false =
      let u : Option Owner = owner_in rows p in
      omega (arith, ap bit (and-false (is_local_at u)), ap bit (and-false (is_in b u)), ap bit (and-false (is_local_at (owner_in freed p))))

  pub freed_other : (es : List Edge) (q : ObjId) → same_name b q ≡ false
      → count_by (borrows freed q) es ≡ count_by (borrows rows q) es + count_by (λ e. is_from rows b e.from && is_in q (owner_in rows e.to)) es
  freed_other es q n = sym (counts_one (borrows rows q) (λ e. is_from rows b e.from && is_in q (owner_in rows e.to)) (borrows freed q) es (λ e m.
      freed_source e.from (is_in q (owner_in rows e.to))
      ∙ ap (λ c. bit (is_borrower freed e.from && c)) (sym (ap (is_in q) (owner_then Local e.to) ∙ in_other b Local q (owner_in rows e.to) refl n))))
