-- Rows that froze: what the parts keep, and what is noticed.
use Rattle.std.proofs.Common.{List, Option, [], inl, inr, not, true, ◌||◌, ap, append-nil, arith, filter, length, map, reverse, subst, sym, ℕ, ◌++◌, ◌∙◌, ◌∷◌, ◌≡◌, ◌≤◌}
use Rattle.std.proofs.Math.Bool.{or-true}
use Rattle.std.proofs.lemmas.List.{append_assoc, length-reverse, map-append, reverse-append, reverse-reverse}
use Rattle.lf_base.specs.declared.ids.ObjId.{ObjId}
use Rattle.lf_base.specs.declared.values.Value.{Value}
use Rattle.lf_base.specs.FreezeResult.{freeze_result, freeze_set}
use Rattle.lf_base.specs.Names.{same_name}
use Rattle.lf_base.specs.Noticing.{Noticed}
use Rattle.lf_base.specs.Owners.{has_row}
use Rattle.lf_base.specs.PlainChanges.{with_slots}
use Rattle.lf_base.specs.PlainState.{Row, State}
use Rattle.lf_base.specs.Sets.{Member}
use Rattle.lf_base.specs.Suspects.{Region, Suspect}
use Rattle.lf_base.proofs.ListLemmas.Filters.{length_filter_le}
use Rattle.lf_base.proofs.ListLemmas.Members.{Member_left, Member_map, Member_right}
use Rattle.lf_base.proofs.NameLemmas.SameNames.{same_name_itself}
use Rattle.lf_domain.specs.Counts.{CountsOf}
use Rattle.lf_frozen.specs.declared.row.FrozenRow.{FrozenRow}
use Rattle.lf_frozen.specs.FrozenRows.{as_row}
use Rattle.lf_graph.specs.StoredRows.{CountedRow}
use Rattle.lf_laws.proofs.Changes.Freezing.{freeze_keeps}
use Rattle.lf_laws.proofs.Edges.Cells.{cells_freeze}
use Rattle.lf_regions.specs.declared.region.Region.{Region as Entry}
use Rattle.lf_settle.specs.Drops.{stored_state}
use Rattle.lf_transfer.specs.Freezing.{AreFrozenIn, Freezing, IsFreezeOf, is_bare_region}
use Rattle.lf_transfer.proofs.Freezes.BareRegions.{bare_noticed}
use Rattle.lf_heap.specs.declared.contents.CownContents.{CownContents}
use Rattle.lf_heap.specs.declared.frozen.FrozenParts.{FrozenParts}
use Rattle.lf_heap.specs.Heaps.{HasParts, heap_state}
use Rattle.lf_heap.proofs.States.StoredStates.{Reached, reached}

-- ---- suspects
pub one_suspected : (f : ObjId → Suspect) (o : ObjId) (rest : List ObjId) (w : List Suspect) → map f (reverse rest) ++ (f o ∷ w) ≡ map f (reverse (o ∷ rest)) ++ w
one_suspected f o rest w =
    sym (append_assoc (map f (reverse rest)) (f o ∷ []) w)
    ∙ ap (λ l. l ++ w) (sym (map-append f (reverse rest) (o ∷ [])) ∙ ap (map f) (sym (reverse-append (o ∷ []) rest)))

-- names that were listed are suspects
listed : (os : List ObjId) → map Region (reverse (reverse os ++ [])) ≡ map Region os
listed os = ap (λ l. map Region (reverse l)) (append-nil (reverse os)) ∙ ap (map Region) (reverse-reverse os)

-- ---- frozen rows of a heap are those of its state
has_mapped : (rows : List FrozenRow) (row : FrozenRow) → Member row rows → has_row (map as_row rows) row.id ≡ true
has_mapped [] row m = absurd m
has_mapped (x ∷ xs) row (inl e) = ap (λ (y : FrozenRow). same_name y.id row.id || has_row (map as_row xs) row.id) e ∙ ap (λ b. b || has_row (map as_row xs) row.id) (same_name_itself row.id)
has_mapped (x ∷ xs) row (inr m) = ap (λ b. same_name x.id row.id || b) (has_mapped xs row m) ∙ or-true (same_name x.id row.id)

pub own_frozen : (birth objects : ℕ) (contents : CownContents) (frozen : FrozenParts) (rows : List CountedRow) (slots : List (Option Value)) → AreFrozenIn (heap_state birth objects contents frozen rows slots) frozen.own
own_frozen birth objects contents frozen rows slots row m =
    ap (λ b. has_row (map as_row frozen.given) row.id || b) (has_mapped frozen.own row m) ∙ or-true (has_row (map as_row frozen.given) row.id)

module _ (birth objects : ℕ) (contents : CownContents) (frozen : FrozenParts) (rows : List CountedRow) (slots : List (Option Value)) (regions : List Entry) (most : ℕ)
    (h : HasParts rows regions most (heap_state birth objects contents frozen rows slots)) (v : Value) (plan : Freezing)
    (p : IsFreezeOf (heap_state birth objects contents frozen rows slots) frozen.own v plan) where
  abbrev s : State
  s = heap_state birth objects contents frozen rows slots

  abbrev t : State
  t = freeze_result s v

  -- with the frozen rows of the plan
  module _ (own : List FrozenRow) (planned : own ≡ plan.frozen) (next : List CountedRow) (table : List Entry) (counts : CountsOf next table t) where
    abbrev later : FrozenParts
    later = record { given = frozen.given; own = own }

    stored : Reached next table most t
    stored = reached next table most t (record {
      counted = record { counts = counts; well_formed = freeze_keeps s v h.counted.well_formed };
      cells = omega (arith, cells_freeze (with_slots s []) v, h.cells);
      few = h.few;
      slots = h.slots;
    })

    with_own : heap_state birth objects contents later next slots ≡ stored_state t next
    with_own = ap (λ rs. record (heap_state birth objects contents frozen next slots) { own = rs }) (ap (map as_row) planned ∙ p.frozen)

    pub freeze_is : heap_state birth objects contents later next slots ≡ t
    freeze_is = with_own ∙ stored.is

    pub freeze_parts : HasParts next table most (heap_state birth objects contents later next slots)
    freeze_parts = subst (HasParts next table most) (sym with_own) stored.parts

  -- ---- the regions that are left bare
  pub no_more_rows : length t.rows ≤ length s.rows
  no_more_rows = length_filter_le (λ (r : Row). not (has_row (freeze_set s v) r.name)) s.rows

  pub freeze_noticed : (names : List ObjId) (old new : List Suspect) → names ≡ reverse (filter (is_bare_region t) plan.regions) ++ []
      → new ≡ map Region (reverse names) ++ old → Noticed s old → Noticed t new
  freeze_noticed names old new named listed_is n =
      let bare = filter (is_bare_region t) plan.regions in
      let is : new ≡ map Region bare ++ old = listed_is ∙ ap (λ os. map Region (reverse os) ++ old) named ∙ ap (λ l. l ++ old) (listed bare) in
      subst (Noticed t) (sym is)
      (bare_noticed s h.counted.well_formed frozen.own v plan p old (map Region bare ++ old) n (λ u m. Member_right u (map Region bare) old m)
      (λ r m. Member_left (Region r) (map Region bare) old (Member_map Region r bare m)))

  pub few_named : (names : List ObjId) → names ≡ reverse (filter (is_bare_region t) plan.regions) ++ [] → length names ≤ length plan.regions
  few_named names named =
      let bare = filter (is_bare_region t) plan.regions in
      omega (arith, ap length named, ap length (append-nil (reverse bare)), length-reverse bare, length_filter_le (is_bare_region t) plan.regions)
