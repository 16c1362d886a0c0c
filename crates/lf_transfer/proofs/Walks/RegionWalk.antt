-- A walk over a region's rows, from each to the one after it.
use Rattle.std.proofs.Common.{List, None, Option, Some, [], ap, arith, cond, false, inl, length, refl, subst, sym, ◌++◌, ◌<◌, ◌∙◌, ◌∷◌, ◌≡◌}
use Rattle.std.proofs.lemmas.List.{append-nil, append_assoc}
use Rattle.std.specs.Option.{is_some}
use Rattle.lf_base.specs.declared.ids.ObjId.{ObjId}
use Rattle.lf_base.specs.declared.values.Owner.TheVariants.{In}
use Rattle.lf_base.specs.Names.{same_name}
use Rattle.lf_base.specs.Owners.{names}
use Rattle.lf_base.specs.PlainState.{Row}
use Rattle.lf_base.specs.Sets.{Member}
use Rattle.lf_base.proofs.ListLemmas.Filters.{Member_of_filter}
use Rattle.lf_base.proofs.ListLemmas.Members.{Member_map, Member_right}
use Rattle.lf_base.proofs.ListLemmas.Tests.{none_any}
use Rattle.lf_base.proofs.NameLemmas.SameNames.{same_name_flips, same_name_itself}
use Rattle.lf_barrier.proofs.Descents.OwnedRegions.{named_here}
use Rattle.lf_graph.specs.StoredRows.{CountedRow, HasRow, NamesDiffer, fields_at, fields_by, first_name, is_named, is_under, name_after, plain, row_named, rows_beside, rows_of}
use Rattle.lf_graph.proofs.Stores.Walks.{differ_filter, next_in_walk}

-- the rows from the one of that name on, where it is among them
abbrev pub rows_from : Option ObjId → List CountedRow → List CountedRow
rows_from None rows = []
rows_from (Some o) [] = []
rows_from (Some o) (c ∷ cs) = cond (is_named o c) (c ∷ cs) (rows_from (Some o) cs)

from_first : (done rest : List CountedRow) → NamesDiffer (done ++ rest) → rows_from (first_name rest) (done ++ rest) ≡ rest
from_first [] [] d = refl
from_first (x ∷ done) [] d = refl
from_first [] (c ∷ cs) d = ap (λ b. cond b (c ∷ cs) (rows_from (Some ((c.row).name)) cs)) (same_name_itself (c.row).name)
from_first (x ∷ done) (c ∷ cs) d =
    let member : Member (c.row).name (names (plain (done ++ c ∷ cs))) = Member_map (λ (r : Row). r.name) c.row (plain (done ++ c ∷ cs)) (Member_map (λ (z : CountedRow). z.row) c (done ++ c ∷ cs) (Member_right c done (c ∷ cs) (inl refl))) in
    let other : same_name (x.row).name (c.row).name ≡ false = same_name_flips (x.row).name (c.row).name ∙ none_any (λ (n : ObjId). same_name n (x.row).name) (names (plain (done ++ c ∷ cs))) d.0 (c.row).name member in
    ap (λ b. cond b (x ∷ (done ++ c ∷ cs)) (rows_from (Some ((c.row).name)) (done ++ c ∷ cs))) other ∙ from_first done (c ∷ cs) d.1

-- the rows so far, and the others, of which the next one is the first
pub record RegionWalk (rows : List CountedRow) (r : ObjId) (next : Option ObjId) : Type 0 where
  pub done : List CountedRow
  pub rest : List CountedRow
  pub split : rows_of (In r) rows ≡ done ++ rest
  pub at : next ≡ first_name rest

module _ (rows : List CountedRow) (r : ObjId) where
  abbrev pub region_begins : (next : Option ObjId) → next ≡ first_name (rows_of (In r) rows) → RegionWalk rows r next
  region_begins next e = record { done = []; rest = rows_of (In r) rows; split = refl; at = e }

  pub region_over : (next : Option ObjId) (w : RegionWalk rows r next) → next ≡ None → w.done ≡ rows_of (In r) rows
  region_over next w none = go w.rest w.split (sym none ∙ w.at) where
    go : (rest : List CountedRow) → rows_of (In r) rows ≡ w.done ++ rest → None ≡ first_name rest → w.done ≡ rows_of (In r) rows
    go [] split n = sym (split ∙ append-nil w.done)
    go (c ∷ cs) split n = absurd (cc)

  module _ (differ : NamesDiffer rows) where
    pub left_is : (next : Option ObjId) (done rest : List CountedRow) → rows_of (In r) rows ≡ done ++ rest → next ≡ first_name rest → length (rows_from next (rows_of (In r) rows)) ≡ length rest
    left_is next done rest split at = (λ i. length (rows_from (at i) (split i))) ∙ ap length (from_first done rest (subst NamesDiffer split (differ_filter (is_under (In r)) rows differ)))

    module _ (next : Option ObjId) (w : RegionWalk rows r next) (p : ObjId) (is : next ≡ Some p) where
      pub record ThisRow : Type 0 where
        pub row : CountedRow
        pub later : List CountedRow
        pub rest : w.rest ≡ row ∷ later
        pub name : (row.row).name ≡ p

      pub this_row : ThisRow
      this_row = go w.rest refl (sym is ∙ w.at) where
        go : (rest : List CountedRow) → w.rest ≡ rest → Some p ≡ first_name rest → ThisRow
        go [] e n = absurd (cc)
        go (c ∷ cs) e n = let same : (c.row).name ≡ p = cc in record { row = c; later = cs; rest = e; name = same }

      pub split_here : rows_of (In r) rows ≡ w.done ++ (this_row).row ∷ (this_row).later
      split_here = w.split ∙ ap (λ l. w.done ++ l) (this_row).rest

      pub row_here : row_named rows p ≡ Some (this_row).row
      row_here =
          let inside : Member (this_row).row (rows_of (In r) rows) = subst (Member (this_row).row) (sym split_here) (Member_right (this_row).row w.done ((this_row).row ∷ (this_row).later) (inl refl)) in
          ap (row_named rows) (sym (this_row).name) ∙ named_here rows (this_row).row differ (Member_of_filter (is_under (In r)) (this_row).row rows inside).0

      pub row_is_there : HasRow rows p
      row_is_there = ap is_some row_here

      pub fields_here : fields_at rows p ≡ (((this_row).row).row).fields
      fields_here = ap fields_by row_here

      module _ (after : Option ObjId) (after_is : after ≡ name_after (rows_beside rows p) p) where
        pub next_is : after ≡ first_name (this_row).later
        next_is = after_is ∙ ap (λ q. name_after (rows_beside rows q) q) (sym (this_row).name) ∙ next_in_walk rows w.done (this_row).later (In r) (this_row).row differ split_here

        pub split_next : rows_of (In r) rows ≡ (w.done ++ (this_row).row ∷ []) ++ (this_row).later
        split_next = split_here ∙ sym (append_assoc w.done ((this_row).row ∷ []) (this_row).later)

        abbrev pub region_goes_on : RegionWalk rows r after
        region_goes_on = record { done = w.done ++ (this_row).row ∷ []; rest = (this_row).later; split = split_next; at = next_is }

        pub fewer_left : length (rows_from after (rows_of (In r) rows)) < length (rows_from next (rows_of (In r) rows))
        fewer_left = omega (arith, left_is after (w.done ++ (this_row).row ∷ []) (this_row).later split_next next_is, left_is next w.done w.rest w.split w.at, ap length (this_row).rest)
