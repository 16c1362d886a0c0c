-- All rows of a region given to another owner, the first one again and again.
use Rattle.std.proofs.Common.{Bool, List, None, Option, Some, [], ap, cond, false, filter, inl, inr, length, map, not, refl, subst, sym, true, ◌+◌, ◌++◌, ◌||◌, ◌∙◌, ◌∷◌, ◌≡◌}
use Rattle.std.proofs.lemmas.Bool.{false_from_ne_true}
use Rattle.std.proofs.lemmas.List.{append-nil}
use Rattle.std.proofs.lemmas.List.Sums.{sum_by-cons}
use Rattle.std.specs.List.{sum_by}
use Rattle.std.specs.Option.{is_some, option_map}
use Rattle.lf_base.specs.declared.ids.ObjId.{ObjId}
use Rattle.lf_base.specs.declared.values.Owner.{Owner}
use Rattle.lf_base.specs.declared.values.Owner.TheVariants.{Frozen, In, Local}
use Rattle.lf_base.specs.Edges.{Edge}
use Rattle.lf_base.specs.MergeResult.{lies_in, relabel_region}
use Rattle.lf_base.specs.Names.{name_below, same_name, same_owner}
use Rattle.lf_base.specs.Owners.{has_name, is_in, names, owner_in}
use Rattle.lf_base.specs.PlainState.{Row}
use Rattle.lf_base.specs.Sets.{Differ, InOrder, Member}
use Rattle.lf_base.specs.WriteResult.{relabel}
use Rattle.lf_base.proofs.ListLemmas.Filters.{Member_filter, Member_of_filter}
use Rattle.lf_base.proofs.NameLemmas.NameOrder.{order_differ}
use Rattle.lf_base.proofs.NameLemmas.SameNames.{same_name_flips, same_name_is, same_name_itself}
use Rattle.lf_barrier.proofs.Descents.OwnedRegions.{named_here}
use Rattle.lf_domain.proofs.StoreEdges.{owner_told}
use Rattle.lf_graph.specs.Room.{room_for_row}
use Rattle.lf_graph.specs.RowChanges.{moved_last, moved_under, with_owner, without_row}
use Rattle.lf_graph.specs.StoreCounts.{IsStoreOf}
use Rattle.lf_graph.specs.StoredRows.{AreRowsOf, CountedRow, HasRow, NamesDiffer, SameByOwner, fields_by, first_name, is_named, is_under, owner_at, owner_by, plain, refs_by, row_named, rows_by_name, rows_of}
use Rattle.lf_graph.proofs.ListLemmas.{filter_turns}
use Rattle.lf_graph.proofs.Stores.AfterCalls.{found_after}
use Rattle.lf_graph.proofs.Stores.Changes.{found_moved_last}
use Rattle.lf_graph.proofs.Stores.Reordered.{rows_append, same_owner_is}
use Rattle.lf_graph.proofs.Stores.StateRows.{by_name_rises, filtered_store, moved_store, no_name_stays, same_store}
use Rattle.lf_graph.proofs.Stores.Walks.{differ_filter}
use Rattle.lf_laws.proofs.Rows.RowsByName.{Distinct, differ_rows, owner_mem}
use Rattle.lf_transfer.specs.RegionRows.{region_cells}
use Rattle.lf_transfer.proofs.GivenRegions.RegionCells.{row_cells}

-- ---- the first row of a region
pub record FirstRow (rows : List CountedRow) (b p : ObjId) : Type 0 where
  pub row : CountedRow
  pub later : List CountedRow
  pub is : rows_of (In b) rows ≡ row ∷ later
  pub name : (row.row).name ≡ p

pub first_row : (rows : List CountedRow) (b p : ObjId) → Some p ≡ first_name (rows_of (In b) rows) → FirstRow rows b p
first_row rows b p e = go (rows_of (In b) rows) refl e where
  go : (cs : List CountedRow) → rows_of (In b) rows ≡ cs → Some p ≡ first_name cs → FirstRow rows b p
  go [] is n = absurd (cc)
  go (c ∷ cs) is n = let same : (c.row).name ≡ p = cc in record { row = c; later = cs; is = is; name = same }

module _ (rows : List CountedRow) (b p : ObjId) (differ : NamesDiffer rows) (f : FirstRow rows b p) where
  first_in_store : Member f.row rows × (is_under (In b) f.row ≡ true)
  first_in_store = Member_of_filter (is_under (In b)) f.row rows (subst (Member f.row) (sym f.is) (inl refl))

  pub first_named : row_named rows p ≡ Some f.row
  first_named = ap (row_named rows) (sym f.name) ∙ named_here rows f.row differ (first_in_store).0

  pub first_there : HasRow rows p
  first_there = ap is_some first_named

  pub first_owner : owner_at rows p ≡ Some (In b)
  first_owner = ap owner_by first_named ∙ ap (λ w. Some w) (same_owner_is ((f.row).row).owner (In b) (first_in_store).1)

  pub first_cells : room_for_row rows p ≡ row_cells f.row
  first_cells = ap (λ t. 1 + length (fields_by t)) first_named

  pub cells_split : region_cells rows b ≡ row_cells f.row + sum_by row_cells f.later
  cells_split = ap (sum_by row_cells) f.is ∙ sum_by-cons row_cells f.row f.later

  -- the others are left where it goes to another owner
  module _ (w : Owner) (out : is_in b (Some w) ≡ false) where
    not_under : (u : Owner) → is_in b (Some u) ≡ false → same_owner u (In b) ≡ false
    not_under Local h = refl
    not_under Frozen h = refl
    not_under (In q) h = same_name_flips q b ∙ h

    none_come : rows_of (In b) (moved_under w (row_named rows p)) ≡ []
    none_come = ap (λ t. rows_of (In b) (moved_under w t)) first_named ∙ ap (λ c. cond c (with_owner w f.row ∷ []) []) (not_under w out)

    in_region : NamesDiffer (f.row ∷ f.later)
    in_region = subst NamesDiffer f.is (differ_filter (is_under (In b)) rows differ)

    without_first : without_row (f.row ∷ f.later) p ≡ f.later
    without_first =
        ap (λ c. cond (not c) (f.row ∷ without_row f.later p) (without_row f.later p)) (ap (same_name ((f.row).row).name) (sym f.name) ∙ same_name_itself ((f.row).row).name)
        ∙ no_name_stays f.later p (ap (has_name (names (plain f.later))) (sym f.name) ∙ (in_region).0)

    pub later_left : (new : List CountedRow) → SameByOwner new (moved_last rows p w) → rows_of (In b) new ≡ f.later
    later_left new same =
        same (In b) ∙ rows_append (In b) (without_row rows p) (moved_under w (row_named rows p))
        ∙ ap (λ l. rows_of (In b) (without_row rows p) ++ l) none_come ∙ append-nil (rows_of (In b) (without_row rows p))
        ∙ filter_turns (is_under (In b)) (λ c. not (is_named p c)) rows
        ∙ ap (λ l. without_row l p) f.is ∙ without_first

-- ---- one row given
moved_refs : (c : Bool) (w : Owner) (t u : Option CountedRow) → u ≡ cond c (option_map (with_owner w) t) t → is_some u ≡ true → (is_some t ≡ true) × (refs_by u ≡ refs_by t)
moved_refs true w None u e h = absurd (let z : false ≡ true = sym (ap is_some e) ∙ h in cc)
moved_refs false w None u e h = absurd (let z : false ≡ true = sym (ap is_some e) ∙ h in cc)
moved_refs true w (Some c) u e h = (refl, ap refs_by e)
moved_refs false w (Some c) u e h = (refl, ap refs_by e)

pub one_given : (rows new : List CountedRow) (of : List Row) (es : List Edge) (p : ObjId) (w : Owner) → IsStoreOf rows of es → SameByOwner new (moved_last rows p w) → IsStoreOf new (relabel of (p ∷ []) w) es
one_given rows new of es p w s same =
    let then_rows : AreRowsOf (moved_last rows p w) (relabel of (p ∷ []) w) = moved_store rows of p w s.rows in
    record {
      rows = same_store (moved_last rows p w) new (relabel of (p ∷ []) w) then_rows same;
      refs = λ q h.
          let f = moved_refs (same_name q p) w (row_named rows q) (row_named new q) (found_after new (moved_last rows p w) q same then_rows.differ ∙ found_moved_last rows p w q) h in
          f.1 ∙ s.refs q f.0;
    }

-- ---- the region, of which one row was given
pub distinct_of : (rows : List CountedRow) (of : List Row) → AreRowsOf rows of → Distinct of
distinct_of rows of a =
    differ_rows of [] (subst (Differ same_name) (sym (append-nil (names of))) (order_differ (names of) (subst (λ l. InOrder name_below (names l)) a.rise (by_name_rises (plain rows) a.differ))))

map_alike : (f g : Row → Row) (rows : List Row) → ((r : Row) → Member r rows → f (g r) ≡ f r) → map f (map g rows) ≡ map f rows
map_alike f g [] h = refl
map_alike f g (r ∷ rs) h = λ i. h r (inl refl) i ∷ map_alike f g rs (λ x m. h x (inr m)) i

module _ (b p : ObjId) (w : Owner) (out : is_in b (Some w) ≡ false) where
  abbrev given : Row → Row
  given row = cond (lies_in b row) (record row { owner = w }) row

  abbrev moved : Row → Row
  moved row = cond (has_name (p ∷ []) row.name) (record row { owner = w }) row

  inside : (row : Row) → row.owner ≡ In b → given (record row { owner = w }) ≡ given row
  inside row e =
      ap (λ c. cond c (record row { owner = w }) (record row { owner = w })) out
      ∙ sym (ap (λ c. cond c (record row { owner = w }) row) (ap (λ u. is_in b (Some u)) e ∙ same_name_itself b))

  given_again : (row : Row) → (same_name p row.name ≡ true → row.owner ≡ In b) → given (moved row) ≡ given row
  given_again row h = elim (same_name p row.name) as (λ c. same_name p row.name ≡ c → given (cond (c || false) (record row { owner = w }) row) ≡ given row) [
    | true ↦ λ e. inside row (h e)
    | false ↦ λ e. refl
  ] refl

  pub region_then : (rows : List CountedRow) (of : List Row) → AreRowsOf rows of → owner_at rows p ≡ Some (In b) → relabel_region (relabel of (p ∷ []) w) b w ≡ relabel_region of b w
  region_then rows of a k = map_alike given moved of (λ row m. given_again row (λ e.
      let own : Some (row.owner) ≡ Some (In b) = sym (owner_mem of (distinct_of rows of a) row m) ∙ ap (owner_in of) (sym (same_name_is p row.name e)) ∙ owner_told rows of p a ∙ k in
      (let z : row.owner ≡ In b = cc in z)))

-- ---- as far as it has come
pub record GivenSoFar (now : List CountedRow) (of : List Row) (es : List Edge) (b : ObjId) (w : Owner) : Type 0 where
  pub of_now : List Row
  pub store : IsStoreOf now of_now es
  pub then_of : relabel_region of_now b w ≡ relabel_region of b w

pub none_given : (rows : List CountedRow) (of : List Row) (es : List Edge) (b : ObjId) (w : Owner) → IsStoreOf rows of es → GivenSoFar rows of es b w
none_given rows of es b w s = record { of_now = of; store = s; then_of = refl }

pub given_on : (now new : List CountedRow) (of : List Row) (es : List Edge) (b p : ObjId) (w : Owner) → is_in b (Some w) ≡ false → GivenSoFar now of es b w → owner_at now p ≡ Some (In b)
    → SameByOwner new (moved_last now p w) → GivenSoFar new of es b w
given_on now new of es b p w out g k same = record {
  of_now = relabel g.of_now (p ∷ []) w;
  store = one_given now new g.of_now es p w g.store same;
  then_of = region_then b p w out now g.of_now (g.store).rows k ∙ g.then_of;
}

none_lie : (b : ObjId) (w : Owner) (rows : List Row) → filter (λ r. same_owner r.owner (In b)) rows ≡ [] → rows ≡ relabel_region rows b w
none_lie b w rows none = go rows (λ r m h. absurd_member r (subst (Member r) none (Member_filter (λ r. same_owner r.owner (In b)) r rows m h))) where
  absurd_member : (r : Row) → Member r [] → ⊥
  absurd_member r m = m

  under : (u : Owner) → is_in b (Some u) ≡ true → same_owner u (In b) ≡ true
  under Local h = absurd (let z : false ≡ true = h in cc)
  under Frozen h = absurd (let z : false ≡ true = h in cc)
  under (In q) h = same_name_flips q b ∙ h

  go : (rs : List Row) → ((r : Row) → Member r rs → same_owner r.owner (In b) ≡ true → ⊥) → rs ≡ relabel_region rs b w
  go [] h = refl
  go (r ∷ rs) h =
      let no : lies_in b r ≡ false = false_from_ne_true _ (λ k. h r (inl refl) (under r.owner k)) in
      (λ i. sym (ap (λ c. cond c (record r { owner = w }) r) no) i ∷ go rs (λ x m. h x (inr m)) i)

none_named : (cs : List CountedRow) → None ≡ first_name cs → cs ≡ []
none_named [] e = refl
none_named (c ∷ cs) e = absurd (cc)

pub all_given : (now : List CountedRow) (of : List Row) (es : List Edge) (b : ObjId) (w : Owner) → GivenSoFar now of es b w → None ≡ first_name (rows_of (In b) now) → IsStoreOf now (relabel_region of b w) es
all_given now of es b w g none =
    let empty : filter (λ r. same_owner r.owner (In b)) g.of_now ≡ [] = sym ((filtered_store now g.of_now (g.store).rows (λ r. same_owner r.owner (In b))).rise) ∙ ap (λ l. rows_by_name (plain l)) (none_named (rows_of (In b) now) none) in
    subst (λ l. IsStoreOf now l es) (none_lie b w g.of_now empty ∙ g.then_of) g.store
