-- What a draft has: entries in order, of rows that are all there.
use Rattle.std.proofs.Common.{List, [], ap, arith, cond, drop, false, get_or, inl, inr, length, map, refl, subst, suc, sym, take, zero, ℕ, ◌+◌, ◌++◌, ◌<◌, ◌∙◌, ◌∷◌, ◌≡◌, ◌≤◌}
use Rattle.std.specs.Arc.{arc_value}
use Rattle.std.specs.List.{All, count_by}
use Rattle.std.specs.List.Sorted.{IsPermutation, IsSortedByKey}
use Rattle.std.proofs.lemmas.List.{append_assoc}
use Rattle.std.proofs.lemmas.List.Elements.{All-head, All-tail}
use Rattle.std.proofs.lemmas.List.Sorted.{All-permutation, IsPermutation-append_comm, IsPermutation-append_left, IsPermutation-append_right, IsPermutation-map, IsPermutation-trans, list_any-IsPermutation}
use Rattle.std.proofs.lemmas.List.Sums.{sum_by-cons}
use Rattle.lf_base.specs.declared.ids.ObjId.{ObjId}
use Rattle.lf_base.specs.Names.{name_below, same_name}
use Rattle.lf_base.specs.Sets.{Member}
use Rattle.lf_base.proofs.ListLemmas.Members.{Member_map, Member_of_append}
use Rattle.lf_base.proofs.ListLemmas.Tests.{by_test, count_none, none_any, none_count}
use Rattle.lf_base.proofs.NameLemmas.NameOrder.{other_below}
use Rattle.lf_base.proofs.NameLemmas.SameNames.{same_name_is, same_name_itself}
use Rattle.lf_frozen.specs.declared.draft.Draft.{Draft}
use Rattle.lf_frozen.specs.declared.entry.RowEntry.{RowEntry}
use Rattle.lf_frozen.specs.declared.row.FrozenRow.{FrozenRow}
use Rattle.lf_frozen.specs.Drafts.{IsDraft}
use Rattle.lf_frozen.specs.Entries.{Apart, EntriesRise, LeadsToRow, put_by_name, row_behind, rows_of_tables}
use Rattle.lf_frozen.specs.FrozenRows.{FrozenNamesDiffer, frozen_names, has_frozen_row}
use Rattle.lf_frozen.proofs.IdOrder.{id_cmp_below, id_cmp}
use Rattle.lf_frozen.proofs.RisenRows.{apart_permuted, apart_right, by_name_permutes}
use Rattle.lf_frozen.proofs.TableLists.{rows_parts, rows_push}

-- ---- names in order
rise_from : (es : List RowEntry) → ((k : ℕ) (d : RowEntry) → suc k < length es
    → name_below (get_or es (suc k) d).name (get_or es k d).name ≡ false)
    → ((o : ObjId) → count_by (λ (e : RowEntry). same_name e.name o) es ≤ 1) → EntriesRise es
rise_from [] sorted few = tt
rise_from (x ∷ []) sorted few = tt
rise_from (x ∷ (y ∷ ys)) sorted few =
    let others = count_none (λ (e : RowEntry). same_name e.name x.name) (y ∷ ys)
    (omega (
      arith,
      sum_by-cons (λ (e : RowEntry). cond (same_name e.name x.name) 1 0) x (y ∷ ys),
      ap {B = ℕ} (λ b. cond b 1 0) (same_name_itself x.name),
      few x.name,
    )) in (
      other_below y.name x.name (sorted zero x (omega arith)) (others y (inl refl)),
      rise_from (y ∷ ys) (λ k d lt. sorted (suc k) d (omega (arith, lt)))
          (λ o. omega (arith, sum_by-cons (λ (e : RowEntry). cond (same_name e.name o) 1 0) x (y ∷ ys), few o)),
    )

count_rows : (own : List FrozenRow) (es : List RowEntry) → All (LeadsToRow own) es → (o : ObjId)
    → count_by (λ (row : FrozenRow). same_name row.id o) (map (row_behind own) es) ≡ count_by (λ (e : RowEntry). same_name e.name o) es
count_rows own [] leads o = refl
count_rows own (e ∷ es) leads o =
    omega (
      arith,
      sum_by-cons (λ (row : FrozenRow). cond (same_name row.id o) 1 0) (row_behind own e) (map (row_behind own) es),
      sum_by-cons (λ (x : RowEntry). cond (same_name x.name o) 1 0) e es,
      ap {B = ℕ} (λ n. cond (same_name n o) 1 0) (All-head (LeadsToRow own) e es leads).1,
      count_rows own es (All-tail (LeadsToRow own) e es leads) o,
    )

swap_front : (a b c : List FrozenRow) → IsPermutation (a ++ (b ++ c)) (b ++ (a ++ c))
swap_front a b c =
    subst (λ l. IsPermutation l (b ++ (a ++ c))) (append_assoc a b c)
    (subst (λ l. IsPermutation ((a ++ b) ++ c) l) (append_assoc b a c)
    (IsPermutation-append_left c (a ++ b) (b ++ a) (IsPermutation-append_comm a b)))

module _ (rows : List FrozenRow) (tables : List (List FrozenRow)) (k : ℕ) (found sorted : List RowEntry) (s : IsPermutation found sorted)
    (leads : All (LeadsToRow rows) found) (all : map (row_behind rows) found ≡ rows ++ rows_of_tables (drop k tables))
    (apart : Apart (rows ++ rows_of_tables tables)) where
  pub sorted_leads : All (LeadsToRow rows) sorted
  sorted_leads = All-permutation (LeadsToRow rows) found sorted s leads

  pub sorted_all : IsPermutation (rows ++ rows_of_tables tables) (rows_of_tables (take k tables) ++ map (row_behind rows) sorted)
  sorted_all =
      IsPermutation-trans (rows ++ rows_of_tables tables) (rows_of_tables (take k tables) ++ map (row_behind rows) found)
      (rows_of_tables (take k tables) ++ map (row_behind rows) sorted)
      (subst (λ l. IsPermutation (rows ++ rows_of_tables tables) (rows_of_tables (take k tables) ++ l)) (sym all)
      (subst (λ l. IsPermutation (rows ++ l) (rows_of_tables (take k tables) ++ (rows ++ rows_of_tables (drop k tables))))
      (sym (rows_parts k tables))
      (swap_front rows (rows_of_tables (take k tables)) (rows_of_tables (drop k tables)))))
      (IsPermutation-append_right (rows_of_tables (take k tables)) (map (row_behind rows) found) (map (row_behind rows) sorted)
      (IsPermutation-map (row_behind rows) found sorted s))

  pub sorted_rise : IsSortedByKey (λ (e : RowEntry). e.name) id_cmp sorted → EntriesRise sorted
  sorted_rise in_order =
      let few = apart_right (rows_of_tables (take k tables)) (map (row_behind rows) sorted)
      (apart_permuted (rows ++ rows_of_tables tables) (rows_of_tables (take k tables) ++ map (row_behind rows) sorted) sorted_all apart)
      in
      rise_from sorted
      (λ i d lt. let next : i + 1 ≡ suc i = omega arith in
      ap (λ j. name_below (get_or sorted j d).name (get_or sorted i d).name) (sym next)
      ∙ sym (id_cmp_below (get_or sorted (i + 1) d).name (get_or sorted i d).name)
      ∙ in_order i d (omega arith) (omega (arith, lt)))
      (λ o. omega (arith, count_rows rows sorted sorted_leads o, few o))

-- ---- names that are new
pub apart_joined : (rows old : List FrozenRow) → FrozenNamesDiffer rows
    → ((row : FrozenRow) → Member row rows → has_frozen_row old row.id ≡ false)
    → Apart old → Apart (rows ++ old)
apart_joined [] old names new apart o = apart o
apart_joined (x ∷ xs) old names new apart o =
    let longer = sum_by-cons (λ (row : FrozenRow). cond (same_name row.id o) 1 0) x (xs ++ old) in
    by_test (same_name x.id o)
    (λ e. let others : count_by (λ (row : FrozenRow). same_name row.id o) (xs ++ old) ≡ 0 =
    none_count (λ (row : FrozenRow). same_name row.id o) (xs ++ old)
    (λ y m. ap (same_name y.id) (sym (same_name_is x.id o e)) ∙ elim (Member_of_append y xs old m) [
      | inl k ↦ none_any (λ n. same_name n x.id) (frozen_names xs) names.0 y.id (Member_map (λ (row : FrozenRow). row.id) y xs k)
      | inr k ↦ none_any (λ (row : FrozenRow). same_name row.id x.id) old (new x (inl refl)) y k
    ]) in
    omega (arith, longer, ap {B = ℕ} (λ b. cond b 1 0) e, others))
    (λ e. omega (arith, longer, ap {B = ℕ} (λ b. cond b 1 0) e, apart_joined xs old names.1 (λ y m. new y (inr m)) apart o))

-- a name is in the list by rising name exactly where it is in the list
has_by_name : (rows : List FrozenRow) (o : ObjId) → has_frozen_row (put_by_name rows) o ≡ has_frozen_row rows o
has_by_name rows o = sym (list_any-IsPermutation (λ (row : FrozenRow). same_name row.id o) rows (put_by_name rows) (by_name_permutes rows))

-- the rows of a batch are apart from those of a map in which none of their names is
pub apart_new : (rows old view : List FrozenRow) → put_by_name old ≡ view → FrozenNamesDiffer rows
    → ((row : FrozenRow) → Member row rows → has_frozen_row view row.id ≡ false) → Apart old → Apart (rows ++ old)
apart_new rows old view is names new apart =
    apart_joined rows old names (λ row m. sym (has_by_name old row.id) ∙ ap (λ l. has_frozen_row l row.id) is ∙ new row m) apart

-- ---- a draft with its batch
pub finished : (rows : List FrozenRow) (tables : List (List FrozenRow)) (draft : Draft) (batch : List FrozenRow) (result : List (List FrozenRow)) → IsDraft rows tables draft
    → batch ≡ rows → result ≡ draft.tables.items ++ (map (row_behind batch) (arc_value draft.entries).items ∷ [])
    → IsPermutation (rows ++ rows_of_tables tables) (rows_of_tables result)
finished rows tables draft batch result made same is =
    let there = draft.tables.items in
    let entries = (arc_value draft.entries).items in
    subst (λ l. IsPermutation (rows ++ rows_of_tables tables) (rows_of_tables l)) (sym is)
    (subst (λ l. IsPermutation (rows ++ rows_of_tables tables) l) (sym (rows_push there (map (row_behind batch) entries)))
    (subst (λ b. IsPermutation (rows ++ rows_of_tables tables) (rows_of_tables there ++ map (row_behind b) entries)) (sym same) made.all))
