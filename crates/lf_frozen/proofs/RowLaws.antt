-- What is found in a list of rows, and what a list has to which rows were added.
use Rattle.std.proofs.Common.{List, None, Option, Some, [], ap, arith, cond, false, find, inl, inr, map, refl, subst, sym, true, Bool, ℕ, ◌++◌, ◌||◌, ◌∙◌, ◌∷◌, ◌≡◌, ◌⊎◌}
use Rattle.std.specs.List.{count_by}
use Rattle.std.proofs.lemmas.List.Folds.{list_any-append}
use Rattle.std.proofs.lemmas.List.Sorted.{list_any-IsPermutation}
use Rattle.std.proofs.lemmas.List.Sums.{sum_by-cons}
use Rattle.lf_base.specs.declared.ids.ObjId.{ObjId}
use Rattle.lf_base.specs.FreezeResult.{insert_rows}
use Rattle.lf_base.specs.Names.{name_below, same_name}
use Rattle.lf_base.specs.PlainChanges.{insert_row}
use Rattle.lf_base.specs.Sets.{Member}
use Rattle.lf_base.proofs.ListLemmas.Members.{Member_left, Member_of_append, Member_right}
use Rattle.lf_base.proofs.ListLemmas.Tests.{any_none, by_test, none_any, none_count}
use Rattle.lf_base.proofs.NameLemmas.NameOrder.{below_apart}
use Rattle.lf_base.proofs.NameLemmas.SameNames.{other_way, same_name_is, same_name_itself}
use Rattle.lf_frozen.specs.declared.row.FrozenRow.{FrozenRow}
use Rattle.lf_frozen.specs.Entries.{Apart}
use Rattle.lf_frozen.specs.FrozenRows.{FrozenNamesDiffer, RiseByName, as_row, comes_after, frozen_at, has_frozen_row, next_frozen, with_all_frozen, with_frozen}
use Rattle.lf_frozen.proofs.Drafts.{apart_joined}
use Rattle.lf_frozen.proofs.Members.{find_none, find_some, member_after, member_before}
use Rattle.lf_frozen.proofs.NextRows.{IsNext, risen_next}
use Rattle.lf_frozen.proofs.RisenRows.{below_all, risen_rest, risen_with_all, with_all_permutes}

find_absent : {X : Type 0} (p : X → Bool) (xs : List X) → ((x : X) → Member x xs → p x ≡ false) → find p xs ≡ None
find_absent p [] absent = refl
find_absent p (x ∷ xs) absent = ap (λ b. cond b (Some x) (find p xs)) (absent x (inl refl)) ∙ find_absent p xs (λ y m. absent y (inr m))

-- ---- a name
pub frozen_row_found : (rows : List FrozenRow) (o : ObjId) (row : FrozenRow) → frozen_at rows o ≡ Some row → Member row rows × (row.id ≡ o)
frozen_row_found rows o row e =
    let found = find_some (λ (x : FrozenRow). same_name x.id o) rows row e in
    (found.0, same_name_is row.id o found.1)

pub each_found : (rows : List FrozenRow) (row : FrozenRow) → RiseByName rows → Member row rows → frozen_at rows row.id ≡ Some row
each_found [] row rise m = absurd m
each_found (x ∷ xs) row rise (inl e) =
    ap (λ b. cond b (Some x) (frozen_at xs row.id)) (ap (λ (y : FrozenRow). same_name x.id y.id) (sym e) ∙ same_name_itself x.id)
    ∙ ap Some e
each_found (x ∷ xs) row rise (inr m) =
    ap (λ b. cond b (Some x) (frozen_at xs row.id)) (below_apart x.id row.id (below_all x xs rise row m))
    ∙ each_found xs row (risen_rest x xs rise) m

pub none_found : (rows : List FrozenRow) (o : ObjId) → frozen_at rows o ≡ None → has_frozen_row rows o ≡ false
none_found rows o e = any_none (λ (row : FrozenRow). same_name row.id o) rows (find_none (λ (row : FrozenRow). same_name row.id o) rows e)

pub not_there : (rows : List FrozenRow) (o : ObjId) → has_frozen_row rows o ≡ false → frozen_at rows o ≡ None
not_there rows o e = find_absent (λ (row : FrozenRow). same_name row.id o) rows (none_any (λ (row : FrozenRow). same_name row.id o) rows e)

-- ---- rows that were added
pub added_row : (more rows : List FrozenRow) (row : FrozenRow) → Member row (with_all_frozen more rows) → Member row more ⊎ Member row rows
added_row more rows row m =
    Member_of_append row more rows (member_before (more ++ rows) (with_all_frozen more rows) (with_all_permutes more rows) row m)

pub row_added : (more rows : List FrozenRow) (row : FrozenRow) → Member row more ⊎ Member row rows → Member row (with_all_frozen more rows)
row_added more rows row m =
    member_after (more ++ rows) (with_all_frozen more rows) (with_all_permutes more rows) row
    (elim m [ inl k ↦ Member_left row more rows k | inr k ↦ Member_right row more rows k ])

pub names_added : (more rows : List FrozenRow) (o : ObjId)
    → has_frozen_row (with_all_frozen more rows) o ≡ (has_frozen_row more o || has_frozen_row rows o)
names_added more rows o =
    sym (list_any-IsPermutation (λ (row : FrozenRow). same_name row.id o) (more ++ rows) (with_all_frozen more rows)
    (with_all_permutes more rows))
    ∙ list_any-append (λ (row : FrozenRow). same_name row.id o) more rows

apart_risen : (rows : List FrozenRow) → RiseByName rows → Apart rows
apart_risen [] rise o = omega arith
apart_risen (x ∷ xs) rise o =
    let longer = sum_by-cons (λ (row : FrozenRow). cond (same_name row.id o) 1 0) x xs in
    by_test (same_name x.id o)
    (λ e. let others : count_by (λ (row : FrozenRow). same_name row.id o) xs ≡ 0 = none_count (λ (row : FrozenRow). same_name row.id o) xs
    (λ y m. ap (same_name y.id) (sym (same_name_is x.id o e)) ∙ other_way x.id y.id (below_apart x.id y.id (below_all x xs rise y m))) in
    omega (arith, longer, ap {B = ℕ} (λ b. cond b 1 0) e, others))
    (λ e. omega (arith, longer, ap {B = ℕ} (λ b. cond b 1 0) e, apart_risen xs (risen_rest x xs rise) o))

pub added_rise : (more rows : List FrozenRow) → FrozenNamesDiffer more
    → ((row : FrozenRow) → Member row more → has_frozen_row rows row.id ≡ false)
    → RiseByName rows → RiseByName (with_all_frozen more rows)
added_rise more rows names new rise = risen_with_all more rows (apart_joined more rows names new (apart_risen rows rise)) rise

row_put : (x : FrozenRow) (ys : List FrozenRow) → map as_row (with_frozen x ys) ≡ insert_row (as_row x) (map as_row ys)
row_put x [] = refl
row_put x (y ∷ ys) =
    elim (name_below x.id y.id) as (λ b. map as_row (cond b (x ∷ (y ∷ ys)) (y ∷ with_frozen x ys))
    ≡ cond b (as_row x ∷ (as_row y ∷ map as_row ys)) (as_row y ∷ insert_row (as_row x) (map as_row ys))) [
      | true ↦ refl
      | false ↦ ap (λ l. as_row y ∷ l) (row_put x ys)
    ]

pub rows_put : (more rows : List FrozenRow) → map as_row (with_all_frozen more rows) ≡ insert_rows (map as_row more) (map as_row rows)
rows_put [] rows = refl
rows_put (x ∷ xs) rows = row_put x (with_all_frozen xs rows) ∙ ap (insert_row (as_row x)) (rows_put xs rows)

-- ---- the next name
pub next_there : (rows : List FrozenRow) (after : Option ObjId) (row : FrozenRow) → next_frozen rows after ≡ Some row
    → Member row rows × (comes_after after row.id ≡ true)
next_there rows after row e = find_some (λ (x : FrozenRow). comes_after after x.id) rows row e

pub next_row_least : (rows : List FrozenRow) (after : Option ObjId) (row other : FrozenRow) → RiseByName rows
    → next_frozen rows after ≡ Some row → Member other rows → comes_after after other.id ≡ true → name_below other.id row.id ≡ false
next_row_least rows after row other rise e m above = (subst (IsNext rows after) e (risen_next rows after rise)).1.1 other m above

pub no_next : (rows : List FrozenRow) (after : Option ObjId) → next_frozen rows after ≡ None → (row : FrozenRow) → Member row rows
    → comes_after after row.id ≡ false
no_next rows after e = find_none (λ (row : FrozenRow). comes_after after row.id) rows e

pub next_absent : (rows : List FrozenRow) (after : Option ObjId) → ((row : FrozenRow) → Member row rows → comes_after after row.id ≡ false)
    → next_frozen rows after ≡ None
next_absent rows after absent = find_absent (λ (row : FrozenRow). comes_after after row.id) rows absent
