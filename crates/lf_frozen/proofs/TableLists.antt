-- The rows of tables, one table after the other.
use Rattle.std.proofs.Common.{List, None, Option, Some, [], ap, arith, drop, false, get_or, is_some, length, refl, subst, suc, sym, take, true, true≢false, zero, Bor, ℕ, ◌+◌, ◌++◌, ◌<◌, ◌∙◌, ◌∷◌, ◌≡◌, ◌≤◌}
use Rattle.std.specs.Option.{option_copied, option_or}
use Rattle.std.proofs.lemmas.List.{append-nil, at_drop_more, take-append-drop, take_all, take_more}
use Rattle.std.proofs.lemmas.List.Concat.{flat_map-append}
use Rattle.std.proofs.lemmas.List.Folds.{find-append}
use Rattle.lf_base.specs.declared.ids.ObjId.{ObjId}
use Rattle.lf_base.specs.Names.{same_name}
use Rattle.lf_frozen.specs.declared.row.FrozenRow.{FrozenRow}
use Rattle.lf_frozen.specs.Entries.{Apart, put_by_name, lesser_row, rows_of_tables}
use Rattle.lf_frozen.specs.FrozenRows.{RiseByName, frozen_at, next_frozen}
use Rattle.lf_frozen.proofs.NextRows.{IsNext, next_by_name, next_joined, risen_next}
use Rattle.lf_frozen.proofs.RisenRows.{found_by_name}

pub table_rows_append : (xs ys : List (List FrozenRow)) → rows_of_tables (xs ++ ys) ≡ rows_of_tables xs ++ rows_of_tables ys
table_rows_append xs ys = flat_map-append (λ (rows : List FrozenRow). rows) xs ys

pub rows_push : (tables : List (List FrozenRow)) (rows : List FrozenRow)
    → rows_of_tables (tables ++ rows ∷ []) ≡ rows_of_tables tables ++ rows
rows_push tables rows = table_rows_append tables (rows ∷ []) ∙ ap (λ l. rows_of_tables tables ++ l) (append-nil rows)

pub rows_parts : (k : ℕ) (tables : List (List FrozenRow))
    → rows_of_tables tables ≡ rows_of_tables (take k tables) ++ rows_of_tables (drop k tables)
rows_parts k tables = ap rows_of_tables (sym (take-append-drop k tables)) ∙ table_rows_append (take k tables) (drop k tables)

rows_more : (tables : List (List FrozenRow)) (i : ℕ) (d : List FrozenRow) → i < length tables
    → rows_of_tables (take (i + 1) tables) ≡ rows_of_tables (take i tables) ++ get_or tables i d
rows_more tables i d lt = ap rows_of_tables (take_more tables i d lt) ∙ rows_push (take i tables) (get_or tables i d)

pub rows_left : (tables : List (List FrozenRow)) (i : ℕ) (table : List FrozenRow) → i < length tables → table ≡ get_or tables i table
    → rows_of_tables (drop i tables) ≡ table ++ rows_of_tables (drop (i + 1) tables)
rows_left tables i table lt is = at_drop_more rows_of_tables tables i table lt
    ∙ ap (λ rows. rows ++ rows_of_tables (drop (i + 1) tables)) (sym is)

-- ---- a name
found_among : (o : ObjId) (xs ys : List FrozenRow) → frozen_at (xs ++ ys) o ≡ option_or (frozen_at xs o) (frozen_at ys o)
found_among o xs ys = find-append (λ (row : FrozenRow). same_name row.id o) xs ys

pub none_more : (o : ObjId) (tables : List (List FrozenRow)) (i : ℕ) (d : List FrozenRow) → i < length tables
    → frozen_at (rows_of_tables (take i tables)) o ≡ None → frozen_at (get_or tables i d) o ≡ None
    → frozen_at (rows_of_tables (take (i + 1) tables)) o ≡ None
none_more o tables i d lt before here =
    ap (λ rows. frozen_at rows o) (rows_more tables i d lt)
    ∙ found_among o (rows_of_tables (take i tables)) (get_or tables i d)
    ∙ ap (λ x. option_or x (frozen_at (get_or tables i d) o)) before
    ∙ here

none_left : (a b : Option FrozenRow) → option_or a b ≡ None → a ≡ None
none_left None b e = refl
none_left (Some x) b e = cc

none_right : (a b : Option FrozenRow) → option_or a b ≡ None → b ≡ None
none_right None b e = e
none_right (Some x) b e = cc

pub found_in : (o : ObjId) (row : FrozenRow) (tables : List (List FrozenRow)) (i : ℕ) (d : List FrozenRow) → i < length tables
    → frozen_at (rows_of_tables (take i tables)) o ≡ None → frozen_at (get_or tables i d) o ≡ Some row
    → frozen_at (rows_of_tables tables) o ≡ Some row
found_in o row [] i d lt before here = absurd (omega (arith, lt))
found_in o row (x ∷ xs) zero d lt before here = found_among o x (rows_of_tables xs)
    ∙ ap (λ a. option_or a (frozen_at (rows_of_tables xs) o)) here
found_in o row (x ∷ xs) (suc i) d lt before here =
    let parts = sym (found_among o x (rows_of_tables (take i xs))) ∙ before in
    found_among o x (rows_of_tables xs)
    ∙ ap (λ a. option_or a (frozen_at (rows_of_tables xs) o)) (none_left (frozen_at x o) (frozen_at (rows_of_tables (take i xs)) o) parts)
    ∙ found_in o row xs i d (omega (arith, lt)) (none_right (frozen_at x o) (frozen_at (rows_of_tables (take i xs)) o) parts) here

-- ---- the next name
pub next_more : (after : Option ObjId) (tables : List (List FrozenRow)) (i : ℕ) (d : List FrozenRow) (found here : Option FrozenRow)
    → i < length tables
    → IsNext (rows_of_tables (take i tables)) after found → RiseByName (get_or tables i d) → here ≡ next_frozen (get_or tables i d) after
    → IsNext (rows_of_tables (take (i + 1) tables)) after (lesser_row found here)
next_more after tables i d found here lt before rise is =
    subst (λ rows. IsNext rows after (lesser_row found here)) (sym (rows_more tables i d lt))
    (next_joined (rows_of_tables (take i tables)) (get_or tables i d) after found here before
    (subst (IsNext (get_or tables i d) after) (sym is) (risen_next (get_or tables i d) after rise)))

-- ---- what is found table by table
not_some : (found : Option FrozenRow) → is_some found ≡ false → found ≡ None
not_some None e = refl
not_some (Some row) e = absurd (true≢false e)

pub none_next : (o : ObjId) (tables : List (List FrozenRow)) (i : ℕ) (table : List FrozenRow) (found : Option FrozenRow) → i < length tables
    → frozen_at (rows_of_tables (take i tables)) o ≡ None → table ≡ get_or tables i table → is_some found ≡ false
    → found ≡ frozen_at table o
    → frozen_at (rows_of_tables (take (i + 1) tables)) o ≡ None
none_next o tables i table found lt before at other here =
    none_more o tables i table lt before (ap (λ rows. frozen_at rows o) (sym at) ∙ sym here ∙ not_some found other)

pub some_copied : (found : Option (Bor FrozenRow)) → is_some (option_copied found) ≡ is_some found
some_copied None = refl
some_copied (Some row) = refl

pub found_first : (o : ObjId) (tables : List (List FrozenRow)) (i : ℕ) (table : List FrozenRow) (found : Option FrozenRow)
    → i < length tables
    → frozen_at (rows_of_tables (take i tables)) o ≡ None → table ≡ get_or tables i table → is_some found ≡ true → found ≡ frozen_at table o
    → Apart (rows_of_tables tables)
    → found ≡ frozen_at (put_by_name (rows_of_tables tables)) o
found_first o tables i table None lt before at some here apart = absurd (true≢false (sym some))
found_first o tables i table (Some row) lt before at some here apart =
    sym (found_in o row tables i table lt before (ap (λ rows. frozen_at rows o) (sym at) ∙ sym here))
    ∙ found_by_name (rows_of_tables tables) o apart

pub found_nowhere : (o : ObjId) (tables : List (List FrozenRow)) (i : ℕ) → length tables ≤ i
    → frozen_at (rows_of_tables (take i tables)) o ≡ None
    → Apart (rows_of_tables tables)
    → None ≡ frozen_at (put_by_name (rows_of_tables tables)) o
found_nowhere o tables i past none apart =
    sym none ∙ ap (λ l. frozen_at (rows_of_tables l) o) (take_all i tables past) ∙ found_by_name (rows_of_tables tables) o apart

pub next_of_all : (after : Option ObjId) (tables : List (List FrozenRow)) (i : ℕ) (found : Option FrozenRow) → length tables ≤ i
    → IsNext (rows_of_tables (take i tables)) after found → Apart (rows_of_tables tables)
    → found ≡ next_frozen (put_by_name (rows_of_tables tables)) after
next_of_all after tables i found past next apart =
    next_by_name (rows_of_tables tables) after found apart (subst (λ l. IsNext (rows_of_tables l) after found) (take_all i tables past)
    next)
