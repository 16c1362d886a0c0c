-- What a change of a store's rows makes of the state's rows, which stand by rising name.
use Rattle.std.proofs.Common.{Bool, List, None, Some, [], ap, cond, false, inl, inr, map, not, refl, subst, sym, true, ◌++◌, ◌||◌, ◌∙◌, ◌∷◌, ◌≡◌}
use Rattle.std.specs.List.{filter}
use Rattle.std.specs.Option.{is_some, option_map}
use Rattle.std.proofs.Math.Bool.{or-false, or_assoc}
use Rattle.std.proofs.lemmas.List.{append-nil, map-id}
use Rattle.std.proofs.lemmas.Bool.{or_parts}
use Rattle.lf_base.specs.declared.ids.ObjId.{ObjId}
use Rattle.lf_base.specs.declared.values.Key.{Key}
use Rattle.lf_base.specs.declared.values.Owner.{Owner}
use Rattle.lf_base.specs.declared.values.Value.{Value}
use Rattle.lf_base.specs.FreezeResult.{insert_rows}
use Rattle.lf_base.specs.Names.{name_below, same_name}
use Rattle.lf_base.specs.Owners.{has_name, has_row, names, row_at}
use Rattle.lf_base.specs.PlainChanges.{insert_row}
use Rattle.lf_base.specs.PlainState.{Row}
use Rattle.lf_base.specs.Sets.{Differ, InOrder, Member}
use Rattle.lf_base.specs.WriteResult.{is_at, relabel}
use Rattle.lf_base.proofs.ListLemmas.Filters.{Member_of_filter}
use Rattle.lf_base.proofs.ListLemmas.Members.{Member_map}
use Rattle.lf_base.proofs.ListLemmas.Sublists.{differ_sub, order_all, order_tail, sub_filter, sub_map}
use Rattle.lf_base.proofs.NameLemmas.NameOrder.{name_below_trans}
use Rattle.lf_base.proofs.NameLemmas.RowNames.{has_inserted, has_names, inserted_order}
use Rattle.lf_base.proofs.NameLemmas.SameNames.{same_name_flips, same_name_is, same_name_itself}
use Rattle.lf_graph.specs.Parts.{AllNew}
use Rattle.lf_graph.specs.RowChanges.{changed, moved_last, moved_under, new_row, with_fields, with_new_row, with_owner, without_row}
use Rattle.lf_graph.specs.StoredRows.{AreRowsOf, CountedRow, IsNewName, NamesDiffer, SameByOwner, is_named, plain, row_named, rows_by_name}
use Rattle.lf_graph.proofs.Stores.Reordered.{Reordered, as_before, differ_reordered, in_order_reordered, reordered_by_owner, skip, swap, then, to_middle, turned}

-- ---- inserting rows by name
has_by_name : (rows : List Row) (o : ObjId) → has_row (rows_by_name rows) o ≡ has_row rows o
has_by_name [] o = refl
has_by_name (r ∷ rs) o = has_inserted r (rows_by_name rs) o ∙ ap (λ b. same_name r.name o || b) (has_by_name rs o)

pub by_name_rises : (rows : List Row) → Differ same_name (names rows) → InOrder name_below (names (rows_by_name rows))
by_name_rises [] d = tt
by_name_rises (r ∷ rs) d = inserted_order r (rows_by_name rs) (has_by_name rs r.name ∙ sym (has_names rs r.name) ∙ d.0) (by_name_rises rs d.1)

insert_map : (f : Row → Row) → ((r : Row) → (f r).name ≡ r.name) → (x : Row) (rows : List Row) → insert_row (f x) (map f rows) ≡ map f (insert_row x rows)
insert_map f keeps x [] = refl
insert_map f keeps x (y ∷ ys) =
    (λ i. cond (name_below (keeps x i) (keeps y i)) (f x ∷ (f y ∷ map f ys)) (f y ∷ insert_row (f x) (map f ys)))
    ∙ (elim (name_below x.name y.name) as (λ b. cond b (f x ∷ (f y ∷ map f ys)) (f y ∷ insert_row (f x) (map f ys)) ≡ map f (cond b (x ∷ (y ∷ ys)) (y ∷ insert_row x ys))) [
      | true ↦ refl
      | false ↦ ap (λ l. f y ∷ l) (insert_map f keeps x ys)
    ])

pub by_name_map : (f : Row → Row) → ((r : Row) → (f r).name ≡ r.name) → (rows : List Row) → rows_by_name (map f rows) ≡ map f (rows_by_name rows)
by_name_map f keeps [] = refl
by_name_map f keeps (r ∷ rs) = ap (insert_row (f r)) (by_name_map f keeps rs) ∙ insert_map f keeps r (rows_by_name rs)

insert_least : (x : Row) (ys : List Row) → ((y : Row) → Member y ys → name_below x.name y.name ≡ true) → insert_row x ys ≡ x ∷ ys
insert_least x [] h = refl
insert_least x (y ∷ ys) h = ap (λ b. cond b (x ∷ (y ∷ ys)) (y ∷ insert_row x ys)) (h y (inl refl))

below_rest : (x z : Row) (zs : List Row) → name_below x.name z.name ≡ true → InOrder name_below (names (z ∷ zs)) → (y : Row) → Member y (z ∷ zs) → name_below x.name y.name ≡ true
below_rest x z zs e o y (inl same) = ap (λ (r : Row). name_below x.name r.name) (sym same) ∙ e
below_rest x z zs e o y (inr m) = name_below_trans x.name z.name y.name e (order_all name_below name_below_trans z.name (names zs) o y.name (Member_map (λ (r : Row). r.name) y zs m))

filter_insert : (p : Row → Bool) (x : Row) (zs : List Row) → InOrder name_below (names zs) → filter p (insert_row x zs) ≡ cond (p x) (insert_row x (filter p zs)) (filter p zs)
filter_insert p x [] o = refl
filter_insert p x (z ∷ zs) o =
    elim (name_below x.name z.name) as (λ b. name_below x.name z.name ≡ b → filter p (cond b (x ∷ (z ∷ zs)) (z ∷ insert_row x zs)) ≡ cond (p x) (insert_row x (filter p (z ∷ zs))) (filter p (z ∷ zs))) [
      | true ↦ λ e. ap (λ l. cond (p x) l (filter p (z ∷ zs))) (sym (insert_least x (filter p (z ∷ zs)) (λ y m. below_rest x z zs e o y (Member_of_filter p y (z ∷ zs) m).0)))
      | false ↦ λ e.
          let rest = filter_insert p x zs (order_tail name_below name_below_trans z.name (names zs) o) in
          (λ i. cond (p z) (z ∷ rest i) (rest i))
          ∙ (elim (p z) as (λ b. cond b (z ∷ cond (p x) (insert_row x (filter p zs)) (filter p zs)) (cond (p x) (insert_row x (filter p zs)) (filter p zs)) ≡ cond (p x) (insert_row x (cond b (z ∷ filter p zs) (filter p zs))) (cond b (z ∷ filter p zs) (filter p zs))) [
            | true ↦ elim (p x) as (λ a. z ∷ cond a (insert_row x (filter p zs)) (filter p zs) ≡ cond a (insert_row x (z ∷ filter p zs)) (z ∷ filter p zs)) [
              | true ↦ sym (ap (λ b. cond b (x ∷ (z ∷ filter p zs)) (z ∷ insert_row x (filter p zs))) e)
              | false ↦ refl
            ]
            | false ↦ refl
          ])
    ] refl

pub by_name_filter : (p : Row → Bool) (rows : List Row) → Differ same_name (names rows) → rows_by_name (filter p rows) ≡ filter p (rows_by_name rows)
by_name_filter p [] d = refl
by_name_filter p (r ∷ rs) d =
    (elim (p r) as (λ b. rows_by_name (cond b (r ∷ filter p rs) (filter p rs)) ≡ cond b (insert_row r (filter p (rows_by_name rs))) (filter p (rows_by_name rs))) [
      | true ↦ ap (insert_row r) (by_name_filter p rs d.1)
      | false ↦ by_name_filter p rs d.1
    ]) ∙ sym (filter_insert p r (rows_by_name rs) (by_name_rises rs d.1))

-- ---- rows without their counts
pub plain_map : (f : CountedRow → CountedRow) (g : Row → Row) → ((c : CountedRow) → (f c).row ≡ g c.row) → (rows : List CountedRow) → plain (map f rows) ≡ map g (plain rows)
plain_map f g same [] = refl
plain_map f g same (c ∷ cs) = λ i. same c i ∷ plain_map f g same cs i

pub plain_filter : (p : Row → Bool) (rows : List CountedRow) → plain (filter (λ (c : CountedRow). p c.row) rows) ≡ filter p (plain rows)
plain_filter p [] = refl
plain_filter p (c ∷ cs) =
    elim (p c.row) as (λ b. plain (cond b (c ∷ filter (λ (c : CountedRow). p c.row) cs) (filter (λ (c : CountedRow). p c.row) cs)) ≡ cond b (c.row ∷ filter p (plain cs)) (filter p (plain cs))) [
      | true ↦ ap (λ l. c.row ∷ l) (plain_filter p cs)
      | false ↦ plain_filter p cs
    ]

pub names_map : (f : CountedRow → CountedRow) → ((c : CountedRow) → ((f c).row).name ≡ (c.row).name) → (rows : List CountedRow) → names (plain (map f rows)) ≡ names (plain rows)
names_map f keeps [] = refl
names_map f keeps (c ∷ cs) = λ i. keeps c i ∷ names_map f keeps cs i

-- ---- each change
-- the rows of a store may stand in another order
pub same_store : (rows new : List CountedRow) (of : List Row) → AreRowsOf rows of → SameByOwner new rows → AreRowsOf new of
same_store rows new of a same =
    let r = turned (reordered_by_owner new rows same) in
    record { differ = differ_reordered r a.differ; rise = sym (in_order_reordered r a.differ) ∙ a.rise }

module _ (rows : List CountedRow) (of : List Row) (a : AreRowsOf rows of) where
  pub mapped_store : (f : CountedRow → CountedRow) (g : Row → Row) → ((c : CountedRow) → (f c).row ≡ g c.row) → ((r : Row) → (g r).name ≡ r.name) → AreRowsOf (map f rows) (map g of)
  mapped_store f g same keeps = record {
    differ = subst (Differ same_name) (sym (names_map f (λ c. ap (λ (r : Row). r.name) (same c) ∙ keeps c.row) rows)) a.differ;
    rise = ap rows_by_name (plain_map f g same rows) ∙ by_name_map g keeps (plain rows) ∙ ap (map g) a.rise;
  }

  pub filtered_store : (p : Row → Bool) → AreRowsOf (filter (λ c. p c.row) rows) (filter p of)
  filtered_store p = record {
    differ = differ_sub same_name (sub_map (λ (r : Row). r.name) (sub_map (λ (c : CountedRow). c.row) (sub_filter (λ (c : CountedRow). p c.row) rows))) a.differ;
    rise = ap rows_by_name (plain_filter p rows) ∙ by_name_filter p (plain rows) a.differ ∙ ap (filter p) a.rise;
  }

  pub store_with : (x : CountedRow) → has_name (names (plain rows)) (x.row).name ≡ false → AreRowsOf (x ∷ rows) (insert_row x.row of)
  store_with x new = record { differ = (new, a.differ); rise = ap (insert_row x.row) a.rise }

pub new_has_no_name : (rows : List CountedRow) (o : ObjId) → IsNewName rows o → has_name (names (plain rows)) o ≡ false
new_has_no_name [] o new = refl
new_has_no_name (c ∷ cs) o new =
    elim (is_named o c) as (λ b. cond b (Some c) (row_named cs o) ≡ None → (b || has_name (names (plain cs)) o) ≡ false) [
      | true ↦ λ h. cc
      | false ↦ λ h. new_has_no_name cs o h
    ] new

first_to_last : (x : CountedRow) (xs : List CountedRow) → Reordered (x ∷ xs) (xs ++ x ∷ [])
first_to_last x [] = as_before (x ∷ [])
first_to_last x (y ∷ ys) = then swap (skip (first_to_last x ys))

pub reordered_store : {xs ys : List CountedRow} (of : List Row) → Reordered xs ys → AreRowsOf xs of → AreRowsOf ys of
reordered_store of r a = record { differ = differ_reordered r a.differ; rise = sym (in_order_reordered r a.differ) ∙ a.rise }

pub inserted_store : (rows : List CountedRow) (of : List Row) (o : ObjId) (w : Owner) → AreRowsOf rows of → IsNewName rows o → AreRowsOf (with_new_row rows o w) (insert_row (new_row o w).row of)
inserted_store rows of o w a new = reordered_store _ (first_to_last (new_row o w) rows) (store_with rows of a (new_row o w) (new_has_no_name rows o new))

-- a row that moves to the end of the list is changed in its place, up to order
pub no_name_stays : (rows : List CountedRow) (o : ObjId) → has_name (names (plain rows)) o ≡ false → without_row rows o ≡ rows
no_name_stays [] o h = refl
no_name_stays (c ∷ cs) o h =
    let n = or_parts (is_named o c) (has_name (names (plain cs)) o) h in
    ap (λ b. cond (not b) (c ∷ without_row cs o) (without_row cs o)) n.0 ∙ ap (λ l. c ∷ l) (no_name_stays cs o n.1)

no_name_changes : (rows : List CountedRow) (o : ObjId) (f : CountedRow → CountedRow) → has_name (names (plain rows)) o ≡ false → changed rows o f ≡ rows
no_name_changes [] o f h = refl
no_name_changes (c ∷ cs) o f h =
    let n = or_parts (is_named o c) (has_name (names (plain cs)) o) h in
    ap (λ b. cond b (f c) c ∷ changed cs o f) n.0 ∙ ap (λ l. c ∷ l) (no_name_changes cs o f n.1)

pub moved_is_changed : (rows : List CountedRow) (o : ObjId) (w : Owner) → NamesDiffer rows → Reordered (changed rows o (with_owner w)) (moved_last rows o w)
moved_is_changed [] o w d = as_before []
moved_is_changed (c ∷ cs) o w d =
    elim (is_named o c) as (λ b. is_named o c ≡ b → Reordered (cond b (with_owner w c) c ∷ changed cs o (with_owner w)) (cond (not b) (c ∷ without_row cs o) (without_row cs o) ++ moved_under w (cond b (Some c) (row_named cs o)))) [
      | true ↦ λ e.
          let none_else : has_name (names (plain cs)) o ≡ false = ap (has_name (names (plain cs))) (sym (same_name_is (c.row).name o e)) ∙ d.0 in
          subst (λ l. Reordered (with_owner w c ∷ l) (without_row cs o ++ with_owner w c ∷ [])) (sym (no_name_changes cs o (with_owner w) none_else))
          (subst (λ l. Reordered (with_owner w c ∷ cs) (l ++ with_owner w c ∷ [])) (sym (no_name_stays cs o none_else)) (first_to_last (with_owner w c) cs))
      | false ↦ λ e. skip (moved_is_changed cs o w d.1)
    ] refl

relabelled : (o : ObjId) (w : Owner) (c : CountedRow) → (cond (is_named o c) (with_owner w c) c).row ≡ cond (has_name (o ∷ []) (c.row).name) (record (c.row) { owner = w }) c.row
relabelled o w c =
    (elim (is_named o c) as (λ b. (cond b (with_owner w c) c).row ≡ cond b (record (c.row) { owner = w }) c.row) [ true ↦ refl | false ↦ refl ])
    ∙ ap (λ b. cond b (record (c.row) { owner = w }) c.row) (same_name_flips (c.row).name o ∙ sym (or-false (same_name o (c.row).name)))

relabel_keeps : (o : ObjId) (w : Owner) (r : Row) → (cond (has_name (o ∷ []) r.name) (record r { owner = w }) r).name ≡ r.name
relabel_keeps o w r = elim (has_name (o ∷ []) r.name) as (λ b. (cond b (record r { owner = w }) r).name ≡ r.name) [ true ↦ refl | false ↦ refl ]

pub moved_store : (rows : List CountedRow) (of : List Row) (o : ObjId) (w : Owner) → AreRowsOf rows of → AreRowsOf (moved_last rows o w) (relabel of (o ∷ []) w)
moved_store rows of o w a =
    reordered_store _ (moved_is_changed rows o w a.differ)
    (mapped_store rows of a (λ c. cond (is_named o c) (with_owner w c) c) (λ r. cond (has_name (o ∷ []) r.name) (record r { owner = w }) r) (relabelled o w) (relabel_keeps o w))

-- one row with other fields
pub fields_store : (rows : List CountedRow) (of : List Row) (o : ObjId) (f : List (Key × Value) → List (Key × Value)) → AreRowsOf rows of
    → AreRowsOf (changed rows o (λ c. with_fields (f (c.row).fields) c)) (map (λ r. cond (is_at o r) (record r { fields = f r.fields }) r) of)
fields_store rows of o f a = mapped_store rows of a _ (λ r. cond (is_at o r) (record r { fields = f r.fields }) r)
    (λ c. elim (is_named o c) as (λ b. (cond b (with_fields (f (c.row).fields) c) c).row ≡ cond b (record (c.row) { fields = f (c.row).fields }) c.row) [ true ↦ refl | false ↦ refl ])
    (λ r. elim (is_at o r) as (λ b. (cond b (record r { fields = f r.fields }) r).name ≡ r.name) [ true ↦ refl | false ↦ refl ])

-- one row with another count
pub counts_store : (rows : List CountedRow) (of : List Row) (o : ObjId) (f : CountedRow → CountedRow) → ((c : CountedRow) → (f c).row ≡ c.row) → AreRowsOf rows of → AreRowsOf (changed rows o f) of
counts_store rows of o f keeps a =
    subst (λ l. AreRowsOf (changed rows o f) l) (map-id of)
    (mapped_store rows of a _ (λ r. r) (λ c. elim (is_named o c) as (λ b. (cond b (f c) c).row ≡ c.row) [ true ↦ keeps c | false ↦ refl ]) (λ r. refl))

-- ---- the rows of a part
pub has_no_name : (rows : List CountedRow) (o : ObjId) → has_name (names (plain rows)) o ≡ false → IsNewName rows o
has_no_name [] o h = refl
has_no_name (c ∷ cs) o h =
    let n = or_parts (is_named o c) (has_name (names (plain cs)) o) h in
    ap (λ b. cond b (Some c) (row_named cs o)) n.0 ∙ has_no_name cs o n.1

all_new_first : (p : CountedRow) (part rows : List CountedRow) → AllNew (p ∷ part) rows → IsNewName rows (p.row).name
all_new_first p part rows new = new (p.row).name (ap (λ b. is_some (cond b (Some p) (row_named part (p.row).name))) (same_name_itself (p.row).name))

all_new_rest : (p : CountedRow) (part rows : List CountedRow) → AllNew (p ∷ part) rows → AllNew part rows
all_new_rest p part rows new o has =
    new o (elim (is_named o p) as (λ b. is_some (cond b (Some p) (row_named part o)) ≡ true) [ true ↦ refl | false ↦ has ])

has_append : (xs ys : List CountedRow) (o : ObjId) → has_name (names (plain (xs ++ ys))) o ≡ (has_name (names (plain xs)) o || has_name (names (plain ys)) o)
has_append [] ys o = refl
has_append (x ∷ xs) ys o = ap (λ b. is_named o x || b) (has_append xs ys o) ∙ sym (or_assoc (is_named o x) (has_name (names (plain xs)) o) (has_name (names (plain ys)) o))

sides_turn : (xs ys : List CountedRow) → Reordered (xs ++ ys) (ys ++ xs)
sides_turn [] ys = subst (λ l. Reordered ys l) (sym (append-nil ys)) (as_before ys)
sides_turn (x ∷ xs) ys = then (skip (sides_turn xs ys)) (to_middle x ys xs)

part_before : (part rows : List CountedRow) (of : List Row) → AreRowsOf rows of → NamesDiffer part → AllNew part rows → AreRowsOf (part ++ rows) (insert_rows (plain part) of)
part_before [] rows of a d new = a
part_before (p ∷ part) rows of a d new =
    store_with (part ++ rows) (insert_rows (plain part) of) (part_before part rows of a d.1 (all_new_rest p part rows new)) p
    (has_append part rows (p.row).name ∙ ap (λ b. b || has_name (names (plain rows)) (p.row).name) d.0 ∙ new_has_no_name rows (p.row).name (all_new_first p part rows new))

pub part_store : (part rows : List CountedRow) (of : List Row) → AreRowsOf rows of → NamesDiffer part → AllNew part rows → AreRowsOf (rows ++ part) (insert_rows (plain part) of)
part_store part rows of a d new = reordered_store _ (sides_turn part rows) (part_before part rows of a d new)

-- ---- what is found
row_inserted : (x : Row) (ys : List Row) (o : ObjId) → has_row ys x.name ≡ false → row_at (insert_row x ys) o ≡ cond (same_name x.name o) (Some x) (row_at ys o)
row_inserted x [] o h = refl
row_inserted x (y ∷ ys) o h =
    elim (name_below x.name y.name) as (λ b. row_at (cond b (x ∷ (y ∷ ys)) (y ∷ insert_row x ys)) o ≡ cond (same_name x.name o) (Some x) (row_at (y ∷ ys) o)) [
      | true ↦ refl
      | false ↦
          let n = or_parts (same_name y.name x.name) (has_row ys x.name) h in
          ap (λ t. cond (same_name y.name o) (Some y) t) (row_inserted x ys o n.1)
          ∙ (elim (same_name x.name o) as (λ b. same_name x.name o ≡ b → cond (same_name y.name o) (Some y) (cond b (Some x) (row_at ys o)) ≡ cond b (Some x) (cond (same_name y.name o) (Some y) (row_at ys o))) [
            | true ↦ λ e. ap (λ b. cond b (Some y) (Some x)) (ap (same_name y.name) (sym (same_name_is x.name o e)) ∙ n.0)
            | false ↦ λ e. refl
          ] refl)
    ]

plain_found : (rows : List CountedRow) (o : ObjId) → row_at (plain rows) o ≡ option_map (λ c. c.row) (row_named rows o)
plain_found [] o = refl
plain_found (c ∷ cs) o =
    elim (is_named o c) as (λ b. cond b (Some c.row) (row_at (plain cs) o) ≡ option_map (λ c. c.row) (cond b (Some c) (row_named cs o))) [
      | true ↦ refl
      | false ↦ plain_found cs o
    ]

found_by_name : (rows : List Row) (o : ObjId) → Differ same_name (names rows) → row_at (rows_by_name rows) o ≡ row_at rows o
found_by_name [] o d = refl
found_by_name (r ∷ rs) o d =
    row_inserted r (rows_by_name rs) o (has_by_name rs r.name ∙ sym (has_names rs r.name) ∙ d.0)
    ∙ ap (λ t. cond (same_name r.name o) (Some r) t) (found_by_name rs o d.1)

pub found_of : (rows : List CountedRow) (of : List Row) (o : ObjId) → AreRowsOf rows of → row_at of o ≡ option_map (λ c. c.row) (row_named rows o)
found_of rows of o a = ap (λ l. row_at l o) (sym a.rise) ∙ found_by_name (plain rows) o a.differ ∙ plain_found rows o
