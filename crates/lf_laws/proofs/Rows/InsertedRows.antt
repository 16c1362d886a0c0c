-- Rows put among others by rising name: difference, owners, edges and values.
use Rattle.lf_base.specs.declared.values.Owner.{Owner}
use Rattle.std.proofs.lemmas.List.Sums.{sum_by-append}
use Rattle.std.specs.List.{count_by}
use Rattle.std.proofs.Common.{List, None, Some, [], ap, cond, false, inl, inr, map, refl, sym, true, ◌++◌, ◌||◌, ◌∙◌, ◌∷◌, ◌≡◌, ◌⊎◌, Bool, Option, arith, subst, ◌+◌}
use Rattle.lf_base.specs.declared.ids.ObjId.{ObjId}
use Rattle.lf_base.specs.declared.values.Key.{Key}
use Rattle.lf_base.specs.declared.values.Value.{Value}
use Rattle.lf_base.specs.Edges.{Field, edges_by, field_targets, row_edges, rows_edges, Edge}
use Rattle.lf_base.specs.FreezeResult.{frozen_row, insert_rows}
use Rattle.lf_base.specs.Names.{name_below, same_name}
use Rattle.lf_base.specs.Owners.{has_name, has_row, names, owner_in, row_at, row_owner}
use Rattle.lf_base.specs.PlainChanges.{insert_row}
use Rattle.lf_base.specs.PlainState.{Row}
use Rattle.lf_base.specs.Sets.{Differ, InOrder, Member}
use Rattle.lf_base.specs.WellFormed.{field_values}
use Rattle.lf_laws.proofs.Rows.RowsByName.{Distinct, has_append, mem_has}
use Rattle.lf_base.proofs.ListLemmas.Tests.{any_none, none_any}
use Rattle.std.proofs.lemmas.Bool.{both_ways, false_from_ne_true, or_left, or_from}
use Rattle.lf_base.proofs.ListLemmas.Members.{Member_left, Member_of_append, Member_right, Member_flat_map, Member_map, Member_of_flat_map, Member_of_map}
use Rattle.std.proofs.Math.Bool.{or-true, or_assoc}
use Rattle.lf_base.proofs.NameLemmas.RowNames.{has_inserted, has_names, inserted, inserted_name, inserted_order}
use Rattle.lf_base.proofs.NameLemmas.SameNames.{same_name_is, same_name_itself, other_way}

pub inserted_owner : (x : Row) (rows : List Row) (o : ObjId) → has_row rows x.name ≡ false → owner_in (insert_row x rows) o ≡ cond (same_name x.name o) (Some (x.owner)) (owner_in rows o)
inserted_owner x [] o h = elim (same_name x.name o) as (λ b. row_owner (cond b (Some x) None) ≡ cond b (Some (x.owner)) None) [ true ↦ refl | false ↦ refl ]
inserted_owner x (z ∷ zs) o h =
    elim (name_below x.name z.name) as (λ b. owner_in (cond b (x ∷ (z ∷ zs)) (z ∷ insert_row x zs)) o ≡ cond (same_name x.name o) (Some (x.owner)) (owner_in (z ∷ zs) o)) [
      | true ↦ elim (same_name x.name o) as (λ b. row_owner (cond b (Some x) (row_at (z ∷ zs) o)) ≡ cond b (Some (x.owner)) (owner_in (z ∷ zs) o)) [ true ↦ refl | false ↦ refl ]
      | false ↦ elim (same_name z.name o) as (λ b. same_name z.name o ≡ b → row_owner (cond b (Some z) (row_at (insert_row x zs) o)) ≡ cond (same_name x.name o) (Some (x.owner)) (row_owner (cond b (Some z) (row_at zs o)))) [
        | true ↦ λ e.
            let apart : same_name x.name o ≡ false = false_from_ne_true _ (λ k.
            let one : z.name ≡ x.name = same_name_is z.name o e ∙ sym (same_name_is x.name o k) in
            both_ways _ h (or_left (same_name z.name x.name) (has_row zs x.name) (ap (λ n. same_name n x.name) one ∙ same_name_itself x.name))) in
            sym (ap (λ b. cond b (Some (x.owner)) (Some (z.owner))) apart)
        | false ↦ λ e. inserted_owner x zs o (false_from_ne_true _ (λ k. both_ways _ h (ap (λ b. same_name z.name x.name || b) k ∙ or-true _)))
      ] refl
    ]

pub inserted_edges : (x : Row) (rows : List Row) → x.fields ≡ [] → rows_edges (insert_row x rows) ≡ rows_edges rows
inserted_edges x [] h = ap (λ fs. edges_by (Field x.name) (field_targets fs) ++ []) h
inserted_edges x (z ∷ zs) h =
    elim (name_below x.name z.name) as (λ b. rows_edges (cond b (x ∷ (z ∷ zs)) (z ∷ insert_row x zs)) ≡ rows_edges (z ∷ zs)) [
      | true ↦ ap (λ fs. edges_by (Field x.name) (field_targets fs) ++ rows_edges (z ∷ zs)) h
      | false ↦ ap (λ l. row_edges z ++ l) (inserted_edges x zs h)
    ]

pub inserted_values : (x : Row) (rows : List Row) → x.fields ≡ [] → field_values (insert_row x rows) ≡ field_values rows
inserted_values x [] h = ap (λ fs. map (λ (f : Key × Value). f.1) fs ++ []) h
inserted_values x (z ∷ zs) h =
    elim (name_below x.name z.name) as (λ b. field_values (cond b (x ∷ (z ∷ zs)) (z ∷ insert_row x zs)) ≡ field_values (z ∷ zs)) [
      | true ↦ ap (λ fs. map (λ (f : Key × Value). f.1) fs ++ field_values (z ∷ zs)) h
      | false ↦ ap (λ l. map (λ (f : Key × Value). f.1) z.fields ++ l) (inserted_values x zs h)
    ]

pub inserted_differ : (x : Row) (rows : List Row) (os : List ObjId) → ((o : ObjId) → Member o (names rows ++ os) → same_name o x.name ≡ false) → Differ same_name (names rows ++ os) → Differ same_name (names (insert_row x rows) ++ os)
inserted_differ x [] os f d = (any_none (λ y. same_name y x.name) os f, d)
inserted_differ x (z ∷ zs) os f d =
    elim (name_below x.name z.name) as (λ b. Differ same_name (names (cond b (x ∷ (z ∷ zs)) (z ∷ insert_row x zs)) ++ os)) [
      | true ↦ (any_none (λ y. same_name y x.name) (names (z ∷ zs) ++ os) f, d)
      | false ↦ (
        any_none (λ y. same_name y z.name) (names (insert_row x zs) ++ os) (λ y m. elim (Member_of_append y (names (insert_row x zs)) os m) [
          | inl k ↦ elim (inserted_name x zs y k) [
            | inl e ↦ ap (λ n. same_name n z.name) (sym e) ∙ false_from_ne_true _ (λ h. both_ways _ (f z.name (inl refl)) (ap (λ n. same_name n x.name) (sym (same_name_is x.name z.name h)) ∙ same_name_itself x.name))
            | inr j ↦ none_any (λ w. same_name w z.name) (names zs ++ os) d.0 y (Member_left y (names zs) os j)
          ]
          | inr k ↦ none_any (λ w. same_name w z.name) (names zs ++ os) d.0 y (Member_right y (names zs) os k)
        ]),
        inserted_differ x zs os (λ o m. f o (inr m)) d.1,
      )
    ]

-- ---- a set of rows
pub all_inserted : (xs ys : List Row) (y : Row) → Member y (insert_rows xs ys) → Member y xs ⊎ Member y ys
all_inserted [] ys y m = inr m
all_inserted (x ∷ xs) ys y m = elim (inserted x (insert_rows xs ys) y m) [
  | inl e ↦ inl (inl e)
  | inr k ↦ elim (all_inserted xs ys y k) [ inl j ↦ inl (inr j) | inr j ↦ inr j ]
]

pub has_all : (xs ys : List Row) (o : ObjId) → has_row (insert_rows xs ys) o ≡ (has_row xs o || has_row ys o)
has_all [] ys o = refl
has_all (x ∷ xs) ys o = has_inserted x (insert_rows xs ys) o ∙ ap (λ b. same_name x.name o || b) (has_all xs ys o) ∙ sym (or_assoc (same_name x.name o) (has_row xs o) (has_row ys o))

pub has_frozen : (xs : List Row) (o : ObjId) → has_row (map frozen_row xs) o ≡ has_row xs o
has_frozen [] o = refl
has_frozen (x ∷ xs) o = ap (λ b. same_name x.name o || b) (has_frozen xs o)

-- the rows of the first list aren't among the second
abbrev pub RowsApart : List Row → List ObjId → Type 0
RowsApart xs os = (x : Row) → Member x xs → has_name os x.name ≡ false

pub none_here : (xs ys : List Row) (o : ObjId) → has_row xs o ≡ false → has_row ys o ≡ false → has_row (insert_rows xs ys) o ≡ false
none_here xs ys o h k = has_all xs ys o ∙ or_from _ _ h k

pub all_order : (xs ys : List Row) → Distinct xs → RowsApart xs (names ys) → InOrder name_below (names ys) → InOrder name_below (names (insert_rows xs ys))
all_order [] ys d f o = o
all_order (x ∷ xs) ys d f o = inserted_order x (insert_rows xs ys) (none_here xs ys x.name d.0 (sym (has_names ys x.name) ∙ f x (inl refl))) (all_order xs ys d.1 (λ y m. f y (inr m)) o)

pub has_inserted_name : (x : Row) (ys : List Row) (o : ObjId) → has_name (names (insert_row x ys)) o ≡ (same_name x.name o || has_name (names ys) o)
has_inserted_name x ys o = has_names (insert_row x ys) o ∙ has_inserted x ys o ∙ ap (λ b. same_name x.name o || b) (sym (has_names ys o))

pub differ_row : (x : Row) (ys : List Row) → has_name (names ys) x.name ≡ false → Differ same_name (names ys) → Differ same_name (names (insert_row x ys))
differ_row x [] f d = (refl, tt)
differ_row x (y ∷ ys) f d =
    let apart : same_name y.name x.name ≡ false = false_from_ne_true _ (λ e. both_ways _ f (or_left _ (has_name (names ys) x.name) e)) in
    let rest : has_name (names ys) x.name ≡ false = false_from_ne_true _ (λ e. both_ways _ f (ap (λ b. same_name y.name x.name || b) e ∙ or-true _)) in
    elim (name_below x.name y.name) as (λ b. Differ same_name (names (cond b (x ∷ (y ∷ ys)) (y ∷ insert_row x ys)))) [
      | true ↦ (f, d)
      | false ↦ (has_inserted_name x ys y.name ∙ or_from _ _ (other_way y.name x.name apart) d.0, differ_row x ys rest d.1)
    ]

pub differ_into : (os : List ObjId) (x : Row) (ys : List Row) → has_name os x.name ≡ false → has_name (names ys) x.name ≡ false → Differ same_name (os ++ names ys) → Differ same_name (os ++ names (insert_row x ys))
differ_into [] x ys f g d = differ_row x ys g d
differ_into (p ∷ os) x ys f g d =
    let apart : same_name p x.name ≡ false = false_from_ne_true _ (λ e. both_ways _ f (or_left _ (has_name os x.name) e)) in
    let rest : has_name os x.name ≡ false = false_from_ne_true _ (λ e. both_ways _ f (ap (λ b. same_name p x.name || b) e ∙ or-true _)) in
    let old : (has_name os p || has_name (names ys) p) ≡ false = sym (has_append os (names ys) p) ∙ d.0 in (
      has_append os (names (insert_row x ys)) p ∙ ap (λ b. has_name os p || b) (has_inserted_name x ys p ∙ ap (λ b. b || has_name (names ys) p) (other_way p x.name apart)) ∙ old,
      differ_into os x ys rest g d.1,
    )

pub differ_all : (os : List ObjId) (xs ys : List Row) → Distinct xs → RowsApart xs os → RowsApart xs (names ys) → Differ same_name (os ++ names ys) → Differ same_name (os ++ names (insert_rows xs ys))
differ_all os [] ys d f g h = h
differ_all os (x ∷ xs) ys d f g h =
    differ_into os x (insert_rows xs ys) (f x (inl refl))
    (has_names (insert_rows xs ys) x.name ∙ none_here xs ys x.name d.0 (sym (has_names ys x.name) ∙ g x (inl refl)))
    (differ_all os xs ys d.1 (λ y m. f y (inr m)) (λ y m. g y (inr m)) h)

pub distinct_frozen : (xs : List Row) → Distinct xs → Distinct (map frozen_row xs)
distinct_frozen [] d = d
distinct_frozen (x ∷ xs) d = (has_frozen xs x.name ∙ d.0, distinct_frozen xs d.1)

-- ---- owners, counts and edges of rows that were put among others
abbrev pub or_owner : Option Owner → Option Owner → Option Owner
or_owner None w = w
or_owner (Some v) w = Some v

pub owner_all : (xs ys : List Row) (o : ObjId) → Distinct xs → ((x : Row) → Member x xs → has_row ys x.name ≡ false) → owner_in (insert_rows xs ys) o ≡ or_owner (owner_in xs o) (owner_in ys o)
owner_all [] ys o d h = refl
owner_all (x ∷ xs) ys o d h =
    inserted_owner x (insert_rows xs ys) o (none_here xs ys x.name d.0 (h x (inl refl)))
    ∙ ap (cond (same_name x.name o) (Some (x.owner))) (owner_all xs ys o d.1 (λ y m. h y (inr m)))
    ∙ elim (same_name x.name o) as (λ b. cond b (Some (x.owner)) (or_owner (owner_in xs o) (owner_in ys o)) ≡ or_owner (row_owner (cond b (Some x) (row_at xs o))) (owner_in ys o)) [ true ↦ refl | false ↦ refl ]

count_row : (p : Edge → Bool) (x : Row) (ys : List Row) → count_by p (rows_edges (insert_row x ys)) ≡ count_by p (row_edges x) + count_by p (rows_edges ys)
count_row p x [] = sum_by-append (λ e. cond (p e) 1 0) (row_edges x) []
count_row p x (y ∷ ys) = elim (name_below x.name y.name) as (λ b. count_by p (rows_edges (cond b (x ∷ (y ∷ ys)) (y ∷ insert_row x ys))) ≡ count_by p (row_edges x) + count_by p (rows_edges (y ∷ ys))) [
  | true ↦ sum_by-append (λ e. cond (p e) 1 0) (row_edges x) (rows_edges (y ∷ ys))
  | false ↦ omega (arith, sum_by-append (λ e. cond (p e) 1 0) (row_edges y) (rows_edges (insert_row x ys)), sum_by-append (λ e. cond (p e) 1 0) (row_edges y) (rows_edges ys), count_row p x ys)
]

pub count_rows : (p : Edge → Bool) (xs ys : List Row) → count_by p (rows_edges (insert_rows xs ys)) ≡ count_by p (rows_edges xs) + count_by p (rows_edges ys)
count_rows p [] ys = omega arith
count_rows p (x ∷ xs) ys = omega (arith, count_row p x (insert_rows xs ys), count_rows p xs ys, sum_by-append (λ e. cond (p e) 1 0) (row_edges x) (rows_edges xs))

pub rows_edge_of : (xs ys : List Row) (e : Edge) → Member e (rows_edges (insert_rows xs ys)) → Member e (rows_edges xs) ⊎ Member e (rows_edges ys)
rows_edge_of xs ys e m =
    let x = Member_of_flat_map row_edges e (insert_rows xs ys) m in
    elim (all_inserted xs ys x.0 x.1.0) [ inl n ↦ inl (Member_flat_map row_edges x.0 e xs n x.1.1) | inr n ↦ inr (Member_flat_map row_edges x.0 e ys n x.1.1) ]

pub differ_names : (xs ys : List Row) (os : List ObjId) → Distinct xs → ((x : Row) → Member x xs → (o : ObjId) → Member o (names ys ++ os) → same_name o x.name ≡ false) → Differ same_name (names ys ++ os) → Differ same_name (names (insert_rows xs ys) ++ os)
differ_names [] ys os d h k = k
differ_names (x ∷ xs) ys os d h k = inserted_differ x (insert_rows xs ys) os
    (λ o m. elim (Member_of_append o (names (insert_rows xs ys)) os m) [
      | inl n ↦ let z = Member_of_map (λ (r : Row). r.name) o (insert_rows xs ys) n in elim (all_inserted xs ys z.0 z.1.0) [
        | inl q ↦ false_from_ne_true _ (λ e. both_ways _ d.0 (subst (λ b. has_row xs b ≡ true) (z.1.1 ∙ same_name_is o x.name e) (mem_has z.0 xs q)))
        | inr q ↦ h x (inl refl) o (Member_left o (names ys) os (subst (λ b. Member b (names ys)) z.1.1 (Member_map (λ (r : Row). r.name) z.0 ys q)))
      ]
      | inr n ↦ h x (inl refl) o (Member_right o (names ys) os n)
    ])
    (differ_names xs ys os d.1 (λ y m. h y (inr m)) k)
