-- The rows of a list by rising name: which rows those are, and that there is one such list.
use Rattle.std.proofs.Common.{List, [], ap, arith, cond, false, inl, inr, refl, subst, sym, true, ℕ, ◌++◌, ◌∙◌, ◌∷◌, ◌≡◌}
use Rattle.std.specs.List.Sorted.{IsPermutation}
use Rattle.std.proofs.lemmas.Bool.{both_ways}
use Rattle.std.proofs.lemmas.List.{append-nil}
use Rattle.std.proofs.lemmas.List.Sorted.{IsPermutation-append_comm, IsPermutation-append_left, IsPermutation-append_right, IsPermutation-cons, IsPermutation-refl, IsPermutation-sym, IsPermutation-trans, sum_by-IsPermutation}
use Rattle.std.proofs.lemmas.List.Sums.{sum_by-cons}
use Rattle.lf_base.specs.declared.ids.ObjId.{ObjId}
use Rattle.lf_base.specs.Names.{name_below, same_name}
use Rattle.lf_base.specs.Sets.{Member}
use Rattle.lf_base.proofs.ListLemmas.Members.{Member_map, Member_of_map}
use Rattle.lf_base.proofs.ListLemmas.Sublists.{order_all, order_cons, order_tail}
use Rattle.lf_base.proofs.ListLemmas.Tests.{count_none}
use Rattle.lf_base.proofs.NameLemmas.NameOrder.{below_asym, name_below_trans, not_below, other_below}
use Rattle.lf_base.proofs.NameLemmas.SameNames.{other_way, same_name_itself}
use Rattle.lf_frozen.specs.declared.row.FrozenRow.{FrozenRow}
use Rattle.lf_frozen.specs.Entries.{Apart, put_by_name}
use Rattle.lf_frozen.specs.FrozenRows.{RiseByName, frozen_at, frozen_names, with_all_frozen, with_frozen}
use Rattle.lf_frozen.proofs.Members.{find_same, member_after, member_before}

-- ---- the same rows in another order
pub with_permutes : (x : FrozenRow) (ys : List FrozenRow) → IsPermutation (x ∷ ys) (with_frozen x ys)
with_permutes x [] = IsPermutation-refl (x ∷ [])
with_permutes x (y ∷ ys) =
    elim (name_below x.id y.id) as (λ b. IsPermutation (x ∷ (y ∷ ys)) (cond b (x ∷ (y ∷ ys)) (y ∷ with_frozen x ys))) [
      | true ↦ IsPermutation-refl (x ∷ (y ∷ ys))
      | false ↦
          IsPermutation-trans (x ∷ (y ∷ ys)) (y ∷ (x ∷ ys)) (y ∷ with_frozen x ys)
          (IsPermutation-append_left ys (x ∷ (y ∷ [])) (y ∷ (x ∷ [])) (IsPermutation-append_comm (x ∷ []) (y ∷ [])))
          (IsPermutation-cons y (x ∷ ys) (with_frozen x ys) (with_permutes x ys))
    ]

pub with_all_permutes : (xs ys : List FrozenRow) → IsPermutation (xs ++ ys) (with_all_frozen xs ys)
with_all_permutes [] ys = IsPermutation-refl ys
with_all_permutes (x ∷ xs) ys =
    IsPermutation-trans (x ∷ (xs ++ ys)) (x ∷ with_all_frozen xs ys) (with_frozen x (with_all_frozen xs ys))
    (IsPermutation-cons x (xs ++ ys) (with_all_frozen xs ys) (with_all_permutes xs ys))
    (with_permutes x (with_all_frozen xs ys))

pub by_name_permutes : (rows : List FrozenRow) → IsPermutation rows (put_by_name rows)
by_name_permutes rows = subst (λ l. IsPermutation l (put_by_name rows)) (append-nil rows) (with_all_permutes rows [])

pub apart_permuted : (xs ys : List FrozenRow) → IsPermutation xs ys → Apart xs → Apart ys
apart_permuted xs ys s apart o = omega (arith, sum_by-IsPermutation (λ (row : FrozenRow). cond (same_name row.id o) 1 0) xs ys s, apart o)

-- ---- rows that rise
pub apart_rest : (x : FrozenRow) (xs : List FrozenRow) → Apart (x ∷ xs) → Apart xs
apart_rest x xs apart o = omega (arith, sum_by-cons (λ (row : FrozenRow). cond (same_name row.id o) 1 0) x xs, apart o)

pub apart_right : (xs ys : List FrozenRow) → Apart (xs ++ ys) → Apart ys
apart_right [] ys apart = apart
apart_right (x ∷ xs) ys apart = apart_right xs ys (apart_rest x (xs ++ ys) apart)

-- no other row has the name of the first one
pub apart_first : (x : FrozenRow) (xs : List FrozenRow) → Apart (x ∷ xs) → (y : FrozenRow) → Member y xs → same_name y.id x.id ≡ false
apart_first x xs apart =
    count_none (λ (row : FrozenRow). same_name row.id x.id) xs
    (omega (
      arith,
      sum_by-cons (λ (row : FrozenRow). cond (same_name row.id x.id) 1 0) x xs,
      ap {B = ℕ} (λ b. cond b 1 0) (same_name_itself x.id),
      apart x.id,
    ))

pub below_all : (x : FrozenRow) (xs : List FrozenRow) → RiseByName (x ∷ xs) → (y : FrozenRow) → Member y xs → name_below x.id y.id ≡ true
below_all x xs rise y m = order_all name_below name_below_trans x.id (frozen_names xs) rise y.id
    (Member_map (λ (row : FrozenRow). row.id) y xs m)

pub risen_rest : (x : FrozenRow) (xs : List FrozenRow) → RiseByName (x ∷ xs) → RiseByName xs
risen_rest x xs rise = order_tail name_below name_below_trans x.id (frozen_names xs) rise

risen_first : (x : FrozenRow) (xs : List FrozenRow) → ((y : FrozenRow) → Member y xs → name_below x.id y.id ≡ true) → RiseByName xs
    → RiseByName (x ∷ xs)
risen_first x xs below rise =
    order_cons name_below name_below_trans x.id (frozen_names xs)
    (λ n m. let y = Member_of_map (λ (row : FrozenRow). row.id) n xs m in ap (name_below x.id) (sym y.1.1) ∙ below y.0 y.1.0)
    rise

risen_with : (x : FrozenRow) (ys : List FrozenRow) → ((y : FrozenRow) → Member y ys → same_name y.id x.id ≡ false) → RiseByName ys
    → RiseByName (with_frozen x ys)
risen_with x [] new rise = tt
risen_with x (z ∷ zs) new rise =
    elim (name_below x.id z.id) as (λ b. name_below x.id z.id ≡ b → RiseByName (cond b (x ∷ (z ∷ zs)) (z ∷ with_frozen x zs))) [
      | true ↦ λ e. (e, rise)
      | false ↦ λ e. risen_first z (with_frozen x zs)
          (λ y m. elim (member_before (x ∷ zs) (with_frozen x zs) (with_permutes x zs) y m) [
            | inl k ↦ ap (λ (row : FrozenRow). name_below z.id row.id) (sym k)
                ∙ other_below x.id z.id e (other_way z.id x.id (new z (inl refl)))
            | inr k ↦ below_all z zs rise y k
          ])
          (risen_with x zs (λ y m. new y (inr m)) (risen_rest z zs rise))
    ] refl

pub risen_with_all : (xs ys : List FrozenRow) → Apart (xs ++ ys) → RiseByName ys → RiseByName (with_all_frozen xs ys)
risen_with_all [] ys apart rise = rise
risen_with_all (x ∷ xs) ys apart rise =
    risen_with x (with_all_frozen xs ys)
    (λ y m. apart_first x (xs ++ ys) apart y (member_before (xs ++ ys) (with_all_frozen xs ys) (with_all_permutes xs ys) y m))
    (risen_with_all xs ys (apart_rest x (xs ++ ys) apart) rise)

pub risen_by_name : (rows : List FrozenRow) → Apart rows → RiseByName (put_by_name rows)
risen_by_name rows apart = risen_with_all rows [] (subst Apart (sym (append-nil rows)) apart) tt

-- two lists that rise are one list if they have the same rows
same_members : (xs ys : List FrozenRow) → RiseByName xs → RiseByName ys
    → ((z : FrozenRow) → Member z xs → Member z ys) → ((z : FrozenRow) → Member z ys → Member z xs) → xs ≡ ys
same_members [] [] rise rise' there back = refl
same_members [] (y ∷ ys) rise rise' there back = absurd (back y (inl refl))
same_members (x ∷ xs) [] rise rise' there back = absurd (there x (inl refl))
same_members (x ∷ xs) (y ∷ ys) rise rise' there back =
    let first : x ≡ y = elim (there x (inl refl)) [
      | inl e ↦ sym e
      | inr m ↦ elim (back y (inl refl)) [
        | inl e ↦ e
        | inr k ↦ absurd (both_ways (name_below x.id y.id) (below_asym y.id x.id (below_all y ys rise' x m)) (below_all x xs rise y k))
      ]
    ] in
    (λ i. first i ∷ same_members xs ys (risen_rest x xs rise) (risen_rest y ys rise')
    (λ z m. elim (there z (inr m)) [
      | inl e ↦ absurd (not_below x.id (ap (λ (row : FrozenRow). name_below x.id row.id) (first ∙ e) ∙ below_all x xs rise z m))
      | inr k ↦ k
    ])
    (λ z m. elim (back z (inr m)) [
      | inl e ↦ absurd (not_below y.id (ap (λ (row : FrozenRow). name_below y.id row.id) (sym first ∙ e) ∙ below_all y ys rise' z m))
      | inr k ↦ k
    ]) i)

pub same_risen : (xs ys : List FrozenRow) → RiseByName xs → RiseByName ys → IsPermutation xs ys → xs ≡ ys
same_risen xs ys rise rise' s = same_members xs ys rise rise' (member_after xs ys s) (member_before xs ys s)

-- a name has one row at most
pub risen_one : (xs : List FrozenRow) → RiseByName xs → (x y : FrozenRow) → Member x xs → Member y xs → name_below x.id y.id ≡ false
    → name_below y.id x.id ≡ false → x ≡ y
risen_one [] rise x y m n e f = absurd m
risen_one (z ∷ zs) rise x y (inl m) (inl n) e f = sym m ∙ n
risen_one (z ∷ zs) rise x y (inl m) (inr n) e f = absurd (both_ways (name_below x.id y.id) e
    (ap (λ (row : FrozenRow). name_below row.id y.id) (sym m) ∙ below_all z zs rise y n))
risen_one (z ∷ zs) rise x y (inr m) (inl n) e f = absurd (both_ways (name_below y.id x.id) f
    (ap (λ (row : FrozenRow). name_below row.id x.id) (sym n) ∙ below_all z zs rise x m))
risen_one (z ∷ zs) rise x y (inr m) (inr n) e f = risen_one zs (risen_rest z zs rise) x y m n e f

-- what is found of a name doesn't hang on the order
pub found_by_name : (rows : List FrozenRow) (o : ObjId) → Apart rows → frozen_at rows o ≡ frozen_at (put_by_name rows) o
found_by_name rows o apart = find_same (λ (row : FrozenRow). same_name row.id o) rows (put_by_name rows) (by_name_permutes rows) (apart o)

-- rows that were added are those of the longer list
pub rows_added_by_name : (more old all : List FrozenRow) → Apart (more ++ old) → IsPermutation (more ++ old) all
    → put_by_name all ≡ with_all_frozen more (put_by_name old)
rows_added_by_name more old all apart s =
    let grown : IsPermutation (more ++ old) (with_all_frozen more (put_by_name old)) =
    IsPermutation-trans (more ++ old) (more ++ put_by_name old) (with_all_frozen more (put_by_name old))
    (IsPermutation-append_right more old (put_by_name old) (by_name_permutes old)) (with_all_permutes more (put_by_name old)) in
    same_risen (put_by_name all) (with_all_frozen more (put_by_name old)) (risen_by_name all (apart_permuted (more ++ old) all s apart))
    (risen_with_all more (put_by_name old)
    (apart_permuted (more ++ old) (more ++ put_by_name old) (IsPermutation-append_right more old (put_by_name old) (by_name_permutes old))
    apart)
    (risen_by_name old (apart_right more old apart)))
    (IsPermutation-trans (put_by_name all) (more ++ old) (with_all_frozen more (put_by_name old))
    (IsPermutation-trans (put_by_name all) all (more ++ old) (IsPermutation-sym all (put_by_name all) (by_name_permutes all))
    (IsPermutation-sym (more ++ old) all s))
    grown)
