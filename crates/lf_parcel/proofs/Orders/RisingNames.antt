-- Rising lists of names are told by what they have.
use Rattle.std.proofs.Common.{List, [], ap, inl, inr, refl, subst, sym, true, ◌∙◌, ◌∷◌, ◌≡◌}
use Rattle.std.proofs.lemmas.Bool.{both_ways}
use Rattle.lf_base.specs.declared.ids.ObjId.{ObjId}
use Rattle.lf_base.specs.Names.{name_below}
use Rattle.lf_base.specs.Sets.{InOrder, Member}
use Rattle.lf_base.proofs.ListLemmas.Members.{Within}
use Rattle.lf_base.proofs.ListLemmas.Sublists.{order_all, order_tail}
use Rattle.lf_base.proofs.NameLemmas.NameOrder.{below_asym, name_below_trans, not_below_itself}

pub below_rest : (x : ObjId) (xs : List ObjId) → InOrder name_below (x ∷ xs) → (y : ObjId) → Member y xs → name_below x y ≡ true
below_rest x xs o y m = order_all name_below name_below_trans x xs o y m

first_same : (x y : ObjId) (xs ys : List ObjId) → InOrder name_below (x ∷ xs) → InOrder name_below (y ∷ ys) → Member x (y ∷ ys) → Member y (x ∷ xs) → x ≡ y
first_same x y xs ys a b (inl e) n = sym e
first_same x y xs ys a b (inr m) (inl e) = e
first_same x y xs ys a b (inr m) (inr n) = absurd (both_ways (name_below y x) (below_asym x y (below_rest x xs a y n)) (below_rest y ys b x m))

rest_within : (x : ObjId) (xs ys : List ObjId) → InOrder name_below (x ∷ xs) → Within (x ∷ xs) (x ∷ ys) → Within xs ys
rest_within x xs ys a w z m = elim (w z (inr m)) [
  | inl e ↦ absurd (both_ways (name_below x x) (not_below_itself x) (below_rest x xs a x (subst (λ o. Member o xs) (sym e) m)))
  | inr n ↦ n
]

pub rising_same : (xs ys : List ObjId) → InOrder name_below xs → InOrder name_below ys → Within xs ys → Within ys xs → xs ≡ ys
rising_same [] [] a b v w = refl
rising_same [] (y ∷ ys) a b v w = absurd (w y (inl refl))
rising_same (x ∷ xs) [] a b v w = absurd (v x (inl refl))
rising_same (x ∷ xs) (y ∷ ys) a b v w =
    let same = first_same x y xs ys a b (v x (inl refl)) (w y (inl refl)) in
    let b2 : InOrder name_below (x ∷ ys) = subst (λ o. InOrder name_below (o ∷ ys)) (sym same) b in
    let v2 : Within (x ∷ xs) (x ∷ ys) = subst (λ o. Within (x ∷ xs) (o ∷ ys)) (sym same) v in
    let w2 : Within (x ∷ ys) (x ∷ xs) = subst (λ o. Within (o ∷ ys) (x ∷ xs)) (sym same) w in
    ap (λ l. x ∷ l) (rising_same xs ys (order_tail name_below name_below_trans x xs a) (order_tail name_below name_below_trans x ys b2) (rest_within x xs ys a v2) (rest_within x ys xs b2 w2))
    ∙ ap (λ o. o ∷ ys) same
