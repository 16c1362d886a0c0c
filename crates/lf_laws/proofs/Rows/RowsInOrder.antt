-- Rows by rising name are told by what they have.
use Rattle.std.proofs.Common.{List, [], inl, inr, refl, subst, sym, true, ◌∙◌, ◌∷◌, ◌≡◌}
use Rattle.std.proofs.lemmas.Bool.{false_from_ne_true}
use Rattle.lf_base.specs.Names.{name_below}
use Rattle.lf_base.specs.Owners.{names}
use Rattle.lf_base.specs.PlainState.{Row}
use Rattle.lf_base.specs.Sets.{InOrder, Member}
use Rattle.lf_base.proofs.ListLemmas.Members.{Member_map, Within}
use Rattle.lf_base.proofs.ListLemmas.Sublists.{order_all, order_tail}
use Rattle.lf_base.proofs.NameLemmas.NameOrder.{name_below_trans, not_below}
use Rattle.lf_laws.proofs.Rows.RowsByName.{Distinct, row_there}

rise_all : (x : Row) (xs : List Row) → InOrder name_below (names (x ∷ xs)) → (y : Row) → Member y xs → name_below x.name y.name ≡ true
rise_all x xs o y m = order_all name_below name_below_trans x.name (names xs) o y.name (Member_map (λ (r : Row). r.name) y xs m)

pub rise_distinct : (rows : List Row) → InOrder name_below (names rows) → Distinct rows
rise_distinct [] o = tt
rise_distinct (x ∷ xs) o = (false_from_ne_true _ (λ h. let y = row_there xs x.name h in not_below x.name (subst (λ n. name_below x.name n ≡ true) y.1.1 (rise_all x xs o y.0 y.1.0))), rise_distinct xs (order_tail name_below name_below_trans x.name (names xs) o))

same_head : (x y : Row) (xs ys : List Row) → InOrder name_below (names (x ∷ xs)) → InOrder name_below (names (y ∷ ys)) → Within (x ∷ xs) (y ∷ ys) → Within (y ∷ ys) (x ∷ xs) → x ≡ y
same_head x y xs ys o p w v = elim (w x (inl refl)) [
  | inl e ↦ sym e
  | inr m ↦ elim (v y (inl refl)) [
    | inl e ↦ e
    | inr n ↦ absurd (not_below x.name (name_below_trans x.name y.name x.name (rise_all x xs o y n) (rise_all y ys p x m)))
  ]
]

tail_in : (x y : Row) (xs ys : List Row) → x ≡ y → InOrder name_below (names (x ∷ xs)) → Within (x ∷ xs) (y ∷ ys) → Within xs ys
tail_in x y xs ys same o w z m = elim (w z (inr m)) [
  | inl e ↦ absurd (not_below x.name (subst (λ (r : Row). name_below x.name r.name ≡ true) (sym (same ∙ e)) (rise_all x xs o z m)))
  | inr n ↦ n
]

pub same_rows : (xs ys : List Row) → InOrder name_below (names xs) → InOrder name_below (names ys) → Within xs ys → Within ys xs → xs ≡ ys
same_rows [] [] o p w v = refl
same_rows [] (y ∷ ys) o p w v = absurd (v y (inl refl))
same_rows (x ∷ xs) [] o p w v = absurd (w x (inl refl))
same_rows (x ∷ xs) (y ∷ ys) o p w v =
    let head = same_head x y xs ys o p w v in
    let rest = same_rows xs ys (order_tail name_below name_below_trans x.name (names xs) o) (order_tail name_below name_below_trans y.name (names ys) p) (tail_in x y xs ys head o w) (tail_in y x ys xs (sym head) p v) in
    λ i. head i ∷ rest i
