-- Numbers that are new, one after another, differ from each other and from those that were known.
use Rattle.std.proofs.Common.{Bool, List, [], ap, ap₂, arith, drop, false, get_or, length, nat_eq, not, refl, subst, suc, sym, take, true}
use Rattle.std.proofs.Common.{ℕ, ◌&&◌, ◌++◌, ◌+◌, ◌<◌, ◌||◌, ◌∙◌, ◌∷◌, ◌≡◌, ◌≤◌}
use Rattle.std.proofs.lemmas.List.Folds.{list_any-append}
use Rattle.std.proofs.lemmas.List.{append_assoc, drop_all, take_more}
use Rattle.std.proofs.Math.Seq.{drop-cons}
use Rattle.lf_code.specs.declared.var_set.VarSet.{VarSet}
use Rattle.lf_code.specs.ValidCode.{all_differ, are_apart}
use Rattle.lf_code.specs.VarSets.{HasVars, all_new, is_known}

one_more : (a e b c : Bool) → (not (a || (e || false)) && (b && not c)) ≡ ((not a && b) && not (e || c))
one_more true e b c = refl
one_more false true true c = refl
one_more false true false c = refl
one_more false false true c = refl
one_more false false false c = refl

regrouped : (a b c d : Bool) → (a && ((b && c) && d)) ≡ ((a && b) && (c && d))
regrouped true true c d = refl
regrouped true false c d = refl
regrouped false b c d = refl

same_either_way : (v w : ℕ) → nat_eq v w ≡ nat_eq w v
same_either_way v w = grind arith

apart_from_more : (vs known : List ℕ) (v : ℕ) → are_apart vs (known ++ v ∷ []) ≡ (are_apart vs known && not (is_known v vs))
apart_from_more [] known v = refl
apart_from_more (w ∷ vs) known v =
    ap₂ (λ x y. not x && y) (list_any-append (nat_eq w) known (v ∷ [])) (apart_from_more vs known v)
    ∙ one_more (is_known w known) (nat_eq w v) (are_apart vs known) (is_known v vs)
    ∙ ap (λ e. (not (is_known w known) && are_apart vs known) && not (e || is_known v vs)) (same_either_way w v)

pub new_is : (known vs : List ℕ) → all_new known vs ≡ (are_apart vs known && all_differ vs)
new_is known [] = refl
new_is known (v ∷ vs) =
    ap (λ b. not (is_known v known) && b) (new_is (known ++ v ∷ []) vs ∙ ap (λ b. b && all_differ vs) (apart_from_more vs known v))
    ∙ regrouped (not (is_known v known)) (are_apart vs known) (not (is_known v vs)) (all_differ vs)

apart_from_none : (vs : List ℕ) → are_apart vs [] ≡ true
apart_from_none [] = refl
apart_from_none (v ∷ vs) = apart_from_none vs

pub first_are_new : (vs : List ℕ) → all_new [] vs ≡ all_differ vs
first_are_new vs = new_is [] vs ∙ ap (λ b. b && all_differ vs) (apart_from_none vs)

turned : (a b : Bool) → (a && b) ≡ (b && a)
turned true true = refl
turned true false = refl
turned false true = refl
turned false false = refl

-- names whose first list has none twice
pub both_lists : (cowns captures : List ℕ) → all_new [] captures ≡ true
    → all_new captures cowns ≡ (all_differ cowns && (all_differ captures && are_apart cowns captures))
both_lists cowns captures e =
    new_is captures cowns ∙ turned (are_apart cowns captures) (all_differ cowns)
    ∙ ap (λ b. all_differ cowns && (b && are_apart cowns captures)) (sym e ∙ first_are_new captures)

-- and one whose first list has one twice
pub first_list_fails : (cowns captures : List ℕ) → all_new [] captures ≡ false
    → false ≡ (all_differ cowns && (all_differ captures && are_apart cowns captures))
first_list_fails cowns captures e =
    never (all_differ cowns) ∙ ap (λ b. all_differ cowns && (b && are_apart cowns captures)) (sym e ∙ first_are_new captures)
  where
    never : (a : Bool) → false ≡ (a && false)
    never true = refl
    never false = refl

-- ---- a loop that puts them in

grown : (known vars : List ℕ) (i d : ℕ) → i < length vars → (known ++ take i vars) ++ get_or vars i d ∷ [] ≡ known ++ take (i + 1) vars
grown known vars i d within =
    append_assoc known (take i vars) (get_or vars i d ∷ []) ∙ ap (λ l. known ++ l) (sym (take_more vars i d within))

pub put_in : (set new : VarSet) (known vars : List ℕ) (i d : ℕ) → i < length vars
    → ((k : List ℕ) → HasVars set k → HasVars new (k ++ get_or vars i d ∷ [])) → HasVars set (known ++ take i vars)
    → HasVars new (known ++ take (i + 1) vars)
put_in set new known vars i d within put has = subst (HasVars new) (grown known vars i d within) (put (known ++ take i vars) has)

drop_one : (vars : List ℕ) (i d : ℕ) → i < length vars → drop i vars ≡ get_or vars i d ∷ drop (i + 1) vars
drop_one vars i d within = let e : suc i ≡ i + 1 = omega arith in drop-cons vars i d within ∙ ap (λ j. get_or vars i d ∷ drop j vars) e

pub one_added : (set : VarSet) (known vars : List ℕ) (i d : ℕ) (b : Bool) → i < length vars
    → ((k : List ℕ) → HasVars set k → b ≡ not (is_known (get_or vars i d) k)) → b ≡ true → HasVars set (known ++ take i vars)
    → all_new (known ++ take i vars) (drop i vars) ≡ all_new known vars
    → all_new (known ++ take (i + 1) vars) (drop (i + 1) vars) ≡ all_new known vars
one_added set known vars i d b within is_new new has so_far =
    ap (λ k. all_new k (drop (i + 1) vars)) (sym (grown known vars i d within))
    ∙ ap (λ t. t && all_new ((known ++ take i vars) ++ get_or vars i d ∷ []) (drop (i + 1) vars))
    (sym new ∙ is_new (known ++ take i vars) has)
    ∙ ap (all_new (known ++ take i vars)) (sym (drop_one vars i d within))
    ∙ so_far

pub all_added : (known vars : List ℕ) (i : ℕ) → length vars ≤ i → all_new (known ++ take i vars) (drop i vars) ≡ all_new known vars
    → true ≡ all_new known vars
all_added known vars i past so_far = ap (all_new (known ++ take i vars)) (sym (drop_all i vars past)) ∙ so_far
