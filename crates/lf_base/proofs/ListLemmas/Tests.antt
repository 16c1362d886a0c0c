-- Tests over lists: what passes, what doesn't, and how many items pass.
use Rattle.std.proofs.Common.{Bool, List, Some, ap, false, not, refl, true, ◌&&◌, ◌||◌, ◌∙◌, ◌≡◌, [], arith, cond, inl, inr, sym, ℕ, ◌∷◌, ◌≤◌}
use Rattle.std.specs.List.{list_any, count_by}
use Rattle.lf_base.specs.Sets.{Member}
use Rattle.lf_base.proofs.ListLemmas.Members.{Member_any, any_Member}
use Rattle.std.proofs.Math.Bool.{or-true}
use Rattle.std.proofs.lemmas.List.Sums.{sum_by-cons}
use Rattle.std.proofs.lemmas.Bool.{both_ways, false_from_ne_true}

pub by_test : (b : Bool) {P : Type 0} → (b ≡ true → P) → (b ≡ false → P) → P
by_test true f g = f refl
by_test false f g = g refl

pub any_weaker : {X : Type 0} (p q : X → Bool) (xs : List X) → ((x : X) → Member x xs → p x ≡ true → q x ≡ true) → list_any p xs ≡ true → list_any q xs ≡ true
any_weaker p q xs h e = let r = any_Member p xs e in Member_any q r.0 xs r.1.0 (h r.0 r.1.0 r.1.1)

pub or_map : (a b c d : Bool) → (a ≡ true → c ≡ true) → (b ≡ true → d ≡ true) → (a || b) ≡ true → (c || d) ≡ true
or_map true b c d f g e = ap (λ x. x || d) (f refl)
or_map false true c d f g e = ap (λ x. c || x) (g refl) ∙ or-true c
or_map false false c d f g e = cc

pub some_is : {X : Type 0} (v w : X) → Some v ≡ Some w → v ≡ w
some_is v w e = cc

pub count_none : {X : Type 0} (p : X → Bool) (xs : List X) → count_by p xs ≡ 0 → (x : X) → Member x xs → p x ≡ false
count_none p [] e x m = absurd m
count_none p (y ∷ ys) e x (inl same) = false_from_ne_true (p x) (λ h. absurd (omega (arith, e, sum_by-cons (λ z. cond (p z) 1 0) y ys, ap {B = ℕ} (λ b. cond b 1 0) (ap p same ∙ h))))
count_none p (y ∷ ys) e x (inr m) = count_none p ys (omega (arith, e, sum_by-cons (λ z. cond (p z) 1 0) y ys)) x m

pub none_count : {X : Type 0} (p : X → Bool) (xs : List X) → ((x : X) → Member x xs → p x ≡ false) → count_by p xs ≡ 0
none_count p [] h = refl
none_count p (y ∷ ys) h = omega (arith, sum_by-cons (λ z. cond (p z) 1 0) y ys, ap {B = ℕ} (λ b. cond b 1 0) (h y (inl refl)), none_count p ys (λ x m. h x (inr m)))

pub any_none : {X : Type 0} (p : X → Bool) (xs : List X) → ((x : X) → Member x xs → p x ≡ false) → list_any p xs ≡ false
any_none p xs h = false_from_ne_true _ (λ e. let t = any_Member p xs e in both_ways _ (h t.0 t.1.0) t.1.1)

pub none_any : {X : Type 0} (p : X → Bool) (xs : List X) → list_any p xs ≡ false → (x : X) → Member x xs → p x ≡ false
none_any p xs e x m = false_from_ne_true _ (λ h. both_ways _ e (Member_any p x xs m h))

pub or_swap : (a b c : Bool) → (b || (a || c)) ≡ (a || (b || c))
or_swap true true c = refl
or_swap true false c = refl
or_swap false true c = refl
or_swap false false c = refl

pub and_both : (a b c d : Bool) → (a ≡ true → c ≡ true) → (b ≡ true → d ≡ true) → (a && b) ≡ true → (c && d) ≡ true
and_both true true c d f g e = cc (f refl, g refl)
and_both true false c d f g e = cc
and_both false b c d f g e = cc

count_some : {X : Type 0} (p : X → Bool) (xs : List X) (x : X) → Member x xs → p x ≡ true → 1 ≤ count_by p xs
count_some p [] x m h = absurd m
count_some p (y ∷ ys) x (inl e) h = omega (arith, sum_by-cons (λ z. cond (p z) 1 0) y ys, ap {B = ℕ} (λ b. cond b 1 0) (ap p e ∙ h))
count_some p (y ∷ ys) x (inr m) h = omega (arith, sum_by-cons (λ z. cond (p z) 1 0) y ys, count_some p ys x m h)

pub count_one : {X : Type 0} (p : X → Bool) (xs : List X) → count_by p xs ≤ 1 → (x y : X) → Member x xs → Member y xs → p x ≡ true → p y ≡ true → x ≡ y
count_one p [] few x y m n h k = absurd m
count_one p (z ∷ zs) few x y (inl e) (inl f) h k = sym e ∙ f
count_one p (z ∷ zs) few x y (inl e) (inr n) h k = absurd (omega (arith, few, sum_by-cons (λ w. cond (p w) 1 0) z zs, ap {B = ℕ} (λ b. cond b 1 0) (ap p e ∙ h), count_some p zs y n k))
count_one p (z ∷ zs) few x y (inr m) (inl f) h k = absurd (omega (arith, few, sum_by-cons (λ w. cond (p w) 1 0) z zs, ap {B = ℕ} (λ b. cond b 1 0) (ap p f ∙ k), count_some p zs x m h))
count_one p (z ∷ zs) few x y (inr m) (inr n) h k = count_one p zs (omega (arith, few, sum_by-cons (λ w. cond (p w) 1 0) z zs)) x y m n h k

pub nor_or : (a b : Bool) → (not a && not b) ≡ false → (a || b) ≡ true
nor_or true b e = refl
nor_or false true e = refl
nor_or false false e = cc

pub or_nor : (a b : Bool) → (a || b) ≡ true → (not a && not b) ≡ false
or_nor true b e = refl
or_nor false true e = refl
or_nor false false e = cc

-- tests that agree on all members count the same
pub count_like : {X : Type 0} (p q : X → Bool) (xs : List X) → ((x : X) → Member x xs → p x ≡ q x) → count_by p xs ≡ count_by q xs
count_like p q [] h = refl
count_like p q (x ∷ xs) h = omega (arith, sum_by-cons (λ y. cond (p y) 1 0) x xs, sum_by-cons (λ y. cond (q y) 1 0) x xs, ap {B = ℕ} (λ b. cond b 1 0) (h x (inl refl)), count_like p q xs (λ y m. h y (inr m)))

pub or_first : (a b : Bool) → (a || b) ≡ true → b ≡ false → a ≡ true
or_first true b e f = refl
or_first false b e f = absurd (both_ways b f e)
