-- How many items of a list pass a test.
use Rattle.std.proofs.Common.{◌≡◌, ℕ, ◌≤◌, List, [], ◌∷◌, Bool, true, cond, count_by, sum_by, flat_map, ap, sym, ◌∙◌, inl, inr, arith}
use Rattle.std.proofs.lemmas.List.Sums.{sum_by-cons, sum_by-append}
use Rattle.lf_base.specs.Sets.{Member}

-- those of what each item brings
pub flat_bound : {X Y : Type 0} (p : Y → Bool) (f : X → List Y) (g : X → ℕ) → ((x : X) → count_by p (f x) ≤ g x) → (xs : List X)
    → count_by p (flat_map f xs) ≤ sum_by g xs
flat_bound p f g h [] = omega arith
flat_bound p f g h (x ∷ xs) =
    omega (arith, sum_by-append (λ y. cond (p y) 1 0) (f x) (flat_map f xs), sum_by-cons g x xs, h x, flat_bound p f g h xs)

pub member_counted : {X : Type 0} (p : X → Bool) (x : X) (xs : List X) → Member x xs → p x ≡ true → 1 ≤ count_by p xs
member_counted p x [] m e = absurd m
member_counted p x (y ∷ ys) (inl same) e =
    omega (arith, sum_by-cons (λ z. cond (p z) 1 0) y ys, ap {B = ℕ} (λ z. cond (p z) 1 0) same, ap {B = ℕ} (λ b. cond b 1 0) e)
member_counted p x (y ∷ ys) (inr m) e = omega (arith, sum_by-cons (λ z. cond (p z) 1 0) y ys, member_counted p x ys m e)

-- an item that passes, before another one
twice : {X : Type 0} (p : X → Bool) (x y z : X) (zs : List X) → count_by p (z ∷ zs) ≤ 1 → z ≡ x → p x ≡ true → Member y zs → p y ≡ true → ⊥
twice p x y z zs le same e m f =
    omega (
      arith,
      sum_by-cons (λ w. cond (p w) 1 0) z zs,
      ap {B = ℕ} (λ w. cond (p w) 1 0) same,
      ap {B = ℕ} (λ b. cond b 1 0) e,
      member_counted p y zs m f,
    )

-- two items that pass are one, where no more than one passes
pub one_passes : {X : Type 0} (p : X → Bool) (x y : X) (xs : List X) → count_by p xs ≤ 1 → Member x xs → Member y xs → p x ≡ true
    → p y ≡ true → x ≡ y
one_passes p x y [] le m n e f = absurd m
one_passes p x y (z ∷ zs) le (inl a) (inl b) e f = sym a ∙ b
one_passes p x y (z ∷ zs) le (inl a) (inr n) e f = absurd (twice p x y z zs le a e n f)
one_passes p x y (z ∷ zs) le (inr m) (inl b) e f = absurd (twice p y x z zs le b f m e)
one_passes p x y (z ∷ zs) le (inr m) (inr n) e f = one_passes p x y zs (omega (arith, sum_by-cons (λ w. cond (p w) 1 0) z zs)) m n e f
