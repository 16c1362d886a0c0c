-- Pairs of numbers in their order: by the first number, then by the second.
use Rattle.std.proofs.Common.{arith, eqb, false, ltb, true, ℕ, ◌&&◌, ◌<◌, ◌||◌, ◌≡◌, ◌≤◌, ◌⊎◌}
use Rattle.std.proofs.lemmas.Bool.Decides.{nat_tests}

pub pair_below : (a b x y : ℕ) → (ltb a b || (eqb a b && ltb x y)) ≡ true → (a < b) ⊎ ((a ≡ b) × (x < y))
pair_below a b x y e = grind (arith, nat_tests)

pub is_pair_below : (a b x y : ℕ) → (a < b) ⊎ ((a ≡ b) × (x < y)) → (ltb a b || (eqb a b && ltb x y)) ≡ true
is_pair_below a b x y h = grind (arith, nat_tests)

pub not_pair_below : (a b x y : ℕ) → (ltb a b || (eqb a b && ltb x y)) ≡ false → (b < a) ⊎ ((b ≡ a) × (y ≤ x))
not_pair_below a b x y e = grind (arith, nat_tests)
