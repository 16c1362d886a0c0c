-- Fronts of lists of slots.
use Rattle.std.proofs.Common.{List, [], ap, arith, length, refl, suc, zero, ℕ, ◌++◌, ◌+◌, ◌-◌, ◌<◌, ◌≤◌, ◌∙◌, ◌≡◌, ◌∷◌}
use Rattle.std.specs.Prelude.{Option, take}
use Rattle.std.proofs.lemmas.List.{length-take-le}
use Rattle.lf_base.specs.declared.values.Value.{Value}
use Rattle.lf_base.specs.PlainChanges.{put_slot, slot_at}

pub take_of_take : {X : Type 0} (m n : ℕ) (xs : List X) → m ≤ n → take m (take n xs) ≡ take m xs
take_of_take zero n xs h = refl
take_of_take (suc m) zero xs h = absurd (omega (arith, h))
take_of_take (suc m) (suc n) [] h = refl
take_of_take (suc m) (suc n) (x ∷ xs) h = ap (λ l. x ∷ l) (take_of_take m n xs (omega (arith, h)))

-- without the last one, and then without n more
pub one_and_more : {X : Type 0} (xs : List X) (n : ℕ)
    → take (length (take (length xs - 1) xs) - n) (take (length xs - 1) xs) ≡ take (length xs - suc n) xs
one_and_more xs n =
    let a = length xs - 1 in
    ap (λ m. take (m - n) (take a xs)) (length-take-le a xs (omega arith))
    ∙ take_of_take (a - n) a xs (omega arith)
    ∙ ap (λ m. take m xs) (omega arith)

pub put_length : (xs : List (Option Value)) (at : ℕ) (w : Option Value) → length (put_slot xs at w) ≡ length xs
put_length [] at w = refl
put_length (x ∷ xs) zero w = refl
put_length (x ∷ xs) (suc n) w = ap suc (put_length xs n w)

-- the slots up to one that was replaced
pub up_to_put : (xs : List (Option Value)) (at : ℕ) (w : Option Value) → at < length xs
    → take (at + 1) (put_slot xs at w) ≡ take at xs ++ w ∷ []
up_to_put [] at w h = absurd (omega (arith, h))
up_to_put (x ∷ xs) zero w h = refl
up_to_put (x ∷ xs) (suc n) w h = by (omega arith) (ap (λ l. x ∷ l) (up_to_put xs n w (omega (arith, h))))
  where
    by : {l : List (Option Value)} → suc n + 1 ≡ suc (n + 1) → x ∷ take (n + 1) (put_slot xs n w) ≡ x ∷ l
        → take (suc n + 1) (x ∷ put_slot xs n w) ≡ x ∷ l
    by e t = ap (λ m. take m (x ∷ put_slot xs n w)) e ∙ t

-- the last slot behind those before it
pub front_and_last : (xs : List (Option Value)) (n : ℕ) → length xs ≡ n + 1 → take n xs ++ slot_at xs n ∷ [] ≡ xs
front_and_last [] n h = absurd (omega (arith, h))
front_and_last (x ∷ []) zero h = refl
front_and_last (x ∷ (y ∷ xs)) zero h = absurd (omega (arith, h))
front_and_last (x ∷ xs) (suc n) h = ap (λ l. x ∷ l) (front_and_last xs n (omega (arith, h)))
