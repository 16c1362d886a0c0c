-- Places of slots, as the code looks at them and sets them.
use Rattle.std.proofs.Common.{List, Option, [], ap, arith, length, refl, slice_index_or, slice_set, suc, zero, ℕ, ◌<◌, ◌∷◌, ◌≡◌}
use Rattle.lf_base.specs.declared.values.Value.{Value}
use Rattle.lf_base.specs.PlainChanges.{put_slot, slot_at}

pub slot_found : (slots : List (Option Value)) (n : ℕ) (d : Option Value) → n < length slots → slot_at slots n ≡ slice_index_or slots n d
slot_found [] n d h = absurd (omega (arith, h))
slot_found (x ∷ xs) zero d h = refl
slot_found (x ∷ xs) (suc n) d h = slot_found xs n d (omega (arith, h))

pub set_is_put : (slots : List (Option Value)) (n : ℕ) (w : Option Value) → slice_set slots n w ≡ put_slot slots n w
set_is_put [] n w = refl
set_is_put (x ∷ xs) zero w = refl
set_is_put (x ∷ xs) (suc n) w = ap (λ l. x ∷ l) (set_is_put xs n w)

pub put_is_there : (slots : List (Option Value)) (n : ℕ) (w : Option Value) → n < length slots → slot_at (put_slot slots n w) n ≡ w
put_is_there [] n w h = absurd (omega (arith, h))
put_is_there (x ∷ xs) zero w h = refl
put_is_there (x ∷ xs) (suc n) w h = put_is_there xs n w (omega (arith, h))
