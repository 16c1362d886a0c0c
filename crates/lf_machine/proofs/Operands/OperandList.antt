-- The operands of a state as a list.
use Rattle.std.proofs.Common.{List, Option, [], ap, arith, drop, get_or, length, length-drop, refl, suc, zero, ℕ, ◌+◌, ◌-◌, ◌<◌, ◌∙◌, ◌∷◌, ◌≡◌, ◌≤◌}
use Rattle.std.specs.Prelude.{map}
use Rattle.std.proofs.lemmas.List.{length-map}
use Rattle.lf_base.specs.declared.values.Value.{Value}
use Rattle.lf_base.specs.Operands.{operand, set_value}
use Rattle.lf_base.specs.PlainChanges.{slot_at}
use Rattle.lf_base.specs.PlainState.{State}
use Rattle.lf_code.specs.Actions.{operands}

set_at : (slots : List (Option Value)) (at : ℕ) (d : Value) → at < length slots → get_or (map set_value slots) at d ≡ set_value (slot_at slots at)
set_at [] at d h = absurd (omega (arith, h))
set_at (x ∷ xs) zero d h = refl
set_at (x ∷ xs) (suc at) d h = set_at xs at d (omega (arith, h))

-- a slot behind those that are dropped
set_behind : (slots : List (Option Value)) (n at : ℕ) (d : Value) → n + at < length slots → get_or (map set_value (drop n slots)) at d ≡ set_value (slot_at slots (n + at))
set_behind [] n at d h = absurd (omega (arith, h))
set_behind (x ∷ xs) zero at d h = set_at (x ∷ xs) at d (omega (arith, h)) ∙ ap (λ m. set_value (slot_at (x ∷ xs) m)) (omega arith)
set_behind (x ∷ xs) (suc n) at d h =
    let next : suc (n + at) ≡ suc n + at = omega arith in
    set_behind xs n at d (omega (arith, h)) ∙ ap (λ m. set_value (slot_at (x ∷ xs) m)) next

pub operand_there : (s : State) (count at : ℕ) (d : Value) → count ≤ length s.slots → at < count → get_or (operands count s) at d ≡ operand s (count - 1 - at)
operand_there s count at d h k =
    set_behind s.slots (length s.slots - count) at d (omega (arith, h, k))
    ∙ ap (λ m. set_value (slot_at s.slots m)) (omega (arith, h, k))

pub operands_length : (s : State) (count : ℕ) → count ≤ length s.slots → length (operands count s) ≡ count
operands_length s count h =
    length-map (drop (length s.slots - count) s.slots) set_value ∙ length-drop (length s.slots - count) s.slots ∙ omega (arith, h)
