-- Slots at places.
use Rattle.std.proofs.Common.{List, Option, Some, [], ap, arith, get_or, inl, inr, length, length-append, refl, suc, sym, take, zero, ℕ, ◌++◌, ◌-◌, ◌<◌, ◌∙◌, ◌∷◌, ◌≡◌}
use Rattle.std.specs.List.{slice_set}
use Rattle.std.proofs.Math.Seq.{take-append_seam}
use Rattle.lf_base.specs.declared.values.Value.{Value}
use Rattle.lf_base.specs.Operands.{slot_below, without_last}
use Rattle.lf_base.specs.PlainChanges.{put_slot, slot_at, with_slots}
use Rattle.lf_base.specs.PlainState.{State}
use Rattle.lf_base.specs.Sets.{Member}

pub slot_is : (slots : List (Option Value)) (n : ℕ) (d : Option Value) → n < length slots → slot_at slots n ≡ get_or slots n d
slot_is [] n d h = absurd (omega (arith, h))
slot_is (x ∷ xs) zero d h = refl
slot_is (x ∷ xs) (suc n) d h = slot_is xs n d (omega (arith, h))

-- what is found at a place of the list
pub slot_found : (slots : List (Option Value)) (n : ℕ) (r : Option Value) → n < length slots → r ≡ get_or slots n r → slot_at slots n ≡ r
slot_found slots n r h k = slot_is slots n r h ∙ sym k

pub slot_member : (slots : List (Option Value)) (n : ℕ) (v : Value) → slot_at slots n ≡ Some v → Member (Some v) slots
slot_member [] n v e = absurd (cc)
slot_member (x ∷ xs) zero v e = inl e
slot_member (x ∷ xs) (suc n) v e = inr (slot_member xs n v e)

pub set_is_put : (slots : List (Option Value)) (n : ℕ) (w : Option Value) → slice_set slots n w ≡ put_slot slots n w
set_is_put [] n w = refl
set_is_put (x ∷ xs) zero w = refl
set_is_put (x ∷ xs) (suc n) w = ap (λ l. x ∷ l) (set_is_put xs n w)

pub put_length : (slots : List (Option Value)) (n : ℕ) (w : Option Value) → length (put_slot slots n w) ≡ length slots
put_length [] n w = refl
put_length (x ∷ xs) zero w = refl
put_length (x ∷ xs) (suc n) w = ap suc (put_length xs n w)

-- all slots but the last one
pub all_but_last : (xs : List (Option Value)) (w : Option Value) → take (length (xs ++ w ∷ []) - 1) (xs ++ w ∷ []) ≡ xs
all_but_last xs w =
    let long : length (xs ++ w ∷ []) - 1 ≡ length xs = omega (arith, length-append xs (w ∷ [])) in
    ap (λ n. take n (xs ++ w ∷ [])) long ∙ take-append_seam xs (w ∷ [])

pub last_goes : (s : State) (xs : List (Option Value)) (w : Option Value) → s.slots ≡ xs ++ w ∷ [] → without_last 1 s ≡ with_slots s xs
last_goes s xs w e = ap (with_slots s) (ap (λ (l : List (Option Value)). take (length l - 1) l) e ∙ all_but_last xs w)

-- the last slot
last_at : (xs : List (Option Value)) (w : Option Value) → slot_at (xs ++ w ∷ []) (length xs) ≡ w
last_at [] w = refl
last_at (x ∷ xs) w = last_at xs w

pub last_is : (s : State) (xs : List (Option Value)) (w : Option Value) → s.slots ≡ xs ++ w ∷ [] → slot_below s 0 ≡ w
last_is s xs w e =
    let long : length s.slots - 1 ≡ length xs = omega (arith, ap length e, length-append xs (w ∷ [])) in
    ap (slot_at s.slots) long ∙ ap (λ (l : List (Option Value)). slot_at l (length xs)) e ∙ last_at xs w
