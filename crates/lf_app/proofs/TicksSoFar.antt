-- A number of ticks, one digit after another.
use Rattle.std.proofs.Common.{◌≡◌, ◌<◌, ◌≤◌, ◌+◌, ◌*◌, ◌-◌, ◌∙◌, ◌&&◌, ℕ, Bool, true, false, List, length, take, get_or, Option, Some, None, refl, ap, sym, arith}
use Rattle.std.specs.Prelude.{nat_le, if◌then◌else◌}
use Rattle.std.specs.Char.{digit_value}
use Rattle.std.specs.List.{list_all}
use Rattle.std.specs.Str.Parse.{digits_value}
use Rattle.std.proofs.lemmas.Bool.Decides.{nat_tests}
use Rattle.std.proofs.lemmas.Int.Digits.{digits_value_more}
use Rattle.std.proofs.lemmas.List.Folds.{list_all_at, list_all_more}
use Rattle.std.proofs.lemmas.Str.{digit_value_digit}
use Rattle.std.proofs.lemmas.Str.Parse.{digits_value-take-le}
use Rattle.lf_base.specs.declared.limits.TheConstants.{MOST_TICKS}
use Rattle.lf_app.specs.Words.{is_digit, ticks_of}

digit_low : (byte : ℕ) → is_digit byte ≡ true → 48 ≤ byte
digit_low byte h = grind (arith, nat_tests)

digit_high : (byte : ℕ) → is_digit byte ≡ true → byte ≤ 57
digit_high byte h = grind (arith, nat_tests)

first_false : (a b c : Bool) → a ≡ false → (a && b && c) ≡ false
first_false true b c h = absurd cc
first_false false b c h = refl

second_false : (a b c : Bool) → b ≡ false → (a && b && c) ≡ false
second_false true true c h = absurd cc
second_false true false c h = refl
second_false false b c h = refl

third_false : (a b c : Bool) → c ≡ false → (a && b && c) ≡ false
third_false true true c h = h
third_false true false c h = refl
third_false false b c h = refl

all_true : (a b c : Bool) → a ≡ true → b ≡ true → c ≡ true → (a && b && c) ≡ true
all_true true true c h k l = l
all_true true false c h k l = k
all_true false b c h k l = h

-- the value of the digits before a place, all of which are digits
pub record TicksSoFar (number : List ℕ) (i ticks : ℕ) : Type 0 where
  pub digits : list_all is_digit (take i number) ≡ true
  pub value_is : ticks ≡ digits_value 10 (take i number)
  pub small : ticks ≤ MOST_TICKS

module _ (number : List ℕ) where
  by_test : (t : Bool) → (list_all is_digit number && nat_le 1 (digits_value 10 number) && nat_le (digits_value 10 number) MOST_TICKS) ≡ t
      → ticks_of number ≡ (if t then Some (digits_value 10 number) else None)
  by_test t h = ap (λ (b : Bool). if b then Some (digits_value 10 number) else None) h

  pub digits_more : (i : ℕ) → i < length number → is_digit (get_or number i 0) ≡ true → list_all is_digit (take i number) ≡ true
      → list_all is_digit (take (i + 1) number) ≡ true
  digits_more i within digit before = list_all_more is_digit number i 0 within ∙ ap (λ (b : Bool). b && is_digit (get_or number i 0)) before ∙ digit

  pub value_more : (i value digit : ℕ) → i < length number → is_digit (get_or number i 0) ≡ true → value ≡ digits_value 10 (take i number)
      → digit ≡ get_or number i 0 - 48 → 10 * value + digit ≡ digits_value 10 (take (i + 1) number)
  value_more i value digit within here is digit_is =
      let byte = get_or number i 0 in
      let low = digit_low byte here in
      let high = digit_high byte here in
      let of_byte : digit_value byte + 48 ≡ byte = digit_value_digit byte (low, high) in
      let more = digits_value_more 10 number i within in
      omega arith

  -- a byte that is no digit
  pub no_digit : (i : ℕ) → i < length number → is_digit (get_or number i 0) ≡ false → None ≡ ticks_of number
  no_digit i within not_one =
      sym (by_test false (first_false (list_all is_digit number) (nat_le 1 (digits_value 10 number)) (nat_le (digits_value 10 number) MOST_TICKS)
      (list_all_at is_digit number i 0 within not_one)))

  above : (v : ℕ) → MOST_TICKS < v → nat_le v MOST_TICKS ≡ false
  above v h = grind (arith, nat_tests)

  -- a value that is too large stays so
  pub too_many : (i value : ℕ) → value ≡ digits_value 10 (take i number) → MOST_TICKS < value → None ≡ ticks_of number
  too_many i value is large =
      let le = digits_value-take-le 10 number i (omega arith) in
      sym (by_test false (third_false (list_all is_digit number) (nat_le 1 (digits_value 10 number)) (nat_le (digits_value 10 number) MOST_TICKS)
      (above (digits_value 10 number) (omega arith))))

  none_below : (v : ℕ) → v ≡ 0 → nat_le 1 v ≡ false
  none_below v h = grind (arith, nat_tests)

  -- no tick at all
  pub no_ticks : digits_value 10 number ≡ 0 → None ≡ ticks_of number
  no_ticks zero_is =
      sym (by_test false (second_false (list_all is_digit number) (nat_le 1 (digits_value 10 number)) (nat_le (digits_value 10 number) MOST_TICKS)
      (none_below (digits_value 10 number) zero_is)))

  some_there : (v : ℕ) → 1 ≤ v → nat_le 1 v ≡ true
  some_there v h = grind (arith, nat_tests)

  within_most : (v : ℕ) → v ≤ MOST_TICKS → nat_le v MOST_TICKS ≡ true
  within_most v h = grind (arith, nat_tests)

  -- a number in the limits
  pub some_ticks : (ticks : ℕ) → list_all is_digit number ≡ true → ticks ≡ digits_value 10 number → 1 ≤ ticks → ticks ≤ MOST_TICKS
      → Some ticks ≡ ticks_of number
  some_ticks ticks digits is low high =
      ap Some is
      ∙ sym (by_test true (all_true (list_all is_digit number) (nat_le 1 (digits_value 10 number)) (nat_le (digits_value 10 number) MOST_TICKS)
      digits (some_there (digits_value 10 number) (omega arith)) (within_most (digits_value 10 number) (omega arith))))
