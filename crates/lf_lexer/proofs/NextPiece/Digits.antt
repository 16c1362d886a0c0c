-- A number, one digit after another.
use Rattle.std.proofs.Common.{◌≡◌, ◌<◌, ◌≤◌, ◌^◌, ◌+◌, ◌*◌, ◌-◌, ℕ, true, List, length, take, drop, get_or, refl, ap, arith}
use Rattle.std.specs.Char.{digit_value}
use Rattle.std.specs.List.{prefix_len}
use Rattle.std.specs.Str.Parse.{digits_value}
use Rattle.std.proofs.lemmas.Bool.{le-ltb}
use Rattle.std.proofs.lemmas.Bool.Decides.{nat_tests}
use Rattle.std.proofs.lemmas.Int.Digits.{digits_value_more}
use Rattle.std.proofs.lemmas.List.{take-take}
use Rattle.std.proofs.lemmas.List.Sums.{prefix_len-drop_yes}
use Rattle.std.proofs.lemmas.Str.{digit_value_digit}
use Rattle.std.proofs.lemmas.Str.Parse.{digits_value-take-le}
use Rattle.lf_base.specs.declared.refusals.RefusalKind.TheVariants.{WideNumber}
use Rattle.lf_lexer.specs.declared.front.Front.TheVariants as f
use Rattle.lf_lexer.specs.Bytes.{is_digit}
use Rattle.lf_lexer.specs.Front.{number_front, number_front_at}

pub digit_low : (byte : ℕ) → is_digit byte ≡ true → 48 ≤ byte
digit_low byte h = grind (arith, nat_tests)

digit_high : (byte : ℕ) → is_digit byte ≡ true → byte ≤ 57
digit_high byte h = grind (arith, nat_tests)

-- the value of the digits before a place, all of which are digits
pub record DigitsSoFar (bytes : List ℕ) (i value : ℕ) : Type 0 where
  pub count : i + prefix_len is_digit (drop i bytes) ≡ prefix_len is_digit bytes
  pub value_is : value ≡ digits_value 10 (take i bytes)
  pub small : value < 2 ^ 63

-- one digit more
pub digits_more : (bytes : List ℕ) (i : ℕ) → i < length bytes → is_digit (get_or bytes i 0) ≡ true → i + prefix_len is_digit (drop i bytes) ≡ prefix_len is_digit bytes
    → i + 1 + prefix_len is_digit (drop (i + 1) bytes) ≡ prefix_len is_digit bytes
digits_more bytes i lt digit count = let more = prefix_len-drop_yes is_digit bytes i 0 lt digit in omega arith

pub value_more : (bytes : List ℕ) (i value digit : ℕ) → i < length bytes → is_digit (get_or bytes i 0) ≡ true → value ≡ digits_value 10 (take i bytes)
    → digit ≡ get_or bytes i 0 - 48 → 10 * value + digit ≡ digits_value 10 (take (i + 1) bytes)
value_more bytes i value digit lt here is digit_is =
    let byte = get_or bytes i 0 in
    let low = digit_low byte here in
    let high = digit_high byte here in
    let of_byte : digit_value byte + 48 ≡ byte = digit_value_digit byte (low, high) in
    let more = digits_value_more 10 bytes i lt in
    omega arith

-- a value that is too large stays so
pub number_wide : (bytes : List ℕ) (i value : ℕ) → i + prefix_len is_digit (drop i bytes) ≡ prefix_len is_digit bytes → value ≡ digits_value 10 (take i bytes) → 2 ^ 63 ≤ value
    → f.Refused WideNumber 0 ≡ number_front bytes
unfolding number_front_at
number_wide bytes i value count is big =
    let n = prefix_len is_digit bytes in
    let le = digits_value-take-le 10 (take n bytes) i (omega arith) in
    let same = ap (digits_value 10) (take-take i n bytes (omega arith)) in
    rw (le-ltb (digits_value 10 (take n bytes)) (2 ^ 63) (omega arith)) refl
