-- How many slots of a list have a value, after one of them got another value.
use Rattle.std.proofs.Common.{List, None, Option, Some, ap, arith, cond, count_by, get_or, is_some, length, set, true, ℕ, ◌<◌, ◌≡◌}
use Rattle.std.proofs.lemmas.List.{get_or_past}
use Rattle.std.proofs.lemmas.List.Sums.{sum_by-set}

pub count_kept : {T : Type 0} (slots : List (Option T)) (at : ℕ) (value : T) → is_some (get_or slots at None) ≡ true → count_by is_some (set slots at (Some value)) ≡ count_by is_some slots
count_kept slots at value there =
    let within : at < length slots = grind (arith, get_or_past) in
    omega (arith, ap {B = ℕ} (λ b. cond b 1 0) there, sum_by-set (λ o. cond (is_some o) 1 0) slots at (Some value) None within)
