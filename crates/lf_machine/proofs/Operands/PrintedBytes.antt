-- The bytes of lines with one line more.
use Rattle.std.proofs.Common.{List, [], arith, length, ℕ, ◌++◌, ◌+◌, ◌∷◌, ◌≡◌}
use Rattle.lf_code.specs.Prints.{bytes_of}

pub printed_more : (lines : List (List ℕ)) (line : List ℕ) → bytes_of (lines ++ line ∷ []) ≡ bytes_of lines + (length line + 1)
printed_more [] line = omega arith
printed_more (x ∷ xs) line = omega (arith, printed_more xs line)
