-- Counts over pairs: where the k-th unit stands. No public clause cites this module.
use Rattle.std.specs.Prelude.{ℕ, zero, suc, ◌≡◌, ◌+◌, ◌-◌, ◌*◌, ◌/◌, ◌<◌, ◌≤◌, cond, ltb, List, [], ◌∷◌, get_or, length, set}

-- a place is in the set or it isn't
abbrev pub IsBit : ℕ → Type 0
IsBit n = n ≤ 1

abbrev pub total : List ℕ → ℕ
total [] = 0
total (x ∷ xs) = x + total xs

-- the sums of pairs
abbrev pub pair_sums : List ℕ → List ℕ
pair_sums [] = []
pair_sums (x ∷ []) = x ∷ []
pair_sums (x ∷ (y ∷ xs)) = (x + y) ∷ pair_sums xs

abbrev pub later : ℕ × ℕ → ℕ × ℕ
later p = (suc p.0, p.1)

-- the place of the count in which the k-th unit lies, and its number there
abbrev pub find : List ℕ → ℕ → ℕ × ℕ
find [] k = (0, k)
find (x ∷ xs) k = cond (ltb k x) (0, k) (later (find xs (k - x)))

-- from a pair to one of its two
abbrev pub halve : ℕ → ℕ → ℕ → ℕ × ℕ
halve left place k = cond (ltb k left) (2 * place, k) (suc (2 * place), k - left)

abbrev pub refine : List ℕ → ℕ × ℕ → ℕ × ℕ
refine counts p = halve (get_or counts (2 * p.0) 0) p.0 p.1

abbrev pub first_level : List (List ℕ) → List ℕ
first_level [] = []
first_level (counts ∷ above) = counts

-- each level is that of the pair sums of the one below, and the last one is no longer than 1
abbrev pub IsTower : List (List ℕ) → Type 0
IsTower [] = Unit {0}
IsTower (counts ∷ []) = length counts ≤ 1
IsTower (counts ∷ (sums ∷ above)) = (sums ≡ pair_sums counts) × IsTower (sums ∷ above)

-- the first level has the place
abbrev pub HasPlace : ℕ → List (List ℕ) → Type 0
HasPlace at [] = Unit {0}
HasPlace at (counts ∷ above) = at < length counts

-- and a unit is counted there
abbrev pub HasUnit : ℕ → List (List ℕ) → Type 0
HasUnit at [] = Unit {0}
HasUnit at (counts ∷ above) = 0 < get_or counts at 0

-- the count at a place, and each sum that it is part of, changed
abbrev pub changed : (ℕ → ℕ) → ℕ → List (List ℕ) → List (List ℕ)
changed f at [] = []
changed f at (counts ∷ above) = set counts at (f (get_or counts at 0)) ∷ changed f (at / 2) above

-- the same on the first levels alone
abbrev pub changed_to : (ℕ → ℕ) → ℕ → ℕ → List (List ℕ) → List (List ℕ)
changed_to f zero at levels = levels
changed_to f (suc n) at [] = []
changed_to f (suc n) at (counts ∷ above) = set counts at (f (get_or counts at 0)) ∷ changed_to f n (at / 2) above

-- the place of a place's sum, so many levels up
abbrev pub halved : ℕ → ℕ → ℕ
halved zero at = at
halved (suc n) at = halved n (at / 2)
