-- Sets of variables' numbers, in code and as lists of numbers.
use Rattle.std.specs.Prelude.{Bool, List, [], nat_eq, not, true, ℕ, ◌&&◌, ◌++◌, ◌∷◌, ◌≡◌}
use Rattle.std.specs.HashSet.{contains}
use Rattle.std.specs.List.{list_any}
use Rattle.lf_code.specs.declared.var_set.VarSet.{VarSet}

-- the number is among those that are known
abbrev pub is_known : ℕ → List ℕ → Bool
is_known v known = list_any (nat_eq v) known

-- the set has these numbers
abbrev pub HasVars : VarSet → List ℕ → Type 0
HasVars set known = (v : ℕ) → contains nat_eq set.vars v ≡ is_known v known

-- each number is new to those that are known and to those before it
abbrev pub all_new : List ℕ → List ℕ → Bool
all_new known [] = true
all_new known (v ∷ vs) = not (is_known v known) && all_new (known ++ v ∷ []) vs

-- all numbers were new, and then the set has them too; or one wasn't
abbrev pub AddsNew : Bool → List ℕ → List ℕ → VarSet → Type 0
AddsNew all known vars after = (all ≡ all_new known vars) × (all ≡ true → HasVars after (known ++ vars))
