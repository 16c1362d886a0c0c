-- What the code answers for operators, and how a line of operands goes on.
use Rattle.std.specs.Prelude.{Bool, Err, List, Ok, false, true, ℕ, ◌∷◌}
use Rattle.std.specs.declared.result.Result.{Result}
use Rattle.lf_base.specs.declared.faults.Fault.{Fault}
use Rattle.lf_base.specs.declared.values.Value.{Value}
use Rattle.lf_code.specs.Operators.{Computed, Faults, Yields}

-- what an answer says
abbrev pub computed : Result Value Fault → Computed
computed (Ok v) = Yields v
computed (Err fault) = Faults fault

-- the bytes of a value, which is the first of its line or comes behind a space
abbrev pub in_line : Bool → List ℕ → List ℕ
in_line true bytes = bytes
in_line false bytes = 32 ∷ bytes
