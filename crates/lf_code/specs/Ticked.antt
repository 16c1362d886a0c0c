-- Code that takes a tick wherever it goes back.
use Rattle.std.specs.Prelude.{◌≡◌, ◌≤◌, ℕ, List, Option, Some, None, slice_get}
use Rattle.lf_code.specs.declared.body.Placed.{Placed}
use Rattle.lf_code.specs.declared.instr.Instr.{Instr}
use Rattle.lf_code.specs.declared.instr.Instr.TheVariants as instr
use Rattle.lf_code.specs.CodeStep.{Program, code_at}

-- the address that an instruction may go to, but for the next one
abbrev pub target_of : Instr → Option ℕ
target_of (instr.Jump a) = Some a
target_of (instr.Unless a) = Some a
target_of (instr.And a) = Some a
target_of (instr.Or a) = Some a
target_of _ = None

abbrev pub instr_of : Option Placed → Option Instr
instr_of None = None
instr_of (Some i) = Some i.instr

-- each instruction that goes to an address not above its own goes to a tick
abbrev pub IsTicked : List Placed → Type 0
IsTicked list = (at a : ℕ) (i : Placed) → slice_get list at ≡ Some i → target_of i.instr ≡ Some a → a ≤ at
    → instr_of (slice_get list a) ≡ Some instr.Tick

abbrev pub Ticked : Program → Type 0
Ticked p = (body : ℕ) → IsTicked (code_at p body)
