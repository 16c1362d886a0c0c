-- The operands of each instruction, and how many there are at each address that is reached.
use Rattle.std.specs.Prelude.{List, Some, [], length, slice_get, ℕ, ◌+◌, ◌-◌, ◌<◌, ◌≡◌, ◌≤◌, ◌∷◌}
use Rattle.lf_base.specs.Sets.{Member}
use Rattle.lf_code.specs.declared.body.Placed.{Placed}
use Rattle.lf_code.specs.declared.instr.Instr.{Instr}
use Rattle.lf_code.specs.declared.instr.Instr.TheVariants as instr

-- the operands that an instruction needs
abbrev pub needs : Instr → ℕ
needs (instr.Set v) = 1
needs instr.Read = 2
needs instr.Write = 3
needs instr.Remove = 2
needs (instr.Unary op) = 1
needs (instr.Binary op) = 2
needs (instr.Unless a) = 1
needs (instr.And a) = 1
needs (instr.Or a) = 1
needs instr.Test = 1
needs (instr.Call body count) = count
needs instr.Return = 1
needs (instr.Built name count) = count
needs instr.Pop = 1
needs _ = 0

-- the operands that it leaves in their place, where it goes to the next address
abbrev pub leaves : Instr → ℕ
leaves instr.None = 1
leaves (instr.Bool b) = 1
leaves (instr.Int n) = 1
leaves (instr.Text t) = 1
leaves (instr.Get v) = 1
leaves (instr.Take v) = 1
leaves instr.Object = 1
leaves instr.Read = 1
leaves instr.Remove = 1
leaves (instr.Unary op) = 1
leaves (instr.Binary op) = 1
leaves instr.Test = 1
leaves (instr.Call body count) = 1
leaves (instr.Built name count) = 1
leaves (instr.Ask name v) = 1
leaves _ = 0

-- a way on from an instruction: an address, and the operands that are there then
pub record Way : Type 0 where
  pub to : ℕ
  pub operands : ℕ

abbrev pub way : ℕ → ℕ → Way
way to operands = record { to = to; operands = operands }

-- the ways on from an address with so many operands besides those that are needed
abbrev pub ways : Instr → ℕ → ℕ → List Way
ways (instr.Jump a) at rest = way a rest ∷ []
ways (instr.Unless a) at rest = way a rest ∷ way (at + 1) rest ∷ []
ways (instr.And a) at rest = way a (rest + 1) ∷ way (at + 1) rest ∷ []
ways (instr.Or a) at rest = way a (rest + 1) ∷ way (at + 1) rest ∷ []
ways instr.Return at rest = []
ways i at rest = way (at + 1) (rest + leaves i) ∷ []

-- an address is reached with so many operands
pub data IsReached (list : List Placed) : ℕ → ℕ → Type 0 where
  first : IsReached list 0 0
  next : {at d : ℕ} (i : Placed) (w : Way) → IsReached list at d → slice_get list at ≡ Some i
      → Member w (ways i.instr at (d - needs i.instr)) → IsReached list w.to w.operands

-- each address that is reached is there, has one number of operands on all ways, and enough of them
pub record HasOperands (list : List Placed) : Type 0 where
  pub there : (at d : ℕ) → IsReached list at d → at < length list
  pub one_number : (at d e : ℕ) → IsReached list at d → IsReached list at e → d ≡ e
  pub enough : (at d : ℕ) (i : Placed) → IsReached list at d → slice_get list at ≡ Some i → needs i.instr ≤ d
