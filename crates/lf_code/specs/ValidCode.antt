-- Valid code.
use Rattle.std.specs.Prelude.{Bool, List, None, Option, Some, [], false, length, nat_eq, nat_le, nat_lt, not, slice_get, true, ℕ, ◌&&◌, ◌+◌}
use Rattle.std.specs.Prelude.{◌-◌, ◌≡◌, ◌∷◌}
use Rattle.std.specs.List.{AllByRecursion, list_all, list_any}
use Rattle.lf_base.specs.declared.limits.TheConstants.{MOST_PARTS}
use Rattle.lf_code.specs.declared.body.Body.{Body}
use Rattle.lf_code.specs.declared.body.Placed.{Placed}
use Rattle.lf_code.specs.declared.instr.BuiltName.{BuiltName}
use Rattle.lf_code.specs.declared.instr.BuiltName.TheVariants.{Cown, Dissolve, Freeze, Merge, Print, Region}
use Rattle.lf_code.specs.declared.instr.Instr.{Instr}
use Rattle.lf_code.specs.declared.instr.Instr.TheVariants as instr
use Rattle.lf_code.specs.CodeStep.{Program}
use Rattle.lf_code.specs.Operations.{HasOperands}

-- a built-in call takes so many arguments
abbrev pub takes_count : BuiltName → ℕ → Bool
takes_count Print count = nat_le count MOST_PARTS
takes_count Region count = nat_eq count 0
takes_count Cown count = nat_eq count 1
takes_count Freeze count = nat_eq count 1
takes_count Merge count = nat_eq count 2
takes_count Dissolve count = nat_eq count 1

-- the body is there, and has so many parameters
abbrev pub has_params : Option Body → ℕ → Bool
has_params None count = false
has_params (Some b) count = nat_eq b.params count

-- all variables are below their number
abbrev pub in_range : ℕ → List ℕ → Bool
in_range vars list = list_all (λ v. nat_lt v vars) list

-- no number comes twice
abbrev pub all_differ : List ℕ → Bool
all_differ [] = true
all_differ (v ∷ vs) = not (list_any (nat_eq v) vs) && all_differ vs

-- no number of the first list is in the second
abbrev pub are_apart : List ℕ → List ℕ → Bool
are_apart vs ws = list_all (λ v. not (list_any (nat_eq v) ws)) vs

-- the names of a `when` are variables, no two of them one, and as many as its body has parameters
abbrev pub when_fits : List Body → ℕ → ℕ → List ℕ → List ℕ → Bool
when_fits bodies vars body cowns captures =
    in_range vars cowns && (in_range vars captures && (all_differ cowns && (all_differ captures
    && (are_apart cowns captures && has_params (slice_get bodies body) (length cowns + length captures)))))

module _ (bodies : List Body) (texts vars addresses : ℕ) where
  -- each variable, text, address and body of an instruction is there, and the number of its arguments is right
  abbrev pub instr_fits : Instr → Bool
  instr_fits (instr.Text t) = nat_lt t.index texts
  instr_fits (instr.Get v) = nat_lt v vars
  instr_fits (instr.Take v) = nat_lt v vars
  instr_fits (instr.Set v) = nat_lt v vars
  instr_fits (instr.Drop v) = nat_lt v vars
  instr_fits (instr.Jump a) = nat_lt a addresses
  instr_fits (instr.Unless a) = nat_lt a addresses
  instr_fits (instr.And a) = nat_lt a addresses
  instr_fits (instr.Or a) = nat_lt a addresses
  instr_fits (instr.Call body count) = has_params (slice_get bodies body) count
  instr_fits (instr.Built name count) = takes_count name count
  instr_fits (instr.Ask name v) = nat_lt v vars
  instr_fits (instr.When body cowns captures) = when_fits bodies vars body cowns captures
  instr_fits _ = true

abbrev pub instrs_fit : List Body → ℕ → ℕ → ℕ → List Placed → Bool
instrs_fit bodies texts vars addresses [] = true
instrs_fit bodies texts vars addresses (i ∷ is) =
    instr_fits bodies texts vars addresses i.instr && instrs_fit bodies texts vars addresses is

-- the last instruction is a return
abbrev pub is_return : Instr → Bool
is_return instr.Return = true
is_return _ = false

abbrev pub returns_at : Option Placed → Bool
returns_at None = false
returns_at (Some i) = is_return i.instr

abbrev pub ends_in_return : List Placed → Bool
ends_in_return list = returns_at (slice_get list (length list - 1))

abbrev pub body_fits : List Body → ℕ → Body → Bool
body_fits bodies texts b =
    nat_le b.params b.vars && (ends_in_return b.list && instrs_fit bodies texts b.vars (length b.list) b.list)

abbrev pub bodies_fit : List Body → ℕ → List Body → Bool
bodies_fit bodies texts [] = true
bodies_fit bodies texts (b ∷ bs) = body_fits bodies texts b && bodies_fit bodies texts bs

-- all of validity but the operands, for so many texts; main takes no parameters
abbrev pub code_fits : List Body → ℕ → Bool
code_fits bodies texts = has_params (slice_get bodies 0) 0 && bodies_fit bodies texts bodies

pub record ValidCode (p : Program) : Type 0 where
  pub fits : code_fits p.bodies (length p.texts) ≡ true
  pub operands : AllByRecursion (λ b. HasOperands b.list) p.bodies
