-- Which instructions run today, and which stay in their frame.
use Rattle.std.specs.Prelude.{Bool, List, false, true, ◌≡◌}
use Rattle.std.specs.List.{list_all}
use Rattle.lf_code.specs.declared.body.Placed.{Placed}
use Rattle.lf_code.specs.declared.instr.BuiltName.{BuiltName}
use Rattle.lf_code.specs.declared.instr.BuiltName.TheVariants.{Cown}
use Rattle.lf_code.specs.declared.instr.Instr.{Instr}
use Rattle.lf_code.specs.declared.instr.Instr.TheVariants as instr
use Rattle.lf_code.specs.CodeStep.{Program}

abbrev pub built_runs : BuiltName → Bool
built_runs Cown = false
built_runs _ = true

-- all instructions run but a `when`, and those that make cowns
abbrev pub runs : Instr → Bool
runs (instr.Built name count) = built_runs name
runs (instr.When body cowns captures) = false
runs _ = true

abbrev pub list_runs : List Placed → Bool
list_runs list = list_all (λ i. runs i.instr) list

-- all instructions of all bodies run today
abbrev pub Runs : Program → Type 0
Runs p = list_all (λ b. list_runs b.list) p.bodies ≡ true

-- an instruction that goes on to the next address of its frame, wherever it doesn't fail
abbrev pub goes_on : Instr → Bool
goes_on (instr.Jump a) = false
goes_on (instr.Unless a) = false
goes_on (instr.And a) = false
goes_on (instr.Or a) = false
goes_on (instr.Call body count) = false
goes_on instr.Return = false
goes_on _ = true
