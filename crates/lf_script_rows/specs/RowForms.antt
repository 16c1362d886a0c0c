-- How the rows write scripts down, and what a row says.
use Rattle.std.specs.Prelude.{List, Option, Some, [], pos, ℕ, ◌++◌, ◌≡◌}
use Rattle.lf_base.specs.declared.behaviours.Job.{Job}
use Rattle.lf_base.specs.declared.faults.Fault.{Fault}
use Rattle.lf_base.specs.declared.faults.FaultAt.{FaultAt}
use Rattle.lf_base.specs.declared.ids.TextId.{TextId}
use Rattle.lf_base.specs.Texts.{Text, fixed_texts}
use Rattle.lf_parser.specs.declared.name.Name.{Name}
use Rattle.lf_parser.specs.Plain.{PlainExpr, PlainFunction, PlainStmt, args_of, block_of}
use Rattle.lf_parser.specs.Plain as plain
use Rattle.lf_code.specs.RunCode.{RunResult, run_code}
use Rattle.lf_codegen.specs.GeneratedCode.{program_of}
use Rattle.lf_codegen.specs.Numbers.{PlainScript}
use Rattle.lf_codegen.specs.RunOne.{run_one}

-- names and texts by their places among the script's texts; the first 17 are fixed
abbrev pub text_no : ℕ → TextId
text_no n = record { index = n }

abbrev pub name_no : ℕ → Name
name_no n = record { id = text_no n; place = record { line = 0; column = 0 } }

abbrev pub int_expr : ℕ → PlainExpr
int_expr n = plain.Number (pos n)

abbrev pub text_expr : ℕ → PlainExpr
text_expr n = plain.Text (text_no n)

abbrev pub var_expr : ℕ → PlainExpr
var_expr n = plain.Var (name_no n)

abbrev pub call_expr : ℕ → List PlainExpr → PlainExpr
call_expr n es = plain.Call (name_no n) (args_of es)

abbrev pub function_of : ℕ → List Name → List PlainStmt → PlainFunction
function_of n params body = record { name = name_no n; params = params; body = block_of body }

-- a script with these texts behind the fixed ones
abbrev pub script_of : List Text → List PlainFunction → List PlainStmt → PlainScript
script_of texts functions main = record { texts = fixed_texts ++ texts; tree = record { functions = functions; main = block_of main } }

-- the behaviour that runs main
abbrev pub main_job : Job
main_job = record { id = 0; body = 0; cowns = []; values = [] }

abbrev pub fault_at : Fault → ℕ → Option FaultAt
fault_at fault line = Some (record { fault = fault; line = line })

abbrev pub Ends : RunResult → List Text → Option FaultAt → Type 0
Ends r lines fault = (r.lines ≡ lines) × (r.fault ≡ fault)

-- within so many ticks main prints these lines and ends so, by the tree and by the code
abbrev pub Shows : PlainScript → ℕ → List Text → Option FaultAt → Type 0
Shows s ticks lines fault =
    Ends (run_one s ticks main_job [] []) lines fault × Ends (run_code (program_of s) ticks main_job [] []) lines fault
