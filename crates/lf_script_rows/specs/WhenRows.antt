-- Scripts with `when`: what main asks for, and what a body leaves.
use Rattle.std.specs.Prelude.{List, None, Option, Some, [], codes, length, pos, ℕ, ◌≡◌, ◌∷◌}
use Rattle.lf_base.specs.declared.behaviours.Job.{Job}
use Rattle.lf_base.specs.declared.behaviours.Spawn.{Spawn}
use Rattle.lf_base.specs.declared.faults.Fault.TheVariants.{TooManySpawns, ZeroDivisor}
use Rattle.lf_base.specs.declared.faults.FaultAt.{FaultAt}
use Rattle.lf_base.specs.declared.ids.CownId.{CownId}
use Rattle.lf_base.specs.declared.ids.ObjId.{ObjId}
use Rattle.lf_base.specs.declared.values.Key.{Key}
use Rattle.lf_base.specs.declared.values.Key.TheVariants as key
use Rattle.lf_base.specs.declared.values.Op.TheVariants.{Add, Div, Eq, Sub}
use Rattle.lf_base.specs.declared.values.Owner.TheVariants.{Frozen, In}
use Rattle.lf_base.specs.declared.values.Value.{Value}
use Rattle.lf_base.specs.declared.values.Value.TheVariants as value
use Rattle.lf_base.specs.Contents.{Parked}
use Rattle.lf_base.specs.PlainState.{Row}
use Rattle.lf_base.specs.Texts.{Text}
use Rattle.lf_parser.specs.Plain.{block_of, no_stmts}
use Rattle.lf_parser.specs.Plain as plain
use Rattle.lf_code.specs.RunCode.{RunResult, run_code}
use Rattle.lf_codegen.specs.GeneratedCode.{program_of}
use Rattle.lf_codegen.specs.Numbers.{PlainScript}
use Rattle.lf_codegen.specs.RunOne.{run_one}
use Rattle.lf_script_rows.specs.RowForms.{Shows, call_expr, fault_at, function_of, int_expr, main_job, name_no, script_of, text_expr}
use Rattle.lf_script_rows.specs.RowForms.{text_no, var_expr}

-- the cowns and objects that main made, by their numbers
abbrev pub cown_no : ℕ → CownId
cown_no n = record { birth = 0; seq = n }

abbrev pub object_no : ℕ → ObjId
object_no n = record { birth = 0; seq = n }

abbrev pub spawn_for : ℕ → List CownId → List Value → Spawn
spawn_for body cowns values = record { body = body; cowns = cowns; values = values }

abbrev pub job_for : ℕ → ℕ → List CownId → List Value → Job
job_for id body cowns values = record { id = id; body = body; cowns = cowns; values = values }

-- a content without rows, and one that is a region of its bridge alone
abbrev pub plainly : Value → Parked
plainly v = record { value = v; rows = [] }

abbrev pub region_with : ℕ → List (Key × Value) → Parked
region_with n fields =
    record { value = value.Obj (object_no n); rows = record { name = object_no n; owner = In (object_no n); fields = fields } ∷ [] }

abbrev pub AsksFor : RunResult → List Spawn → Type 0
AsksFor r spawns = (r.fault ≡ None) × (r.spawns ≡ spawns)

-- main ends by itself and asks for these behaviours
abbrev pub Asks : PlainScript → List Spawn → Type 0
Asks s spawns = AsksFor (run_one s 1000 main_job [] []) spawns × AsksFor (run_code (program_of s) 1000 main_job [] []) spawns

abbrev pub LeavesSo : RunResult → List Text → Option FaultAt → List (CownId × Parked) → Type 0
LeavesSo r lines fault held = (r.lines ≡ lines) × (r.fault ≡ fault) × (r.held ≡ held)

-- with these contents and frozen rows a job prints these lines, ends so, and leaves these contents
abbrev pub Leaves : PlainScript → Job → List (CownId × Parked) → List Row → List Text → Option FaultAt → List (CownId × Parked) → Type 0
Leaves s job contents given lines fault held =
    LeavesSo (run_one s 1000 job contents given) lines fault held
    × LeavesSo (run_code (program_of s) 1000 job contents given) lines fault held

-- an account of the accounts' script
abbrev pub balance : ℕ → ℕ → Parked
balance n amount = region_with n ((key.Text (text_no 20), value.Int (pos amount)) ∷ [])

-- c = Cown(1); x = {}; x.f = 5; freeze(x); when c with x:;     c.value = c.value + x.f;     print(c.value)
abbrev pub frozen_capture_script : PlainScript
frozen_capture_script = script_of (codes "c" ∷ codes "x" ∷ codes "f" ∷ []) []
    (
    plain.Assign 1 (name_no 17) (call_expr 7 (int_expr 1 ∷ []))
    ∷ plain.Assign 2 (name_no 18) plain.Object
    ∷ plain.Store 3 (var_expr 18) (text_expr 19) (int_expr 5)
    ∷ plain.Eval 4 (call_expr 8 (var_expr 18 ∷ []))
    ∷ plain.When 5 (name_no 17 ∷ []) (name_no 18 ∷ [])
    (block_of (
    plain.Store 6 (var_expr 17) (text_expr 0)
    (plain.Binary Add (plain.Field (var_expr 17) (text_expr 0)) (plain.Field (var_expr 18) (text_expr 19)))
    ∷ plain.Eval 7 (call_expr 5 (plain.Field (var_expr 17) (text_expr 0) ∷ []))
    ∷ []))
    ∷ [])

abbrev pub FrozenCaptureRuns : Type 0
FrozenCaptureRuns =
    Asks frozen_capture_script (spawn_for 1 (cown_no 1 ∷ []) (value.Cown (cown_no 1) ∷ value.Obj (object_no 1) ∷ []) ∷ [])
    × Leaves frozen_capture_script (job_for 1 1 (cown_no 1 ∷ []) (value.Cown (cown_no 1) ∷ value.Obj (object_no 1) ∷ []))
    ((cown_no 1, plainly (value.Int (pos 1))) ∷ [])
    (record { name = object_no 1; owner = Frozen; fields = (key.Text (text_no 19), value.Int (pos 5)) ∷ [] } ∷ [])
    (codes "6" ∷ []) None ((cown_no 1, plainly (value.Int (pos 6))) ∷ [])

-- c = Cown(1); d = c; when c, d:;     print(c == d)
abbrev pub one_cown_twice_script : PlainScript
one_cown_twice_script = script_of (codes "c" ∷ codes "d" ∷ []) []
    (
    plain.Assign 1 (name_no 17) (call_expr 7 (int_expr 1 ∷ []))
    ∷ plain.Assign 2 (name_no 18) (var_expr 17)
    ∷ plain.When 3 (name_no 17 ∷ name_no 18 ∷ []) []
    (block_of (
    plain.Eval 4 (call_expr 5 (plain.Binary Eq (var_expr 17) (var_expr 18) ∷ []))
    ∷ []))
    ∷ [])

abbrev pub OneCownTwiceRuns : Type 0
OneCownTwiceRuns =
    Asks one_cown_twice_script (spawn_for 1 (cown_no 1 ∷ []) (value.Cown (cown_no 1) ∷ value.Cown (cown_no 1) ∷ []) ∷ [])
    × Leaves one_cown_twice_script (job_for 1 1 (cown_no 1 ∷ []) (value.Cown (cown_no 1) ∷ value.Cown (cown_no 1) ∷ []))
    ((cown_no 1, plainly (value.Int (pos 1))) ∷ []) []
    (codes "True" ∷ []) None ((cown_no 1, plainly (value.Int (pos 1))) ∷ [])

-- c = Cown(1); d = c; when c, c, d with c, d, c:;     pass
abbrev pub named_again_script : PlainScript
named_again_script = script_of (codes "c" ∷ codes "d" ∷ []) []
    (
    plain.Assign 1 (name_no 17) (call_expr 7 (int_expr 1 ∷ []))
    ∷ plain.Assign 2 (name_no 18) (var_expr 17)
    ∷ plain.When 3 (name_no 17 ∷ name_no 17 ∷ name_no 18 ∷ []) (name_no 17 ∷ name_no 18 ∷ name_no 17 ∷ [])
    (block_of (
    plain.Pass 4
    ∷ []))
    ∷ [])

abbrev pub NamedAgainRuns : Type 0
NamedAgainRuns =
    Asks named_again_script (spawn_for 1 (cown_no 1 ∷ []) (value.Cown (cown_no 1) ∷ value.Cown (cown_no 1) ∷ []) ∷ [])

-- c = Cown(1); when c:;     c.value = 2;     c.value = 1 / 0; when c:;     print(c.value)
abbrev pub fault_keeps_writes_script : PlainScript
fault_keeps_writes_script = script_of (codes "c" ∷ []) []
    (
    plain.Assign 1 (name_no 17) (call_expr 7 (int_expr 1 ∷ []))
    ∷ plain.When 2 (name_no 17 ∷ []) []
    (block_of (
    plain.Store 3 (var_expr 17) (text_expr 0) (int_expr 2)
    ∷ plain.Store 4 (var_expr 17) (text_expr 0) (plain.Binary Div (int_expr 1) (int_expr 0))
    ∷ []))
    ∷ plain.When 5 (name_no 17 ∷ []) []
    (block_of (
    plain.Eval 6 (call_expr 5 (plain.Field (var_expr 17) (text_expr 0) ∷ []))
    ∷ []))
    ∷ [])

abbrev pub FaultKeepsWritesRuns : Type 0
FaultKeepsWritesRuns =
    Asks fault_keeps_writes_script
    (spawn_for 1 (cown_no 1 ∷ []) (value.Cown (cown_no 1) ∷ []) ∷ spawn_for 2 (cown_no 1 ∷ []) (value.Cown (cown_no 1) ∷ []) ∷ [])
    × Leaves fault_keeps_writes_script (job_for 1 1 (cown_no 1 ∷ []) (value.Cown (cown_no 1) ∷ []))
    ((cown_no 1, plainly (value.Int (pos 1))) ∷ []) []
    [] (fault_at ZeroDivisor 4) ((cown_no 1, plainly (value.Int (pos 2))) ∷ [])
    × Leaves fault_keeps_writes_script (job_for 2 2 (cown_no 1 ∷ []) (value.Cown (cown_no 1) ∷ []))
    ((cown_no 1, plainly (value.Int (pos 2))) ∷ []) []
    (codes "2" ∷ []) None ((cown_no 1, plainly (value.Int (pos 2))) ∷ [])

-- r = Region(); c = Cown(move r); when c:;     q = move c.value;     print(owner(q), c.value)
abbrev pub moved_content_script : PlainScript
moved_content_script = script_of (codes "r" ∷ codes "c" ∷ codes "q" ∷ []) []
    (
    plain.Assign 1 (name_no 17) (call_expr 6 [])
    ∷ plain.Assign 2 (name_no 18) (call_expr 7 (plain.Move (name_no 17) ∷ []))
    ∷ plain.When 3 (name_no 18 ∷ []) []
    (block_of (
    plain.Assign 4 (name_no 19) (plain.Remove (var_expr 18) (text_expr 0))
    ∷ plain.Eval 5 (call_expr 5 (call_expr 15 (var_expr 19 ∷ []) ∷ plain.Field (var_expr 18) (text_expr 0) ∷ []))
    ∷ []))
    ∷ [])

abbrev pub MovedContentRuns : Type 0
MovedContentRuns =
    Asks moved_content_script (spawn_for 1 (cown_no 1 ∷ []) (value.Cown (cown_no 1) ∷ []) ∷ [])
    × Leaves moved_content_script (job_for 1 1 (cown_no 1 ∷ []) (value.Cown (cown_no 1) ∷ [])) ((cown_no 1, region_with 1 []) ∷ []) []
    (codes "region None" ∷ []) None ((cown_no 1, plainly value.None) ∷ [])

-- c = Cown(1); when c:;     c.value = 2;     return;     c.value = 3
abbrev pub body_returns_script : PlainScript
body_returns_script = script_of (codes "c" ∷ []) []
    (
    plain.Assign 1 (name_no 17) (call_expr 7 (int_expr 1 ∷ []))
    ∷ plain.When 2 (name_no 17 ∷ []) []
    (block_of (
    plain.Store 3 (var_expr 17) (text_expr 0) (int_expr 2)
    ∷ plain.Return 4 None
    ∷ plain.Store 5 (var_expr 17) (text_expr 0) (int_expr 3)
    ∷ []))
    ∷ [])

abbrev pub BodyReturnsRuns : Type 0
BodyReturnsRuns =
    Leaves body_returns_script (job_for 1 1 (cown_no 1 ∷ []) (value.Cown (cown_no 1) ∷ []))
    ((cown_no 1, plainly (value.Int (pos 1))) ∷ []) []
    [] None ((cown_no 1, plainly (value.Int (pos 2))) ∷ [])

-- def account(n):;     r = Region();     r.balance = n;     return Cown(move r); def pay(a, b, n):;     when a, b with n:;
-- a.value.balance = a.value.balance - n;         b.value.balance = b.value.balance + n; x = account(100); y = account(50); pay(x, y, 30);
-- pay(y, x, 10); pay(x, y, 6); when x, y:;     print(x.value.balance, y.value.balance)
abbrev pub accounts_script : PlainScript
accounts_script = script_of (codes "account" ∷ codes "n" ∷ codes "r" ∷ codes "balance" ∷ codes "pay" ∷ codes "a" ∷ codes "b" ∷ codes "x" ∷
    codes "y" ∷ [])
    (
    function_of 17 (name_no 18 ∷ []) (
    plain.Assign 2 (name_no 19) (call_expr 6 [])
    ∷ plain.Store 3 (var_expr 19) (text_expr 20) (var_expr 18)
    ∷ plain.Return 4 (Some (call_expr 7 (plain.Move (name_no 19) ∷ [])))
    ∷ [])
    ∷ function_of 21 (name_no 22 ∷ name_no 23 ∷ name_no 18 ∷ []) (
    plain.When 6 (name_no 22 ∷ name_no 23 ∷ []) (name_no 18 ∷ [])
    (block_of (
    plain.Store 7 (plain.Field (var_expr 22) (text_expr 0)) (text_expr 20)
    (plain.Binary Sub (plain.Field (plain.Field (var_expr 22) (text_expr 0)) (text_expr 20)) (var_expr 18))
    ∷ plain.Store 8 (plain.Field (var_expr 23) (text_expr 0)) (text_expr 20)
    (plain.Binary Add (plain.Field (plain.Field (var_expr 23) (text_expr 0)) (text_expr 20)) (var_expr 18))
    ∷ []))
    ∷ [])
    ∷ [])
    (
    plain.Assign 9 (name_no 24) (call_expr 17 (int_expr 100 ∷ []))
    ∷ plain.Assign 10 (name_no 25) (call_expr 17 (int_expr 50 ∷ []))
    ∷ plain.Eval 11 (call_expr 21 (var_expr 24 ∷ var_expr 25 ∷ int_expr 30 ∷ []))
    ∷ plain.Eval 12 (call_expr 21 (var_expr 25 ∷ var_expr 24 ∷ int_expr 10 ∷ []))
    ∷ plain.Eval 13 (call_expr 21 (var_expr 24 ∷ var_expr 25 ∷ int_expr 6 ∷ []))
    ∷ plain.When 14 (name_no 24 ∷ name_no 25 ∷ []) []
    (block_of (
    plain.Eval 15 (call_expr 5 (plain.Field (plain.Field (var_expr 24) (text_expr 0)) (text_expr 20) ∷ plain.Field
    (plain.Field (var_expr 25) (text_expr 0)) (text_expr 20) ∷ []))
    ∷ []))
    ∷ [])

abbrev pub AccountsRuns : Type 0
AccountsRuns =
    Asks accounts_script (
    spawn_for 3 (cown_no 1 ∷ cown_no 2 ∷ []) (value.Cown (cown_no 1) ∷ value.Cown (cown_no 2) ∷ value.Int (pos 30) ∷ [])
    ∷ spawn_for 3 (cown_no 2 ∷ cown_no 1 ∷ []) (value.Cown (cown_no 2) ∷ value.Cown (cown_no 1) ∷ value.Int (pos 10) ∷ [])
    ∷ spawn_for 3 (cown_no 1 ∷ cown_no 2 ∷ []) (value.Cown (cown_no 1) ∷ value.Cown (cown_no 2) ∷ value.Int (pos 6) ∷ [])
    ∷ spawn_for 4 (cown_no 1 ∷ cown_no 2 ∷ []) (value.Cown (cown_no 1) ∷ value.Cown (cown_no 2) ∷ [])
    ∷ [])
    × Leaves accounts_script (job_for 1 3 (cown_no 1 ∷ cown_no 2 ∷ [])
    (value.Cown (cown_no 1) ∷ value.Cown (cown_no 2) ∷ value.Int (pos 30) ∷ []))
    ((cown_no 1, balance 1 100) ∷ (cown_no 2, balance 2 50) ∷ []) [] [] None ((cown_no 1, balance 1 70) ∷ (cown_no 2, balance 2 80) ∷ [])
    × Leaves accounts_script (job_for 4 4 (cown_no 1 ∷ cown_no 2 ∷ []) (value.Cown (cown_no 1) ∷ value.Cown (cown_no 2) ∷ []))
    ((cown_no 1, balance 1 74) ∷ (cown_no 2, balance 2 76) ∷ []) [] (codes "74 76" ∷ []) None
    ((cown_no 1, balance 1 74) ∷ (cown_no 2, balance 2 76) ∷ [])

-- while True:;     when:;         pass
abbrev pub endless_whens_script : PlainScript
endless_whens_script = script_of ([]) []
    (
    plain.While 1 plain.Yes
    (block_of (
    plain.When 2 [] []
    (block_of (
    plain.Pass 3
    ∷ []))
    ∷ []))
    ∷ [])

abbrev pub EndlessWhensRuns : Type 0
EndlessWhensRuns =
    Shows endless_whens_script 1000000 [] (fault_at TooManySpawns 2)
    × (length (run_one endless_whens_script 1000000 main_job [] []).spawns ≡ 1000)
    × (length (run_code (program_of endless_whens_script) 1000000 main_job [] []).spawns ≡ 1000)
