-- Limits at their boundaries, and the code of a script.
use Rattle.std.specs.Prelude.{List, Some, [], codes, length, pos, replicate, ℕ, ◌+◌, ◌≡◌, ◌∷◌}
use Rattle.lf_base.specs.declared.faults.Fault.TheVariants.{NotCown, OutputFull, TooManyObjects, TooManySpawns}
use Rattle.lf_base.specs.declared.limits.TheConstants.{MOST_PRINTED_BYTES}
use Rattle.lf_base.specs.declared.values.Op.TheVariants.{Add}
use Rattle.lf_base.specs.declared.values.Value.{Value}
use Rattle.lf_base.specs.declared.values.Value.TheVariants as value
use Rattle.lf_base.specs.PlainChanges.{first_state, with_slot}
use Rattle.lf_code.specs.declared.body.Placed.{Placed}
use Rattle.lf_code.specs.declared.instr.BuiltName.TheVariants.{Print}
use Rattle.lf_code.specs.declared.instr.Instr.TheVariants as instr
use Rattle.lf_code.specs.CodeStep.{code_at, on_line}
use Rattle.lf_code.specs.Progress.{Progress, Did, Does, Faulted}
use Rattle.lf_code.specs.Prints.{bytes_of, with_line}
use Rattle.lf_code.specs.Spawning.{spawns_one}
use Rattle.lf_parser.specs.Plain.{block_of}
use Rattle.lf_parser.specs.Plain as plain
use Rattle.lf_codegen.specs.GeneratedCode.{program_of}
use Rattle.lf_codegen.specs.Numbers.{PlainScript}
use Rattle.lf_script_rows.specs.ObjectRows.{first_sum_script}
use Rattle.lf_script_rows.specs.RowForms.{Shows, call_expr, fault_at, name_no, script_of, text_expr, text_no}
use Rattle.lf_script_rows.specs.WhenRows.{cown_no, spawn_for}

-- an action is done
abbrev pub IsDone : Did → Type 0
IsDone (Does c) = Unit {0}
IsDone (Faulted fault) = ⊥

-- the last byte that may be printed, and one more
abbrev pub OutputLimitRuns : Type 0
OutputLimitRuns = (c : Progress) (line : List ℕ) (n : ℕ)
    → (bytes_of c.lines + (length line + 1) ≡ MOST_PRINTED_BYTES → IsDone (with_line n c line))
    × (bytes_of c.lines + (length line + 1) ≡ MOST_PRINTED_BYTES + 1 → with_line n c line ≡ Faulted OutputFull)

-- a behaviour with one variable and so many spawns
abbrev pub spawned : Value → ℕ → Progress
spawned v n = record { state = with_slot (first_state 0 []) (Some v); ticks = 0; lines = []; spawns = replicate n (spawn_for 1 [] []) }

-- the last spawn, and one more; a name that holds no cown is refused first
abbrev pub SpawnLimitRuns : Type 0
SpawnLimitRuns =
    IsDone (spawns_one 1 (0 ∷ []) [] (spawned (value.Cown (cown_no 1)) 999))
    × (spawns_one 1 (0 ∷ []) [] (spawned (value.Cown (cown_no 1)) 1000) ≡ Faulted TooManySpawns)
    × (spawns_one 1 (0 ∷ []) [] (spawned (value.Int (pos 1)) 1000) ≡ Faulted NotCown)

-- while True:;     x = {}
abbrev pub endless_objects_script : PlainScript
endless_objects_script = script_of (codes "x" ∷ []) []
    (
    plain.While 1 plain.Yes
    (block_of (
    plain.Assign 2 (name_no 17) plain.Object
    ∷ []))
    ∷ [])

-- a million objects are made
abbrev pub EndlessObjectsRuns : Type 0
EndlessObjectsRuns = Shows endless_objects_script 3000000 [] (fault_at TooManyObjects 2)

-- while True:;     print("abcdefgh")
abbrev pub endless_lines_script : PlainScript
endless_lines_script = script_of (codes "abcdefgh" ∷ []) []
    (
    plain.While 1 plain.Yes
    (block_of (
    plain.Eval 2 (call_expr 5 (text_expr 17 ∷ []))
    ∷ []))
    ∷ [])

-- as many lines are printed as there is room for
abbrev pub EndlessLinesRuns : Type 0
EndlessLinesRuns = Shows endless_lines_script 1000000 (replicate 116508 (codes "abcdefgh")) (fault_at OutputFull 2)

-- the code of the first script
abbrev pub first_sum_code : List Placed
first_sum_code =
    on_line 1 instr.Tick ∷ on_line 1 instr.Object ∷ on_line 1 (instr.Set 0)
    ∷ on_line 2 instr.Tick ∷ on_line 2 (instr.Get 0) ∷ on_line 2 (instr.Text (text_no 18)) ∷ on_line 2 (instr.Int (pos 41))
    ∷ on_line 2 (instr.Int (pos 1)) ∷ on_line 2 (instr.Binary Add) ∷ on_line 2 instr.Write
    ∷ on_line 3 instr.Tick ∷ on_line 3 (instr.Get 0) ∷ on_line 3 (instr.Text (text_no 18)) ∷ on_line 3 instr.Read
    ∷ on_line 3 (instr.Built Print 1) ∷ on_line 3 instr.Pop
    ∷ on_line 0 instr.None ∷ on_line 0 instr.Return ∷ []

abbrev pub FirstSumCodeRuns : Type 0
FirstSumCodeRuns = code_at (program_of first_sum_script) 0 ≡ first_sum_code
