-- Scripts whose loops turn until a limit is met.
use Rattle.std.proofs.Common.{◌≡◌, ◌∙◌, ℕ, ◌+◌, ◌*◌, suc, zero, List, [], ◌∷◌, ◌++◌, codes, Option, Some, None, true, false}
use Rattle.std.proofs.Common.{ap, subst, sym, refl, ltb, leb, replicate}
use Rattle.std.proofs.Common.{arith, append-nil}
use Rattle.std.proofs.lemmas.Bool.{lt-leb, le-leb, lt-ltb}
use Rattle.std.proofs.lemmas.List.{append_assoc}
use Rattle.lf_base.specs.declared.faults.FaultAt.{FaultAt}
use Rattle.lf_base.specs.declared.faults.Fault.TheVariants.{OutputFull, TooManyObjects}
use Rattle.lf_base.specs.declared.limits.TheConstants.{MOST_MADE, MOST_PRINTED_BYTES}
use Rattle.lf_base.specs.declared.values.Value.{Value}
use Rattle.lf_base.specs.declared.values.Value.TheVariants as value
use Rattle.lf_base.specs.Kept.{kept}
use Rattle.lf_base.specs.Operands.{popped, pushed, put_down}
use Rattle.lf_base.specs.PlainChanges.{first_state, next_object, object_result, with_slot}
use Rattle.lf_base.specs.PlainState.{Row, State}
use Rattle.lf_base.specs.Texts.{Text}
use Rattle.lf_parser.specs.Plain.{block_of}
use Rattle.lf_parser.specs.Plain as plain
use Rattle.lf_code.specs.Prints.{bytes_of}
use Rattle.lf_code.specs.Progress.{Flow, Progress, Next, ◌▷◌}
use Rattle.lf_codegen.specs.Meaning.{block_meaning, calls_within_frames, expr_meaning, frame_end, turns}
use Rattle.lf_codegen.specs.Numbers.{PlainScript}
use Rattle.lf_codegen.specs.RunOne.{flow_result, run_one}
use Rattle.lf_codegen.proofs.Following.Whole.{code_means_tree}
use Rattle.lf_script_rows.specs.LimitRows.{endless_lines_script, endless_objects_script, EndlessLinesRuns, EndlessObjectsRuns}
use Rattle.lf_script_rows.specs.RowForms.{Ends, Shows, call_expr, fault_at, main_job, name_no, text_expr}

-- what holds by the tree holds by the code
both : (s : PlainScript) (ticks : ℕ) (lines : List Text) (fault : Option FaultAt)
    → Ends (run_one s ticks main_job [] []) lines fault → Shows s ticks lines fault
both s ticks lines fault ends =
    (ends, subst (λ r. Ends r lines fault) (sym (code_means_tree s ticks main_job [] [])) ends)

-- ---- objects

-- main after so many objects, of which the last one is in its variable
abbrev objects_made : ℕ → ℕ → Option Value → List Row → Progress
objects_made n ticks v rows = record {
  state = record { birth = 0; objects = n; cowns = 0; rows = rows; slots = v ∷ []; held = []; made = []; given = []; own = [] };
  ticks = ticks;
  lines = [];
  spawns = [];
}

-- the turns that are left, and what comes of them
abbrev object_turns : ℕ → Progress → Flow
object_turns k = turns k 1
    (expr_meaning endless_objects_script (name_no 17 ∷ []) 0 (calls_within_frames endless_objects_script 199) plain.Yes 1)
    (block_meaning endless_objects_script (name_no 17 ∷ []) 0 (calls_within_frames endless_objects_script 199)
    (block_of (plain.Assign 2 (name_no 17) plain.Object ∷ [])))

-- the rows and the variable after one turn
module _ (n : ℕ) (v : Option Value) (rows : List Row) where
  abbrev before : State
  before = popped (pushed (Some (value.Bool true)) (objects_made n 0 v rows).state)

  abbrev with_object : State
  with_object = put_down 0 (kept (with_slot (object_result before) (Some (value.Obj (next_object before)))))

one_object : (k n t : ℕ) (v : Option Value) (rows : List Row) → ltb (n + 0) MOST_MADE ≡ true
    → object_turns (suc k) (objects_made n (suc (suc t)) v rows)
    ≡ object_turns k (objects_made (n + 1) t (Some (value.Obj (record { birth = 0; seq = n + 1 }))) (with_object n v rows).rows)
one_object k n t v rows e = rw e refl

-- fuel and ticks for so many turns and one more
abbrev fuel_for : ℕ → ℕ → ℕ
fuel_for zero j = suc j
fuel_for (suc m) j = suc (fuel_for m j)

abbrev ticks_for : ℕ → ℕ → ℕ
ticks_for zero t = suc (suc t)
ticks_for (suc m) t = suc (suc (ticks_for m t))

fuel_is : (m j : ℕ) → fuel_for m j ≡ suc (m + j)
fuel_is zero j = omega arith
fuel_is (suc m) j = let e = fuel_is m j in omega arith

ticks_are : (m t : ℕ) → ticks_for m t ≡ m + m + suc (suc t)
ticks_are zero t = omega arith
ticks_are (suc m) t = let e = ticks_are m t in omega arith

-- one turn more than there are ticks for
enough_fuel : (m t : ℕ) → suc (ticks_for m t) ≡ fuel_for m (m + t + 2)
enough_fuel m t = let e = ticks_are m t in let f = fuel_is m (m + t + 2) in omega arith

-- main ends so after what comes of its loop
abbrev EndsAfter : Flow → List Text → Option FaultAt → Type 0
EndsAfter o lines fault = Ends (flow_result (frame_end 0 (o ▷ Next))) lines fault

objects_run_out : (m n j t : ℕ) (v : Option Value) (rows : List Row) → n + m ≡ MOST_MADE
    → EndsAfter (object_turns (fuel_for m j) (objects_made n (ticks_for m t) v rows)) [] (fault_at TooManyObjects 2)
objects_run_out zero n j t v rows e =
    let all : MOST_MADE ≡ n = omega (arith, e) in
    subst (λ x. EndsAfter (object_turns (suc j) (objects_made x (suc (suc t)) v rows)) [] (fault_at TooManyObjects 2)) all (refl, refl)
objects_run_out (suc m) n j t v rows e =
    let room : ltb (n + 0) MOST_MADE ≡ true = lt-ltb (n + 0) MOST_MADE (omega (arith, e)) in
    subst (λ o. EndsAfter o [] (fault_at TooManyObjects 2)) (sym (one_object (fuel_for m j) n (ticks_for m t) v rows room))
    (objects_run_out m (n + 1) j t _ _ (omega (arith, e)))

objects_end : (m t : ℕ) → m ≡ MOST_MADE
    → Ends (run_one endless_objects_script (suc (ticks_for m t)) main_job [] []) [] (fault_at TooManyObjects 2)
objects_end m t e =
    subst (λ fuel. EndsAfter (object_turns fuel (objects_made 0 (ticks_for m t) None [])) [] (fault_at TooManyObjects 2))
    (sym (enough_fuel m t))
    (objects_run_out m 0 (m + t + 2) t None [] (omega (arith, e)))

objects_end_by : (ticks m t : ℕ) → ticks ≡ suc (m + m + suc (suc t)) → m ≡ MOST_MADE
    → Shows endless_objects_script ticks [] (fault_at TooManyObjects 2)
objects_end_by ticks m t e all =
    let is : suc (ticks_for m t) ≡ ticks = ap suc (ticks_are m t) ∙ sym e in
    subst (λ n. Shows endless_objects_script n [] (fault_at TooManyObjects 2)) is
    (both endless_objects_script (suc (ticks_for m t)) [] (fault_at TooManyObjects 2) (objects_end m t all))

pub endless_objects_show : EndlessObjectsRuns
endless_objects_show = objects_end_by 3000000 1000000 999997 refl refl

-- ---- lines

abbrev line : Text
line = codes "abcdefgh"

-- main after these lines
abbrev lines_printed : ℕ → List Text → Progress
lines_printed ticks lines = record { state = first_state 0 []; ticks = ticks; lines = lines; spawns = [] }

abbrev line_turns : ℕ → Progress → Flow
line_turns k = turns k 1
    (expr_meaning endless_lines_script [] 0 (calls_within_frames endless_lines_script 199) plain.Yes 1)
    (block_meaning endless_lines_script [] 0 (calls_within_frames endless_lines_script 199)
    (block_of (plain.Eval 2 (call_expr 5 (text_expr 17 ∷ [])) ∷ [])))

one_line : (k t : ℕ) (lines : List Text) → leb (bytes_of lines + 9) MOST_PRINTED_BYTES ≡ true
    → line_turns (suc k) (lines_printed (suc (suc t)) lines) ≡ line_turns k (lines_printed t (lines ++ line ∷ []))
one_line k t lines e = rw e refl

no_line : (k t : ℕ) (lines : List Text) → leb (bytes_of lines + 9) MOST_PRINTED_BYTES ≡ false
    → EndsAfter (line_turns (suc k) (lines_printed (suc (suc t)) lines)) lines (fault_at OutputFull 2)
no_line k t lines e = rw e (refl, refl)

one_line_more : (lines : List Text) → bytes_of (lines ++ line ∷ []) ≡ bytes_of lines + 9
one_line_more [] = refl
one_line_more (l ∷ ls) = let e = one_line_more ls in omega arith

lines_run_out : (m j t : ℕ) (lines : List Text) → bytes_of lines + 9 * m ≡ 1048572
    → EndsAfter (line_turns (fuel_for m j) (lines_printed (ticks_for m t) lines)) (lines ++ replicate m line) (fault_at OutputFull 2)
lines_run_out zero j t lines e =
    let full : leb (bytes_of lines + 9) MOST_PRINTED_BYTES ≡ false = lt-leb (bytes_of lines + 9) MOST_PRINTED_BYTES (omega (arith, e)) in
    subst (λ ls. EndsAfter (line_turns (suc j) (lines_printed (suc (suc t)) lines)) ls (fault_at OutputFull 2)) (sym (append-nil lines))
    (no_line j t lines full)
lines_run_out (suc m) j t lines e =
    let room : leb (bytes_of lines + 9) MOST_PRINTED_BYTES ≡ true = le-leb (bytes_of lines + 9) MOST_PRINTED_BYTES (omega (arith, e)) in
    let more = one_line_more lines in
    subst (λ o. EndsAfter o (lines ++ replicate (suc m) line) (fault_at OutputFull 2))
    (sym (one_line (fuel_for m j) (ticks_for m t) lines room))
    (subst (λ ls. EndsAfter (line_turns (fuel_for m j) (lines_printed (ticks_for m t) (lines ++ line ∷ []))) ls (fault_at OutputFull 2))
    (append_assoc lines (line ∷ []) (replicate m line))
    (lines_run_out m j t (lines ++ line ∷ []) (omega (arith, e, more))))

lines_end : (m t : ℕ) → 9 * m ≡ 1048572
    → Ends (run_one endless_lines_script (suc (ticks_for m t)) main_job [] []) (replicate m line) (fault_at OutputFull 2)
lines_end m t e =
    subst (λ fuel. EndsAfter (line_turns fuel (lines_printed (ticks_for m t) [])) (replicate m line) (fault_at OutputFull 2))
    (sym (enough_fuel m t)) (lines_run_out m (m + t + 2) t [] (omega (arith, e)))

lines_end_by : (ticks m t : ℕ) → ticks ≡ suc (m + m + suc (suc t)) → 9 * m ≡ 1048572
    → Shows endless_lines_script ticks (replicate m line) (fault_at OutputFull 2)
lines_end_by ticks m t e all =
    let is : suc (ticks_for m t) ≡ ticks = ap suc (ticks_are m t) ∙ sym e in
    subst (λ n. Shows endless_lines_script n (replicate m line) (fault_at OutputFull 2)) is
    (both endless_lines_script (suc (ticks_for m t)) (replicate m line) (fault_at OutputFull 2) (lines_end m t all))

pub endless_lines_show : EndlessLinesRuns
endless_lines_show = lines_end_by 1000000 116508 766981 refl refl
