-- Scripts on operators, branches, turns and calls.
use Rattle.std.specs.Prelude.{None, Some, [], codes, ◌∷◌}
use Rattle.lf_base.specs.declared.faults.Fault.TheVariants.{Kind, OutOfTicks, Overflow, TooDeep}
use Rattle.lf_base.specs.declared.values.Op.TheVariants.{Add, Div, Eq, Ge, Gt, Le, Lt, Ne, Rem, Sub}
use Rattle.lf_parser.specs.Plain.{block_of, no_stmts}
use Rattle.lf_parser.specs.Plain as plain
use Rattle.lf_codegen.specs.Numbers.{PlainScript}
use Rattle.lf_script_rows.specs.RowForms.{Shows, call_expr, fault_at, function_of, int_expr, name_no, script_of, text_expr, var_expr}

-- print(True and False, False and 1, True or 1, False or True)
abbrev pub short_ways_script : PlainScript
short_ways_script = script_of ([]) []
    (
    plain.Eval 1 (call_expr 5 (plain.And plain.Yes plain.No ∷ plain.And plain.No (int_expr 1) ∷ plain.Or plain.Yes
    (int_expr 1) ∷ plain.Or plain.No plain.Yes ∷ []))
    ∷ [])

abbrev pub ShortWaysRuns : Type 0
ShortWaysRuns = Shows short_ways_script 1000 (codes "False False True True" ∷ []) None

-- print(True and 1)
abbrev pub and_tests_script : PlainScript
and_tests_script = script_of ([]) []
    (
    plain.Eval 1 (call_expr 5 (plain.And plain.Yes (int_expr 1) ∷ []))
    ∷ [])

abbrev pub AndTestsRuns : Type 0
AndTestsRuns = Shows and_tests_script 1000 [] (fault_at Kind 1)

-- print(False or 1)
abbrev pub or_tests_script : PlainScript
or_tests_script = script_of ([]) []
    (
    plain.Eval 1 (call_expr 5 (plain.Or plain.No (int_expr 1) ∷ []))
    ∷ [])

abbrev pub OrTestsRuns : Type 0
OrTestsRuns = Shows or_tests_script 1000 [] (fault_at Kind 1)

-- print(1 and True)
abbrev pub no_truth_left_script : PlainScript
no_truth_left_script = script_of ([]) []
    (
    plain.Eval 1 (call_expr 5 (plain.And (int_expr 1) plain.Yes ∷ []))
    ∷ [])

abbrev pub NoTruthLeftRuns : Type 0
NoTruthLeftRuns = Shows no_truth_left_script 1000 [] (fault_at Kind 1)

-- print(0 - 7 / 2, -7 / 2, -7 % 2, 7 / -2, 7 % -2)
abbrev pub divisions_script : PlainScript
divisions_script = script_of ([]) []
    (
    plain.Eval 1 (call_expr 5 (plain.Binary Sub (int_expr 0) (plain.Binary Div (int_expr 7) (int_expr 2)) ∷ plain.Binary Div
    (plain.Neg (int_expr 7)) (int_expr 2) ∷ plain.Binary Rem (plain.Neg (int_expr 7)) (int_expr 2) ∷ plain.Binary Div (int_expr 7)
    (plain.Neg (int_expr 2)) ∷ plain.Binary Rem (int_expr 7) (plain.Neg (int_expr 2)) ∷ []))
    ∷ [])

abbrev pub DivisionsRuns : Type 0
DivisionsRuns = Shows divisions_script 1000 (codes "-3 -3 -1 -3 1" ∷ []) None

-- x = -9223372036854775807 - 1; print(x % -1); print(x / -1)
abbrev pub least_rest_script : PlainScript
least_rest_script = script_of (codes "x" ∷ []) []
    (
    plain.Assign 1 (name_no 17) (plain.Binary Sub (plain.Neg (int_expr 9223372036854775807)) (int_expr 1))
    ∷ plain.Eval 2 (call_expr 5 (plain.Binary Rem (var_expr 17) (plain.Neg (int_expr 1)) ∷ []))
    ∷ plain.Eval 3 (call_expr 5 (plain.Binary Div (var_expr 17) (plain.Neg (int_expr 1)) ∷ []))
    ∷ [])

abbrev pub LeastRestRuns : Type 0
LeastRestRuns = Shows least_rest_script 1000 (codes "0" ∷ []) (fault_at Overflow 3)

-- print(1 < 2, 2 <= 1, 2 > 1, 1 >= 2, 1 == True, None != None, "a" == "a")
abbrev pub comparisons_script : PlainScript
comparisons_script = script_of (codes "a" ∷ []) []
    (
    plain.Eval 1 (call_expr 5 (plain.Binary Lt (int_expr 1) (int_expr 2) ∷ plain.Binary Le (int_expr 2) (int_expr 1) ∷ plain.Binary Gt
    (int_expr 2) (int_expr 1) ∷ plain.Binary Ge (int_expr 1) (int_expr 2) ∷ plain.Binary Eq
    (int_expr 1) plain.Yes ∷ plain.Binary Ne plain.Nothing plain.Nothing ∷ plain.Binary Eq (text_expr 17) (text_expr 17) ∷ []))
    ∷ [])

abbrev pub ComparisonsRuns : Type 0
ComparisonsRuns = Shows comparisons_script 1000 (codes "True False True False False False True" ∷ []) None

-- x = 2; if x == 1:;     print("a"); elif x == 2:;     print("b"); elif x == 2:;     print("c"); else:;     print("d")
abbrev pub elifs_script : PlainScript
elifs_script = script_of (codes "x" ∷ codes "a" ∷ codes "b" ∷ codes "c" ∷ codes "d" ∷ []) []
    (
    plain.Assign 1 (name_no 17) (int_expr 2)
    ∷ plain.If 2 (plain.Binary Eq (var_expr 17) (int_expr 1))
    (block_of (
    plain.Eval 3 (call_expr 5 (text_expr 18 ∷ []))
    ∷ []))
    (block_of (
    plain.If 4 (plain.Binary Eq (var_expr 17) (int_expr 2))
    (block_of (
    plain.Eval 5 (call_expr 5 (text_expr 19 ∷ []))
    ∷ []))
    (block_of (
    plain.If 6 (plain.Binary Eq (var_expr 17) (int_expr 2))
    (block_of (
    plain.Eval 7 (call_expr 5 (text_expr 20 ∷ []))
    ∷ []))
    (block_of (
    plain.Eval 9 (call_expr 5 (text_expr 21 ∷ []))
    ∷ []))
    ∷ []))
    ∷ []))
    ∷ [])

abbrev pub ElifsRuns : Type 0
ElifsRuns = Shows elifs_script 4 (codes "b" ∷ []) None
    × Shows elifs_script 3 [] (fault_at OutOfTicks 5)
    × Shows elifs_script 2 [] (fault_at OutOfTicks 4)

-- if False:;     print(1); elif False:;     print(2); print(3)
abbrev pub no_branch_script : PlainScript
no_branch_script = script_of ([]) []
    (
    plain.If 1 plain.No
    (block_of (
    plain.Eval 2 (call_expr 5 (int_expr 1 ∷ []))
    ∷ []))
    (block_of (
    plain.If 3 plain.No
    (block_of (
    plain.Eval 4 (call_expr 5 (int_expr 2 ∷ []))
    ∷ []))
    no_stmts
    ∷ []))
    ∷ plain.Eval 5 (call_expr 5 (int_expr 3 ∷ []))
    ∷ [])

abbrev pub NoBranchRuns : Type 0
NoBranchRuns = Shows no_branch_script 3 (codes "3" ∷ []) None
    × Shows no_branch_script 2 [] (fault_at OutOfTicks 5)

-- x = 0; while x < 3:;     if x < 2 and True:;         x = x + 1;     else:;         x = 3; print(x)
abbrev pub turns_script : PlainScript
turns_script = script_of (codes "x" ∷ []) []
    (
    plain.Assign 1 (name_no 17) (int_expr 0)
    ∷ plain.While 2 (plain.Binary Lt (var_expr 17) (int_expr 3))
    (block_of (
    plain.If 3 (plain.And (plain.Binary Lt (var_expr 17) (int_expr 2)) plain.Yes)
    (block_of (
    plain.Assign 4 (name_no 17) (plain.Binary Add (var_expr 17) (int_expr 1))
    ∷ []))
    (block_of (
    plain.Assign 6 (name_no 17) (int_expr 3)
    ∷ []))
    ∷ []))
    ∷ plain.Eval 7 (call_expr 5 (var_expr 17 ∷ []))
    ∷ [])

abbrev pub TurnsRuns : Type 0
TurnsRuns = Shows turns_script 1000 (codes "3" ∷ []) None

-- def f(n):;     if n == 0:;         return 0;     return f(n - 1) + 1; print(f(198))
abbrev pub counts_198_script : PlainScript
counts_198_script = script_of (codes "f" ∷ codes "n" ∷ [])
    (
    function_of 17 (name_no 18 ∷ []) (
    plain.If 2 (plain.Binary Eq (var_expr 18) (int_expr 0))
    (block_of (
    plain.Return 3 (Some (int_expr 0))
    ∷ []))
    no_stmts
    ∷ plain.Return 4 (Some (plain.Binary Add (call_expr 17 (plain.Binary Sub (var_expr 18) (int_expr 1) ∷ [])) (int_expr 1)))
    ∷ [])
    ∷ [])
    (
    plain.Eval 5 (call_expr 5 (call_expr 17 (int_expr 198 ∷ []) ∷ []))
    ∷ [])

abbrev pub Counts198Runs : Type 0
Counts198Runs = Shows counts_198_script 1000 (codes "198" ∷ []) None

-- def f(n):;     if n == 0:;         return 0;     return f(n - 1) + 1; print(f(199))
abbrev pub counts_199_script : PlainScript
counts_199_script = script_of (codes "f" ∷ codes "n" ∷ [])
    (
    function_of 17 (name_no 18 ∷ []) (
    plain.If 2 (plain.Binary Eq (var_expr 18) (int_expr 0))
    (block_of (
    plain.Return 3 (Some (int_expr 0))
    ∷ []))
    no_stmts
    ∷ plain.Return 4 (Some (plain.Binary Add (call_expr 17 (plain.Binary Sub (var_expr 18) (int_expr 1) ∷ [])) (int_expr 1)))
    ∷ [])
    ∷ [])
    (
    plain.Eval 5 (call_expr 5 (call_expr 17 (int_expr 199 ∷ []) ∷ []))
    ∷ [])

abbrev pub Counts199Runs : Type 0
Counts199Runs = Shows counts_199_script 1000 [] (fault_at TooDeep 4)

-- print(1); return; print(2)
abbrev pub main_returns_script : PlainScript
main_returns_script = script_of ([]) []
    (
    plain.Eval 1 (call_expr 5 (int_expr 1 ∷ []))
    ∷ plain.Return 2 None
    ∷ plain.Eval 3 (call_expr 5 (int_expr 2 ∷ []))
    ∷ [])

abbrev pub MainReturnsRuns : Type 0
MainReturnsRuns = Shows main_returns_script 1000 (codes "1" ∷ []) None

-- def f(a):;     b = {};     return a; r = Region(); x = {}; r.x = x; f(x); print(borrowed(r))
abbrev pub frame_goes_script : PlainScript
frame_goes_script = script_of (codes "f" ∷ codes "a" ∷ codes "b" ∷ codes "r" ∷ codes "x" ∷ [])
    (
    function_of 17 (name_no 18 ∷ []) (
    plain.Assign 2 (name_no 19) plain.Object
    ∷ plain.Return 3 (Some (var_expr 18))
    ∷ [])
    ∷ [])
    (
    plain.Assign 4 (name_no 20) (call_expr 6 [])
    ∷ plain.Assign 5 (name_no 21) plain.Object
    ∷ plain.Store 6 (var_expr 20) (text_expr 21) (var_expr 21)
    ∷ plain.Eval 7 (call_expr 17 (var_expr 21 ∷ []))
    ∷ plain.Eval 8 (call_expr 5 (call_expr 13 (var_expr 20 ∷ []) ∷ []))
    ∷ [])

abbrev pub FrameGoesRuns : Type 0
FrameGoesRuns = Shows frame_goes_script 1000 (codes "2" ∷ []) None

-- print(g(1)); def g(n):;     return n + 1
abbrev pub first_def_first_script : PlainScript
first_def_first_script = script_of (codes "g" ∷ codes "n" ∷ [])
    (
    function_of 17 (name_no 18 ∷ []) (
    plain.Return 3 (Some (plain.Binary Add (var_expr 18) (int_expr 1)))
    ∷ [])
    ∷ [])
    (
    plain.Eval 1 (call_expr 5 (call_expr 17 (int_expr 1 ∷ []) ∷ []))
    ∷ [])

abbrev pub FirstDefFirstRuns : Type 0
FirstDefFirstRuns = Shows first_def_first_script 1000 (codes "2" ∷ []) None

-- print(None, True, False, -5, "a b", {}, Cown(1)); print()
abbrev pub spelled_script : PlainScript
spelled_script = script_of (codes "a b" ∷ []) []
    (
    plain.Eval 1 (call_expr 5 (plain.Nothing ∷ plain.Yes ∷ plain.No ∷ plain.Neg (int_expr 5) ∷ text_expr 17 ∷ plain.Object ∷ call_expr 7
    (int_expr 1 ∷ []) ∷ []))
    ∷ plain.Eval 2 (call_expr 5 [])
    ∷ [])

abbrev pub SpelledRuns : Type 0
SpelledRuns = Shows spelled_script 1000 (codes "None True False -5 a b object 0.1 cown 0.1" ∷ codes "" ∷ []) None
