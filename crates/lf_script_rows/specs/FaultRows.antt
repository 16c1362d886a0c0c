-- A script for each fault.
use Rattle.std.specs.Prelude.{Some, [], codes, ◌∷◌}
use Rattle.lf_base.specs.declared.faults.Fault.TheVariants.{FrozenWrite, Kind, LocalInCown, NoField, NotAcquired, NotBridge, NotCown}
use Rattle.lf_base.specs.declared.faults.Fault.TheVariants.{NotObject, NotShareable, OutOfTicks, Overflow, Owned, TooDeep, Unset}
use Rattle.lf_base.specs.declared.faults.Fault.TheVariants.{ZeroDivisor}
use Rattle.lf_base.specs.declared.values.Op.TheVariants.{Add, Div}
use Rattle.lf_parser.specs.Plain.{block_of, no_stmts}
use Rattle.lf_parser.specs.Plain as plain
use Rattle.lf_codegen.specs.Numbers.{PlainScript}
use Rattle.lf_script_rows.specs.RowForms.{Shows, call_expr, fault_at, function_of, int_expr, name_no, script_of, text_expr, var_expr}

-- x = 1; drop x; print(x)
abbrev pub unset_script : PlainScript
unset_script = script_of (codes "x" ∷ []) []
    (
    plain.Assign 1 (name_no 17) (int_expr 1)
    ∷ plain.Drop 2 (name_no 17)
    ∷ plain.Eval 3 (call_expr 5 (var_expr 17 ∷ []))
    ∷ [])

abbrev pub UnsetRuns : Type 0
UnsetRuns = Shows unset_script 1000 [] (fault_at Unset 3)

-- x = 1; print(x.f)
abbrev pub no_object_script : PlainScript
no_object_script = script_of (codes "x" ∷ codes "f" ∷ []) []
    (
    plain.Assign 1 (name_no 17) (int_expr 1)
    ∷ plain.Eval 2 (call_expr 5 (plain.Field (var_expr 17) (text_expr 18) ∷ []))
    ∷ [])

abbrev pub NoObjectRuns : Type 0
NoObjectRuns = Shows no_object_script 1000 [] (fault_at NotObject 2)

-- x = {}; print(x.f)
abbrev pub no_field_script : PlainScript
no_field_script = script_of (codes "x" ∷ codes "f" ∷ []) []
    (
    plain.Assign 1 (name_no 17) plain.Object
    ∷ plain.Eval 2 (call_expr 5 (plain.Field (var_expr 17) (text_expr 18) ∷ []))
    ∷ [])

abbrev pub NoFieldRuns : Type 0
NoFieldRuns = Shows no_field_script 1000 [] (fault_at NoField 2)

-- x = {}; freeze(x); x.f = 1
abbrev pub frozen_write_script : PlainScript
frozen_write_script = script_of (codes "x" ∷ codes "f" ∷ []) []
    (
    plain.Assign 1 (name_no 17) plain.Object
    ∷ plain.Eval 2 (call_expr 8 (var_expr 17 ∷ []))
    ∷ plain.Store 3 (var_expr 17) (text_expr 18) (int_expr 1)
    ∷ [])

abbrev pub FrozenWriteRuns : Type 0
FrozenWriteRuns = Shows frozen_write_script 1000 [] (fault_at FrozenWrite 3)

-- c = Cown({})
abbrev pub local_in_cown_script : PlainScript
local_in_cown_script = script_of (codes "c" ∷ []) []
    (
    plain.Assign 1 (name_no 17) (call_expr 7 (plain.Object ∷ []))
    ∷ [])

abbrev pub LocalInCownRuns : Type 0
LocalInCownRuns = Shows local_in_cown_script 1000 [] (fault_at LocalInCown 1)

-- c = Cown(1); print(c.value)
abbrev pub not_acquired_script : PlainScript
not_acquired_script = script_of (codes "c" ∷ []) []
    (
    plain.Assign 1 (name_no 17) (call_expr 7 (int_expr 1 ∷ []))
    ∷ plain.Eval 2 (call_expr 5 (plain.Field (var_expr 17) (text_expr 0) ∷ []))
    ∷ [])

abbrev pub NotAcquiredRuns : Type 0
NotAcquiredRuns = Shows not_acquired_script 1000 [] (fault_at NotAcquired 2)

-- x = 1; when x:;     pass
abbrev pub no_cown_script : PlainScript
no_cown_script = script_of (codes "x" ∷ []) []
    (
    plain.Assign 1 (name_no 17) (int_expr 1)
    ∷ plain.When 2 (name_no 17 ∷ []) []
    (block_of (
    plain.Pass 3
    ∷ []))
    ∷ [])

abbrev pub NoCownRuns : Type 0
NoCownRuns = Shows no_cown_script 1000 [] (fault_at NotCown 2)

-- c = Cown(1); x = {}; x.f = 5; when c with x:;     pass
abbrev pub not_shareable_local_script : PlainScript
not_shareable_local_script = script_of (codes "c" ∷ codes "x" ∷ codes "f" ∷ []) []
    (
    plain.Assign 1 (name_no 17) (call_expr 7 (int_expr 1 ∷ []))
    ∷ plain.Assign 2 (name_no 18) plain.Object
    ∷ plain.Store 3 (var_expr 18) (text_expr 19) (int_expr 5)
    ∷ plain.When 4 (name_no 17 ∷ []) (name_no 18 ∷ [])
    (block_of (
    plain.Pass 5
    ∷ []))
    ∷ [])

abbrev pub NotShareableLocalRuns : Type 0
NotShareableLocalRuns = Shows not_shareable_local_script 1000 [] (fault_at NotShareable 4)

-- x = {}; print(borrowed(x))
abbrev pub no_bridge_script : PlainScript
no_bridge_script = script_of (codes "x" ∷ []) []
    (
    plain.Assign 1 (name_no 17) plain.Object
    ∷ plain.Eval 2 (call_expr 5 (call_expr 13 (var_expr 17 ∷ []) ∷ []))
    ∷ [])

abbrev pub NoBridgeRuns : Type 0
NoBridgeRuns = Shows no_bridge_script 1000 [] (fault_at NotBridge 2)

-- r = Region(); s = Region(); r.s = s; dissolve(s)
abbrev pub owned_script : PlainScript
owned_script = script_of (codes "r" ∷ codes "s" ∷ []) []
    (
    plain.Assign 1 (name_no 17) (call_expr 6 [])
    ∷ plain.Assign 2 (name_no 18) (call_expr 6 [])
    ∷ plain.Store 3 (var_expr 17) (text_expr 18) (var_expr 18)
    ∷ plain.Eval 4 (call_expr 10 (var_expr 18 ∷ []))
    ∷ [])

abbrev pub OwnedRuns : Type 0
OwnedRuns = Shows owned_script 1000 [] (fault_at Owned 4)

-- a = Region(); b = Region(); q = Region(); q.b = b; merge(a, b)
abbrev pub owned_merge_script : PlainScript
owned_merge_script = script_of (codes "a" ∷ codes "b" ∷ codes "q" ∷ []) []
    (
    plain.Assign 1 (name_no 17) (call_expr 6 [])
    ∷ plain.Assign 2 (name_no 18) (call_expr 6 [])
    ∷ plain.Assign 3 (name_no 19) (call_expr 6 [])
    ∷ plain.Store 4 (var_expr 19) (text_expr 18) (var_expr 18)
    ∷ plain.Eval 5 (call_expr 9 (var_expr 17 ∷ var_expr 18 ∷ []))
    ∷ [])

abbrev pub OwnedMergeRuns : Type 0
OwnedMergeRuns = Shows owned_merge_script 1000 [] (fault_at Owned 5)

-- print(1 + True)
abbrev pub wrong_kind_script : PlainScript
wrong_kind_script = script_of ([]) []
    (
    plain.Eval 1 (call_expr 5 (plain.Binary Add (int_expr 1) plain.Yes ∷ []))
    ∷ [])

abbrev pub WrongKindRuns : Type 0
WrongKindRuns = Shows wrong_kind_script 1000 [] (fault_at Kind 1)

-- print(9223372036854775807 + 1)
abbrev pub overflow_script : PlainScript
overflow_script = script_of ([]) []
    (
    plain.Eval 1 (call_expr 5 (plain.Binary Add (int_expr 9223372036854775807) (int_expr 1) ∷ []))
    ∷ [])

abbrev pub OverflowRuns : Type 0
OverflowRuns = Shows overflow_script 1000 [] (fault_at Overflow 1)

-- print(1 / 0)
abbrev pub zero_divisor_script : PlainScript
zero_divisor_script = script_of ([]) []
    (
    plain.Eval 1 (call_expr 5 (plain.Binary Div (int_expr 1) (int_expr 0) ∷ []))
    ∷ [])

abbrev pub ZeroDivisorRuns : Type 0
ZeroDivisorRuns = Shows zero_divisor_script 1000 [] (fault_at ZeroDivisor 1)

-- def f():;     return f(); f()
abbrev pub endless_calls_script : PlainScript
endless_calls_script = script_of (codes "f" ∷ [])
    (
    function_of 17 [] (
    plain.Return 2 (Some (call_expr 17 []))
    ∷ [])
    ∷ [])
    (
    plain.Eval 3 (call_expr 17 [])
    ∷ [])

abbrev pub EndlessCallsRuns : Type 0
EndlessCallsRuns = Shows endless_calls_script 399 [] (fault_at OutOfTicks 2)
    × Shows endless_calls_script 400 [] (fault_at TooDeep 2)

-- while True:;     pass
abbrev pub endless_turns_script : PlainScript
endless_turns_script = script_of ([]) []
    (
    plain.While 1 plain.Yes
    (block_of (
    plain.Pass 2
    ∷ []))
    ∷ [])

abbrev pub EndlessTurnsRuns : Type 0
EndlessTurnsRuns = Shows endless_turns_script 10 [] (fault_at OutOfTicks 2)
    × Shows endless_turns_script 11 [] (fault_at OutOfTicks 1)
