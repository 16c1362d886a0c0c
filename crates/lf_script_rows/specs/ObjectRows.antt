-- Scripts on objects, regions and cowns.
use Rattle.std.specs.Prelude.{None, [], codes, ◌∷◌}
use Rattle.lf_base.specs.declared.faults.Fault.TheVariants.{Cycle, Interior, Open, SecondOwner}
use Rattle.lf_base.specs.declared.values.Op.TheVariants.{Add}
use Rattle.lf_parser.specs.Plain.{block_of, no_stmts}
use Rattle.lf_parser.specs.Plain as plain
use Rattle.lf_codegen.specs.Numbers.{PlainScript}
use Rattle.lf_script_rows.specs.RowForms.{Shows, call_expr, fault_at, int_expr, name_no, script_of, text_expr, var_expr}

--
abbrev pub empty_script : PlainScript
empty_script = script_of ([]) []
    []

abbrev pub EmptyRuns : Type 0
EmptyRuns = Shows empty_script 1000 [] None

-- x = {}; x.f = 41 + 1; print(x.f)
abbrev pub first_sum_script : PlainScript
first_sum_script = script_of (codes "x" ∷ codes "f" ∷ []) []
    (
    plain.Assign 1 (name_no 17) plain.Object
    ∷ plain.Store 2 (var_expr 17) (text_expr 18) (plain.Binary Add (int_expr 41) (int_expr 1))
    ∷ plain.Eval 3 (call_expr 5 (plain.Field (var_expr 17) (text_expr 18) ∷ []))
    ∷ [])

abbrev pub FirstSumRuns : Type 0
FirstSumRuns = Shows first_sum_script 1000000 (codes "42" ∷ []) None

-- r = Region(); x = {}; y = {}; x.y = y; r.x = x; print(borrowed(r), refs(y), owner(y))
abbrev pub moved_graph_script : PlainScript
moved_graph_script = script_of (codes "r" ∷ codes "x" ∷ codes "y" ∷ []) []
    (
    plain.Assign 1 (name_no 17) (call_expr 6 [])
    ∷ plain.Assign 2 (name_no 18) plain.Object
    ∷ plain.Assign 3 (name_no 19) plain.Object
    ∷ plain.Store 4 (var_expr 18) (text_expr 19) (var_expr 19)
    ∷ plain.Store 5 (var_expr 17) (text_expr 18) (var_expr 18)
    ∷ plain.Eval 6 (call_expr 5 (call_expr 13 (var_expr 17 ∷ []) ∷ call_expr 12 (var_expr 19 ∷ []) ∷ call_expr 15 (var_expr 19 ∷ []) ∷ []))
    ∷ [])

abbrev pub MovedGraphRuns : Type 0
MovedGraphRuns = Shows moved_graph_script 1000 (codes "3 2 region" ∷ []) None

-- r = Region(); r.f = r; print(borrowed(r), refs(r))
abbrev pub self_edge_script : PlainScript
self_edge_script = script_of (codes "r" ∷ codes "f" ∷ []) []
    (
    plain.Assign 1 (name_no 17) (call_expr 6 [])
    ∷ plain.Store 2 (var_expr 17) (text_expr 18) (var_expr 17)
    ∷ plain.Eval 3 (call_expr 5 (call_expr 13 (var_expr 17 ∷ []) ∷ call_expr 12 (var_expr 17 ∷ []) ∷ []))
    ∷ [])

abbrev pub SelfEdgeRuns : Type 0
SelfEdgeRuns = Shows self_edge_script 1000 (codes "1 2" ∷ []) None

-- r = Region(); s = Region(); r.a = s; r.b = s
abbrev pub second_owner_script : PlainScript
second_owner_script = script_of (codes "r" ∷ codes "s" ∷ codes "a" ∷ codes "b" ∷ []) []
    (
    plain.Assign 1 (name_no 17) (call_expr 6 [])
    ∷ plain.Assign 2 (name_no 18) (call_expr 6 [])
    ∷ plain.Store 3 (var_expr 17) (text_expr 19) (var_expr 18)
    ∷ plain.Store 4 (var_expr 17) (text_expr 20) (var_expr 18)
    ∷ [])

abbrev pub SecondOwnerRuns : Type 0
SecondOwnerRuns = Shows second_owner_script 1000 [] (fault_at SecondOwner 4)

-- r = Region(); s = Region(); r.s = s; s.r = r
abbrev pub owner_cycle_script : PlainScript
owner_cycle_script = script_of (codes "r" ∷ codes "s" ∷ []) []
    (
    plain.Assign 1 (name_no 17) (call_expr 6 [])
    ∷ plain.Assign 2 (name_no 18) (call_expr 6 [])
    ∷ plain.Store 3 (var_expr 17) (text_expr 18) (var_expr 18)
    ∷ plain.Store 4 (var_expr 18) (text_expr 17) (var_expr 17)
    ∷ [])

abbrev pub OwnerCycleRuns : Type 0
OwnerCycleRuns = Shows owner_cycle_script 1000 [] (fault_at Cycle 4)

-- r = Region(); s = Region(); x = {}; s.x = x; r.x = x
abbrev pub interior_script : PlainScript
interior_script = script_of (codes "r" ∷ codes "s" ∷ codes "x" ∷ []) []
    (
    plain.Assign 1 (name_no 17) (call_expr 6 [])
    ∷ plain.Assign 2 (name_no 18) (call_expr 6 [])
    ∷ plain.Assign 3 (name_no 19) plain.Object
    ∷ plain.Store 4 (var_expr 18) (text_expr 19) (var_expr 19)
    ∷ plain.Store 5 (var_expr 17) (text_expr 19) (var_expr 19)
    ∷ [])

abbrev pub InteriorRuns : Type 0
InteriorRuns = Shows interior_script 1000 [] (fault_at Interior 5)

-- r = Region(); s = Region(); r.c = s; x = {}; x.s = s; r.c = x; print(open_children(r))
abbrev pub replaced_owner_script : PlainScript
replaced_owner_script = script_of (codes "r" ∷ codes "s" ∷ codes "c" ∷ codes "x" ∷ []) []
    (
    plain.Assign 1 (name_no 17) (call_expr 6 [])
    ∷ plain.Assign 2 (name_no 18) (call_expr 6 [])
    ∷ plain.Store 3 (var_expr 17) (text_expr 19) (var_expr 18)
    ∷ plain.Assign 4 (name_no 20) plain.Object
    ∷ plain.Store 5 (var_expr 20) (text_expr 18) (var_expr 18)
    ∷ plain.Store 6 (var_expr 17) (text_expr 19) (var_expr 20)
    ∷ plain.Eval 7 (call_expr 5 (call_expr 14 (var_expr 17 ∷ []) ∷ []))
    ∷ [])

abbrev pub ReplacedOwnerRuns : Type 0
ReplacedOwnerRuns = Shows replaced_owner_script 1000 (codes "1" ∷ []) None

-- r = Region(); s = Region(); x = {}; x.a = s; x.b = s; r.x = x
abbrev pub refused_unchanged_script : PlainScript
refused_unchanged_script = script_of (codes "r" ∷ codes "s" ∷ codes "x" ∷ codes "a" ∷ codes "b" ∷ []) []
    (
    plain.Assign 1 (name_no 17) (call_expr 6 [])
    ∷ plain.Assign 2 (name_no 18) (call_expr 6 [])
    ∷ plain.Assign 3 (name_no 19) plain.Object
    ∷ plain.Store 4 (var_expr 19) (text_expr 20) (var_expr 18)
    ∷ plain.Store 5 (var_expr 19) (text_expr 21) (var_expr 18)
    ∷ plain.Store 6 (var_expr 17) (text_expr 19) (var_expr 19)
    ∷ [])

abbrev pub RefusedUnchangedRuns : Type 0
RefusedUnchangedRuns = Shows refused_unchanged_script 1000 [] (fault_at SecondOwner 6)

-- r = Region(); x = {}; r.x = x; freeze(x); print(owner(x), borrowed(r))
abbrev pub freeze_inner_script : PlainScript
freeze_inner_script = script_of (codes "r" ∷ codes "x" ∷ []) []
    (
    plain.Assign 1 (name_no 17) (call_expr 6 [])
    ∷ plain.Assign 2 (name_no 18) plain.Object
    ∷ plain.Store 3 (var_expr 17) (text_expr 18) (var_expr 18)
    ∷ plain.Eval 4 (call_expr 8 (var_expr 18 ∷ []))
    ∷ plain.Eval 5 (call_expr 5 (call_expr 15 (var_expr 18 ∷ []) ∷ call_expr 13 (var_expr 17 ∷ []) ∷ []))
    ∷ [])

abbrev pub FreezeInnerRuns : Type 0
FreezeInnerRuns = Shows freeze_inner_script 1000 (codes "frozen 1" ∷ []) None

-- r = Region(); a = {}; b = {}; a.o = b; b.o = a; a.r = r; drop a; drop b; c = Cown(move r)
abbrev pub open_cown_script : PlainScript
open_cown_script = script_of (codes "r" ∷ codes "a" ∷ codes "b" ∷ codes "o" ∷ codes "c" ∷ []) []
    (
    plain.Assign 1 (name_no 17) (call_expr 6 [])
    ∷ plain.Assign 2 (name_no 18) plain.Object
    ∷ plain.Assign 3 (name_no 19) plain.Object
    ∷ plain.Store 4 (var_expr 18) (text_expr 20) (var_expr 19)
    ∷ plain.Store 5 (var_expr 19) (text_expr 20) (var_expr 18)
    ∷ plain.Store 6 (var_expr 18) (text_expr 17) (var_expr 17)
    ∷ plain.Drop 7 (name_no 18)
    ∷ plain.Drop 8 (name_no 19)
    ∷ plain.Assign 9 (name_no 21) (call_expr 7 (plain.Move (name_no 17) ∷ []))
    ∷ [])

abbrev pub OpenCownRuns : Type 0
OpenCownRuns = Shows open_cown_script 1000 [] (fault_at Open 9)

-- r = Region(); a = {}; b = {}; a.o = b; b.o = a; a.r = r; drop a; drop b; close(r); c = Cown(move r)
abbrev pub closed_cown_script : PlainScript
closed_cown_script = script_of (codes "r" ∷ codes "a" ∷ codes "b" ∷ codes "o" ∷ codes "c" ∷ []) []
    (
    plain.Assign 1 (name_no 17) (call_expr 6 [])
    ∷ plain.Assign 2 (name_no 18) plain.Object
    ∷ plain.Assign 3 (name_no 19) plain.Object
    ∷ plain.Store 4 (var_expr 18) (text_expr 20) (var_expr 19)
    ∷ plain.Store 5 (var_expr 19) (text_expr 20) (var_expr 18)
    ∷ plain.Store 6 (var_expr 18) (text_expr 17) (var_expr 17)
    ∷ plain.Drop 7 (name_no 18)
    ∷ plain.Drop 8 (name_no 19)
    ∷ plain.Eval 9 (call_expr 11 (var_expr 17 ∷ []))
    ∷ plain.Assign 10 (name_no 21) (call_expr 7 (plain.Move (name_no 17) ∷ []))
    ∷ [])

abbrev pub ClosedCownRuns : Type 0
ClosedCownRuns = Shows closed_cown_script 1000 [] None

-- r = Region(); x = {}; r.x = x; c = Cown(move r)
abbrev pub borrowed_cown_script : PlainScript
borrowed_cown_script = script_of (codes "r" ∷ codes "x" ∷ codes "c" ∷ []) []
    (
    plain.Assign 1 (name_no 17) (call_expr 6 [])
    ∷ plain.Assign 2 (name_no 18) plain.Object
    ∷ plain.Store 3 (var_expr 17) (text_expr 18) (var_expr 18)
    ∷ plain.Assign 4 (name_no 19) (call_expr 7 (plain.Move (name_no 17) ∷ []))
    ∷ [])

abbrev pub BorrowedCownRuns : Type 0
BorrowedCownRuns = Shows borrowed_cown_script 1000 [] (fault_at Open 4)

-- r = Region(); s = Region(); r.s = s; drop r; print(open_children(s), refs(s)); c = Cown(move s)
abbrev pub orphaned_child_script : PlainScript
orphaned_child_script = script_of (codes "r" ∷ codes "s" ∷ codes "c" ∷ []) []
    (
    plain.Assign 1 (name_no 17) (call_expr 6 [])
    ∷ plain.Assign 2 (name_no 18) (call_expr 6 [])
    ∷ plain.Store 3 (var_expr 17) (text_expr 18) (var_expr 18)
    ∷ plain.Drop 4 (name_no 17)
    ∷ plain.Eval 5 (call_expr 5 (call_expr 14 (var_expr 18 ∷ []) ∷ call_expr 12 (var_expr 18 ∷ []) ∷ []))
    ∷ plain.Assign 6 (name_no 19) (call_expr 7 (plain.Move (name_no 18) ∷ []))
    ∷ [])

abbrev pub OrphanedChildRuns : Type 0
OrphanedChildRuns = Shows orphaned_child_script 1000 (codes "0 1" ∷ []) None

-- b = Region(); a = Region(); b.a = a; merge(a, b); print(owner(b), refs(a), borrowed(a))
abbrev pub merges_script : PlainScript
merges_script = script_of (codes "b" ∷ codes "a" ∷ []) []
    (
    plain.Assign 1 (name_no 17) (call_expr 6 [])
    ∷ plain.Assign 2 (name_no 18) (call_expr 6 [])
    ∷ plain.Store 3 (var_expr 17) (text_expr 18) (var_expr 18)
    ∷ plain.Eval 4 (call_expr 9 (var_expr 18 ∷ var_expr 17 ∷ []))
    ∷ plain.Eval 5 (call_expr 5 (call_expr 15 (var_expr 17 ∷ []) ∷ call_expr 12 (var_expr 18 ∷ []) ∷ call_expr 13 (var_expr 18 ∷ []) ∷ []))
    ∷ [])

abbrev pub MergesRuns : Type 0
MergesRuns = Shows merges_script 1000 (codes "region 2 2" ∷ []) None

-- b = Region(); q = Region(); a = Region(); b.q = q; q.a = a; merge(a, b)
abbrev pub merge_cycle_script : PlainScript
merge_cycle_script = script_of (codes "b" ∷ codes "q" ∷ codes "a" ∷ []) []
    (
    plain.Assign 1 (name_no 17) (call_expr 6 [])
    ∷ plain.Assign 2 (name_no 18) (call_expr 6 [])
    ∷ plain.Assign 3 (name_no 19) (call_expr 6 [])
    ∷ plain.Store 4 (var_expr 17) (text_expr 18) (var_expr 18)
    ∷ plain.Store 5 (var_expr 18) (text_expr 19) (var_expr 19)
    ∷ plain.Eval 6 (call_expr 9 (var_expr 19 ∷ var_expr 17 ∷ []))
    ∷ [])

abbrev pub MergeCycleRuns : Type 0
MergeCycleRuns = Shows merge_cycle_script 1000 [] (fault_at Cycle 6)

-- r = Region(); s = Region(); x = {}; s.x = x; s.x = 0; r.s = s; freeze(s); print(owner(x), owner(s), open_children(r), is_closed(r))
abbrev pub freeze_region_script : PlainScript
freeze_region_script = script_of (codes "r" ∷ codes "s" ∷ codes "x" ∷ []) []
    (
    plain.Assign 1 (name_no 17) (call_expr 6 [])
    ∷ plain.Assign 2 (name_no 18) (call_expr 6 [])
    ∷ plain.Assign 3 (name_no 19) plain.Object
    ∷ plain.Store 4 (var_expr 18) (text_expr 19) (var_expr 19)
    ∷ plain.Store 5 (var_expr 18) (text_expr 19) (int_expr 0)
    ∷ plain.Store 6 (var_expr 17) (text_expr 18) (var_expr 18)
    ∷ plain.Eval 7 (call_expr 8 (var_expr 18 ∷ []))
    ∷ plain.Eval 8 (call_expr 5 (call_expr 15 (var_expr 19 ∷ []) ∷ call_expr 15 (var_expr 18 ∷ []) ∷ call_expr 14
    (var_expr 17 ∷ []) ∷ call_expr 16 (var_expr 17 ∷ []) ∷ []))
    ∷ [])

abbrev pub FreezeRegionRuns : Type 0
FreezeRegionRuns = Shows freeze_region_script 1000 (codes "frozen frozen 0 True" ∷ []) None

-- r = Region(); x = {}; r.x = x; dissolve(r); print(owner(r), owner(x), refs(x))
abbrev pub dissolves_script : PlainScript
dissolves_script = script_of (codes "r" ∷ codes "x" ∷ []) []
    (
    plain.Assign 1 (name_no 17) (call_expr 6 [])
    ∷ plain.Assign 2 (name_no 18) plain.Object
    ∷ plain.Store 3 (var_expr 17) (text_expr 18) (var_expr 18)
    ∷ plain.Eval 4 (call_expr 10 (var_expr 17 ∷ []))
    ∷ plain.Eval 5 (call_expr 5 (call_expr 15 (var_expr 17 ∷ []) ∷ call_expr 15 (var_expr 18 ∷ []) ∷ call_expr 12 (var_expr 18 ∷ []) ∷ []))
    ∷ [])

abbrev pub DissolvesRuns : Type 0
DissolvesRuns = Shows dissolves_script 1000 (codes "local local 2" ∷ []) None

-- r = Region(); print(is_closed(r)); q = r; print(is_closed(r))
abbrev pub closedness_script : PlainScript
closedness_script = script_of (codes "r" ∷ codes "q" ∷ []) []
    (
    plain.Assign 1 (name_no 17) (call_expr 6 [])
    ∷ plain.Eval 2 (call_expr 5 (call_expr 16 (var_expr 17 ∷ []) ∷ []))
    ∷ plain.Assign 3 (name_no 18) (var_expr 17)
    ∷ plain.Eval 4 (call_expr 5 (call_expr 16 (var_expr 17 ∷ []) ∷ []))
    ∷ [])

abbrev pub ClosednessRuns : Type 0
ClosednessRuns = Shows closedness_script 1000 (codes "True" ∷ codes "False" ∷ []) None
