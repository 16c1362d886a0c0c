-- Worked rows: short scripts, and what the definitions say of them.
use Rattle.std.specs.Prelude.{None, Some, [], true, ℕ, ◌∷◌, ◌≡◌}
use Rattle.lf_base.specs.declared.faults.Fault.TheVariants.{Cycle, FrozenWrite, Interior, Kind, LocalInCown, NoField, NotAcquired}
use Rattle.lf_base.specs.declared.faults.Fault.TheVariants.{NotBridge, NotObject, Open, Owned, SecondOwner, Unset}
use Rattle.lf_base.specs.declared.ids.ObjId.{ObjId}
use Rattle.lf_base.specs.declared.values.Owner.TheVariants.{In, Local}
use Rattle.lf_base.specs.declared.values.Value.TheVariants.{Obj}
use Rattle.lf_base.specs.Accesses.{read_refusal, read_value, remove_refusal, store_refusal, store_result}
use Rattle.lf_base.specs.CloseResult.{close_refusal}
use Rattle.lf_base.specs.DissolveResult.{dissolve_refusal}
use Rattle.lf_base.specs.EndResult.{end_result}
use Rattle.lf_base.specs.Kept.{kept}
use Rattle.lf_base.specs.MergeResult.{merge_refusal}
use Rattle.lf_base.specs.Names.{key_of}
use Rattle.lf_base.specs.Owners.{names}
use Rattle.lf_base.specs.PlainChanges.{slot_at}
use Rattle.lf_base.specs.PlainState.{State}
use Rattle.lf_base.specs.declared.questions.Label.TheVariants as label
use Rattle.lf_laws.specs.Scripts.{Close, Copy, Dissolve, Forget, Freeze, Guard, Merge, NewObject, NewRegion, Store, StoreZero, after_script}
use Rattle.lf_laws.specs.Scripts.{after_statement, ask_borrowed, ask_is_closed, ask_open_children, ask_owner, ask_refs, guard_refusal}
use Rattle.lf_laws.specs.Scripts.{script, set_refusal, text, var}
use Rattle.lf_base.specs.declared.values.Value.TheVariants as value

-- the object that the script made as its n-th
abbrev pub ob : ℕ → ObjId
ob n = record { birth = 0; seq = n }

-- r = Region(); x = {}; y = {}; x.y = y; r.x = x
abbrev pub moved_graph : State
moved_graph = script (NewRegion 0 ∷ NewObject 1 ∷ NewObject 2 ∷ Store 1 5 2 ∷ Store 0 6 1 ∷ [])

-- with x its field's object moves to the region, and three slots borrow from it
abbrev pub MovedGraphShows : Type 0
MovedGraphShows = (ask_borrowed moved_graph 0 ≡ Some 3) × (ask_refs moved_graph 2 ≡ Some 2) × (ask_owner moved_graph 2 ≡ label.Region)

-- r = Region(); r.f = r
abbrev pub self_edge : State
self_edge = script (NewRegion 0 ∷ Store 0 5 0 ∷ [])

-- a field of the region counts as an edge and borrows nothing
abbrev pub SelfEdgeShows : Type 0
SelfEdgeShows = (ask_borrowed self_edge 0 ≡ Some 1) × (ask_refs self_edge 0 ≡ Some 2)

-- r = Region(); s = Region(); r.a = s
abbrev pub owned_once : State
owned_once = script (NewRegion 0 ∷ NewRegion 1 ∷ Store 0 5 1 ∷ [])

-- then r.b = s would own s twice
abbrev pub SecondOwnerShows : Type 0
SecondOwnerShows = set_refusal owned_once 0 6 1 ≡ Some SecondOwner

-- then s.r = r would send owners round
abbrev pub OwnerCycleShows : Type 0
OwnerCycleShows = set_refusal owned_once 1 6 0 ≡ Some Cycle

-- r = Region(); s = Region(); x = {}; s.x = x
abbrev pub interior : State
interior = script (NewRegion 0 ∷ NewRegion 1 ∷ NewObject 2 ∷ Store 1 5 2 ∷ [])

-- then r.x = x would lead to the inside of s
abbrev pub InteriorShows : Type 0
InteriorShows = set_refusal interior 0 5 2 ≡ Some Interior

-- r = Region(); s = Region(); r.c = s; x = {}; x.s = s
abbrev pub before_replaced : State
before_replaced = script (NewRegion 0 ∷ NewRegion 1 ∷ Store 0 5 1 ∷ NewObject 2 ∷ Store 2 6 1 ∷ [])

-- then r.c = x is allowed, as it takes the old owning edge away
abbrev pub ReplacedOwnerShows : Type 0
ReplacedOwnerShows = (set_refusal before_replaced 0 5 2 ≡ None)
    × (ask_open_children (after_statement before_replaced (Store 0 5 2)) 0 ≡ Some 1)

-- r = Region(); s = Region(); x = {}; x.a = s; x.b = s
abbrev pub before_refused : State
before_refused = script (NewRegion 0 ∷ NewRegion 1 ∷ NewObject 2 ∷ Store 2 5 1 ∷ Store 2 6 1 ∷ [])

-- then r.x = x would own s twice
abbrev pub refused_unchanged : State
refused_unchanged = after_statement before_refused (Store 0 7 2)

-- it is refused, and afterwards x is local and s is borrowed as before
abbrev pub RefusedUnchangedShows : Type 0
RefusedUnchangedShows =
    (set_refusal before_refused 0 7 2 ≡ Some SecondOwner)
    × (ask_owner refused_unchanged 2 ≡ label.Local)
    × (ask_borrowed refused_unchanged 1 ≡ Some 3)

-- r = Region(); x = {}; r.x = x; freeze(x)
abbrev pub freeze_inner : State
freeze_inner = script (NewRegion 0 ∷ NewObject 1 ∷ Store 0 5 1 ∷ Freeze 1 ∷ [])

-- only x is frozen, and only the variable r borrows
abbrev pub FreezeInnerShows : Type 0
FreezeInnerShows = (ask_owner freeze_inner 1 ≡ label.Frozen) × (ask_borrowed freeze_inner 0 ≡ Some 1)

-- r = Region(); a = {}; b = {}; a.o = b; b.o = a; a.r = r; drop a; drop b
abbrev pub open_by_cycle : State
open_by_cycle = script (NewRegion 0 ∷ NewObject 1 ∷ NewObject 2 ∷ Store 1 5 2 ∷ Store 2 5 1 ∷ Store 1 6 0 ∷ Forget 1 ∷ Forget 2 ∷ [])

-- the cycle of a and b lives and borrows from r
abbrev pub LivingCycleShows : Type 0
LivingCycleShows = ask_borrowed open_by_cycle 0 ≡ Some 2

-- close(r); c = Cown(move r)
abbrev pub closed_cown : State
closed_cown = after_script open_by_cycle (Close 0 ∷ Guard 3 0 ∷ [])

-- c = Cown(move r) is refused, and isn't after close(r); at the end the cown holds a region of one row
abbrev pub OpenCownShows : Type 0
OpenCownShows =
    (guard_refusal open_by_cycle 0 ≡ Some Open)
    × (guard_refusal (after_statement open_by_cycle (Close 0)) 0 ≡ None)
    × (closed_cown.made ≡ (record { birth = 0; seq = 1 }, Obj (ob 1)) ∷ [])
    × ((end_result closed_cown).rows ≡ record { name = ob 1; owner = In (ob 1); fields = [] } ∷ [])

-- r = Region(); x = {}; r.x = x
abbrev pub inner_borrowed : State
inner_borrowed = script (NewRegion 0 ∷ NewObject 1 ∷ Store 0 5 1 ∷ [])

-- then c = Cown(move r) is refused, as x still borrows from r
abbrev pub BorrowedCownShows : Type 0
BorrowedCownShows = guard_refusal inner_borrowed 0 ≡ Some Open

-- r = Region(); s = Region(); r.s = s; drop r
abbrev pub orphaned_child : State
orphaned_child = script (NewRegion 0 ∷ NewRegion 1 ∷ Store 0 5 1 ∷ Forget 0 ∷ [])

-- then c = Cown(move s)
abbrev pub orphan_guarded : State
orphan_guarded = after_statement orphaned_child (Guard 2 1)

-- r went, and its child s lives on without owner
abbrev pub OrphanedChildShows : Type 0
OrphanedChildShows =
    (names orphaned_child.rows ≡ ob 2 ∷ [])
    × (ask_open_children orphaned_child 1 ≡ Some 0)
    × (ask_refs orphaned_child 1 ≡ Some 1)
    × (guard_refusal orphaned_child 1 ≡ None)
    × (orphan_guarded.made ≡ (record { birth = 0; seq = 1 }, Obj (ob 2)) ∷ [])
    × ((end_result orphan_guarded).rows ≡ record { name = ob 2; owner = In (ob 2); fields = [] } ∷ [])

-- b = Region(); a = Region(); b.a = a; merge(a, b)
abbrev pub merged : State
merged = script (NewRegion 0 ∷ NewRegion 1 ∷ Store 0 5 1 ∷ Merge 1 0 ∷ [])

-- b = Region(); q = Region(); a = Region(); b.q = q; q.a = a
abbrev pub far_below : State
far_below = script (NewRegion 0 ∷ NewRegion 1 ∷ NewRegion 2 ∷ Store 0 5 1 ∷ Store 1 6 2 ∷ [])

-- a child may take its owner in; then merge(a, b) of a deeper region is refused
abbrev pub MergesShow : Type 0
MergesShow =
    (ask_owner merged 0 ≡ label.Region)
    × (ask_refs merged 1 ≡ Some 2)
    × (ask_borrowed merged 1 ≡ Some 2)
    × (merge_refusal far_below (var far_below 2) (var far_below 0) ≡ Some Cycle)

-- r = Region(); s = Region(); x = {}; s.x = x; s.x = 0; r.s = s; freeze(s)
abbrev pub freeze_region : State
freeze_region = script (NewRegion 0 ∷ NewRegion 1 ∷ NewObject 2 ∷ Store 1 5 2 ∷ StoreZero 1 5 ∷ Store 0 6 1 ∷ Freeze 1 ∷ [])

-- with its bridge the whole region is frozen, also the row that no field names any more
abbrev pub FreezeRegionShows : Type 0
FreezeRegionShows =
    (ask_owner freeze_region 2 ≡ label.Frozen)
    × (ask_owner freeze_region 1 ≡ label.Frozen)
    × (ask_open_children freeze_region 0 ≡ Some 0)
    × (ask_is_closed freeze_region 0 ≡ Some true)

-- r = Region(); x = {}; r.x = x; dissolve(r)
abbrev pub dissolves : State
dissolves = script (NewRegion 0 ∷ NewObject 1 ∷ Store 0 5 1 ∷ Dissolve 0 ∷ [])

-- bridge and inner row are local
abbrev pub DissolvesShow : Type 0
DissolvesShow = (ask_owner dissolves 0 ≡ label.Local) × (ask_owner dissolves 1 ≡ label.Local) × (ask_refs dissolves 1 ≡ Some 2)

-- r = Region(); s = Region(); x = {}; s.x = x; r.s = s; drop s; drop r
abbrev pub held_by_inner : State
held_by_inner = script (NewRegion 0 ∷ NewRegion 1 ∷ NewObject 2 ∷ Store 1 5 2 ∷ Store 0 6 1 ∷ Forget 1 ∷ Forget 0 ∷ [])

-- the variable x keeps the region s, and r is gone
abbrev pub HeldByInnerShows : Type 0
HeldByInnerShows =
    (ask_owner held_by_inner 2 ≡ label.Region)
    × (ask_refs held_by_inner 2 ≡ Some 2)
    × (names held_by_inner.rows ≡ ob 2 ∷ ob 3 ∷ [])

-- r = Region(); s = Region(); r.s = s; dissolve(r)
abbrev pub freed_child : State
freed_child = script (NewRegion 0 ∷ NewRegion 1 ∷ Store 0 5 1 ∷ Dissolve 0 ∷ [])

-- the child is free, and a field of the former bridge borrows from it
abbrev pub FreedChildShows : Type 0
FreedChildShows =
    (ask_owner freed_child 0 ≡ label.Local)
    × (ask_owner freed_child 1 ≡ label.Region)
    × (ask_borrowed freed_child 1 ≡ Some 2)
    × (ask_refs freed_child 1 ≡ Some 2)

-- r = Region(); x = {}; r.x = x; q = r; close(r)
abbrev pub closed_region : State
closed_region = script (NewRegion 0 ∷ NewObject 1 ∷ Store 0 5 1 ∷ Copy 2 0 ∷ Close 0 ∷ [])

-- the variables q and x hold None, and r alone borrows
abbrev pub ClosedRegionShows : Type 0
ClosedRegionShows =
    (slot_at closed_region.slots 2 ≡ Some value.None)
    × (slot_at closed_region.slots 1 ≡ Some value.None)
    × (ask_borrowed closed_region 0 ≡ Some 1)
    × (ask_is_closed closed_region 0 ≡ Some true)

-- r = Region(); s = Region(); x = {}; x.s = s; r.a = x; drop x
abbrev pub owned_within : State
owned_within = script (NewRegion 0 ∷ NewRegion 1 ∷ NewObject 2 ∷ Store 2 5 1 ∷ Store 0 6 2 ∷ Forget 2 ∷ [])

-- r.a = s would own s twice, although it would drop the other owner; after r.a = 0 it is allowed
abbrev pub JudgedBeforeDroppingShows : Type 0
JudgedBeforeDroppingShows =
    (set_refusal owned_within 0 6 1 ≡ Some SecondOwner)
    × (set_refusal (after_statement owned_within (StoreZero 0 6)) 0 6 1 ≡ None)

-- x = {}; freeze(x)
abbrev pub frozen_object : State
frozen_object = script (NewObject 0 ∷ Freeze 0 ∷ [])

-- then x.f = x and move x.f are refused, and reading a field that isn't there
abbrev pub FrozenWriteShows : Type 0
FrozenWriteShows =
    (set_refusal frozen_object 0 5 0 ≡ Some FrozenWrite)
    × (remove_refusal frozen_object (var frozen_object 0) (text 5) ≡ Some FrozenWrite)
    × (read_refusal frozen_object (var frozen_object 0) (text 5) ≡ Some NoField)

-- a = Region(); b = Region(); q = Region(); q.b = b
abbrev pub owned_region : State
owned_region = script (NewRegion 0 ∷ NewRegion 1 ∷ NewRegion 2 ∷ Store 2 5 1 ∷ [])

-- then merge(a, b) and dissolve(b) are refused, and merge(q, b) isn't
abbrev pub OwnedShows : Type 0
OwnedShows =
    (merge_refusal owned_region (var owned_region 0) (var owned_region 1) ≡ Some Owned)
    × (dissolve_refusal owned_region (var owned_region 1) ≡ Some Owned)
    × (merge_refusal owned_region (var owned_region 2) (var owned_region 1) ≡ None)

-- r = Region(); x = {}; c = Cown(move r)
abbrev pub guarded : State
guarded = script (NewRegion 0 ∷ NewObject 1 ∷ Guard 2 0 ∷ [])

-- then Cown(move x) is refused, and each access to c, which isn't held
abbrev pub GuardedShows : Type 0
GuardedShows =
    (guard_refusal guarded 1 ≡ Some LocalInCown)
    × (read_refusal guarded (var guarded 2) (text 0) ≡ Some NotAcquired)
    × (set_refusal guarded 2 0 1 ≡ Some NotAcquired)

-- the same state in the hands of a behaviour that holds c
abbrev pub holding : State
holding = record guarded { held = guarded.made; made = [] }

-- then c.value is the region, another key is refused, and so is a local object as the content; an empty content isn't
abbrev pub HoldingShows : Type 0
HoldingShows =
    (read_value holding (var holding 2) (key_of (text 0)) ≡ Some (Obj (ob 1)))
    × (read_refusal holding (var holding 2) (text 5) ≡ Some NoField)
    × (set_refusal holding 2 0 1 ≡ Some LocalInCown)
    × (store_refusal holding (var holding 2) (text 0) value.None ≡ None)
    × ((kept (store_result holding (var holding 2) (key_of (text 0)) value.None)).rows ≡ record {
      name = ob 2;
      owner = Local;
      fields = [];
    } ∷ [])

-- what comes before all: a plain value as target, and a key of a wrong kind; and questions and closings of what is no bridge, or unset
abbrev pub PlainRefusalsShow : Type 0
PlainRefusalsShow =
    (read_refusal guarded value.None (text 5) ≡ Some NotObject)
    × (read_refusal guarded (var guarded 1) value.None ≡ Some Kind)
    × (ask_borrowed guarded 1 ≡ None)
    × (close_refusal guarded 1 ≡ Some NotBridge)
    × (close_refusal guarded 0 ≡ Some Unset)
