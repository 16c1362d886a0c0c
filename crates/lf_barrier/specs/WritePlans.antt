-- A write of a field that was judged: what moves with it, and the room that it needs.
use Rattle.std.specs.Prelude.{Err, List, None, Ok, Option, Result, Some, [], length, ℕ, ◌+◌, ◌≡◌, ◌≤◌}
use Rattle.std.specs.List.{sum_by}
use Rattle.lf_base.specs.declared.faults.Fault.{Fault as Reason}
use Rattle.lf_base.specs.declared.faults.HeapFail.{HeapFail}
use Rattle.lf_base.specs.declared.faults.HeapFail.TheVariants.{Fault, OutOfMemory}
use Rattle.lf_base.specs.declared.ids.ObjId.{ObjId}
use Rattle.lf_base.specs.declared.values.Key.{Key}
use Rattle.lf_base.specs.declared.values.Owner.{Owner}
use Rattle.lf_base.specs.declared.values.Owner.TheVariants.{In, Local}
use Rattle.lf_base.specs.declared.values.Value.{Value}
use Rattle.lf_base.specs.declared.values.Value.TheVariants.{Obj}
use Rattle.lf_base.specs.MoveSet.{move_set}
use Rattle.lf_base.specs.Owners.{owner_in}
use Rattle.lf_base.specs.PlainState.{Row, State}
use Rattle.lf_base.specs.TouchedEdges.{WritesInto}
use Rattle.lf_base.specs.WellFormed.{SlotMayHold}
use Rattle.lf_base.specs.WriteResult.{write_refusal}
use Rattle.lf_domain.specs.Counts.{IsDomain}
use Rattle.lf_graph.specs.Room.{room_for_field, room_for_row}
use Rattle.lf_graph.specs.StoredRows.{CountedRow}
use Rattle.lf_regions.specs.declared.region.Region.{Region}

-- a plan: field `key` of `target` becomes `value`, and the rows of these names move to the region `home`; without one the target is local
pub record Planned : Type 0 where
  pub target : ObjId
  pub key : Key
  pub value : Value
  pub home : Option ObjId
  pub moved : List ObjId

-- the owner of the target
abbrev pub home_owner : Option ObjId → Owner
home_owner None = Local
home_owner (Some r) = In r

-- v may be written to x of that owner, and the names are those of the rows that move with it: to a local target none
abbrev pub MovesTo : State → ObjId → Value → Option ObjId → List ObjId → Type 0
MovesTo s x v None os = (owner_in s.rows x ≡ Some Local) × (os ≡ [])
MovesTo s x v (Some home) os = WritesInto s x v home os

-- the plan is of a write that isn't refused in that state, and has the names of the rows that move
pub record IsPlanFor (s : State) (plan : Planned) : Type 0 where
  pub moves : MovesTo s plan.target plan.value plan.home plan.moved
  pub allowed : write_refusal s plan.target plan.key plan.value ≡ None

-- the rows that move: none to a local target
abbrev pub moving : State → Value → Option ObjId → List Row
moving s v None = []
moving s v (Some home) = move_set s v

-- 1, and 1 for each of the rows and each of their fields
abbrev pub write_size : List Row → ℕ
write_size rows = 1 + length rows + sum_by (λ r. length r.fields) rows

-- what the plan needs of the store: room for the field where it is new, and for each row that moves
abbrev pub plan_room : List CountedRow → ObjId → Key → List ObjId → ℕ
plan_room rows x k os = room_for_field rows x k + sum_by (room_for_row rows) os

abbrev pub HasRoomFor : (Owner → ℕ) → List CountedRow → Planned → Type 0
HasRoomFor spare rows plan = plan_room rows plan.target plan.key plan.moved ≤ spare (home_owner plan.home)

-- the store and the table are those of a state in which the write may be asked for: a further slot may hold its target and its value
pub record IsAsked (rows : List CountedRow) (regions : List Region) (s : State) (x : ObjId) (v : Value) : Type 0 where
  pub domain : IsDomain rows regions s
  pub target : SlotMayHold s (Obj x)
  pub value : SlotMayHold s v

-- a call fails as the refusal says, or since memory ran out
abbrev pub FailsAs : Option Reason → HeapFail → Type 0
FailsAs refusal (Fault f) = refusal ≡ Some f
FailsAs refusal OutOfMemory = Unit {0}

-- a call answers as the refusal says, or that memory ran out
abbrev pub AnswersAs : {T : Type 0} → Option Reason → Result T HeapFail → Type 0
AnswersAs refusal (Ok x) = refusal ≡ None
AnswersAs refusal (Err fail) = FailsAs refusal fail
