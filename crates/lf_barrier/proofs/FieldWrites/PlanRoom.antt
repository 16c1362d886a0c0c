-- The rows that a plan moves, the room that it needs, and a target without a mutable row.
use Rattle.std.proofs.Common.{List, None, Some, ap, arith, cond, false, length, sym, true, ℕ, ◌+◌, ◌∙◌, ◌≡◌, ◌≤◌}
use Rattle.std.specs.List.{sum_by}
use Rattle.std.specs.Option.{is_some}
use Rattle.lf_base.specs.declared.faults.Fault.TheVariants.{FrozenWrite}
use Rattle.lf_base.specs.declared.ids.ObjId.{ObjId}
use Rattle.lf_base.specs.declared.values.Key.{Key}
use Rattle.lf_base.specs.declared.values.Owner.TheVariants.{Frozen, Local}
use Rattle.lf_base.specs.declared.values.Value.{Value}
use Rattle.lf_base.specs.Owners.{has_name}
use Rattle.lf_base.specs.PlainState.{State}
use Rattle.lf_base.specs.TakeResult.{field_at}
use Rattle.lf_base.specs.TouchedEdges.{WritesInto}
use Rattle.lf_base.specs.WriteResult.{refusal_by, write_refusal}
use Rattle.lf_barrier.specs.WritePlans.{plan_room}
use Rattle.lf_barrier.proofs.MovingEdges.FieldLoops.{has_row_by_owner}
use Rattle.lf_barrier.proofs.FieldWrites.InsideWrite.{sum_on}
use Rattle.lf_domain.specs.Counts.{IsDomain}
use Rattle.lf_domain.proofs.StoreEdges.{owner_told}
use Rattle.lf_graph.specs.Room.{room_for_field, room_for_row}
use Rattle.lf_graph.specs.StoredRows.{CountedRow, HasRow, NamesDiffer, SameByOwner, field_value_at, fields_by, owner_at}
use Rattle.lf_graph.proofs.Stores.AfterCalls.{found_after}
use Rattle.lf_laws.proofs.Writes.MovedRows.{moved_local}
use Rattle.lf_laws.proofs.Dropping.RowsInPlace.{rows_in_place}
use Rattle.lf_regions.specs.declared.region.Region.{Region}

pub moved_there : (rows : List CountedRow) (regions : List Region) (s : State) (d : IsDomain rows regions s) (x : ObjId) (v : Value) (home : ObjId) (ms : List ObjId) → WritesInto s x v home ms → (os : List ObjId) → os ≡ ms
    → (o : ObjId) → has_name os o ≡ true → HasRow rows o
moved_there rows regions s d x v home ms w os is o h =
    has_row_by_owner rows s.rows o Local ((d.counts).store).rows (moved_local s v (rows_in_place s d.well_formed).distinct o (sym (w.moves o) ∙ ap (λ l. has_name l o) (sym is) ∙ h))

-- a store with the same rows needs the same room
pub room_kept : (rows new : List CountedRow) (x : ObjId) (k : Key) (ms : List ObjId) → SameByOwner new rows → NamesDiffer rows → plan_room new x k ms ≡ plan_room rows x k ms
room_kept rows new x k ms same differ =
    let field : room_for_field new x k ≡ room_for_field rows x k = ap (λ t. cond {A = ℕ} (is_some (field_at (fields_by t) k)) 0 1) (found_after new rows x same differ) in
    omega (arith, field, sum_on (room_for_row new) (room_for_row rows) ms (λ o h. ap (λ t. 1 + length (fields_by t)) (found_after new rows o same differ)))

field_most : (rows : List CountedRow) (x : ObjId) (k : Key) → room_for_field rows x k ≤ 1
field_most rows x k = elim (is_some (field_value_at rows x k)) as (λ b. cond {A = ℕ} b 0 1 ≤ 1) [ true ↦ omega arith | false ↦ omega arith ]

pub room_enough : (rows new : List CountedRow) (x : ObjId) (k : Key) (ms : List ObjId) (cells spare : ℕ) → SameByOwner new rows → NamesDiffer rows → cells ≡ 1 + sum_by (room_for_row rows) ms → cells ≤ spare → plan_room new x k ms ≤ spare
room_enough rows new x k ms cells spare same differ is enough = omega (arith, room_kept rows new x k ms same differ, field_most rows x k, is, enough)

pub no_row_refused : (rows : List CountedRow) (regions : List Region) (s : State) → IsDomain rows regions s → (x : ObjId) (k : Key) (v : Value) → owner_at rows x ≡ None → write_refusal s x k v ≡ Some FrozenWrite
no_row_refused rows regions s d x k v e = ap (refusal_by s x k v) (owner_told rows s.rows x ((d.counts).store).rows ∙ e)

pub frozen_row_refused : (rows : List CountedRow) (regions : List Region) (s : State) → IsDomain rows regions s → (x : ObjId) (k : Key) (v : Value) → owner_at rows x ≡ Some Frozen → write_refusal s x k v ≡ Some FrozenWrite
frozen_row_refused rows regions s d x k v e = ap (refusal_by s x k v) (owner_told rows s.rows x ((d.counts).store).rows ∙ e)
