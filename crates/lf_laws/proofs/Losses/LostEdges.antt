-- Which edges are lost by a take, by a slot that is unset, by slots that go, by a content that is taken, and by a close.
use Rattle.std.proofs.Common.{None, Some, cond, false, length, refl, true, ℕ, ◌<◌, ◌≡◌, map}
use Rattle.std.specs.Prelude.{drop, take}
use Rattle.lf_base.specs.Edges.{Field, Slot, edges_by, slot_edges, slot_targets, Content}
use Rattle.lf_base.specs.Losses.{LosesEdges}
use Rattle.lf_base.specs.Owners.{row_at}
use Rattle.lf_base.specs.PlainChanges.{slot_at, with_slot_at, with_slots}
use Rattle.lf_base.specs.PlainState.{Row, State}
use Rattle.lf_base.specs.TakeResult.{drop_field, field_at, take_result}
use Rattle.lf_base.specs.WellFormed.{WellFormed}
use Rattle.lf_base.specs.WriteResult.{is_at}
use Rattle.lf_base.specs.declared.ids.ObjId.{ObjId}
use Rattle.lf_base.specs.declared.values.Key.{Key}
use Rattle.lf_base.specs.declared.values.Value.{Value}
use Rattle.lf_laws.proofs.Edges.FieldEdges.{all_take}
use Rattle.lf_laws.proofs.Edges.SlotEdges.{all_fewer_slots, all_put_slot, all_content}
use Rattle.lf_laws.proofs.Rows.MappedRows.{mapped_names, mapped_owner}
use Rattle.lf_base.specs.CloseResult.{close_result, closed_fields, closed_value}
use Rattle.lf_base.specs.ContentResult.{content_at, content_result}
use Rattle.lf_base.specs.EdgeLists.{closed_edges}
use Rattle.lf_base.specs.Names.{is_local, targets_of_value}
use Rattle.lf_base.specs.declared.ids.CownId.{CownId}
use Rattle.lf_base.specs.declared.values.Value.TheVariants as value
use Rattle.lf_laws.proofs.Edges.ClosedEdges.{all_close}

module _ (s : State) (x : ObjId) (k : Key) (row : Row) (t : WellFormed s) (found : row_at s.rows x ≡ Some row) where
  abbrev taken : Row → Row
  taken r = cond (is_at x r) (record r { fields = drop_field r.fields k }) r

  taken_name : (r : Row) → (taken r).name ≡ r.name
  taken_name r = elim (is_at x r) as (λ b. (cond b (record r { fields = drop_field r.fields k }) r).name ≡ r.name) [ true ↦ refl | false ↦ refl ]

  taken_owner : (r : Row) → (taken r).owner ≡ r.owner
  taken_owner r = elim (is_at x r) as (λ b. (cond b (record r { fields = drop_field r.fields k }) r).owner ≡ r.owner) [ true ↦ refl | false ↦ refl ]

  pub take_loses : LosesEdges s (take_result s x k) (edges_by (Field x) (slot_targets (field_at row.fields k)))
  take_loses = record {
    same_names = mapped_names taken taken_name s.rows;
    owners = mapped_owner taken taken_name taken_owner s.rows;
    edges = all_take s x k row t found;
  }

pub unset_loses : (s : State) (n : ℕ) → n < length s.slots → LosesEdges s (with_slot_at s n None) (edges_by Slot (slot_targets (slot_at s.slots n)))
unset_loses s n h = record { same_names = refl; owners = λ o. refl; edges = all_put_slot s n None h }

pub slots_lose : (s : State) (n : ℕ) → LosesEdges s (with_slots s (take n s.slots)) (slot_edges (drop n s.slots))
slots_lose s n = record { same_names = refl; owners = λ o. refl; edges = all_fewer_slots s n }

pub content_loses : (s : State) (c : CownId) (old : Value) → content_at s.held c ≡ Some old → LosesEdges s (content_result s c value.None) (edges_by (Content c) (targets_of_value old))
content_loses s c old at = record { same_names = refl; owners = λ o. refl; edges = all_content s c value.None old at }

module _ (s : State) (n : ℕ) (r : ObjId) (t : WellFormed s) where
  closed_name : (row : Row) → (closed_fields s r row).name ≡ row.name
  closed_name row = elim (is_local row.owner) as (λ b. (cond b (record row { fields = map (λ (f : Key × Value). (f.0, closed_value s r f.1)) row.fields }) row).name ≡ row.name) [ true ↦ refl | false ↦ refl ]

  closed_owner : (row : Row) → (closed_fields s r row).owner ≡ row.owner
  closed_owner row = elim (is_local row.owner) as (λ b. (cond b (record row { fields = map (λ (f : Key × Value). (f.0, closed_value s r f.1)) row.fields }) row).owner ≡ row.owner) [ true ↦ refl | false ↦ refl ]

  pub close_loses : LosesEdges s (close_result s n r) (closed_edges s n r)
  close_loses = record {
    same_names = mapped_names (closed_fields s r) closed_name s.rows;
    owners = mapped_owner (closed_fields s r) closed_name closed_owner s.rows;
    edges = all_close s n r t;
  }
