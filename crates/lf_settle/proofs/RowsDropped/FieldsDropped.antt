-- A field of a row is taken out, and its edge is lost.
use Rattle.std.proofs.Common.{List, None, Option, Some, [], ap, arith, inl, inr, refl, subst, sym, ◌∙◌, ◌∷◌, ◌≡◌, ◌≤◌}
use Rattle.std.proofs.lemmas.Option.{none-some}
use Rattle.lf_base.specs.declared.ids.ObjId.{ObjId}
use Rattle.lf_base.specs.declared.values.Key.{Key}
use Rattle.lf_base.specs.declared.values.Owner.{Owner}
use Rattle.lf_base.specs.declared.values.Value.{Value}
use Rattle.lf_base.specs.EdgeLists.{near_edges}
use Rattle.lf_base.specs.Edges.{Field, Source, slot_targets}
use Rattle.lf_base.specs.Losses.{LostLast, justified}
use Rattle.lf_base.specs.Owners.{owner_in, row_at, row_owner}
use Rattle.lf_base.specs.PlainState.{Row, State}
use Rattle.lf_base.specs.Sets.{Member}
use Rattle.lf_base.specs.TakeResult.{drop_field, field_at, row_field, take_result}
use Rattle.lf_base.specs.WellFormed.{WellFormed}
use Rattle.lf_domain.proofs.FieldCounts.{refilled_counts}
use Rattle.lf_domain.proofs.StoreEdges.{field_told}
use Rattle.lf_graph.specs.RowChanges.{without_field_of}
use Rattle.lf_graph.specs.StoredRows.{CountedRow, SameByOwner, field_value_at}
use Rattle.lf_laws.proofs.Changes.FewerFields.{take_keeps}
use Rattle.lf_laws.proofs.Edges.FieldEdges.{near_take}
use Rattle.lf_laws.proofs.Losses.LostEdges.{take_loses}
use Rattle.lf_laws.proofs.Losses.OneLoss.{one_noticed}
use Rattle.lf_regions.specs.declared.region.Region.{Region}
use Rattle.lf_settle.specs.Drops.{CanEmpty}
use Rattle.lf_settle.specs.LostEdges.{CanLose, HasRoom, LosesPlace}
use Rattle.lf_settle.specs.WorkLists.{WorkList}
use Rattle.lf_settle.proofs.Counting.CountsTell.{are_rows}
use Rattle.lf_settle.proofs.Counting.EdgeNoticed.{one_or_none}

-- room for as many suspects as something is justified is room for what loses its last justification
pub units_are_room : (s t : State) (from : Source) (v : Option Value) (work : WorkList) → LosesPlace s t from (slot_targets v) → justified s ≤ work.spare
    → HasRoom s t (slot_targets v) work
units_are_room s t from v work p room o w m h l = elim (one_or_none v) [
  | inl z ↦ absurd (subst (Member o) z m)
  | inr x ↦ by x.0 (subst (LosesPlace s t from) x.1 p) (subst (Member o) x.1 m)
] where
  by : (q : ObjId) → LosesPlace s t from (q ∷ []) → Member o (q ∷ []) → 1 ≤ work.spare
  by q p (inr n) = absurd n
  by q p (inl e) =
      let last : LostLast s t q = subst (LostLast s t) (sym e) l in
      omega (arith, room, (one_noticed s t (record { from = from; to = q }) p.lost p.before [] w (ap (owner_in s.rows) e ∙ h) last).paid)

pub row_found : (rows : List Row) (o : ObjId) (w : Owner) → owner_in rows o ≡ Some w → (row : Row) × (row_at rows o ≡ Some row)
row_found rows o w e = by (row_at rows o) refl where
  by : (r : Option Row) → row_at rows o ≡ r → (row : Row) × (row_at rows o ≡ Some row)
  by None h = absurd (none-some w (sym (ap row_owner h) ∙ e))
  by (Some row) h = (row, h)

module _ (rows : List CountedRow) (regions : List Region) (work : WorkList) (s : State) (o : ObjId) (owner : Owner) (can : CanEmpty rows regions work s o owner) (key : Key) where
  abbrev well : WellFormed s
  well = can.can.counted.well_formed

  abbrev t : State
  t = take_result s o key

  module _ (old : Option Value) (value_is : old ≡ field_value_at rows o key) where
    loses_field : LosesPlace s t (Field o) (slot_targets old)
    loses_field =
        let r = row_found s.rows o owner can.here in
        let is : field_at (r.0).fields key ≡ old = sym (value_is ∙ field_told rows s.rows o key (are_rows rows regions s can.can.counted) ∙ ap (λ x. row_field x key) r.1) in
        subst (λ v. LosesPlace s t (Field o) (slot_targets v)) is (record {
          before = well;
          after = take_keeps s o key well;
          lost = take_loses s o key r.0 well r.1;
          near = near_take s o key r.0 well r.1;
        })

    pub can_lose : (next : List CountedRow) → SameByOwner next (without_field_of rows o key) → CanLose next regions work s t (Field o) (slot_targets old)
    can_lose next same = record {
      loses = loses_field;
      counts = refilled_counts o (λ fs. drop_field fs key) rows next regions s.rows (near_edges s) can.can.counted.counts same;
      room = units_are_room s t (Field o) old work loses_field can.can.room;
    }
