-- A write of a local row's field, in three steps: the new edge is counted, the field is set, the old edge is taken out.
use Rattle.std.proofs.Common.{List, None, Option, Some, ap, arith, cond, refl, subst, sym, true, ℕ, ◌++◌, ◌∙◌, ◌≡◌}
use Rattle.std.specs.Option.{is_some}
use Rattle.lf_base.specs.declared.ids.ObjId.{ObjId}
use Rattle.lf_base.specs.declared.values.Key.{Key}
use Rattle.lf_base.specs.declared.values.Owner.{Owner}
use Rattle.lf_base.specs.declared.values.Owner.TheVariants.{Local}
use Rattle.lf_base.specs.declared.values.Value.{Value}
use Rattle.lf_base.specs.EdgeLists.{SameEdges, near_edges}
use Rattle.lf_base.specs.Edges.{Edge, Field, edges_by, slot_targets}
use Rattle.lf_base.specs.MoveSet.{move_set}
use Rattle.lf_base.specs.Owners.{is_local_at, owner_in, row_at, row_owner}
use Rattle.lf_base.specs.PlainState.{Row, State}
use Rattle.lf_base.specs.TakeResult.{row_field}
use Rattle.lf_base.specs.WalkCounts.{is_borrower}
use Rattle.lf_base.specs.WriteResult.{moved, put_field, write_fields, write_result}
use Rattle.lf_graph.specs.Room.{LowersNone, OwnerHasRoom, room_for_field}
use Rattle.lf_graph.specs.RowChanges.{with_field_of}
use Rattle.lf_graph.specs.StoredRows.{AreRowsOf, CountedRow, HasRow, SameByOwner, field_value_at}
use Rattle.lf_laws.proofs.Edges.FieldEdges.{near_write}
use Rattle.lf_laws.proofs.Writes.WrittenEdges.{owner_write}
use Rattle.lf_regions.specs.declared.region.Region.{Region}
use Rattle.lf_domain.specs.Counts.{Counts, CountsOf, IsDomain}
use Rattle.lf_domain.specs.OneEdge.{MayUncount}
use Rattle.lf_domain.proofs.FieldCounts.{refilled_counts}
use Rattle.lf_domain.proofs.StoreEdges.{field_told, owned_has_row, owner_told}

some_row : (t : Option Row) (w : Owner) → row_owner t ≡ Some w → (row : Row) × (t ≡ Some row)
some_row None w e = absurd (cc)
some_row (Some row) w e = (row, refl)

-- the room that was made is still enough
pub room_stays : (rows new : List CountedRow) (of : List Row) (o : ObjId) (k : Key) (spare after : Owner → ℕ) → AreRowsOf rows of → AreRowsOf new of → LowersNone spare after
    → OwnerHasRoom spare rows o (room_for_field rows o k) → OwnerHasRoom after new o (room_for_field new o k)
room_stays rows new of o k spare after a b lowers room w e =
    let same : field_value_at new o k ≡ field_value_at rows o k = field_told new of o k b ∙ sym (field_told rows of o k a) in
    omega (
      arith,
      ap {B = ℕ} (λ t. cond (is_some t) 0 1) same,
      room w (sym (owner_told rows of o a) ∙ owner_told new of o b ∙ e),
      lowers w,
    )

module _ (rows : List CountedRow) (regions : List Region) (s : State) (d : IsDomain rows regions s) (o : ObjId) (k : Key) (v : Value) (local : owner_in s.rows o ≡ Some Local) where
  abbrev new : List Edge
  new = edges_by (Field o) (slot_targets (Some v))

  pub near : is_borrower s.rows (Field o) ≡ true
  near = ap is_local_at local

  -- the store and the table once the new edge is counted
  module _ (one : List CountedRow) (table : List Region) (c : Counts one table s.rows (new ++ near_edges s)) where
    pub row_there : HasRow one o
    row_there = owned_has_row one o Local (sym (owner_told one s.rows o (c.store).rows) ∙ local)

    old_edge : (old : Option Value) → old ≡ field_value_at one o k → SameEdges (new ++ near_edges s) (edges_by (Field o) (slot_targets old) ++ near_edges (write_result s o k v))
    old_edge old e =
        let row = some_row (row_at s.rows o) Local local in
        subst (λ w. SameEdges (new ++ near_edges s) (edges_by (Field o) (slot_targets w) ++ near_edges (write_result s o k v)))
        (sym (e ∙ field_told one s.rows o k (c.store).rows ∙ ap (λ t. row_field t k) row.1))
        (near_write s o k row.0 d.well_formed row.1 v)

    -- the old edge may be taken out once the field is set
    pub old_may_go : (two : List CountedRow) → SameByOwner two (with_field_of one o k v) → (old : Option Value) → old ≡ field_value_at one o k
        → MayUncount two table (write_fields s.rows o k v) (new ++ near_edges s) (near_edges (write_result s o k v)) (Field o) (slot_targets old)
    old_may_go two same old e = record {
      counts = refilled_counts o (λ fs. put_field fs k v) one two table s.rows (new ++ near_edges s) c same;
      bridges = λ p r h. owner_write s.rows o k v r ∙ (d.well_formed).bridge p r (sym (owner_write s.rows o k v p) ∙ h);
      near = ap is_local_at (owner_write s.rows o k v o ∙ local);
      edges = old_edge old e;
    }

  -- nothing moves with a local target
  pub written : (last : List CountedRow) (table : List Region) → Counts last table (write_fields s.rows o k v) (near_edges (write_result s o k v)) → CountsOf last table (write_result s o k v)
  written last table c = subst (λ w. Counts last table (moved (write_fields s.rows o k v) (move_set s v) w) (near_edges (write_result s o k v))) (sym local) c
