-- Where to look after a write: for edges to the inside of a region, for owners that go round, and at the counts.
use Rattle.std.proofs.Common.{List, None, Option, Some, [], ap, arith, inl, inr, refl, subst, sym, true, ◌++◌, ◌+◌, ◌∙◌, ◌≡◌, ◌⊎◌}
use Rattle.std.specs.List.{count_by}
use Rattle.std.specs.Prelude.{◌↔◌}
use Rattle.lf_base.specs.declared.ids.ObjId.{ObjId}
use Rattle.lf_base.specs.declared.values.Key.{Key}
use Rattle.lf_base.specs.declared.values.Owner.{Owner}
use Rattle.lf_base.specs.declared.values.Owner.TheVariants.{Frozen, In, Local}
use Rattle.lf_base.specs.declared.values.Value.{Value}
use Rattle.lf_base.specs.Edges.{Edge, Field, content_edges, edges, rows_edges, slot_edges}
use Rattle.lf_base.specs.MoveSet.{move_set}
use Rattle.lf_base.specs.Names.{same_name}
use Rattle.lf_base.specs.Owners.{has_name, has_row, names, owner_in, row_at}
use Rattle.lf_base.specs.Ownership.{Above, owns, round}
use Rattle.lf_base.specs.PlainState.{Row, State}
use Rattle.lf_base.specs.Sets.{Member}
use Rattle.lf_base.specs.TakeResult.{field_at}
use Rattle.lf_base.specs.WalkCounts.{counted, refs}
use Rattle.lf_base.specs.WellFormed.{SlotMayHold, WellFormed}
use Rattle.lf_base.specs.WriteResult.{leads_inside, moved, relabel, write_fields, write_result}
use Rattle.lf_laws.proofs.Rows.RowsByName.{Distinct, owner_there, differ_rows}
use Rattle.lf_laws.proofs.Rows.EdgeCounts.{hits_maybe, refs_write, with_rows}
use Rattle.lf_laws.proofs.Writes.WrittenEdges.{IsNew}
use Rattle.std.proofs.lemmas.Bool.{both_ways}
use Rattle.lf_laws.proofs.Writes.MovedRows.{edges_relabel, moved_names, of_moved}
use Rattle.lf_laws.proofs.Writes.OwnersAfterWrite.{turns}
use Rattle.lf_laws.proofs.Writes.WriteLaw.{interior_source, local_changes, mutable_at, region_changes}

module _ (s : State) (t : WellFormed s) (x : ObjId) (k : Key) (v : Value) (may : SlotMayHold s v) where
  abbrev after : State
  after = write_result s x k v

  abbrev from_local : owner_in s.rows x ≡ Some Local → after ≡ with_rows s (write_fields s.rows x k v)
  from_local h = ap (λ w. with_rows s (moved (write_fields s.rows x k v) (move_set s v) w)) h

  abbrev from_region : (r : ObjId) → owner_in s.rows x ≡ Some (In r) → after ≡ with_rows s (relabel (write_fields s.rows x k v) (moved_names s v) (In r))
  from_region r h = ap (λ w. with_rows s (moved (write_fields s.rows x k v) (move_set s v) w)) h

  -- the edge begins at a row that moves
  abbrev FromMover : Edge → Type 0
  FromMover e = (row : Row) × (Member row (move_set s v) × (e.from ≡ Field row.name))

  abbrev Shown : State → Edge → Type 0
  Shown z e = Member e (edges z) → leads_inside z.rows e (owner_in z.rows e.to) ≡ true → IsNew x v e ⊎ FromMover e

  mover : (p : ObjId) (e : Edge) → e.from ≡ Field p → has_name (moved_names s v) p ≡ true → FromMover e
  mover p e f h = let y = of_moved s v p h in (y.0, (y.1.0, f ∙ ap Field (sym y.1.1)))

  shown_by : (w : Owner) → owner_in s.rows x ≡ Some w → (e : Edge) → Shown after e
  shown_by Frozen h e = absurd (mutable_at s t x h)
  shown_by Local h e = subst (λ z. Shown z e) (sym (from_local h)) (λ m i. elim (interior_source s (write_fields s.rows x k v) x v [] x (local_changes s t x k v h) t may e m i) [
    | inl n ↦ inl n
    | inr n ↦ absurd (both_ways _ refl n.1.1)
  ])
  shown_by (In r) h e = subst (λ z. Shown z e) (sym (from_region r h)) (λ m i. elim (interior_source s (relabel (write_fields s.rows x k v) (moved_names s v) (In r)) x v (moved_names s v) r (region_changes s t x k v r h) t may e m i) [
    | inl n ↦ inl n
    | inr n ↦ inr (mover n.0 e n.1.0 n.1.1)
  ])

  pub write_shows_interior : has_row s.rows x ≡ true → (e : Edge) → Shown after e
  write_shows_interior h = let w = owner_there s.rows (differ_rows s.rows (names s.given ++ names s.own) t.names_differ) x h in shown_by w.owner w.is

  abbrev Turns : ObjId → State → Type 0
  Turns home z = (round z ≡ []) ↔ ((b : ObjId) → owns z home b ≡ true → Above s b home → ⊥)

  pub write_shows_round : (home : ObjId) → owner_in s.rows x ≡ Some (In home) → Turns home after
  write_shows_round home h = subst (Turns home) (sym (from_region home h)) (turns s t x k v home h may)

-- ---- the counts of objects
hits_counted : (o : ObjId) (w : Option Value) → hits_maybe o w ≡ counted o w
hits_counted o None = refl
hits_counted o (Some v) = refl

moved_edges : (s : State) (rows : List Row) (v : Value) (w : Option Owner) → edges (with_rows s (moved rows (move_set s v) w)) ≡ edges (with_rows s rows)
moved_edges s rows v None = refl
moved_edges s rows v (Some Local) = refl
moved_edges s rows v (Some Frozen) = refl
moved_edges s rows v (Some (In r)) = ap (λ l. slot_edges s.slots ++ (l ++ (content_edges s.held ++ (content_edges s.made ++ (rows_edges s.given ++ rows_edges s.own))))) (edges_relabel rows (moved_names s v) (In r))

pub write_counts : (s : State) (x : ObjId) (k : Key) (v : Value) (row : Row) (o : ObjId) → WellFormed s → row_at s.rows x ≡ Some row
    → refs (write_result s x k v) o + counted o (field_at row.fields k) ≡ refs s o + counted o (Some v)
write_counts s x k v row o t h =
    let d : Distinct s.rows = differ_rows s.rows (names s.given ++ names s.own) t.names_differ in
    omega (arith, ap (count_by (λ (e : Edge). same_name e.to o)) (moved_edges s (write_fields s.rows x k v) v (owner_in s.rows x)), refs_write s x k v o row d h, hits_counted o (field_at row.fields k))
