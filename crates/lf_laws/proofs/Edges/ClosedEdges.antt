-- The edges after a close: all but those of other slots and of local rows that lead into the region.
use Rattle.std.proofs.Common.{Bool, List, None, Option, Some, [], ap, arith, cond, false, inl, inr, map, refl, suc, true, zero, ℕ, ◌&&◌, ◌++◌, ◌+◌, ◌||◌, ◌∙◌, ◌∷◌, ◌≡◌}
use Rattle.std.specs.List.{count_by, filter, list_any}
use Rattle.lf_base.specs.CloseResult.{close_result, closed_fields, closed_slot, closed_value}
use Rattle.lf_base.specs.EdgeLists.{SameEdges, closed_edges, is_closed_off, near_edges}
use Rattle.lf_base.specs.Edges.{Edge, Field, Slot, Source, edges, edges_by, field_targets, row_edges, rows_edges, slot_edges, slot_targets}
use Rattle.lf_base.specs.Names.{is_local, targets_of_value}
use Rattle.lf_base.specs.Owners.{is_in, is_local_at, owner_in}
use Rattle.lf_base.specs.Ownership.{below}
use Rattle.lf_base.specs.PlainChanges.{put_slot, slot_at}
use Rattle.lf_base.specs.PlainState.{Row, State}
use Rattle.lf_base.specs.Sets.{Member}
use Rattle.lf_base.specs.WalkCounts.{is_borrower}
use Rattle.lf_base.specs.WellFormed.{WellFormed}
use Rattle.lf_base.specs.declared.ids.ObjId.{ObjId}
use Rattle.lf_base.specs.declared.values.Key.{Key}
use Rattle.lf_base.specs.declared.values.Owner.{Owner}
use Rattle.lf_base.specs.declared.values.Owner.TheVariants.{Frozen, In, Local}
use Rattle.lf_base.specs.declared.values.Value.{Value}
use Rattle.lf_base.specs.declared.values.Value.TheVariants as value
use Rattle.lf_laws.proofs.Dropping.RowsInPlace.{rows_in_place}
use Rattle.lf_laws.proofs.Edges.EdgeParts.{all_from_near, count_app, near_count}
use Rattle.lf_laws.proofs.Rows.RowsByName.{owner_mem}
use Rattle.std.proofs.lemmas.List.{map-append}
use Rattle.std.proofs.lemmas.List.Elements.{filter-append}

module _ (s : State) (r : ObjId) (p : Edge → Bool) where
  abbrev off : Edge → Bool
  off e = is_closed_off s r e

  abbrev all : List Edge → ℕ
  all es = count_by p es

  abbrev cut : List Edge → ℕ
  cut es = count_by p (filter off es)

  all_app : (xs ys : List Edge) → all (xs ++ ys) ≡ all xs + all ys
  all_app xs ys = count_app p xs ys

  cut_app : (xs ys : List Edge) → cut (xs ++ ys) ≡ cut xs + cut ys
  cut_app xs ys = ap (count_by p) (filter-append off xs ys) ∙ count_app p (filter off xs) (filter off ys)

  one_parted : (f : Source) (o : ObjId) (near into : Bool) → near ≡ true → all (edges_by f (o ∷ []))
      ≡ all (cond (near && into) (edges_by f (o ∷ [])) []) + all (edges_by f (targets_of_value (cond (into || false) value.None (value.Obj o))))
  one_parted f o true true h = omega arith
  one_parted f o true false h = omega arith
  one_parted f o false into h = cc

  -- what a value has at a place of a slot or a local row: what is cut off there, and what it has closed
  value_parted : (f : Source) → is_borrower s.rows f ≡ true → (v : Value)
      → all (edges_by f (targets_of_value v)) ≡ cut (edges_by f (targets_of_value v)) + all (edges_by f (targets_of_value (closed_value s r v)))
  value_parted f near value.None = refl
  value_parted f near (value.Bool b) = refl
  value_parted f near (value.Int n) = refl
  value_parted f near (value.Text t) = refl
  value_parted f near (value.Cown c) = refl
  value_parted f near (value.Obj o) = one_parted f o (is_borrower s.rows f) (list_any (λ q. is_in q (owner_in s.rows o)) (r ∷ below s r)) near

  -- ---- slots
  slot_parted : (x : Option Value) → all (edges_by Slot (slot_targets x)) ≡ cut (edges_by Slot (slot_targets x)) + all (edges_by Slot (slot_targets (closed_slot s r x)))
  slot_parted None = refl
  slot_parted (Some v) = value_parted Slot refl v

  slots_parted : (xs : List (Option Value)) → all (slot_edges xs) ≡ cut (slot_edges xs) + all (slot_edges (map (closed_slot s r) xs))
  slots_parted [] = refl
  slots_parted (x ∷ xs) =
      let one : List Edge = edges_by Slot (slot_targets x) in
      omega (
        arith,
        slot_parted x,
        slots_parted xs,
        all_app one (slot_edges xs),
        cut_app one (slot_edges xs),
        all_app (edges_by Slot (slot_targets (closed_slot s r x))) (slot_edges (map (closed_slot s r) xs)),
      )

  -- the slot at the place stays as it is
  put_parted : (xs : List (Option Value)) (n : ℕ)
      → all (slot_edges xs) ≡ cut (slot_edges (put_slot xs n None)) + all (slot_edges (put_slot (map (closed_slot s r) xs) n (slot_at xs n)))
  put_parted [] n = refl
  put_parted (x ∷ xs) zero =
      let one : List Edge = edges_by Slot (slot_targets x) in
      omega (arith, slots_parted xs, all_app one (slot_edges xs), all_app one (slot_edges (map (closed_slot s r) xs)))
  put_parted (x ∷ xs) (suc n) =
      let one : List Edge = edges_by Slot (slot_targets x) in
      omega (
        arith,
        slot_parted x,
        put_parted xs n,
        all_app one (slot_edges xs),
        cut_app one (slot_edges (put_slot xs n None)),
        all_app (edges_by Slot (slot_targets (closed_slot s r x))) (slot_edges (put_slot (map (closed_slot s r) xs) n (slot_at xs n))),
      )

  -- ---- rows
  by_app : (f : Source) (os ps : List ObjId) → edges_by f (os ++ ps) ≡ edges_by f os ++ edges_by f ps
  by_app f os ps = map-append (λ (o : ObjId). record { from = f; to = o }) os ps

  abbrev closed_field : Key × Value → Key × Value
  closed_field g = (g.0, closed_value s r g.1)

  fields_parted : (f : Source) → is_borrower s.rows f ≡ true → (fs : List (Key × Value))
      → all (edges_by f (field_targets fs)) ≡ cut (edges_by f (field_targets fs)) + all (edges_by f (field_targets (map closed_field fs)))
  fields_parted f near [] = refl
  fields_parted f near (g ∷ gs) =
      let one : List Edge = edges_by f (targets_of_value g.1) in
      let shut : List ObjId = targets_of_value (closed_value s r g.1) in
      omega (
        arith,
        value_parted f near g.1,
        fields_parted f near gs,
        ap all (by_app f (targets_of_value g.1) (field_targets gs)),
        ap cut (by_app f (targets_of_value g.1) (field_targets gs)),
        ap all (by_app f shut (field_targets (map closed_field gs))),
        all_app one (edges_by f (field_targets gs)),
        cut_app one (edges_by f (field_targets gs)),
        all_app (edges_by f shut) (edges_by f (field_targets (map closed_field gs))),
      )

  -- nothing is cut off from elsewhere
  far_cut : (f : Source) → is_borrower s.rows f ≡ false → (os : List ObjId) → filter off (edges_by f os) ≡ []
  far_cut f far [] = refl
  far_cut f far (o ∷ os) =
      ap (λ b. cond (b && list_any (λ q. is_in q (owner_in s.rows o)) (r ∷ below s r)) (record { from = f; to = o } ∷ filter off (edges_by f os)) (filter off (edges_by f os))) far
      ∙ far_cut f far os

  row_parted : (row : Row) → is_borrower s.rows (Field row.name) ≡ is_local row.owner → all (row_edges row) ≡ cut (row_edges row) + all (row_edges (closed_fields s r row))
  row_parted row h =
      elim (is_local row.owner) as (λ b. is_borrower s.rows (Field row.name) ≡ b → all (row_edges row) ≡ cut (row_edges row) + all (row_edges (cond b (record row { fields = map closed_field row.fields }) row))) [
        | true ↦ λ near. fields_parted (Field row.name) near row.fields
        | false ↦ λ far. omega (arith, ap (λ es. count_by p es) (far_cut (Field row.name) far (field_targets row.fields)))
      ] h

  rows_parted : (rows : List Row) → ((row : Row) → Member row rows → is_borrower s.rows (Field row.name) ≡ is_local row.owner) → all (rows_edges rows) ≡ cut (rows_edges rows) + all (rows_edges (map (closed_fields s r) rows))
  rows_parted [] h = refl
  rows_parted (row ∷ rows) h =
      omega (
        arith,
        row_parted row (h row (inl refl)),
        rows_parted rows (λ x m. h x (inr m)),
        all_app (row_edges row) (rows_edges rows),
        cut_app (row_edges row) (rows_edges rows),
        all_app (row_edges (closed_fields s r row)) (rows_edges (map (closed_fields s r) rows)),
      )

local_same : (w : Owner) → is_local_at (Some w) ≡ is_local w
local_same Local = refl
local_same (In r) = refl
local_same Frozen = refl

module _ (s : State) (n : ℕ) (r : ObjId) (t : WellFormed s) where
  abbrev after : State
  after = close_result s n r

  pub near_close : SameEdges (near_edges s) (closed_edges s n r ++ near_edges after)
  near_close p =
      omega (
        arith,
        near_count p s,
        near_count p after,
        count_app p (closed_edges s n r) (near_edges after),
        cut_app s r p (slot_edges (put_slot s.slots n None)) (rows_edges s.rows),
        put_parted s r p s.slots n,
        rows_parted s r p s.rows (λ row m. ap is_local_at (owner_mem s.rows (rows_in_place s t).distinct row m) ∙ local_same row.owner),
      )

  pub all_close : SameEdges (edges s) (closed_edges s n r ++ edges after)
  all_close = all_from_near s after [] (closed_edges s n r) refl near_close
