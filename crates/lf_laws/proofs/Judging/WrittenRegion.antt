-- A write into a region: its owners, and its edges as those that it touches and those that a take leaves.
use Rattle.std.proofs.Common.{Bool, List, Option, Some, ap, arith, cond, false, map, subst, sym, true, ◌&&◌, ◌++◌, ◌∙◌, ◌≡◌}
use Rattle.std.specs.List.{count_by, list_any}
use Rattle.lf_base.specs.EdgeLists.{SameEdges, begins_at}
use Rattle.lf_base.specs.Edges.{Content, Edge, Field, Slot, Source, edges, edges_by, slot_targets}
use Rattle.lf_base.specs.MoveSet.{move_set}
use Rattle.lf_base.specs.Owners.{has_name, is_in, names, owner_in, row_at}
use Rattle.lf_base.specs.Ownership.{is_from}
use Rattle.lf_base.specs.PlainState.{Row, State}
use Rattle.lf_base.specs.TakeResult.{row_field, take_result}
use Rattle.lf_base.specs.TouchedEdges.{WritesInto, edges_from}
use Rattle.lf_base.specs.WriteResult.{moved, relabel, write_fields, write_result}
use Rattle.lf_base.specs.declared.ids.ObjId.{ObjId}
use Rattle.lf_base.specs.declared.values.Key.{Key}
use Rattle.lf_base.specs.declared.values.Owner.TheVariants.{In, Local}
use Rattle.lf_base.specs.declared.values.Value.{Value}
use Rattle.lf_base.proofs.ListLemmas.Tests.{none_count}
use Rattle.lf_base.proofs.NameLemmas.SameNames.{same_name_itself}
use Rattle.lf_laws.proofs.Dropping.RowsInPlace.{rows_in_place}
use Rattle.lf_laws.proofs.Edges.EdgeParts.{any_same, count_app}
use Rattle.lf_laws.proofs.Edges.FieldEdges.{all_put, all_take}
use Rattle.lf_laws.proofs.Edges.NamedRows.{all_from, begins, found_row}
use Rattle.lf_laws.proofs.Rows.EdgeCounts.{with_rows}
use Rattle.lf_laws.proofs.Rows.OwnerTests.{in_not_local}
use Rattle.lf_laws.proofs.Rows.RowsByName.{Distinct, owner_has}
use Rattle.lf_laws.proofs.Writes.MovedRows.{moved_local}
use Rattle.lf_laws.proofs.Writes.Relabelling.{owner_over, owner_relabel}
use Rattle.lf_laws.proofs.Writes.WrittenEdges.{owner_write}
use Rattle.std.proofs.lemmas.Bool.{false_from_ne_true}
use Rattle.lf_laws.proofs.Edges.GivenRows.{over_false}

module _ (s : State) (x : ObjId) (k : Key) (v : Value) (home : ObjId) (ms : List ObjId) (w : WritesInto s x v home ms) where
  pub distinct : Distinct s.rows
  distinct = (rows_in_place s w.well_formed).distinct

  abbrev pub rows_written : List Row
  rows_written = write_fields s.rows x k v

  abbrev pub now : List Row
  now = relabel rows_written ms (In home)

  abbrev pub after : State
  after = with_rows s now

  -- ---- owners
  same_relabel : (os ps : List ObjId) → ((o : ObjId) → has_name os o ≡ has_name ps o) → relabel rows_written os (In home) ≡ relabel rows_written ps (In home)
  same_relabel os ps h = λ i. map (λ r. cond (h r.name i) (record r { owner = In home }) r) rows_written

  pub final : write_result s x k v ≡ after
  final = ap (λ u. with_rows s (moved rows_written (move_set s v) u)) w.target ∙ ap (with_rows s) (sym (same_relabel ms (names (move_set s v)) w.moves))

  pub local_before : (o : ObjId) → has_name ms o ≡ true → owner_in s.rows o ≡ Some Local
  local_before o h = moved_local s v distinct o (sym (w.moves o) ∙ h)

  pub target_stays : has_name ms x ≡ false
  target_stays = false_from_ne_true _ (λ h. in_not_local home (sym w.target ∙ local_before x h))

  owner_now : (o : ObjId) (b : Bool) → has_name ms o ≡ b → owner_in now o ≡ owner_over b (In home) (owner_in s.rows o)
  owner_now o b h = owner_relabel rows_written ms (In home) o ∙ ap (λ c. owner_over c (In home) (owner_in rows_written o)) h ∙ ap (owner_over b (In home)) (owner_write s.rows x k v o)

  pub owner_moved : (o : ObjId) → has_name ms o ≡ true → owner_in now o ≡ Some (In home)
  owner_moved o h = owner_now o true h ∙ ap (owner_over true (In home)) (local_before o h)

  pub owner_stays : (o : ObjId) → has_name ms o ≡ false → owner_in now o ≡ owner_in s.rows o
  owner_stays o h = owner_now o false h ∙ over_false (In home) (owner_in s.rows o)

  pub target_now : owner_in now x ≡ Some (In home)
  target_now = owner_stays x target_stays ∙ w.target

  -- ---- edges
  abbrev pub old_value : Option Value
  old_value = row_field (row_at s.rows x) k

  abbrev pub old_edges : List Edge
  old_edges = edges_by (Field x) (slot_targets old_value)

  abbrev pub new_edges : List Edge
  new_edges = edges_by (Field x) (slot_targets (Some v))

  -- the edges without the field's
  abbrev pub left : List Edge
  left = edges (take_result s x k)

  found : (row : Row) × (row_at s.rows x ≡ Some row)
  found = found_row s.rows x (owner_has s.rows x (In home) w.target)

  pub edges_before : SameEdges (edges s) (old_edges ++ left)
  edges_before = subst (λ u. SameEdges (edges s) (edges_by (Field x) (slot_targets (row_field u k)) ++ left)) (sym found.1) (all_take s x k found.0 w.well_formed found.1)

  pub edges_after : SameEdges (new_edges ++ left) (edges after)
  edges_after = subst (λ z. SameEdges (new_edges ++ left) (edges z)) final (all_put s x k found.0 w.well_formed found.1 v)

  pub any_after : (p : Edge → Bool) → list_any p (new_edges ++ left) ≡ list_any p (edges after)
  any_after p = any_same p (new_edges ++ left) p (edges after) (edges_after p)

  -- what the field leads to begins at no row that moves
  pub not_mover : (os : List ObjId) (p : Edge → Bool) → count_by (λ e. begins_at ms e.from && p e) (edges_by (Field x) os) ≡ 0
  not_mover os p = none_count (λ e. begins_at ms e.from && p e) (edges_by (Field x) os) (λ e m.
      ap (λ f. begins_at ms f && p e) (begins (Field x) os e m) ∙ ap (λ b. b && p e) target_stays)

  -- what begins at rows that move is left by a take
  pub movers : (p : Edge → Bool) → count_by (λ e. begins_at ms e.from && p e) left ≡ count_by p (edges_from s.rows ms)
  movers p =
      let q : Edge → Bool = λ e. begins_at ms e.from && p e in
      omega (
        arith,
        edges_before q,
        count_app q old_edges left,
        not_mover (slot_targets old_value) p,
        all_from ms p s w.well_formed w.differ (λ o h. owner_has s.rows o Local (local_before o h)),
      )

  pub any_movers : (p : Edge → Bool) → list_any (λ e. begins_at ms e.from && p e) left ≡ list_any p (edges_from s.rows ms)
  any_movers p = any_same (λ e. begins_at ms e.from && p e) left p (edges_from s.rows ms) (movers p)

  -- a row that moves is in the region then
  pub mover_from : (f : Source) → begins_at ms f ≡ true → is_from now home f ≡ true
  mover_from Slot h = cc
  mover_from (Field p) h = ap (is_in home) (owner_moved p h) ∙ same_name_itself home
  mover_from (Content c) h = cc
