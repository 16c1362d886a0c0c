-- A write into a region: the owning edges of each bridge after it, by what it touches.
use Rattle.std.proofs.Common.{Bool, List, Option, Some, ap, arith, false, not, refl, true, ◌&&◌, ◌+◌, ◌∙◌, ◌≡◌, ◌≤◌}
use Rattle.std.specs.List.{count_by}
use Rattle.lf_base.specs.EdgeLists.{begins_at}
use Rattle.lf_base.specs.Edges.{Content, Edge, Field, Slot, Source, edges, edges_by, slot_targets}
use Rattle.lf_base.specs.Names.{same_name}
use Rattle.lf_base.specs.Owners.{has_name, owner_in, row_at}
use Rattle.lf_base.specs.Ownership.{is_in_other, is_owning, owning_edges}
use Rattle.lf_base.specs.PlainState.{Row, State}
use Rattle.lf_base.specs.TakeResult.{row_field}
use Rattle.lf_base.specs.TouchedEdges.{WritesInto, edges_from, touches}
use Rattle.lf_base.specs.WalkCounts.{counted}
use Rattle.lf_base.specs.WriteResult.{write_result}
use Rattle.lf_base.specs.declared.ids.ObjId.{ObjId}
use Rattle.lf_base.specs.declared.values.Key.{Key}
use Rattle.lf_base.specs.declared.values.Owner.TheVariants.{Local}
use Rattle.lf_base.specs.declared.values.Value.{Value}
use Rattle.lf_base.proofs.ListLemmas.Tests.{none_count}
use Rattle.lf_base.proofs.NameLemmas.SameNames.{same_name_itself}
use Rattle.lf_laws.proofs.Edges.EdgeParts.{count_app, count_alike_on}
use Rattle.lf_laws.proofs.Edges.GivenRows.{owning_home, owning_other}
use Rattle.lf_laws.proofs.Edges.NamedRows.{begins}
use Rattle.lf_laws.proofs.Judging.WrittenRegion.{after, edges_after, edges_before, final, left, local_before, movers, not_mover, old_value, rows_written}
use Rattle.lf_laws.proofs.Rows.EdgeCounts.{count_edges_by}
use Rattle.lf_laws.proofs.Writes.WrittenEdges.{owner_write}

module _ (s : State) (x : ObjId) (k : Key) (v : Value) (home : ObjId) (ms : List ObjId) (w : WritesInto s x v home ms) where
  abbrev es : List Edge
  es = edges (after s x k v home ms w)

  abbrev rest : List Edge
  rest = left s x k v home ms w

  abbrev owning : List Row → ObjId → Edge → Bool
  owning rows b e = is_owning rows e.from b && same_name e.to b

  abbrev to : ObjId → Edge → Bool
  to b e = same_name e.to b

  local_put : (o : ObjId) → has_name ms o ≡ true → owner_in (rows_written s x k v home ms w) o ≡ Some Local
  local_put o h = owner_write s.rows x k v o ∙ local_before s x k v home ms w o h

  same_source : (f : Source) (b : ObjId) → is_owning (rows_written s x k v home ms w) f b ≡ is_owning s.rows f b
  same_source Slot b = refl
  same_source (Field p) b = ap (is_in_other b) (owner_write s.rows x k v p)
  same_source (Content c) b = refl

  -- before rows are given owners are as they were
  unmoved : (b : ObjId) → count_by (owning (rows_written s x k v home ms w) b) es ≡ count_by (owning s.rows b) es
  unmoved b = count_alike_on (owning (rows_written s x k v home ms w) b) (owning s.rows b) es (λ e m. ap (λ c. c && same_name e.to b) (same_source e.from b))

  -- what leads from the target to another bridge owns it, and its own it doesn't
  target_owns : (b : ObjId) (os : List ObjId) → same_name home b ≡ false → count_by (owning s.rows b) (edges_by (Field x) os) ≡ count_by (to b) (edges_by (Field x) os)
  target_owns b os n = count_alike_on (owning s.rows b) (to b) (edges_by (Field x) os) (λ e m.
      ap (λ f. is_owning s.rows f b && same_name e.to b) (begins (Field x) os e m) ∙ ap (λ u. is_in_other b u && same_name e.to b) w.target ∙ ap (λ c. not c && same_name e.to b) n)

  own_target : (os : List ObjId) → count_by (owning s.rows home) (edges_by (Field x) os) ≡ 0
  own_target os = none_count (owning s.rows home) (edges_by (Field x) os) (λ e m.
      ap (λ f. is_owning s.rows f home && same_name e.to home) (begins (Field x) os e m) ∙ ap (λ u. is_in_other home u && same_name e.to home) w.target ∙ ap (λ c. not c && same_name e.to home) (same_name_itself home))

  counted_is : (b : ObjId) (u : Option Value) → count_by (to b) (edges_by (Field x) (slot_targets u)) ≡ counted b u
  counted_is b u = count_edges_by b (Field x) (slot_targets u)

  touches_are : (b : ObjId) → touches s x v ms b ≡ counted b (Some v) + count_by (to b) (edges_from s.rows ms)
  touches_are b = omega (arith, count_app (to b) (edges_by (Field x) (slot_targets (Some v))) (edges_from s.rows ms), counted_is b (Some v))

  -- a bridge other than the target's region: the owning edges after and the old value's are those before and those that touch it
  pub other_owners : (b : ObjId) → same_name home b ≡ false → owning_edges (write_result s x k v) b + counted b (row_field (row_at s.rows x) k) ≡ owning_edges s b + touches s x v ms b
  other_owners b n =
      let old : List ObjId = slot_targets (old_value s x k v home ms w) in
      let new : List ObjId = slot_targets (Some v) in
      omega (
        arith,
        ap (λ z. owning_edges z b) (final s x k v home ms w),
        owning_other (rows_written s x k v home ms w) ms home local_put es b n,
        unmoved b,
        edges_after s x k v home ms w (owning s.rows b),
        edges_before s x k v home ms w (owning s.rows b),
        count_app (owning s.rows b) (edges_by (Field x) old) rest,
        count_app (owning s.rows b) (edges_by (Field x) new) rest,
        target_owns b old n,
        target_owns b new n,
        counted_is b (old_value s x k v home ms w),
        counted_is b (Some v),
        edges_after s x k v home ms w (λ e. begins_at ms e.from && same_name e.to b),
        count_app (λ e. begins_at ms e.from && same_name e.to b) (edges_by (Field x) new) rest,
        not_mover s x k v home ms w new (to b),
        movers s x k v home ms w (to b),
        touches_are b,
      )

  -- the target's own region
  pub own_owners : owning_edges (write_result s x k v) home ≡ owning_edges s home
  own_owners =
      let old : List ObjId = slot_targets (old_value s x k v home ms w) in
      let new : List ObjId = slot_targets (Some v) in
      omega (
        arith,
        ap (λ z. owning_edges z home) (final s x k v home ms w),
        owning_home (rows_written s x k v home ms w) ms home local_put es,
        unmoved home,
        edges_after s x k v home ms w (owning s.rows home),
        edges_before s x k v home ms w (owning s.rows home),
        count_app (owning s.rows home) (edges_by (Field x) old) rest,
        count_app (owning s.rows home) (edges_by (Field x) new) rest,
        own_target old,
        own_target new,
      )

  -- the old value's edge to another bridge is an owning one
  pub old_owns : (b : ObjId) → same_name home b ≡ false → counted b (row_field (row_at s.rows x) k) ≤ owning_edges s b
  old_owns b n =
      let old : List ObjId = slot_targets (old_value s x k v home ms w) in
      omega (
        arith,
        edges_before s x k v home ms w (owning s.rows b),
        count_app (owning s.rows b) (edges_by (Field x) old) rest,
        target_owns b old n,
        counted_is b (old_value s x k v home ms w),
      )
