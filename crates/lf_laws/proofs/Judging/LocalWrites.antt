-- A write of a local row's field is never refused, and one of a row that isn't mutable always.
use Rattle.std.proofs.Common.{Bool, List, None, Option, Some, [], ap, arith, cond, false, inl, inr, not, refl, subst, sym, true, ◌&&◌, ◌||◌, ◌∙◌, ◌∷◌, ◌≡◌, ◌≤◌}
use Rattle.std.specs.List.{count_by}
use Rattle.std.specs.Prelude.{ltb}
use Rattle.lf_base.specs.Edges.{Content, Edge, Field, Slot, Source, edges, edges_by, slot_targets}
use Rattle.lf_base.specs.MoveSet.{move_set}
use Rattle.lf_base.specs.Names.{same_name}
use Rattle.lf_base.specs.Owners.{bridges, has_row, is_bridge, is_in, names, owner_in, row_at, row_owner}
use Rattle.lf_base.specs.declared.faults.Fault.TheVariants.{FrozenWrite}
use Rattle.lf_base.specs.Ownership.{is_from, is_in_other, is_owning, owning_edges, round}
use Rattle.lf_base.specs.PlainState.{Row, State}
use Rattle.lf_base.specs.Sets.{Member}
use Rattle.lf_base.specs.TakeResult.{field_at}
use Rattle.lf_base.specs.WellFormed.{WellFormed}
use Rattle.lf_base.specs.WriteResult.{fault_shown, first_shown, is_inner_source, is_some_list, leads_inside, moved, refusal_by, shows_interior, shows_two, write_fields, write_refusal, write_result}
use Rattle.lf_base.specs.declared.ids.ObjId.{ObjId}
use Rattle.lf_base.specs.declared.values.Key.{Key}
use Rattle.lf_base.specs.declared.values.Owner.{Owner}
use Rattle.lf_base.specs.declared.values.Owner.TheVariants.{Frozen, In, Local}
use Rattle.lf_base.specs.declared.values.Value.{Value}
use Rattle.lf_base.proofs.ListLemmas.Filters.{Member_of_filter}
use Rattle.lf_base.proofs.ListLemmas.Tests.{any_none, none_count}
use Rattle.lf_laws.proofs.Edges.EdgeParts.{count_app, count_alike_on}
use Rattle.lf_laws.proofs.Edges.FieldEdges.{all_write}
use Rattle.lf_laws.proofs.Edges.NamedRows.{begins, found_row}
use Rattle.lf_laws.proofs.Owners.OwnersGoRound.{owns_before, round_before}
use Rattle.lf_laws.proofs.Rows.EdgeCounts.{with_rows}
use Rattle.lf_laws.proofs.Rows.RowsByName.{owner_has}
use Rattle.lf_laws.proofs.Writes.NoFaultShown.{inner_quiet}
use Rattle.lf_laws.proofs.Writes.WrittenEdges.{edges_write, owner_write}
use Rattle.std.proofs.lemmas.Bool.{le-ltb}

module _ (s : State) (t : WellFormed s) (x : ObjId) (k : Key) (v : Value) (here : owner_in s.rows x ≡ Some Local) where
  abbrev after : List Row
  after = write_fields s.rows x k v

  abbrev next : State
  next = with_rows s after

  owners : (o : ObjId) → owner_in after o ≡ owner_in s.rows o
  owners o = owner_write s.rows x k v o

  final : write_result s x k v ≡ next
  final = ap (λ w. with_rows s (moved after (move_set s v) w)) here

  -- ---- no edge leads inside another region
  inner_same : (f : Source) (q : ObjId) → is_inner_source after f q ≡ is_inner_source s.rows f q
  inner_same Slot q = refl
  inner_same (Field o) q = ap (is_in_other q) (owners o)
  inner_same (Content c) q = refl

  inside_same : (e : Edge) (w : Option Owner) → leads_inside after e w ≡ leads_inside s.rows e w
  inside_same e None = refl
  inside_same e (Some Local) = refl
  inside_same e (Some Frozen) = refl
  inside_same e (Some (In q)) = ap (λ b. b && not (same_name q e.to)) (inner_same e.from q)

  from_target : (e : Edge) → e.from ≡ Field x → (w : Option Owner) → leads_inside after e w ≡ false
  from_target e f None = refl
  from_target e f (Some Local) = refl
  from_target e f (Some Frozen) = refl
  from_target e f (Some (In q)) = ap (λ z. is_inner_source after z q && not (same_name q e.to)) f ∙ ap (λ w. is_in_other q w && not (same_name q e.to)) (owners x ∙ here)

  edge_quiet : (e : Edge) → Member e (edges next) → leads_inside after e (owner_in after e.to) ≡ false
  edge_quiet e m = elim (edges_write s x k v e m) [
    | inl old ↦ inside_same e (owner_in after e.to) ∙ ap (leads_inside s.rows e) (owners e.to) ∙ inner_quiet s e.from e.to (t.leads e old) (owner_in s.rows e.to) refl
    | inr new ↦ from_target e new.0 (owner_in after e.to)
  ]

  no_interior : shows_interior next ≡ false
  no_interior = any_none (λ e. leads_inside after e (owner_in after e.to)) (edges next) edge_quiet

  -- ---- no bridge has two owners
  owning_same : (f : Source) (r : ObjId) → is_owning after f r ≡ is_owning s.rows f r
  owning_same Slot r = refl
  owning_same (Field p) r = ap (is_in_other r) (owners p)
  owning_same (Content c) r = refl

  abbrev owning : ObjId → Edge → Bool
  owning r e = is_owning s.rows e.from r && same_name e.to r

  none_owned : (r : ObjId) (os : List ObjId) → count_by (owning r) (edges_by (Field x) os) ≡ 0
  none_owned r os = none_count (owning r) (edges_by (Field x) os) (λ e m.
      ap (λ f. is_owning s.rows f r && same_name e.to r) (begins (Field x) os e m) ∙ ap (λ w. is_in_other r w && same_name e.to r) here)

  owning_stays : (r : ObjId) → owning_edges (write_result s x k v) r ≡ owning_edges s r
  owning_stays r =
      let y = found_row s.rows x (owner_has s.rows x Local here) in
      let old : List Edge = edges_by (Field x) (slot_targets (field_at (y.0).fields k)) in
      let new : List Edge = edges_by (Field x) (slot_targets (Some v)) in
      omega (
        arith,
        ap (λ z. owning_edges z r) final,
        ap (λ z. count_by (owning r) (edges z)) final,
        count_alike_on (λ e. is_owning after e.from r && same_name e.to r) (owning r) (edges next) (λ e m. ap (λ b. b && same_name e.to r) (owning_same e.from r)),
        all_write s x k y.0 t y.1 v (owning r),
        count_app (owning r) new (edges s),
        count_app (owning r) old (edges (write_result s x k v)),
        none_owned r (slot_targets (field_at (y.0).fields k)),
        none_owned r (slot_targets (Some v)),
      )

  no_two : shows_two next ≡ false
  no_two = any_none (λ r. ltb 1 (owning_edges next r)) (bridges next) (λ r m.
      let b = (Member_of_filter (is_bridge after) r (names after) m).1 in
      le-ltb 1 (owning_edges next r) (subst (λ n. n ≤ 1) (sym (owning_stays r) ∙ ap (λ z. owning_edges z r) final) (t.one_owner r (sym (ap (is_in r) (owners r)) ∙ b))))

  -- ---- owners don't go round
  from_stays : (q : ObjId) (f : Source) → is_from after q f ≡ is_from s.rows q f
  from_stays q Slot = refl
  from_stays q (Field p) = ap (is_in q) (owners p)
  from_stays q (Content c) = refl

  no_round_now : round next ≡ []
  no_round_now = round_before s next (λ q r. owns_before s next q r (λ e m f n b.
      elim (edges_write s x k v e m) [
        | inl old ↦ (old, (sym (from_stays q e.from) ∙ f, sym (ap (is_in r) (owners r)) ∙ b))
        | inr new ↦ let z : false ≡ true = sym (ap (is_in q) here) ∙ sym (ap (is_from s.rows q) new.0) ∙ sym (from_stays q e.from) ∙ f in cc
      ])) t.no_round

  quiet : fault_shown next ≡ None
  quiet = λ i. first_shown (no_interior i) (no_two i) (is_some_list (no_round_now i))

  pub local_allowed : write_refusal s x k v ≡ None
  local_allowed = ap (refusal_by s x k v) here ∙ ap fault_shown final ∙ quiet

no_owner : (rows : List Row) (x : ObjId) → has_row rows x ≡ false → owner_in rows x ≡ None
no_owner [] x h = refl
no_owner (r ∷ rs) x h =
    elim (same_name r.name x) as (λ b. (b || has_row rs x) ≡ false → row_owner (cond b (Some r) (row_at rs x)) ≡ None) [
      | true ↦ λ e. cc
      | false ↦ no_owner rs x
    ] h

pub frozen_refused : (s : State) (x : ObjId) (k : Key) (v : Value) → has_row s.rows x ≡ false → write_refusal s x k v ≡ Some FrozenWrite
frozen_refused s x k v h = ap (refusal_by s x k v) (no_owner s.rows x h)
