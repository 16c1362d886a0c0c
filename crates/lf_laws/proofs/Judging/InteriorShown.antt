-- A write into a region: an edge leads inside another region after it exactly where one that it touches does.
use Rattle.std.proofs.Common.{Bool, List, None, Option, Some, ap, false, inl, inr, not, refl, subst, sym, true, ◌&&◌, ◌++◌, ◌∙◌, ◌≡◌, ◌⊎◌}
use Rattle.std.specs.List.{list_any}
use Rattle.lf_base.specs.EdgeLists.{begins_at}
use Rattle.lf_base.specs.Edges.{Content, Edge, Field, Slot, Source, edges, slot_targets}
use Rattle.lf_base.specs.MoveSet.{move_set}
use Rattle.lf_base.specs.Names.{same_name, targets_of_value}
use Rattle.lf_base.specs.Owners.{has_name, is_in, owner_in}
use Rattle.lf_base.specs.Ownership.{is_from, is_in_other}
use Rattle.lf_base.specs.PlainState.{Row, State}
use Rattle.lf_base.specs.Sets.{Member}
use Rattle.lf_base.specs.TouchedEdges.{WritesInto, edges_from, is_inside_other, leads_inside_other, touched_edges}
use Rattle.lf_base.specs.WriteResult.{is_inner_source, leads_inside, shows_interior, write_result}
use Rattle.lf_base.specs.declared.ids.ObjId.{ObjId}
use Rattle.lf_base.specs.declared.values.Key.{Key}
use Rattle.lf_base.specs.declared.values.Owner.{Owner}
use Rattle.lf_base.specs.declared.values.Owner.TheVariants.{Frozen, In, Local}
use Rattle.lf_base.specs.declared.values.Value.{Value}
use Rattle.lf_base.proofs.ListLemmas.Members.{Member_any, Member_left, Member_map, Member_of_append, Member_right, any_Member}
use Rattle.lf_base.proofs.NameLemmas.SameNames.{same_name_itself}
use Rattle.lf_laws.proofs.Edges.EdgeParts.{same_by}
use Rattle.lf_laws.proofs.Edges.NamedRows.{begins}
use Rattle.lf_laws.proofs.Judging.WrittenRegion.{after, any_after, any_movers, final, left, local_before, mover_from, new_edges, now, owner_moved, owner_stays, target_now}
use Rattle.lf_laws.proofs.Rows.OwnerTests.{in_region}
use Rattle.lf_laws.proofs.Rows.RowsByName.{owner_has}
use Rattle.lf_laws.proofs.Writes.MovedRows.{to_moved}
use Rattle.lf_laws.proofs.Writes.WriteShows.{write_shows_interior}
use Rattle.lf_laws.proofs.Writes.WrittenEdges.{IsNew}
use Rattle.std.proofs.lemmas.Bool.{and_from, and_parts}

module _ (s : State) (x : ObjId) (k : Key) (v : Value) (home : ObjId) (ms : List ObjId) (w : WritesInto s x v home ms) where
  abbrev rows : List Row
  rows = now s x k v home ms w

  abbrev es : List Edge
  es = edges (after s x k v home ms w)

  abbrev new : List Edge
  new = new_edges s x k v home ms w

  abbrev rest : List Edge
  rest = left s x k v home ms w

  abbrev from_moved : List Edge
  from_moved = edges_from s.rows ms

  abbrev shown : Edge → Bool
  shown e = leads_inside rows e (owner_in rows e.to)

  abbrev inside : Edge → Bool
  inside e = leads_inside_other s.rows home e

  inner_by : (f : Source) (q : ObjId) → is_from rows home f ≡ true → is_inner_source rows f q ≡ not (same_name home q)
  inner_by Slot q h = cc
  inner_by (Field p) q h = ap (is_in_other q) (in_region home (owner_in rows p) h)
  inner_by (Content c) q h = cc

  by_owner : (e : Edge) → is_from rows home e.from ≡ true → (u : Option Owner) → leads_inside rows e u ≡ is_inside_other home e.to u
  by_owner e h None = refl
  by_owner e h (Some Local) = refl
  by_owner e h (Some Frozen) = refl
  by_owner e h (Some (In q)) = ap (λ b. b && not (same_name q e.to)) (inner_by e.from q h)

  -- an edge that begins in the region then is judged alike by the owners before and after
  same_test : (e : Edge) → is_from rows home e.from ≡ true → shown e ≡ inside e
  same_test e h = elim (has_name ms e.to) as (λ b. has_name ms e.to ≡ b → shown e ≡ inside e) [
    | true ↦ λ t.
        ap (leads_inside rows e) (owner_moved s x k v home ms w e.to t) ∙ by_owner e h (Some (In home))
        ∙ ap (λ b. not b && not (same_name home e.to)) (same_name_itself home)
        ∙ sym (ap (is_inside_other home e.to) (local_before s x k v home ms w e.to t))
    | false ↦ λ t. by_owner e h (owner_in rows e.to) ∙ ap (is_inside_other home e.to) (owner_stays s x k v home ms w e.to t)
  ] refl

  pub new_from : (e : Edge) → Member e new → is_from rows home e.from ≡ true
  new_from e m = ap (is_from rows home) (begins (Field x) (slot_targets (Some v)) e m) ∙ ap (is_in home) (target_now s x k v home ms w) ∙ same_name_itself home

  -- ---- from what is touched
  by_new : (e : Edge) → Member e new → inside e ≡ true → list_any shown es ≡ true
  by_new e m h = sym (any_after s x k v home ms w shown) ∙ Member_any shown e (new ++ rest) (Member_left e new rest m) (same_test e (new_from e m) ∙ h)

  by_rest : list_any inside from_moved ≡ true → list_any shown es ≡ true
  by_rest h =
      let q : Edge → Bool = λ e. begins_at ms e.from && inside e in
      let found = any_Member q rest (any_movers s x k v home ms w inside ∙ h) in
      let e = found.0 in
      let parts = and_parts (begins_at ms e.from) (inside e) found.1.1 in
      sym (any_after s x k v home ms w shown)
      ∙ Member_any shown e (new ++ rest) (Member_right e new rest found.1.0) (same_test e (mover_from s x k v home ms w e.from parts.0) ∙ parts.1)

  from_touched : list_any inside (new ++ from_moved) ≡ true → list_any shown es ≡ true
  from_touched h =
      let found = any_Member inside (new ++ from_moved) h in
      elim (Member_of_append found.0 new from_moved found.1.0) [
        | inl m ↦ by_new found.0 m found.1.1
        | inr m ↦ by_rest (Member_any inside found.0 from_moved m found.1.1)
      ]

  -- ---- to what is touched
  touched_new : (e : Edge) → Member e new → shown e ≡ true → list_any inside (new ++ from_moved) ≡ true
  touched_new e m h = Member_any inside e (new ++ from_moved) (Member_left e new from_moved m) (sym (same_test e (new_from e m)) ∙ h)

  touched_moved : list_any inside from_moved ≡ true → list_any inside (new ++ from_moved) ≡ true
  touched_moved h = let found = any_Member inside from_moved h in Member_any inside found.0 (new ++ from_moved) (Member_right found.0 new from_moved found.1.0) found.1.1

  abbrev by_mover : Edge → Bool
  by_mover e = begins_at ms e.from && shown e

  mover_shown : list_any by_mover es ≡ true → list_any inside (new ++ from_moved) ≡ true
  mover_shown h =
      let found = any_Member by_mover (new ++ rest) (any_after s x k v home ms w by_mover ∙ h) in
      let e = found.0 in
      let parts = and_parts (begins_at ms e.from) (shown e) found.1.1 in
      let judged : inside e ≡ true = sym (same_test e (mover_from s x k v home ms w e.from parts.0)) ∙ parts.1 in
      elim (Member_of_append e new rest found.1.0) [
        | inl m ↦ touched_new e m parts.1
        | inr m ↦ touched_moved (sym (any_movers s x k v home ms w inside) ∙ Member_any (λ e. begins_at ms e.from && inside e) e rest m (and_from _ _ parts.0 judged))
      ]

  -- the edge begins at a row that moves
  abbrev FromMover : Edge → Type 0
  FromMover e = (row : Row) × (Member row (move_set s v) × (e.from ≡ Field row.name))

  shows : (e : Edge) → Member e es → shown e ≡ true → IsNew x v e ⊎ FromMover e
  shows = subst (λ z. (e : Edge) → Member e (edges z) → leads_inside z.rows e (owner_in z.rows e.to) ≡ true → IsNew x v e ⊎ FromMover e) (final s x k v home ms w)
      (write_shows_interior s w.well_formed x k v w.value (owner_has s.rows x (In home) w.target))

  to_touched : list_any shown es ≡ true → list_any inside (new ++ from_moved) ≡ true
  to_touched h =
      let found = any_Member shown es h in
      let e = found.0 in
      elim (shows e found.1.0 found.1.1) [
        | inl n ↦
            let same : record { from = Field x; to = e.to } ≡ e = λ i. record { from = sym n.0 i; to = e.to } in
            touched_new e (subst (λ d. Member d new) same (Member_map (λ (o : ObjId). record { from = Field x; to = o }) e.to (targets_of_value v) n.1)) found.1.1
        | inr n ↦ mover_shown (Member_any by_mover e es found.1.0 (and_from _ _ (ap (begins_at ms) n.1.1 ∙ w.moves (n.0).name ∙ to_moved s v n.0 n.1.0) found.1.1))
      ]

  pub interior_shown : shows_interior (write_result s x k v) ≡ list_any (λ e. leads_inside_other s.rows home e) (touched_edges s x v ms)
  interior_shown = ap shows_interior (final s x k v home ms w) ∙ same_by _ _ to_touched from_touched
