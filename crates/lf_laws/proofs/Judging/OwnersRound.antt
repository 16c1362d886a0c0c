-- A write into a region: owners go round after it exactly where a bridge that it touches was above that region.
use Rattle.std.proofs.Common.{Bool, List, [], ap, false, inl, inr, not, refl, subst, sym, true, ◌&&◌, ◌++◌, ◌∙◌, ◌≡◌, ◌⊎◌}
use Rattle.std.specs.List.{list_any}
use Rattle.std.specs.Prelude.{◌↔◌}
use Rattle.lf_base.specs.EdgeLists.{begins_at}
use Rattle.lf_base.specs.Edges.{Content, Edge, Field, Slot, Source, edges}
use Rattle.lf_base.specs.Names.{same_name}
use Rattle.lf_base.specs.Owners.{has_name, is_bridge, is_in, owner_in}
use Rattle.lf_base.specs.Ownership.{Above, is_from, owns, round, step}
use Rattle.lf_base.specs.PlainState.{Row, State}
use Rattle.lf_base.specs.Sets.{Member}
use Rattle.lf_base.specs.TouchedEdges.{OtherBridge, TouchesOther, WritesInto, edges_from}
use Rattle.lf_base.specs.WriteResult.{write_result}
use Rattle.lf_base.specs.declared.ids.ObjId.{ObjId}
use Rattle.lf_base.specs.declared.values.Key.{Key}
use Rattle.lf_base.specs.declared.values.Value.{Value}
use Rattle.lf_base.proofs.ListLemmas.Members.{Member_any, Member_left, Member_of_append, Member_right, any_Member}
use Rattle.lf_base.proofs.NameLemmas.SameNames.{other_way}
use Rattle.lf_laws.proofs.Edges.EdgeParts.{any_same, any_some, some_any}
use Rattle.lf_laws.proofs.Judging.InteriorShown.{new_from}
use Rattle.lf_laws.proofs.Judging.WrittenRegion.{after, any_after, any_movers, edges_before, final, left, local_before, mover_from, new_edges, now, old_edges, owner_moved, owner_stays}
use Rattle.lf_laws.proofs.Owners.OwnersGoRound.{none_above}
use Rattle.lf_laws.proofs.Rows.OwnerTests.{in_not_local, in_region}
use Rattle.lf_laws.proofs.Writes.WriteShows.{write_shows_round}
use Rattle.std.proofs.lemmas.Bool.{and_from, and_parts, both_ways, false_from_ne_true, not-true}

module _ (s : State) (x : ObjId) (k : Key) (v : Value) (home : ObjId) (ms : List ObjId) (w : WritesInto s x v home ms) where
  abbrev rows : List Row
  rows = now s x k v home ms w

  abbrev next : State
  next = after s x k v home ms w

  abbrev new : List Edge
  new = new_edges s x k v home ms w

  abbrev rest : List Edge
  rest = left s x k v home ms w

  abbrev from_moved : List Edge
  from_moved = edges_from s.rows ms

  -- the edge leads from a row of the region to b
  abbrev joins : List Row → ObjId → Edge → Bool
  joins of b e = is_from of home e.from && same_name e.to b

  abbrev to : ObjId → Edge → Bool
  to b e = same_name e.to b

  -- ---- bridges
  pub was_bridge : (b : ObjId) → same_name home b ≡ false → is_bridge rows b ≡ true → is_bridge s.rows b ≡ true
  was_bridge b n h = elim (has_name ms b) as (λ c. has_name ms b ≡ c → is_bridge s.rows b ≡ true) [
    | true ↦ λ t. absurd (both_ways _ (other_way home b n) (sym (ap (is_in b) (owner_moved s x k v home ms w b t)) ∙ h))
    | false ↦ λ t. ap (is_in b) (sym (owner_stays s x k v home ms w b t)) ∙ h
  ] refl

  pub is_bridge_still : (b : ObjId) → is_bridge s.rows b ≡ true → is_bridge rows b ≡ true
  is_bridge_still b h =
      let n : has_name ms b ≡ false = false_from_ne_true _ (λ t. in_not_local b (sym (in_region b (owner_in s.rows b) h) ∙ local_before s x k v home ms w b t)) in
      ap (is_in b) (owner_stays s x k v home ms w b n) ∙ h

  touched_by : (b : ObjId) → OtherBridge s home b → list_any (to b) (new ++ from_moved) ≡ true → TouchesOther s x v home ms b
  touched_by b at h = record { at = at; touched = some_any (to b) (new ++ from_moved) h }

  -- ---- what the region owns after the write was touched, or it owned it before
  was_from : (f : Source) → begins_at ms f ≡ false → is_from rows home f ≡ true → is_from s.rows home f ≡ true
  was_from Slot n h = h
  was_from (Field p) n h = ap (is_in home) (sym (owner_stays s x k v home ms w p n)) ∙ h
  was_from (Content c) n h = h

  by_rest : (b : ObjId) (e : Edge) → Member e rest → is_from rows home e.from ≡ true → same_name e.to b ≡ true
      → (list_any (to b) (new ++ from_moved) ≡ true) ⊎ (list_any (joins s.rows b) (edges s) ≡ true)
  by_rest b e m h t = elim (begins_at ms e.from) as (λ c. begins_at ms e.from ≡ c → (list_any (to b) (new ++ from_moved) ≡ true) ⊎ (list_any (joins s.rows b) (edges s) ≡ true)) [
    | true ↦ λ j.
        let found = any_Member (to b) from_moved (sym (any_movers s x k v home ms w (to b)) ∙ Member_any (λ e. begins_at ms e.from && to b e) e rest m (and_from _ _ j t)) in
        inl (Member_any (to b) found.0 (new ++ from_moved) (Member_right found.0 new from_moved found.1.0) found.1.1)
    | false ↦ λ j.
        let gone : List Edge = old_edges s x k v home ms w in
        inr (any_same (joins s.rows b) (edges s) (joins s.rows b) (gone ++ rest) (edges_before s x k v home ms w (joins s.rows b))
        ∙ Member_any (joins s.rows b) e (gone ++ rest) (Member_right e gone rest m) (and_from _ _ (was_from e.from j h) t))
  ] refl

  owned_by : (b : ObjId) → owns next home b ≡ true → TouchesOther s x v home ms b ⊎ (owns s home b ≡ true)
  owned_by b o =
      let a = and_parts (not (same_name home b)) _ o in
      let c = and_parts (is_bridge rows b) _ a.1 in
      let other = not-true _ a.0 in
      let at : OtherBridge s home b = record { bridge = was_bridge b other c.0; other = other } in
      let found = any_Member (joins rows b) (new ++ rest) (any_after s x k v home ms w (joins rows b) ∙ c.1) in
      let e = found.0 in
      let q = and_parts (is_from rows home e.from) (same_name e.to b) found.1.1 in
      elim (Member_of_append e new rest found.1.0) [
        | inl m ↦ inl (touched_by b at (Member_any (to b) e (new ++ from_moved) (Member_left e new from_moved m) q.1))
        | inr m ↦ elim (by_rest b e m q.0 q.1) [
          | inl t ↦ inl (touched_by b at t)
          | inr t ↦ inr (and_from _ _ a.0 (and_from _ _ at.bridge t))
        ]
      ]

  -- ---- and what was touched it owns
  joined : (b : ObjId) → list_any (to b) (new ++ from_moved) ≡ true → list_any (joins rows b) (new ++ rest) ≡ true
  joined b h =
      let found = any_Member (to b) (new ++ from_moved) h in
      elim (Member_of_append found.0 new from_moved found.1.0) [
        | inl m ↦ Member_any (joins rows b) found.0 (new ++ rest) (Member_left found.0 new rest m) (and_from _ _ (new_from s x k v home ms w found.0 m) found.1.1)
        | inr m ↦
            let there = any_Member (λ e. begins_at ms e.from && to b e) rest (any_movers s x k v home ms w (to b) ∙ Member_any (to b) found.0 from_moved m found.1.1) in
            let q = and_parts (begins_at ms (there.0).from) (to b there.0) there.1.1 in
            Member_any (joins rows b) there.0 (new ++ rest) (Member_right there.0 new rest there.1.0) (and_from _ _ (mover_from s x k v home ms w (there.0).from q.0) q.1)
      ]

  owns_touched : (b : ObjId) → TouchesOther s x v home ms b → owns next home b ≡ true
  owns_touched b t =
      let any : list_any (joins rows b) (edges next) ≡ true = sym (any_after s x k v home ms w (joins rows b)) ∙ joined b (any_some (to b) (new ++ from_moved) t.touched) in
      and_from _ _ (ap not (t.at).other) (and_from _ _ (is_bridge_still b (t.at).bridge) any)

  abbrev Turns : State → Type 0
  Turns z = (round z ≡ []) ↔ ((b : ObjId) → owns z home b ≡ true → Above s b home → ⊥)

  pub round_by_touched : (round (write_result s x k v) ≡ []) ↔ ((b : ObjId) → TouchesOther s x v home ms b → Above s b home → ⊥)
  round_by_touched =
      let shown : Turns next = subst Turns (final s x k v home ms w) (write_shows_round s w.well_formed x k v w.value home w.target) in
      subst (λ z. (round z ≡ []) ↔ ((b : ObjId) → TouchesOther s x v home ms b → Above s b home → ⊥)) (sym (final s x k v home ms w)) (
        (λ e b t a. shown.0 e b (owns_touched b t) a),
        (λ clear. shown.1 (λ b o a. elim (owned_by b o) [
          | inl t ↦ clear b t a
          | inr j ↦ none_above s (w.well_formed).no_round home (step j a)
        ])),
      )
