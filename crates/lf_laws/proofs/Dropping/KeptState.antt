-- The rows that stay of a well-formed state make a well-formed state.
use Rattle.std.proofs.Common.{Bool, List, Some, [], ap, ap₂, cond, false, inl, inr, length, not, refl, subst, sym, true, ◌&&◌, ◌++◌, ◌||◌, ◌∙◌, ◌∷◌, ◌≡◌}
use Rattle.lf_base.specs.declared.ids.CownId.{CownId}
use Rattle.lf_base.specs.declared.ids.ObjId.{ObjId}
use Rattle.lf_base.specs.declared.values.Owner.{Owner}
use Rattle.lf_base.specs.declared.values.Owner.TheVariants.{Frozen, In, Local}
use Rattle.lf_base.specs.Edges.{Content, Edge, Field, Slot, content_edges, edges, row_edges, rows_edges, slot_edges}
use Rattle.lf_base.specs.Kept.{is_owned_by, kept, kept_rows, points, points_into, stays, stays_by_owner}
use Rattle.lf_base.specs.Names.{same_name}
use Rattle.lf_base.specs.Owners.{has_row, is_local_at, or_frozen, owner_in, owner_of}
use Rattle.lf_base.specs.Ownership.{is_owning}
use Rattle.lf_base.specs.PlainState.{Row, State}
use Rattle.lf_base.specs.Sets.{Member}
use Rattle.lf_base.specs.Settling.{CanGo, without}
use Rattle.lf_base.specs.WalkCounts.{is_borrower}
use Rattle.lf_base.specs.WellFormed.{WellFormed, from_content, from_frozen, from_row, may_lead}
use Rattle.lf_laws.proofs.Dropping.BorrowedRegions.{Bridged, leans}
use Rattle.lf_laws.proofs.Rows.RowsByName.{row_of, mem_has, sub_same, owner_has, owner_mem, owner_there}
use Rattle.lf_base.proofs.ListLemmas.Sublists.{sub_filter, sub_shrink}
use Rattle.std.proofs.lemmas.Bool.{and_from, and_parts, both_ways, false_from_ne_true, not-true, or_left, true_from_ne_false}
use Rattle.lf_laws.proofs.Rows.EdgeSources.{at_content, at_frozen, at_row, at_slot, edge_begins}
use Rattle.lf_laws.proofs.Dropping.CountsJustifyDropping.{rest_within}
use Rattle.lf_laws.proofs.Dropping.LeftRows.{well_formed_without}
use Rattle.lf_laws.proofs.Rows.RowEdges.{EdgeRow, IntoRegion, edge_row, to_region}
use Rattle.lf_laws.proofs.Dropping.KeptRows.{joined_has, kept_in, kept_stays, by_owner}
use Rattle.lf_base.proofs.ListLemmas.Members.{Member_any, Within_flat_map, Member_left, Member_right}
use Rattle.lf_base.proofs.NameLemmas.SameNames.{same_name_is, same_name_itself}
use Rattle.lf_base.proofs.ListLemmas.Filters.{Member_filter, Member_of_filter}
use Rattle.lf_laws.proofs.Dropping.RowsInPlace.{rows_in_place, RowsInPlace}
use Rattle.lf_laws.proofs.Dropping.HangingIsWatched.{bare_region, edge_points, kept_row, owning_seen, source, stays_all}
use Rattle.lf_laws.proofs.Dropping.RowsWithout.{kept_without}
use Rattle.lf_laws.proofs.Writes.WriteLaw.{mutable_at}

module _ (s : State) (t : WellFormed s) where
  abbrev g : RowsInPlace s
  g = rows_in_place s t

  -- the rows that don't stay
  abbrev pub lost : ObjId → Bool
  lost o = has_row s.rows o && not (has_row (kept_rows s) o)

  -- what the rows that stay justify stays
  justified : (o : ObjId) (w : Owner) → owner_in s.rows o ≡ Some w → stays_by_owner s (kept_rows s) o w ≡ true → has_row (kept_rows s) o ≡ true
  justified o w h e =
      let y = row_of s.rows o w h in
      let more : List Row = kept_rows s ++ y.row ∷ [] in
      let held : stays_by_owner s more o w ≡ true = by_owner s (kept_rows s) more o w (λ z m. Member_left z (kept_rows s) (y.row ∷ []) m) e in
      let here : stays_by_owner s more (y.row).name (y.row).owner ≡ true = ap₂ (stays_by_owner s more) y.name y.owner ∙ held in
      let m : Member y.row (kept_rows s) = joined_has s (y.row ∷ []) (λ z k. elim k [
        | inl q ↦ (subst (λ x. Member x s.rows) q y.mem, subst (λ (x : Row). stays_by_owner s more x.name x.owner ≡ true) q here)
        | inr q ↦ absurd q
      ]) y.row (inl refl) in
      subst (λ n. has_row (kept_rows s) n ≡ true) y.name (mem_has y.row (kept_rows s) m)

  -- with a row its bridge stays
  pub bridge_stays : (p r : ObjId) → owner_in s.rows p ≡ Some (In r) → has_row (kept_rows s) p ≡ true → has_row (kept_rows s) r ≡ true
  bridge_stays p r own k =
      elim (same_name r p) as (λ b. same_name r p ≡ b → has_row (kept_rows s) r ≡ true) [
        | true ↦ λ e. ap (has_row (kept_rows s)) (same_name_is r p e) ∙ k
        | false ↦ λ e. (and_parts (has_row (kept_rows s) r) (points (kept_rows s) s p)
            (ap (λ c. cond c (is_owned_by (kept_rows s) s r || points_into (kept_rows s) s r) (has_row (kept_rows s) r && points (kept_rows s) s p)) (sym e) ∙ kept_stays s g.distinct p (In r) own k)).0
      ] refl

  -- a bridge with an owning edge from what stays stays
  owned_stays : (r : ObjId) → owner_in s.rows r ≡ Some (In r) → is_owned_by (kept_rows s) s r ≡ true → has_row (kept_rows s) r ≡ true
  owned_stays r own e = justified r (In r) own
      (ap (λ c. cond c (is_owned_by (kept_rows s) s r || points_into (kept_rows s) s r) (has_row (kept_rows s) r && points (kept_rows s) s r)) (same_name_itself r) ∙ or_left _ _ e)

  -- in the region of a row that stays, what it points to stays
  pointed_stays : (o r : ObjId) → owner_in s.rows o ≡ Some (In r) → has_row (kept_rows s) r ≡ true → points (kept_rows s) s o ≡ true → has_row (kept_rows s) o ≡ true
  pointed_stays o r own k e =
      elim (same_name r o) as (λ b. same_name r o ≡ b → has_row (kept_rows s) o ≡ true) [
        | true ↦ λ h. sym (ap (has_row (kept_rows s)) (same_name_is r o h)) ∙ k
        | false ↦ λ h. justified o (In r) own (ap (λ c. cond c (is_owned_by (kept_rows s) s r || points_into (kept_rows s) s r) (has_row (kept_rows s) r && points (kept_rows s) s o)) h ∙ and_from _ _ k e)
      ] refl

  bridged : Bridged s
  bridged = record { distinct = g.distinct; bridge = t.bridge }

  -- what a slot or a row that stays points to stays
  abbrev near : List Edge
  near = slot_edges s.slots ++ rows_edges (kept_rows s)

  slot_leads : (e : Edge) → Member e near → e.from ≡ Slot → (w : Owner) → owner_in s.rows e.to ≡ Some w → has_row (kept_rows s) e.to ≡ true
  slot_leads e m f Local h = justified e.to Local h (edge_points s g (kept_rows s) e m)
  slot_leads e m f (In r) h = leans s bridged r e m (ap (is_borrower s.rows) f) h
  slot_leads e m f Frozen h = absurd (mutable_at s t e.to h)

  region_leads : (e : Edge) → Member e (rows_edges (kept_rows s)) → (x : EdgeRow (kept_rows s) e) → (y : EdgeRow s.rows e) → (x.row ≡ y.row) → (r : ObjId) → owner_in s.rows e.to ≡ Some (In r) → IntoRegion (y.row).owner e.to r → has_row (kept_rows s) e.to ≡ true
  region_leads e m x y same r h (inl near_row) =
      leans s bridged r e (Member_right e (slot_edges s.slots) (rows_edges (kept_rows s)) m) (ap (is_borrower s.rows) y.from ∙ ap is_local_at (owner_mem s.rows g.distinct y.row y.mem ∙ ap Some near_row)) h
  region_leads e m x y same r h (inr (inl own)) =
      pointed_stays e.to r h
      (bridge_stays (y.row).name r (owner_mem s.rows g.distinct y.row y.mem ∙ ap Some own) (subst (λ (z : Row). has_row (kept_rows s) z.name ≡ true) same (mem_has x.row (kept_rows s) x.mem)))
      (edge_points s g (kept_rows s) e (Member_right e (slot_edges s.slots) (rows_edges (kept_rows s)) m))
  region_leads e m x y same r h (inr (inr (q, (own, (other, to))))) =
      let seen : is_owned_by (kept_rows s) s r ≡ true = owning_seen s g (kept_rows s) e (y.row).name q r m y.from (owner_mem s.rows g.distinct y.row y.mem ∙ ap Some own) other to in
      sym (ap (has_row (kept_rows s)) to) ∙ owned_stays r (t.bridge e.to r h) seen

  row_leads_on : (e : Edge) → Member e (rows_edges (kept_rows s)) → (w : Owner) → owner_in s.rows e.to ≡ Some w → has_row (kept_rows s) e.to ≡ true
  row_leads_on e m Local h = justified e.to Local h (edge_points s g (kept_rows s) e (Member_right e (slot_edges s.slots) (rows_edges (kept_rows s)) m))
  row_leads_on e m Frozen h = absurd (mutable_at s t e.to h)
  row_leads_on e m (In r) h =
      let x = edge_row (kept_rows s) e m in
      let y : EdgeRow s.rows e = record { row = x.row; mem = kept_in s x.row x.mem; from = x.from; to = x.to } in
      region_leads e m x y refl r h (to_region (x.row).owner e.to r (source s g e y (In r) h))

  -- the rows that aren't lost are those that stay
  left_kept : (x : Row) → Member x (without s lost).rows → Member x (kept_rows s)
  left_kept x m =
      let p = Member_of_filter (λ (r : Row). not (lost r.name)) x s.rows m in
      kept_row s g x p.0 (true_from_ne_false _ (λ k. both_ways _ (not-true _ p.1) (and_from _ _ (mem_has x s.rows p.0) (ap not k))))

  kept_left : (x : Row) → Member x (kept_rows s) → Member x (without s lost).rows
  kept_left x m = Member_filter (λ (r : Row). not (lost r.name)) x s.rows (kept_in s x m)
      (ap not (false_from_ne_true _ (λ e. both_ways _ (not-true _ (and_parts (has_row s.rows x.name) _ e).1) (mem_has x (kept_rows s) m))))

  content_leads_on : (e : Edge) (d : CownId) → e.from ≡ Content d → Member e (edges s) → Member e (content_edges s.held ++ content_edges s.made) → (w : Owner) → owner_in s.rows e.to ≡ Some w → has_row (kept_rows s) e.to ≡ true
  content_leads_on e d f m n Frozen h = absurd (mutable_at s t e.to h)
  content_leads_on e d f m n Local h =
      let l : from_content e.to (Some Local) ≡ true = ap (λ u. from_content e.to (or_frozen (has_row s.given e.to || has_row s.own e.to) u)) (sym h) ∙ ap (λ z. may_lead s z e.to) (sym f) ∙ t.leads e m in
      cc
  content_leads_on e d f m n (In q) h =
      let l : same_name q e.to ≡ true = ap (λ u. from_content e.to (or_frozen (has_row s.given e.to || has_row s.own e.to) u)) (sym h) ∙ ap (λ z. may_lead s z e.to) (sym f) ∙ t.leads e m in
      owned_stays e.to (h ∙ ap (λ z. Some (In z)) (same_name_is q e.to l))
      (Member_any (λ (b : Edge). is_owning s.rows b.from e.to && same_name b.to e.to) e (rows_edges (kept_rows s) ++ (content_edges s.held ++ content_edges s.made)) (Member_right e (rows_edges (kept_rows s)) _ n)
      (and_from _ _ (ap (λ z. is_owning s.rows z e.to) f) (same_name_itself e.to)))

  frozen_only : (w : Owner) → from_frozen (Some w) ≡ true → w ≡ Frozen
  frozen_only Frozen e = refl
  frozen_only Local e = cc
  frozen_only (In r) e = cc

  pub frozen_leads_on : (e : Edge) (x : Row) → (has_row s.given x.name || has_row s.own x.name) ≡ true → e.from ≡ Field x.name → Member e (edges s) → (w : Owner) → owner_in s.rows e.to ≡ Some w → ⊥
  frozen_leads_on e x n f m w h =
      let own : owner_of s x.name ≡ Some Frozen = (λ i. or_frozen (n i) (g.apart x.name n i)) in
      let l : from_frozen (Some w) ≡ true = (λ i. from_row (sym own i) e.to (or_frozen (has_row s.given e.to || has_row s.own e.to) (sym h i))) ∙ ap (λ z. may_lead s z e.to) (sym f) ∙ t.leads e m in
      mutable_at s t e.to (h ∙ ap Some (frozen_only w l))

  -- no edge that is left leads to a lost row
  left_leads : (e : Edge) → Member e (edges (without s lost)) → (w : Owner) → owner_in s.rows e.to ≡ Some w → has_row (kept_rows s) e.to ≡ true
  left_leads e m w h = elim (edge_begins (without s lost) e m) [
    | at_slot f n ↦ slot_leads e (Member_left e (slot_edges s.slots) (rows_edges (kept_rows s)) n) f w h
    | at_row x n f b ↦ row_leads_on e (Within_flat_map row_edges (without s lost).rows (kept_rows s) left_kept e b) w h
    | at_content d f n ↦ content_leads_on e d f (rest_within s lost e m) n w h
    | at_frozen x n f ↦ absurd (frozen_leads_on e x n f (rest_within s lost e m) w h)
  ]

  pub lost_can_go : CanGo s lost
  lost_can_go = record {
    must = λ o e. let p = and_parts (has_row s.rows o) _ e in record { here = p.0; goes = not-true _ p.1 };
    clear = λ e m. false_from_ne_true _ (λ h.
        let p = and_parts (has_row s.rows e.to) _ h in
        let w = owner_there s.rows g.distinct e.to p.0 in
        both_ways _ (not-true _ p.1) (left_leads e m w.owner w.is));
    whole = λ o r own h. and_from _ _ (owner_has s.rows o (In r) own) (ap not (false_from_ne_true _ (λ k. both_ways _ (not-true _ (and_parts (has_row s.rows r) _ h).1) (bridge_stays o r own k))));
    apart = λ o r own e h b.
        let top = t.bridge o r own in
        let k : has_row (kept_rows s) r ≡ true = true_from_ne_false _ (λ z. both_ways _ h (and_from _ _ (owner_has s.rows r (In r) top) (ap not z))) in
        both_ways _ (bare_region s g r b) (stays_all s g r (In r) top k);
  }

  pub kept_is_left : kept_rows s ≡ (without s lost).rows
  kept_is_left = sub_same (kept_rows s) (without s lost).rows s.rows g.distinct (sub_shrink (stays s) (length s.rows) s.rows) (sub_filter (λ (r : Row). not (lost r.name)) s.rows) kept_left left_kept

  pub well_formed_kept : WellFormed (kept s)
  well_formed_kept = subst (λ rows. WellFormed (record s { rows = rows })) (sym kept_is_left) (well_formed_without s lost t lost_can_go)

  -- all of what stays stays again
  pub kept_again : kept (kept s) ≡ kept s
  kept_again = ap (λ rows. record s { rows = rows })
      (ap (λ rows. kept_rows (record s { rows = rows })) kept_is_left ∙ kept_without s g lost lost_can_go)
