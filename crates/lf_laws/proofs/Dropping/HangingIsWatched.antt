-- Where each row that must go hangs on a suspect, whatever nothing justifies is watched by one.
use Rattle.std.proofs.Common.{List, Some, ap, cond, false, inl, inr, not, refl, subst, sym, true, ◌&&◌, ◌++◌, ◌||◌, ◌∙◌, ◌≡◌}
use Rattle.lf_base.specs.declared.ids.ObjId.{ObjId}
use Rattle.lf_base.specs.declared.values.Owner.{Owner}
use Rattle.lf_base.specs.declared.values.Owner.TheVariants.{In, Local}
use Rattle.lf_base.specs.Edges.{Edge, Field, content_edges, rows_edges, slot_edges}
use Rattle.lf_base.specs.Kept.{is_owned_by, kept_rows, points, points_into, stays_by_owner}
use Rattle.lf_base.specs.Names.{same_name}
use Rattle.lf_base.specs.Owners.{has_row, is_in, is_local_at, owner_in}
use Rattle.lf_base.specs.Ownership.{is_in_other, is_owning}
use Rattle.lf_base.specs.PlainState.{Row, State}
use Rattle.lf_base.specs.Sets.{Member}
use Rattle.lf_base.specs.Settling.{Watched, WatchedBy}
use Rattle.lf_base.specs.Suspects.{AllHang, Bare, Hangs, LeadsTo, MustGo, Object, Region, Suspect, by_region, by_row, by_row_into, itself}
use Rattle.lf_base.specs.WalkCounts.{is_borrower}
use Rattle.lf_base.specs.WellFormed.{from_row}
use Rattle.lf_laws.proofs.Rows.RowsByName.{row_there, owner_has, owner_is, owner_mem, same_row}
use Rattle.std.proofs.lemmas.Bool.{and_from, both_ways, and_right, false_from_ne_true, or_from}
use Rattle.lf_laws.proofs.Rows.RowEdges.{EdgeRow, edge_in, edge_row, row_edge, row_leads, to_region, field_is}
use Rattle.lf_laws.proofs.Rows.OwnerTests.{in_is}
use Rattle.lf_laws.proofs.Dropping.KeptRows.{kept_in, kept_stays, by_owner}
use Rattle.lf_base.proofs.ListLemmas.Members.{Member_any, Member_left, Member_right}
use Rattle.lf_base.proofs.NameLemmas.SameNames.{same_name_itself}
use Rattle.lf_laws.proofs.Dropping.RowsInPlace.{RowsInPlace}

module _ (s : State) (g : RowsInPlace s) where
  abbrev near_edges : List Row → List Edge
  near_edges rows = slot_edges s.slots ++ rows_edges rows

  pub kept_row : (x : Row) → Member x s.rows → has_row (kept_rows s) x.name ≡ true → Member x (kept_rows s)
  kept_row x m h = let t = row_there (kept_rows s) x.name h in subst (λ y. Member y (kept_rows s)) (same_row s.rows g.distinct t.0 x (kept_in s t.0 t.1.0) m t.1.1) t.1.0

  pub edge_points : (rows : List Row) (e : Edge) → Member e (near_edges rows) → points rows s e.to ≡ true
  edge_points rows e m = Member_any (λ (d : Edge). same_name d.to e.to) e (near_edges rows) m (same_name_itself e.to)

  pub borrow_seen : (rows : List Row) (e : Edge) (r : ObjId) → Member e (near_edges rows) → is_borrower s.rows e.from ≡ true → owner_in s.rows e.to ≡ Some (In r) → points_into rows s r ≡ true
  borrow_seen rows e r m n h = Member_any _ e (near_edges rows) m (and_from _ _ n (ap (is_in r) h ∙ same_name_itself r))

  pub owning_seen : (rows : List Row) (e : Edge) (p q r : ObjId) → Member e (rows_edges rows) → e.from ≡ Field p → owner_in s.rows p ≡ Some (In q) → same_name q r ≡ false → r ≡ e.to → is_owned_by rows s r ≡ true
  owning_seen rows e p q r m f own other to =
      Member_any _ e (rows_edges rows ++ (content_edges s.held ++ content_edges s.made)) (Member_left e (rows_edges rows) _ m)
      (and_from _ _ (ap (λ z. is_owning s.rows z r) f ∙ ap (is_in_other r) own ∙ ap not other) (ap (λ n. same_name n r) (sym to) ∙ same_name_itself r))

  pub source : (e : Edge) (t : EdgeRow s.rows e) → (w : Owner) → owner_in s.rows e.to ≡ Some w → from_row (Some ((t.row).owner)) e.to (Some w) ≡ true
  source e t w h = row_leads s g.distinct g.leads t.row t.mem e (edge_in s e (row_edge s.rows t.row e t.mem t.from t.to)) t.from w h

  -- only rows of a bare region lead into it
  pub inside : (r : ObjId) → Bare s r → (p q : ObjId) → LeadsTo s p q → owner_in s.rows q ≡ Some (In r) → owner_in s.rows p ≡ Some (In r)
  inside r b p q m h =
      let e : Edge = record { from = Field p; to = q } in
      let t : EdgeRow s.rows e = edge_row s.rows e m in
      let own : owner_in s.rows p ≡ Some ((t.row).owner) = ap (owner_in s.rows) (field_is p (t.row).name t.from) ∙ owner_mem s.rows g.distinct t.row t.mem in
      elim (to_region ((t.row).owner) q r (source e t (In r) h)) [
        | inl n ↦ absurd (both_ways _ b.unborrowed (borrow_seen s.rows e r (Member_right e (slot_edges s.slots) _ m) (ap is_local_at (own ∙ ap Some n)) h))
        | inr (inl n) ↦ own ∙ ap Some n
        | inr (inr z) ↦ absurd (both_ways _ b.unowned (owning_seen s.rows e p z.0 r m refl (own ∙ ap Some z.1.0) z.1.1.0 z.1.1.1))
      ]

  hang_region : (w : List Suspect) (r : ObjId) → Bare s r → (o : ObjId) → owner_in s.rows o ≡ Some (In r) → Hangs s w o → WatchedBy s w r
  hang_region w r b o h (itself m) = (Object o, (m, h))
  hang_region w r b o h (by_region q k t m) = (Region q, (m, in_is q r (owner_is s.rows o (In q) (In r) k h)))
  hang_region w r b o h (by_row p e t k) = hang_region w r b p (inside r b p o e h) k
  hang_region w r b o h (by_row_into p q n k t i e j z) =
      hang_region w r b p (inside r b p q e (i ∙ ap (λ m. Some (In m)) (in_is n r (owner_is s.rows o (In n) (In r) k h)))) z

  -- what stays is justified by all rows
  pub stays_all : (o : ObjId) (w : Owner) → owner_in s.rows o ≡ Some w → has_row (kept_rows s) o ≡ true → stays_by_owner s s.rows o w ≡ true
  stays_all o w e h = by_owner s (kept_rows s) s.rows o w (kept_in s) (kept_stays s g.distinct o w e h)

  pub bare_goes : (o : ObjId) (w : Owner) → owner_in s.rows o ≡ Some w → stays_by_owner s s.rows o w ≡ false → MustGo s o
  bare_goes o w e h = record { here = owner_has s.rows o w e; goes = false_from_ne_true _ (λ k. both_ways _ h (stays_all o w e k)) }

  pub bare_region : (r : ObjId) → Bare s r → stays_by_owner s s.rows r (In r) ≡ false
  bare_region r b = ap (λ c. cond c (is_owned_by s.rows s r || points_into s.rows s r) (has_row s.rows r && points s.rows s r)) (same_name_itself r) ∙ or_from _ _ b.unowned b.unborrowed

  pub bare_inner : (o r : ObjId) → same_name r o ≡ false → points s.rows s o ≡ false → stays_by_owner s s.rows o (In r) ≡ false
  bare_inner o r n h = ap (λ c. cond c (is_owned_by s.rows s r || points_into s.rows s r) (has_row s.rows r && points s.rows s o)) n ∙ and_right _ _ h

  hit : (p o : ObjId) → LeadsTo s p o → points s.rows s o ≡ true
  hit p o m = edge_points s.rows (record { from = Field p; to = o }) (Member_right _ (slot_edges s.slots) _ m)

  hang_local : (w : List Suspect) (o : ObjId) → owner_in s.rows o ≡ Some Local → points s.rows s o ≡ false → Hangs s w o → Member (Object o) w
  hang_local w o h n (itself m) = m
  hang_local w o h n (by_region q k t m) = let x = owner_is s.rows o Local (In q) h k in cc
  hang_local w o h n (by_row p e t k) = absurd (both_ways _ n (hit p o e))
  hang_local w o h n (by_row_into p q z k t i e j y) = let x = owner_is s.rows o Local (In z) h k in cc

  hang_inner : (w : List Suspect) (o r : ObjId) → owner_in s.rows o ≡ Some (In r) → has_row (kept_rows s) r ≡ true → points s.rows s o ≡ false → Hangs s w o → Member (Object o) w
  hang_inner w o r h b n (itself m) = m
  hang_inner w o r h b n (by_region q k t m) = absurd (both_ways _ (subst (λ z. has_row (kept_rows s) z ≡ false) (in_is q r (owner_is s.rows o (In q) (In r) k h)) t.goes) b)
  hang_inner w o r h b n (by_row p e t k) = absurd (both_ways _ n (hit p o e))
  hang_inner w o r h b n (by_row_into p q z k t i e j y) = absurd (both_ways _ (subst (λ m. has_row (kept_rows s) m ≡ false) (in_is z r (owner_is s.rows o (In z) (In r) k h)) t.goes) b)

  -- where each row that must go hangs on a suspect, each bare unit is one
  pub hang_watched : (w : List Suspect) → AllHang s w → Watched s w
  hang_watched w h = record {
    locals = λ o e n. hang_local w o e n (h o (bare_goes o Local e n));
    regions = λ r e b. hang_region w r b r e (h r (bare_goes r (In r) e (bare_region r b)));
    inners = λ o r e d k n. hang_inner w o r e k n (h o (bare_goes o (In r) e (bare_inner o r d n)));
  }
