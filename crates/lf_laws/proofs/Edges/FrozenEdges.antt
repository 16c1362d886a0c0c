-- Frozen rows lead to frozen rows alone, so near edges tell all counts; and only slots and local rows lead to a local row.
use Rattle.std.proofs.Common.{Bool, None, Option, Some, ap, arith, false, inl, inr, refl, subst, sym, true, ◌&&◌, ◌||◌, ◌∙◌, ◌≡◌}
use Rattle.std.specs.List.{count_by, list_any}
use Rattle.lf_base.specs.EdgeLists.{frozen_edges, near_edges}
use Rattle.lf_base.specs.Edges.{Content, Edge, Field, Slot, Source, edges, rows_edges}
use Rattle.lf_base.specs.Names.{same_name}
use Rattle.lf_base.specs.Owners.{has_row, is_in, is_local_at, or_frozen, owner_in, owner_of}
use Rattle.lf_base.specs.Ownership.{is_owned, is_owning, owning_edges}
use Rattle.lf_base.specs.PlainState.{Row, State}
use Rattle.lf_base.specs.Sets.{Member}
use Rattle.lf_base.specs.WalkCounts.{borrowed, borrows, is_borrower, refs}
use Rattle.lf_base.specs.WellFormed.{WellFormed, from_content, from_row, may_lead}
use Rattle.lf_base.specs.declared.ids.ObjId.{ObjId}
use Rattle.lf_base.specs.declared.values.Owner.{Owner}
use Rattle.lf_base.specs.declared.values.Owner.TheVariants.{Frozen, In, Local}
use Rattle.lf_base.proofs.ListLemmas.Members.{Member_of_append, Member_right}
use Rattle.lf_base.proofs.ListLemmas.Tests.{any_none, none_count}
use Rattle.lf_base.proofs.NameLemmas.SameNames.{same_name_is}
use Rattle.lf_laws.proofs.Dropping.RowsInPlace.{rows_in_place}
use Rattle.lf_laws.proofs.Edges.EdgeParts.{edges_count, edges_parted}
use Rattle.lf_laws.proofs.Rows.OwnerTests.{frozen_target, lead_local, is_or_frozen, local_not_frozen}
use Rattle.lf_laws.proofs.Rows.RowEdges.{edge_row}
use Rattle.lf_laws.proofs.Rows.RowsByName.{mem_has, owner_there}
use Rattle.lf_laws.proofs.Writes.WriteLaw.{mutable_at}
use Rattle.std.proofs.Math.Bool.{or-false, or-true}
use Rattle.std.proofs.lemmas.Bool.{false_from_ne_true, or_left}
use Rattle.std.proofs.lemmas.List.Folds.{list_any-append}
use Rattle.std.proofs.lemmas.Option.{none-some}

frozen_only : (s : State) → WellFormed s → (o : ObjId) → owner_of s o ≡ Some Frozen → (w : Option Owner) → owner_in s.rows o ≡ w → w ≡ None
frozen_only s t o h None e = refl
frozen_only s t o h (Some Frozen) e = absurd (mutable_at s t o e)
frozen_only s t o h (Some Local) e =
    let z : Some Local ≡ Some Frozen = sym (ap (or_frozen (has_row s.given o || has_row s.own o)) e) ∙ h in cc
frozen_only s t o h (Some (In r)) e =
    let z : Some (In r) ≡ Some Frozen = sym (ap (or_frozen (has_row s.given o || has_row s.own o)) e) ∙ h in cc

no_second : (a b : Bool) → b ≡ false → (a && b) ≡ false
no_second true b h = h
no_second false b h = refl

module _ (s : State) (t : WellFormed s) where
  -- a frozen row leads to a frozen row
  by_row : (e : Edge) (x : Row) → (has_row s.given x.name || has_row s.own x.name) ≡ true → e.from ≡ Field x.name → Member e (edges s) → owner_of s e.to ≡ Some Frozen
  by_row e x g f m =
      let w : owner_in s.rows x.name ≡ None = (rows_in_place s t).apart x.name g in
      let lead : from_row (owner_of s x.name) e.to (owner_of s e.to) ≡ true = ap (λ z. may_lead s z e.to) (sym f) ∙ t.leads e m in
      frozen_target (owner_of s e.to) ((λ i. from_row (or_frozen (sym g i) (sym w i)) e.to (owner_of s e.to)) ∙ lead)

  within : (e : Edge) → Member e (frozen_edges s) → Member e (edges s)
  within e m = subst (Member e) (sym (edges_parted s)) (Member_right e (near_edges s) (frozen_edges s) m)

  pub leads_to_frozen : (e : Edge) → Member e (frozen_edges s) → owner_of s e.to ≡ Some Frozen
  leads_to_frozen e m = elim (Member_of_append e (rows_edges s.given) (rows_edges s.own) m) [
    | inl k ↦ let x = edge_row s.given e k in by_row e x.row (or_left _ _ (mem_has x.row s.given x.mem)) x.from (within e m)
    | inr k ↦
        let x = edge_row s.own e k in
        by_row e x.row (ap (λ b. has_row s.given (x.row).name || b) (mem_has x.row s.own x.mem) ∙ or-true _) x.from (within e m)
  ]

  pub no_mutable_target : (e : Edge) → Member e (frozen_edges s) → owner_in s.rows e.to ≡ None
  no_mutable_target e m = frozen_only s t e.to (leads_to_frozen e m) (owner_in s.rows e.to) refl

  -- ---- a test that no edge of a frozen row passes
  module _ (p : Edge → Bool) (none : (e : Edge) → Member e (frozen_edges s) → p e ≡ false) where
    near_counts : count_by p (edges s) ≡ count_by p (near_edges s)
    near_counts = omega (arith, edges_count p s, none_count p (frozen_edges s) none)

    near_any : list_any p (edges s) ≡ list_any p (near_edges s)
    near_any =
        ap (list_any p) (edges_parted s) ∙ list_any-append p (near_edges s) (frozen_edges s)
        ∙ ap (λ b. list_any p (near_edges s) || b) (any_none p (frozen_edges s) none) ∙ or-false (list_any p (near_edges s))

  -- no edge of a frozen row leads to a mutable one
  not_to : (o : ObjId) → has_row s.rows o ≡ true → (e : Edge) → Member e (frozen_edges s) → same_name e.to o ≡ false
  not_to o h e m = false_from_ne_true _ (λ k.
      let w = owner_there s.rows (rows_in_place s t).distinct o h in
      none-some w.owner (sym (no_mutable_target e m) ∙ ap (owner_in s.rows) (same_name_is e.to o k) ∙ w.is))

  pub near_refs : (o : ObjId) → has_row s.rows o ≡ true → refs s o ≡ count_by (λ e. same_name e.to o) (near_edges s)
  near_refs o h = near_counts (λ e. same_name e.to o) (not_to o h)

  pub near_borrowed : (r : ObjId) → borrowed s r ≡ count_by (borrows s.rows r) (near_edges s)
  near_borrowed r = near_counts (borrows s.rows r) (λ e m. no_second (is_borrower s.rows e.from) _ (ap (is_in r) (no_mutable_target e m)))

  abbrev owning : ObjId → Edge → Bool
  owning r e = is_owning s.rows e.from r && same_name e.to r

  not_owning : (r : ObjId) → has_row s.rows r ≡ true → (e : Edge) → Member e (frozen_edges s) → owning r e ≡ false
  not_owning r h e m = no_second (is_owning s.rows e.from r) _ (not_to r h e m)

  pub near_owning : (r : ObjId) → has_row s.rows r ≡ true → owning_edges s r ≡ count_by (λ e. is_owning s.rows e.from r && same_name e.to r) (near_edges s)
  near_owning r h = near_counts (owning r) (not_owning r h)

  pub near_owned : (r : ObjId) → has_row s.rows r ≡ true → is_owned s r ≡ list_any (λ e. is_owning s.rows e.from r && same_name e.to r) (near_edges s)
  near_owned r h = near_any (owning r) (not_owning r h)

  -- ---- edges to local rows
  near_source : (f : Source) (o : ObjId) → owner_in s.rows o ≡ Some Local → may_lead s f o ≡ true → is_borrower s.rows f ≡ true
  near_source Slot o h lead = refl
  near_source (Field p) o h lead =
      let c : Bool = has_row s.given o || has_row s.own o in
      let w : owner_of s p ≡ Some Local = lead_local (owner_of s p) o ((λ i. from_row (owner_of s p) o (or_frozen c (sym h i))) ∙ lead) in
      ap is_local_at (is_or_frozen (has_row s.given p || has_row s.own p) (owner_in s.rows p) Local local_not_frozen w)
  near_source (Content d) o h lead =
      let c : Bool = has_row s.given o || has_row s.own o in
      let z : false ≡ true = (λ i. from_content o (or_frozen c (sym h i))) ∙ lead in cc

  pub borrowed_local : (e : Edge) → Member e (edges s) → owner_in s.rows e.to ≡ Some Local → is_borrower s.rows e.from ≡ true
  borrowed_local e m h = near_source e.from e.to h (t.leads e m)
