-- The end of a behaviour leaves a well-formed state, in which every region is closed.
use Rattle.std.proofs.Common.{Bool, List, Some, [], ap, cond, false, inl, inr, not, refl, subst, sym, true, ◌&&◌, ◌++◌, ◌||◌, ◌∙◌, ◌∷◌, ◌≡◌}
use Rattle.std.specs.List.{filter}
use Rattle.std.specs.Prelude.{ltb}
use Rattle.lf_base.specs.declared.ids.ObjId.{ObjId}
use Rattle.lf_base.specs.declared.values.Owner.{Owner}
use Rattle.lf_base.specs.declared.values.Owner.TheVariants.{Frozen, In, Local}
use Rattle.lf_base.specs.Edges.{Content, Edge, Field, Slot, Source, edges}
use Rattle.lf_base.specs.EndResult.{end_result, without_near}
use Rattle.lf_base.specs.Kept.{kept}
use Rattle.lf_base.specs.Names.{is_local}
use Rattle.lf_base.specs.Owners.{has_row, is_in, is_local_at, names, or_frozen, owner_in}
use Rattle.lf_base.specs.Ownership.{below}
use Rattle.lf_base.specs.PlainChanges.{with_slots}
use Rattle.lf_base.specs.PlainState.{Row, State}
use Rattle.lf_base.specs.Sets.{Member}
use Rattle.lf_base.specs.Settling.{without}
use Rattle.lf_base.specs.WalkCounts.{borrowed, borrows, is_borrower, is_open}
use Rattle.lf_base.specs.WellFormed.{WellFormed, from_content, may_lead}
use Rattle.lf_laws.proofs.Rows.RowsByName.{Distinct, row_of, owner_has, owner_mem, differ_rows}
use Rattle.lf_base.proofs.ListLemmas.Tests.{any_none, none_count}
use Rattle.lf_laws.proofs.Rows.EdgeSources.{at_content, at_frozen, at_row, at_slot, edge_begins}
use Rattle.lf_laws.proofs.Dropping.CountsJustifyDropping.{rest_within}
use Rattle.lf_laws.proofs.Dropping.KeptState.{frozen_leads_on, kept_again, well_formed_kept}
use Rattle.lf_laws.proofs.Dropping.LeftRows.{MayLeave, left_well_formed}
use Rattle.lf_laws.proofs.Dropping.KeptRows.{kept_in}
use Rattle.std.proofs.lemmas.Bool.{both_ways, false_from_ne_true, not-true, or_from}
use Rattle.lf_laws.proofs.Rows.RowEdges.{row_leads, to_local}
use Rattle.lf_laws.proofs.Rows.OwnerTests.{in_not_local, local_at_is}
use Rattle.lf_laws.proofs.Changes.SameOwners.{slots_keep}
use Rattle.lf_base.proofs.ListLemmas.Filters.{Member_of_filter}

module _ (s : State) (t : WellFormed s) where
  -- without slots
  abbrev bare : State
  bare = with_slots s []

  bare_whole : WellFormed bare
  bare_whole = slots_keep s [] t (λ v m. absurd m)

  abbrev local_name : ObjId → Bool
  local_name o = is_local_at (owner_in s.rows o)

  rows_differ : Distinct s.rows
  rows_differ = differ_rows s.rows (names s.given ++ names s.own) t.names_differ

  local_or : (o : ObjId) → local_name o ≡ true → owner_in s.rows o ≡ Some Local
  local_or o e = local_at_is (owner_in s.rows o) e

  -- no row that is left, no content and no frozen row leads to a local row
  not_to_local : (e : Edge) → Member e (edges (without bare local_name)) → owner_in s.rows e.to ≡ Some Local → ⊥
  not_to_local e m h = elim (edge_begins (without bare local_name) e m) [
    | at_slot f n ↦ absurd n
    | at_row x n f b ↦
        let k = Member_of_filter (λ (r : Row). not (local_name r.name)) x s.rows n in
        let l = row_leads bare rows_differ bare_whole.leads x k.0 e (rest_within bare local_name e m) f Local h in
        both_ways _ (not-true _ k.1) (ap is_local_at (owner_mem s.rows rows_differ x k.0 ∙ ap Some (to_local x.owner e.to l)))
    | at_content d f n ↦
        let l : from_content e.to (Some Local) ≡ true = ap (λ u. from_content e.to (or_frozen (has_row s.given e.to || has_row s.own e.to) u)) (sym h) ∙ ap (λ z. may_lead bare z e.to) (sym f) ∙ bare_whole.leads e (rest_within bare local_name e m) in
        cc
    | at_frozen x n f ↦ frozen_leads_on bare bare_whole e x n f (rest_within bare local_name e m) Local h
  ]

  local_may_leave : MayLeave bare local_name
  local_may_leave = record {
    here = λ o e. owner_has s.rows o Local (local_or o e);
    clear = λ e m. false_from_ne_true _ (λ h. not_to_local e m (local_or e.to h));
    whole = λ o r own e. absurd (in_not_local r (sym (t.bridge o r own) ∙ local_or r e));
  }

  own_local : (w : Owner) → is_local w ≡ is_local_at (Some w)
  own_local Local = refl
  own_local (In r) = refl
  own_local Frozen = refl

  same_part : (p q : Row → Bool) (rows : List Row) → ((x : Row) → Member x rows → p x ≡ q x) → filter p rows ≡ filter q rows
  same_part p q [] h = refl
  same_part p q (x ∷ xs) h = (λ i. cond (h x (inl refl) i) (x ∷ same_part p q xs (λ y m. h y (inr m)) i) (same_part p q xs (λ y m. h y (inr m)) i))

  by_row : (x : Row) → Member x s.rows → not (is_local x.owner) ≡ not (local_name x.name)
  by_row x m = ap not (own_local x.owner ∙ sym (ap is_local_at (owner_mem s.rows rows_differ x m)))

  rows_left : (without_near s).rows ≡ (without bare local_name).rows
  rows_left = same_part (λ r. not (is_local r.owner)) (λ r. not (local_name r.name)) s.rows by_row

  without_near_whole : WellFormed (without_near s)
  without_near_whole = subst (λ rows. WellFormed (record s { slots = []; rows = rows })) (sym rows_left) (left_well_formed bare local_name bare_whole local_may_leave)

  pub end_again : kept (end_result s) ≡ end_result s
  end_again = kept_again (without_near s) without_near_whole

  pub end_keeps : WellFormed (end_result s)
  end_keeps = well_formed_kept (without_near s) without_near_whole

-- ---- and closes all regions
no_local : (s : State) (p : ObjId) → is_local_at (owner_in (end_result s).rows p) ≡ true → ⊥
no_local s p e =
    let x = row_of (end_result s).rows p Local (local_at_is (owner_in (end_result s).rows p) e) in
    let k = Member_of_filter (λ (r : Row). not (is_local r.owner)) x.row s.rows (kept_in (without_near s) x.row x.mem) in
    both_ways _ (not-true _ k.1) (ap is_local x.owner)

no_borrower : (s : State) (e : Edge) → Member e (edges (end_result s)) → (f : Source) → e.from ≡ f → is_borrower (end_result s).rows f ≡ false
no_borrower s e m Slot h = elim (edge_begins (end_result s) e m) [
  | at_slot f n ↦ absurd n
  | at_row x n f b ↦ let z = sym f ∙ h in cc
  | at_content d f n ↦ let z = sym f ∙ h in cc
  | at_frozen x n f ↦ let z = sym f ∙ h in cc
]
no_borrower s e m (Field p) h = false_from_ne_true _ (no_local s p)
no_borrower s e m (Content c) h = refl

unborrowed : (s : State) (r : ObjId) → borrowed (end_result s) r ≡ 0
unborrowed s r = none_count (borrows (end_result s).rows r) (edges (end_result s)) (λ e m. ap (λ b. b && is_in r (owner_in (end_result s).rows e.to)) (no_borrower s e m e.from refl))

pub end_closes : (s : State) (r : ObjId) → is_open (end_result s) r ≡ false
end_closes s r = or_from _ _ (ap (ltb 0) (unborrowed s r)) (any_none (λ c. ltb 0 (borrowed (end_result s) c)) (below (end_result s) r) (λ c m. ap (ltb 0) (unborrowed s c)))
