-- What may be counted, and taken out of the counts, where the store and the table are those of a well-formed state.
use Rattle.std.proofs.Common.{Bool, List, None, Option, Some, ap, false, not, refl, subst, sym, true, ◌++◌, ◌||◌, ◌∙◌, ◌≡◌, ◌≤◌}
use Rattle.std.proofs.lemmas.Bool.{not-true}
use Rattle.lf_base.specs.declared.ids.ObjId.{ObjId}
use Rattle.lf_base.specs.declared.values.Owner.{Owner}
use Rattle.lf_base.specs.declared.values.Owner.TheVariants.{In}
use Rattle.lf_base.specs.EdgeLists.{SameEdges, frozen_edges, near_edges}
use Rattle.lf_base.specs.Edges.{Content, Edge, Field, Slot, Source, edges_by}
use Rattle.lf_base.specs.Names.{same_name}
use Rattle.lf_base.specs.Owners.{has_row, or_frozen, owner_in, owner_of}
use Rattle.lf_base.specs.PlainState.{State}
use Rattle.lf_base.specs.Sets.{Member}
use Rattle.lf_base.specs.WalkCounts.{is_borrower}
use Rattle.lf_base.specs.WellFormed.{WellFormed, from_content, from_row, may_lead}
use Rattle.lf_base.proofs.ListLemmas.Members.{Member_left, Member_map}
use Rattle.lf_base.proofs.ListLemmas.Tests.{any_none, none_any}
use Rattle.lf_base.proofs.NameLemmas.SameNames.{same_name_is}
use Rattle.lf_graph.specs.StoredRows.{CountedRow}
use Rattle.lf_laws.proofs.Edges.EdgeParts.{edges_parted}
use Rattle.lf_regions.specs.declared.region.Region.{Region}
use Rattle.lf_domain.specs.Counts.{IsDomain}
use Rattle.lf_domain.specs.OneEdge.{HasOneOwner, LiesIn, MayCount, MayCountOwner, MayUncount, MayUncountOwner, OnlyBridges, is_other_region}
use Rattle.lf_domain.proofs.EdgeTests.{same_any}
use Rattle.lf_laws.proofs.Edges.FrozenEdges.{near_owning}
use Rattle.lf_domain.proofs.NearCounts.{bridge_has_row}

not_not : (b : Bool) → not b ≡ false → b ≡ true
not_not true e = refl
not_not false e = cc

-- what all edges of one list pass, those of a list with the same edges pass
pub passes_on : (p : Edge → Bool) (xs ys : List Edge) → SameEdges xs ys → ((e : Edge) → Member e xs → p e ≡ true) → (e : Edge) → Member e ys → p e ≡ true
passes_on p xs ys same h e m =
    not_not (p e) (none_any (λ x. not (p x)) ys (sym (same_any (λ x. not (p x)) xs ys same) ∙ any_none (λ x. not (p x)) xs (λ x n. ap not (h x n))) e m)

module _ (s : State) (well : WellFormed s) where
  near_leads : (e : Edge) → Member e (near_edges s) → may_lead s e.from e.to ≡ true
  near_leads e m = well.leads e (subst (Member e) (sym (edges_parted s)) (Member_left e (near_edges s) (frozen_edges s) m))

  pub one_owner : HasOneOwner s.rows (near_edges s)
  one_owner r b = subst (λ n. n ≤ 1) (near_owning s well r (bridge_has_row s well r b)) (well.one_owner r b)

  found_owner : (o : ObjId) (w : Owner) → owner_in s.rows o ≡ Some w → owner_of s o ≡ Some w
  found_owner o w k = ap (or_frozen (has_row s.given o || has_row s.own o)) k

  -- from a row of a region and from a content an edge leads to another region's bridge alone
  pub leads_to_bridge : (from : Source) (home : Option ObjId) → LiesIn s.rows from home → (o r : ObjId) → may_lead s from o ≡ true → owner_in s.rows o ≡ Some (In r) → is_other_region home r ≡ true → r ≡ o
  leads_to_bridge Slot home l o r m k other = absurd l
  leads_to_bridge (Field p) None l o r m k other = absurd l
  leads_to_bridge (Field p) (Some home) l o r m k other =
      let inner : (same_name home r || same_name r o) ≡ true =
      sym (ap (λ w. from_row w o (owner_of s o)) (found_owner p (In home) l) ∙ ap (λ w. from_row (Some (In home)) o w) (found_owner o (In r) k)) ∙ m in
      same_name_is r o (sym (ap (λ b. b || same_name r o) (not-true (same_name home r) other)) ∙ inner)
  leads_to_bridge (Content c) None l o r m k other = same_name_is r o (sym (ap (from_content o) (found_owner o (In r) k)) ∙ m)
  leads_to_bridge (Content c) (Some home) l o r m k other = absurd l

  pub only_bridges : (from : Source) (os : List ObjId) (fs : List Edge) (home : Option ObjId) → SameEdges (near_edges s) (edges_by from os ++ fs) → LiesIn s.rows from home → OnlyBridges s.rows os home
  only_bridges from os fs home same l o r m k other =
      let e : Edge = record { from = from; to = o } in
      let there : Member e (edges_by from os ++ fs) = Member_left e (edges_by from os) fs (Member_map (λ q. record { from = from; to = q }) o os m) in
      leads_to_bridge from home l o r (passes_on (λ x. may_lead s x.from x.to) (near_edges s) (edges_by from os ++ fs) same near_leads e there) k other

module _ (rows : List CountedRow) (regions : List Region) (s : State) (d : IsDomain rows regions s) where
  pub may_count : MayCount rows regions s.rows (near_edges s)
  may_count = record { counts = d.counts; bridges = (d.well_formed).bridge; few = d.few }

  pub may_count_owner : (from : Source) (os : List ObjId) (home : Option ObjId) → LiesIn s.rows from home → OnlyBridges s.rows os home → MayCountOwner rows regions s.rows (near_edges s) from os home
  may_count_owner from os home l leads = record { counts = d.counts; bridges = (d.well_formed).bridge; lies = l; leads = leads; few = d.few }

  module _ (from : Source) (os : List ObjId) (fs : List Edge) (same : SameEdges (near_edges s) (edges_by from os ++ fs)) where
    pub may_uncount : is_borrower s.rows from ≡ true → MayUncount rows regions s.rows (near_edges s) fs from os
    may_uncount near = record { counts = d.counts; bridges = (d.well_formed).bridge; near = near; edges = same }

    pub may_uncount_owner : (home : Option ObjId) → LiesIn s.rows from home → MayUncountOwner rows regions s.rows (near_edges s) fs from os home
    may_uncount_owner home l = record {
      counts = d.counts;
      bridges = (d.well_formed).bridge;
      lies = l;
      leads = only_bridges s d.well_formed from os fs home same l;
      edges = same;
      one = one_owner s d.well_formed;
    }
