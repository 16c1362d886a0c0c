-- What is asked for where one region owns another one.
use Rattle.std.proofs.Common.{List, None, Some, arith, refl, subst, sym, true, ◌∙◌, ◌≡◌}
use Rattle.std.specs.Prelude.{pos}
use Rattle.lf_base.specs.declared.ids.ObjId.{ObjId}
use Rattle.lf_base.specs.declared.values.Key.TheVariants.{Int}
use Rattle.lf_base.specs.declared.values.Owner.TheVariants.{In}
use Rattle.lf_base.specs.declared.values.Value.TheVariants.{Obj}
use Rattle.lf_base.specs.DissolveResult.{dissolve_result}
use Rattle.lf_base.specs.EdgeLists.{near_edges}
use Rattle.lf_base.specs.MergeResult.{merge_result}
use Rattle.lf_base.specs.Owners.{bridge_of, is_bridge}
use Rattle.lf_base.specs.PlainState.{State}
use Rattle.lf_base.specs.WriteResult.{write_refusal, write_result}
use Rattle.lf_base.proofs.ListLemmas.Tests.{some_is}
use Rattle.lf_barrier.specs.WritePlans.{IsAsked, IsPlanFor, Planned}
use Rattle.lf_domain.specs.Counts.{CountsOf, IsDomain}
use Rattle.lf_domain.proofs.CountedEdges.{same_rows_count}
use Rattle.lf_graph.specs.StoredRows.{CountedRow, SameByOwner}
use Rattle.lf_laws.proofs.Writes.WriteLaw.{write_law}
use Rattle.lf_regions.specs.declared.region.Region.{Region}
use Rattle.lf_trials.specs.OwnedRegion.{child_name, owner_name, with_child}
use Rattle.lf_trials.specs.TwoRegions.{two_regions}
use Rattle.lf_trials.proofs.BarrierStates.{holds, two_domain}
use Rattle.lf_trials.proofs.TwoRegions.{well_two}

pub child_asked : (rows : List CountedRow) (regions : List Region) → CountsOf rows regions two_regions → IsAsked rows regions two_regions owner_name (Obj child_name)
child_asked rows regions c = record { domain = two_domain rows regions c; target = holds two_regions owner_name refl; value = holds two_regions child_name refl }

-- a store with the same rows
pub still : (rows new : List CountedRow) (regions : List Region) (s : State) → SameByOwner new rows → IsDomain rows regions s → IsDomain new regions s
still rows new regions s same d = record { counts = same_rows_count rows new regions s.rows (near_edges s) same d.counts; well_formed = d.well_formed; few = d.few }

-- the write that was planned was made
pub child_owned : (rows : List CountedRow) (regions : List Region) (plan : Planned) → plan.target ≡ owner_name → plan.key ≡ Int (pos 0) → plan.value ≡ Obj child_name → IsPlanFor two_regions plan
    → CountsOf rows regions (write_result two_regions plan.target plan.key plan.value) → IsDomain rows regions with_child
child_owned rows regions plan t k v p c =
    let allowed : write_refusal two_regions owner_name (Int (pos 0)) (Obj child_name) ≡ None = (λ i. write_refusal two_regions (sym t i) (sym k i) (sym v i)) ∙ p.allowed in
    record {
      counts = subst (CountsOf rows regions) (λ i. write_result two_regions (t i) (k i) (v i)) c;
      well_formed = (write_law two_regions well_two owner_name (Int (pos 0)) (Obj child_name) (holds two_regions child_name refl) (In owner_name) refl).0 allowed;
      few = omega arith;
    }

-- after a merge and after a dissolving the child is a bridge still
pub merged_bridge : (into from : ObjId) → bridge_of with_child (Obj child_name) ≡ Some into → bridge_of with_child (Obj owner_name) ≡ Some from → is_bridge (merge_result with_child into from).rows child_name ≡ true
merged_bridge into from i f =
    let a : child_name ≡ into = some_is child_name into i in
    let b : owner_name ≡ from = some_is owner_name from f in
    subst (λ q. is_bridge (merge_result with_child q from).rows child_name ≡ true) a (subst (λ q. is_bridge (merge_result with_child child_name q).rows child_name ≡ true) b refl)

pub dissolved_bridge : (region : ObjId) → bridge_of with_child (Obj owner_name) ≡ Some region → is_bridge (dissolve_result with_child region).rows child_name ≡ true
dissolved_bridge region f = subst (λ q. is_bridge (dissolve_result with_child q).rows child_name ≡ true) (some_is owner_name region f) refl
