-- What is asked for where a region has an inner row that a slot borrows.
use Rattle.std.proofs.Common.{List, None, Some, arith, inl, refl, subst, sym, ◌++◌, ◌∙◌, ◌≡◌}
use Rattle.std.specs.Prelude.{pos}
use Rattle.lf_base.specs.declared.values.Key.TheVariants.{Int}
use Rattle.lf_base.specs.declared.values.Owner.TheVariants.{In, Local}
use Rattle.lf_base.specs.declared.values.Value.TheVariants.{Obj}
use Rattle.lf_base.specs.EdgeLists.{near_edges}
use Rattle.lf_base.specs.Edges.{Slot, edges_by, slot_targets}
use Rattle.lf_base.specs.PlainChanges.{object_result}
use Rattle.lf_base.specs.WellFormed.{WellFormed}
use Rattle.lf_base.specs.WriteResult.{write_refusal, write_result}
use Rattle.lf_barrier.specs.WritePlans.{IsPlanFor, Planned}
use Rattle.lf_domain.specs.Counts.{Counts, CountsOf, IsDomain}
use Rattle.lf_graph.specs.StoredRows.{CountedRow}
use Rattle.lf_laws.proofs.Changes.FurtherSlot.{slot_law}
use Rattle.lf_laws.proofs.Changes.NewRows.{new_row_keeps}
use Rattle.lf_laws.proofs.Writes.WriteLaw.{write_law}
use Rattle.lf_regions.specs.declared.region.Region.{Region}
use Rattle.lf_trials.specs.BorrowedInner.{borrowed_inner, inner_name, with_inner}
use Rattle.lf_trials.specs.OwnedRegion.{owner_name}
use Rattle.lf_trials.specs.TwoRegions.{two_regions}
use Rattle.lf_trials.proofs.BarrierStates.{holds}
use Rattle.lf_trials.proofs.TwoRegions.{well_two}

pub well_local : WellFormed (object_result two_regions)
well_local = new_row_keeps two_regions Local well_two (inl refl)

-- the write that was planned was made
pub inner_written : (rows : List CountedRow) (regions : List Region) (plan : Planned) → plan.target ≡ owner_name → plan.key ≡ Int (pos 0) → plan.value ≡ Obj inner_name → IsPlanFor (object_result two_regions) plan
    → CountsOf rows regions (write_result (object_result two_regions) plan.target plan.key plan.value) → IsDomain rows regions with_inner
inner_written rows regions plan t k v p c =
    let allowed : write_refusal (object_result two_regions) owner_name (Int (pos 0)) (Obj inner_name) ≡ None = (λ i. write_refusal (object_result two_regions) (sym t i) (sym k i) (sym v i)) ∙ p.allowed in
    record {
      counts = subst (CountsOf rows regions) (λ i. write_result (object_result two_regions) (t i) (k i) (v i)) c;
      well_formed = (write_law (object_result two_regions) well_local owner_name (Int (pos 0)) (Obj inner_name) (holds (object_result two_regions) inner_name refl) (In owner_name) refl).0 allowed;
      few = omega arith;
    }

-- and the slot's edge was counted
pub inner_borrowed : (rows new : List CountedRow) (regions next : List Region) → IsDomain rows regions with_inner → Counts new next with_inner.rows (edges_by Slot (slot_targets (Some (Obj inner_name))) ++ near_edges with_inner)
    → IsDomain new next borrowed_inner
inner_borrowed rows new regions next d c = record {
  counts = c;
  well_formed = (slot_law with_inner (Obj inner_name) d.well_formed).0 (holds with_inner inner_name refl);
  few = omega arith;
}
