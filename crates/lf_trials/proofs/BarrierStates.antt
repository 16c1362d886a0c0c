-- Writes and contents that the barrier is asked for where two regions are, and a local object.
use Rattle.std.proofs.Common.{List, arith, inl, inr, refl, ap, sym, true, ◌∙◌, ◌≡◌}
use Rattle.lf_base.specs.declared.ids.ObjId.{ObjId}
use Rattle.lf_base.specs.declared.values.Value.TheVariants.{Obj}
use Rattle.lf_base.specs.Owners.{owner_of}
use Rattle.lf_base.specs.PlainChanges.{object_result}
use Rattle.lf_base.specs.PlainState.{State}
use Rattle.lf_base.specs.WellFormed.{SlotMayHold, from_near}
use Rattle.lf_barrier.specs.WritePlans.{IsAsked}
use Rattle.lf_domain.specs.Counts.{CountsOf, IsDomain}
use Rattle.lf_graph.specs.StoredRows.{CountedRow}
use Rattle.lf_regions.specs.declared.region.Region.{Region}
use Rattle.lf_trials.specs.TwoRegions.{two_regions}
use Rattle.lf_trials.proofs.TwoRegions.{home, local, local_domain, well_two}

pub holds : (s : State) (o : ObjId) → from_near (owner_of s o) ≡ true → SlotMayHold s (Obj o)
holds s o h = record { object_there = λ p m. elim m as (λ _. from_near (owner_of s p) ≡ true) [ inl e ↦ ap (λ q. from_near (owner_of s q)) (sym e) ∙ h | inr n ↦ absurd n ]; cown_numbered = λ c m b. absurd m }

pub asked : (rows : List CountedRow) (regions : List Region) → CountsOf rows regions (object_result two_regions) → IsAsked rows regions (object_result two_regions) home (Obj local)
asked rows regions c = record {
  domain = local_domain rows rows regions (λ w. refl) c;
  target = holds (object_result two_regions) home refl;
  value = holds (object_result two_regions) local refl;
}

pub two_domain : (rows : List CountedRow) (regions : List Region) → CountsOf rows regions two_regions → IsDomain rows regions two_regions
two_domain rows regions c = record { counts = c; well_formed = well_two; few = omega arith }
