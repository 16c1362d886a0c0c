use Rattle.std.proofs.Common.{[], refl}
use Rattle.lf_base.specs.PlainChanges.{first_state, region_result}
use Rattle.lf_trials.proofs.TwoRegions.{none_yet, well_none, well_one}
use Rattle.lf_trials.proofs.counted_edges.made_regions.Goals as goal

pub add_region-requires-clause-next : goal.add_region-requires-clause-next
add_region-requires-clause-next g c κs within =
    (first_state 1 [], (well_none, (none_yet (g.S.Store.rows c.in_ok-store.store) c.in_ok-regions.regions c.in_ok-store.ensures c.in_ok-regions.ensures, refl)))

pub add_region-requires-2-clause-next : goal.add_region-requires-2-clause-next
add_region-requires-2-clause-next g c κs within = (
  region_result (first_state 1 []),
  (
    well_one,
    (
      c.in_ok-add_region.ensures.made (first_state 1 []) well_none (none_yet (g.S.Store.rows c.in_ok-store.store) c.in_ok-regions.regions c.in_ok-store.ensures c.in_ok-regions.ensures) refl,
      refl,
    ),
  ),
)

pub returns : goal.returns
returns g c =
    c.in_ok-add_region-2.ensures.made (region_result (first_state 1 [])) well_one (
    c.in_ok-add_region.ensures.made (first_state 1 []) well_none (none_yet (g.S.Store.rows c.in_ok-store.store) c.in_ok-regions.regions c.in_ok-store.ensures c.in_ok-regions.ensures) refl
    ) refl
