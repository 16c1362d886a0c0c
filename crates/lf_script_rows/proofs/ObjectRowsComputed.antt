-- The rows, computed.
use Rattle.std.proofs.Common.{refl}
use Rattle.std.specs.Fmt.{digits}
use Rattle.lf_script_rows.specs.ObjectRows.{EmptyRuns, FirstSumRuns, MovedGraphRuns, SelfEdgeRuns, SecondOwnerRuns, OwnerCycleRuns}
use Rattle.lf_script_rows.specs.ObjectRows.{InteriorRuns, ReplacedOwnerRuns, RefusedUnchangedRuns, FreezeInnerRuns, OpenCownRuns}
use Rattle.lf_script_rows.specs.ObjectRows.{ClosedCownRuns, BorrowedCownRuns, OrphanedChildRuns, MergesRuns, MergeCycleRuns}
use Rattle.lf_script_rows.specs.ObjectRows.{FreezeRegionRuns, DissolvesRuns, ClosednessRuns}

pub empty_shows : EmptyRuns
unfolding digits
empty_shows = ((refl, refl), (refl, refl))

pub first_sum_shows : FirstSumRuns
unfolding digits
first_sum_shows = ((refl, refl), (refl, refl))

pub moved_graph_shows : MovedGraphRuns
unfolding digits
moved_graph_shows = ((refl, refl), (refl, refl))

pub self_edge_shows : SelfEdgeRuns
unfolding digits
self_edge_shows = ((refl, refl), (refl, refl))

pub second_owner_shows : SecondOwnerRuns
unfolding digits
second_owner_shows = ((refl, refl), (refl, refl))

pub owner_cycle_shows : OwnerCycleRuns
unfolding digits
owner_cycle_shows = ((refl, refl), (refl, refl))

pub interior_shows : InteriorRuns
unfolding digits
interior_shows = ((refl, refl), (refl, refl))

pub replaced_owner_shows : ReplacedOwnerRuns
unfolding digits
replaced_owner_shows = ((refl, refl), (refl, refl))

pub refused_unchanged_shows : RefusedUnchangedRuns
unfolding digits
refused_unchanged_shows = ((refl, refl), (refl, refl))

pub freeze_inner_shows : FreezeInnerRuns
unfolding digits
freeze_inner_shows = ((refl, refl), (refl, refl))

pub open_cown_shows : OpenCownRuns
unfolding digits
open_cown_shows = ((refl, refl), (refl, refl))

pub closed_cown_shows : ClosedCownRuns
unfolding digits
closed_cown_shows = ((refl, refl), (refl, refl))

pub borrowed_cown_shows : BorrowedCownRuns
unfolding digits
borrowed_cown_shows = ((refl, refl), (refl, refl))

pub orphaned_child_shows : OrphanedChildRuns
unfolding digits
orphaned_child_shows = ((refl, refl), (refl, refl))

pub merges_shows : MergesRuns
unfolding digits
merges_shows = ((refl, refl), (refl, refl))

pub merge_cycle_shows : MergeCycleRuns
unfolding digits
merge_cycle_shows = ((refl, refl), (refl, refl))

pub freeze_region_shows : FreezeRegionRuns
unfolding digits
freeze_region_shows = ((refl, refl), (refl, refl))

pub dissolves_shows : DissolvesRuns
unfolding digits
dissolves_shows = ((refl, refl), (refl, refl))

pub closedness_shows : ClosednessRuns
unfolding digits
closedness_shows = ((refl, refl), (refl, refl))
