use Rattle.lf_script_rows.proofs.ObjectRowsComputed.{empty_shows, first_sum_shows, moved_graph_shows, self_edge_shows, second_owner_shows}
use Rattle.lf_script_rows.proofs.ObjectRowsComputed.{owner_cycle_shows, interior_shows, replaced_owner_shows, refused_unchanged_shows}
use Rattle.lf_script_rows.proofs.ObjectRowsComputed.{freeze_inner_shows, open_cown_shows, closed_cown_shows, borrowed_cown_shows}
use Rattle.lf_script_rows.proofs.ObjectRowsComputed.{orphaned_child_shows, merges_shows, merge_cycle_shows, freeze_region_shows}
use Rattle.lf_script_rows.proofs.ObjectRowsComputed.{dissolves_shows, closedness_shows}
use Rattle.lf_script_rows.proofs.object_rows.object_rows_compute.Goals as goal

pub returns-clause-empty : goal.returns-clause-empty
returns-clause-empty c = empty_shows

pub returns-clause-first_sum : goal.returns-clause-first_sum
returns-clause-first_sum c = first_sum_shows

pub returns-clause-moved_graph : goal.returns-clause-moved_graph
returns-clause-moved_graph c = moved_graph_shows

pub returns-clause-self_edge : goal.returns-clause-self_edge
returns-clause-self_edge c = self_edge_shows

pub returns-clause-second_owner : goal.returns-clause-second_owner
returns-clause-second_owner c = second_owner_shows

pub returns-clause-owner_cycle : goal.returns-clause-owner_cycle
returns-clause-owner_cycle c = owner_cycle_shows

pub returns-clause-interior : goal.returns-clause-interior
returns-clause-interior c = interior_shows

pub returns-clause-replaced_owner : goal.returns-clause-replaced_owner
returns-clause-replaced_owner c = replaced_owner_shows

pub returns-clause-refused_unchanged : goal.returns-clause-refused_unchanged
returns-clause-refused_unchanged c = refused_unchanged_shows

pub returns-clause-freeze_inner : goal.returns-clause-freeze_inner
returns-clause-freeze_inner c = freeze_inner_shows

pub returns-clause-open_cown : goal.returns-clause-open_cown
returns-clause-open_cown c = open_cown_shows

pub returns-clause-closed_cown : goal.returns-clause-closed_cown
returns-clause-closed_cown c = closed_cown_shows

pub returns-clause-borrowed_cown : goal.returns-clause-borrowed_cown
returns-clause-borrowed_cown c = borrowed_cown_shows

pub returns-clause-orphaned_child : goal.returns-clause-orphaned_child
returns-clause-orphaned_child c = orphaned_child_shows

pub returns-clause-merges : goal.returns-clause-merges
returns-clause-merges c = merges_shows

pub returns-clause-merge_cycle : goal.returns-clause-merge_cycle
returns-clause-merge_cycle c = merge_cycle_shows

pub returns-clause-freeze_region : goal.returns-clause-freeze_region
returns-clause-freeze_region c = freeze_region_shows

pub returns-clause-dissolves : goal.returns-clause-dissolves
returns-clause-dissolves c = dissolves_shows

pub returns-clause-closedness : goal.returns-clause-closedness
returns-clause-closedness c = closedness_shows
