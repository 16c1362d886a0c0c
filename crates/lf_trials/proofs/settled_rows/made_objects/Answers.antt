use Rattle.std.proofs.Common.{[], arith, refl}
use Rattle.lf_base.specs.Edges.{Slot}
use Rattle.lf_base.specs.PlainChanges.{first_state, object_result}
use Rattle.lf_trials.specs.SettledRows.{two_objects}
use Rattle.lf_trials.proofs.SettledRows.{one_whole, two_whole}
use Rattle.lf_trials.proofs.TwoRegions.{none_yet, well_none}
use Rattle.lf_trials.proofs.settled_rows.made_objects.Goals as goal

pub add_object-requires-clause-next : goal.add_object-requires-clause-next
add_object-requires-clause-next g c κs within = (first_state 1 [], (well_none, (none_yet (g.S.Store.rows c.in_ok-store.store) c.in_ok-regions.regions c.in_ok-store.ensures c.in_ok-regions.ensures, refl)))

pub add_object-requires-2-clause-next : goal.add_object-requires-2-clause-next
add_object-requires-2-clause-next g c κs within = (object_result (first_state 1 []), (one_whole, (c.in_ok-add_object.ensures.made (first_state 1 []) well_none (none_yet (g.S.Store.rows c.in_ok-store.store) c.in_ok-regions.regions c.in_ok-store.ensures c.in_ok-regions.ensures) refl, refl)))

pub count_borrow-requires-clause-may : goal.count_borrow-requires-clause-may
count_borrow-requires-clause-may g c κs within = (two_objects.rows, ([], record { counts = (c.in_ok-add_object-2.ensures.made (object_result (first_state 1 [])) one_whole (c.in_ok-add_object.ensures.made (first_state 1 []) well_none (none_yet (g.S.Store.rows c.in_ok-store.store) c.in_ok-regions.regions c.in_ok-store.ensures c.in_ok-regions.ensures) refl) refl); bridges = two_whole.bridge; few = omega arith }))

pub returns : goal.returns
returns g c = c.count_borrow.ensures.counted two_objects.rows [] Slot (record { counts = (c.in_ok-add_object-2.ensures.made (object_result (first_state 1 [])) one_whole (c.in_ok-add_object.ensures.made (first_state 1 []) well_none (none_yet (g.S.Store.rows c.in_ok-store.store) c.in_ok-regions.regions c.in_ok-store.ensures c.in_ok-regions.ensures) refl) refl); bridges = two_whole.bridge; few = omega arith }) refl
