use Rattle.std.proofs.Common.{None, ap, refl, ◌∙◌}
use Rattle.lf_base.specs.EdgeLists.{near_edges}
use Rattle.lf_base.specs.Kept.{kept}
use Rattle.lf_base.specs.PlainChanges.{with_slot_at}
use Rattle.lf_settle.specs.WorkLists.{WorkList}
use Rattle.lf_trials.specs.SettledRows.{owner_and_child}
use Rattle.lf_trials.proofs.SettledRows.{owner_may_go}
use Rattle.lf_trials.proofs.settled_rows.region_goes.Goals as goal

pub unset_slot-requires-clause-may : goal.unset_slot-requires-clause-may
unset_slot-requires-clause-may g c κs within =
    (owner_and_child, (0, owner_may_go (g.S.Store.rows c.in_ok-store.store) c.in_ok-store.regions c.reserve.new.self c.in_ok-store.ensures (c.reserve.ensures.suspects ∙ ap (λ (w : WorkList). w.suspects) c.new-work.ensures) c.in_ok-reserve.ensures.enough))

pub told-requires-after_bounds : goal.told-requires-after_bounds
told-requires-after_bounds g c κs within =
    let left = kept (with_slot_at owner_and_child 0 None) in
    (left.rows, (near_edges left, (c.unset_slot.ensures.unset owner_and_child 0 (owner_may_go (g.S.Store.rows c.in_ok-store.store) c.in_ok-store.regions c.reserve.new.self c.in_ok-store.ensures (c.reserve.ensures.suspects ∙ ap (λ (w : WorkList). w.suspects) c.new-work.ensures) c.in_ok-reserve.ensures.enough), refl)))
