use Rattle.std.proofs.Common.{ap, ◌∙◌}
use Rattle.lf_settle.specs.WorkLists.{WorkList}
use Rattle.lf_trials.specs.SettledRows.{local_cycle}
use Rattle.lf_trials.proofs.SettledRows.{cycle_may_lose_slot}
use Rattle.lf_trials.proofs.settled_rows.local_cycle_lives.Goals as goal

pub unset_slot-requires-clause-may : goal.unset_slot-requires-clause-may
unset_slot-requires-clause-may g c κs within =
    (local_cycle, (0, cycle_may_lose_slot (g.S.Store.rows c.in_ok-store.store) c.in_ok-store.regions c.reserve.new.self c.in_ok-store.ensures (c.reserve.ensures.suspects ∙ ap (λ (w : WorkList). w.suspects) c.new-work.ensures) c.in_ok-reserve.ensures.enough))
