use Rattle.std.proofs.Common.{arith, false, subst, sym, true, ◌≡◌}
use Rattle.lf_core.specs.Cores.{CoreState, is_abandoned}
use Rattle.lf_core.proofs.KeptCores.{abandoned_keeps, room_for_one}
use Rattle.lf_queue.specs.Queues.{is_running}
use Rattle.lf_core.proofs.run_core.Core.abandon.Goals as goal

pub push_reserved-requires : goal.push_reserved-requires
push_reserved-requires g c =
    let runs = subst (λ (s : CoreState). is_running s.world.running c.args.id ≡ true) (sym c.self.view_is) c.requires.running in
    let on = subst (λ (s : CoreState). is_abandoned s c.args.id ≡ false) (sym c.self.view_is) c.requires.not_abandoned in
    omega (arith, room_for_one _ _ c.args.id c.self.invariant runs on, c.self.inside.abandoned.ok.0)

pub invariant_of-self : goal.invariant_of-self
invariant_of-self g c =
    let runs = subst (λ (s : CoreState). is_running s.world.running c.args.id ≡ true) (sym c.self.view_is) c.requires.running in
    let on = subst (λ (s : CoreState). is_abandoned s c.args.id ≡ false) (sym c.self.view_is) c.requires.not_abandoned in
    rw (c.push_reserved.ensures.items, c.push_reserved.ensures.capacity) (abandoned_keeps _ _ c.args.id c.self.invariant runs on)
