use Rattle.lf_core.specs.Reading.{reading}
use Rattle.lf_core.proofs.Orders.{ready_stays}
use Rattle.lf_core.proofs.laws.round_stays_ready.Goals as goal

pub returns : goal.returns
returns g c = ready_stays reading (g.A.Actor.gives c.args.actor.now) c.requires.lawful
