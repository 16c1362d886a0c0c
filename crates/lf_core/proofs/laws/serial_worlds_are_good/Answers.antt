use Rattle.lf_core.specs.Reading.{reading}
use Rattle.lf_core.proofs.Events.{good}
use Rattle.lf_core.proofs.Orders.{waiting_rises}
use Rattle.lf_core.proofs.laws.serial_worlds_are_good.Goals as goal

pub returns : goal.returns
returns g c = record {
  good = good reading (g.A.Actor.gives c.args.actor.now) c.requires.lawful;
  rising = waiting_rises reading (g.A.Actor.gives c.args.actor.now) c.requires.lawful;
}
