use Rattle.std.proofs.Common.{arith}
use Rattle.lf_core.specs.Lawful.{at_first}
use Rattle.lf_core.specs.Reading.{reading}
use Rattle.lf_core.specs.World.{first}
use Rattle.lf_core.proofs.Orders.{rounds_end, rounds_legal, singles_end, singles_legal}
use Rattle.lf_core.proofs.laws.orders_are_legal.Goals as goal

pub returns : goal.returns
returns g c = record {
  singles = λ budget. singles_legal reading (g.A.Actor.gives c.args.actor.now) c.requires.lawful budget first at_first;
  singles_end = λ budget. singles_end reading (g.A.Actor.gives c.args.actor.now) c.requires.lawful budget first at_first;
  rounds = λ budget. rounds_legal reading (g.A.Actor.gives c.args.actor.now) c.requires.lawful budget budget first at_first;
  rounds_end = λ budget. rounds_end reading (g.A.Actor.gives c.args.actor.now) c.requires.lawful budget budget first (omega arith) at_first;
}
