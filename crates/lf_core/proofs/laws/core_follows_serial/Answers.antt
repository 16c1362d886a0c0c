use Rattle.lf_core.proofs.Followed.{follows_ended, follows_new, follows_started, is_serial, may_end}
use Rattle.lf_core.proofs.laws.core_follows_serial.Goals as goal

pub returns : goal.returns
returns g c = record {
  new = follows_new (g.A.Actor.gives c.args.actor.now) c.requires.lawful;
  started = follows_started (g.A.Actor.gives c.args.actor.now) c.requires.lawful;
  may_end = may_end (g.A.Actor.gives c.args.actor.now) c.requires.lawful;
  ended = follows_ended (g.A.Actor.gives c.args.actor.now) c.requires.lawful;
  abandoned = λ core runs s id k. k;
  serial = is_serial (g.A.Actor.gives c.args.actor.now) c.requires.lawful;
}
