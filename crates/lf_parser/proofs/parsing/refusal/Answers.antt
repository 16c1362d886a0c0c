use Rattle.lf_parser.proofs.Refusals.WithLineLimit.{stopped_whole}
use Rattle.lf_parser.proofs.parsing.refusal.Goals as goal

pub returns : goal.returns
returns c = rw (c.stopped.ensures, c.requires.stops.left_is) (stopped_whole c.args.tokens.now c.args.left.now c.args.cause c.requires.stops c.requires.fits)
