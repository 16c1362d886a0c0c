use Rattle.std.proofs.Common.{subst, sym}
use Rattle.lf_parser.specs.Parsers.{Reads, allow}
use Rattle.lf_parser.specs.Words.{mark_of}
use Rattle.lf_parser.specs.declared.halt.Cause.TheVariants.{TooDeep}
use Rattle.lf_parser.specs.ReadingFunctions.{opening}
use Rattle.lf_parser.specs.Limits.{part_fits}
use Rattle.lf_parser.proofs.Rules.OneLevelLess.{opens_at}
use Rattle.lf_parser.proofs.expressions.Expressions.opening.Goals as goal

pub returns : goal.returns
unfolding opening
returns g c =
    subst (λ b. Reads (λ t. t) (allow b TooDeep (mark_of c.args.mark) c.args.cursor.now) c.allow.result c.allow.new.self) (sym (opens_at part_fits c.args.self.now.levels)) c.allow.ensures
