use Rattle.std.proofs.Common.{rules, ◌<◌, arith}
use Rattle.lf_parser.specs.ReadingFunctions.{levels_left}
use Rattle.lf_parser.specs.Limits.{rules_at}
use Rattle.lf_parser.proofs.Rules.OneLevelLess.{deeper}
use Rattle.lf_parser.proofs.expressions.Expressions.inner_unary.Goals as goal

pub returns : goal.returns
unfolding levels_left
returns g c =
    let some : 0 < c.args.self.now.levels = omega arith in
    rw (deeper (λ n. (rules_at n).unary c.args.cursor.now) c.args.self.now.levels some) (search rules)
