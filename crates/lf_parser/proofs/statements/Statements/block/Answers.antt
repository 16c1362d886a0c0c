use Rattle.std.proofs.Common.{rules, ◌<◌, arith}
use Rattle.lf_parser.specs.ReadingFunctions.{blocks}
use Rattle.lf_parser.specs.Limits.{within_limits}
use Rattle.lf_parser.proofs.Rules.OneLevelLess.{deeper}
use Rattle.lf_parser.proofs.statements.Statements.block.Goals as goal

pub returns : goal.returns
unfolding blocks
returns g c =
    let some : 0 < c.args.self.now.nest = omega arith in
    rw (deeper (λ n. within_limits blocks n c.args.cursor.now) c.args.self.now.nest some) (search rules)
