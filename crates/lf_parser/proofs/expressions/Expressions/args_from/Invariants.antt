use Rattle.std.proofs.Common.{◌≡◌, length, map}
use Rattle.lf_parser.specs.Plain.{plain_expr}
use Rattle.lf_parser.specs.ReadingFunctions.{args_from}
use Rattle.lf_parser.specs.Limits.{part_fits, rules_at}
use Rattle.lf_parser.proofs.expressions.Expressions.args_from.Given as goal

abbrev pub invariant-loop-cursor : goal.invariant-loop-cursor
invariant-loop-cursor g l = args_from part_fits (rules_at l.self.levels) (map plain_expr l.fn.first) l.fn.cursor ≡ args_from part_fits (rules_at l.self.levels) (map plain_expr l.args) l.cursor

abbrev pub decreases-loop-cursor : goal.decreases-loop-cursor
decreases-loop-cursor g l = length l.cursor
