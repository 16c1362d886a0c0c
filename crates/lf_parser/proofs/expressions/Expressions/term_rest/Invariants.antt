use Rattle.std.proofs.Common.{◌≡◌, length}
use Rattle.lf_parser.specs.Plain.{plain_expr}
use Rattle.lf_parser.specs.ReadingFunctions.{term_rest}
use Rattle.lf_parser.specs.Limits.{part_fits, rules_at}
use Rattle.lf_parser.proofs.expressions.Expressions.term_rest.Given as goal

abbrev pub invariant-loop-cursor : goal.invariant-loop-cursor
invariant-loop-cursor g l = term_rest part_fits (rules_at l.self.levels) (plain_expr l.fn.first) l.fn.cursor ≡ term_rest part_fits (rules_at l.self.levels) (plain_expr l.left) l.cursor

abbrev pub decreases-loop-cursor : goal.decreases-loop-cursor
decreases-loop-cursor g l = length l.cursor
