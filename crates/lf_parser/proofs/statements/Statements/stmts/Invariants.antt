use Rattle.std.proofs.Common.{◌≡◌, length, map}
use Rattle.lf_parser.specs.Plain.{plain_stmt}
use Rattle.lf_parser.specs.ReadingFunctions.{stmts, blocks}
use Rattle.lf_parser.specs.Limits.{within_limits}
use Rattle.lf_parser.proofs.statements.Statements.stmts.Given as goal

abbrev pub invariant-loop-cursor : goal.invariant-loop-cursor
invariant-loop-cursor g l = within_limits stmts (within_limits blocks l.self.nest) (map plain_stmt l.fn.first) l.fn.cursor ≡ within_limits stmts (within_limits blocks l.self.nest) (map plain_stmt l.stmts) l.cursor

abbrev pub decreases-loop-cursor : goal.decreases-loop-cursor
decreases-loop-cursor g l = length l.cursor
