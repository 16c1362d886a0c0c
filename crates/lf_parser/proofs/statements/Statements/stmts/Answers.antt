use Rattle.std.proofs.Common.{rules, map}
use Rattle.lf_parser.specs.Plain.{plain_stmt}
use Rattle.lf_parser.proofs.Rules.LoopSteps.{more_stmt_short}
use Rattle.lf_parser.proofs.statements.Statements.stmts.Goals as goal

pub loop-cursor-smaller : goal.loop-cursor-smaller
loop-cursor-smaller g c = more_stmt_short c.args.self.now.nest (map plain_stmt c.loop-cursor.stmts) (map plain_stmt c.in_ok-stmts.stmts) c.loop-cursor.cursor c.more_stmt.new.cursor (search rules)
