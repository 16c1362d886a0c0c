use Rattle.std.proofs.Common.{◌≡◌, length}
use Rattle.lf_parser.specs.GrowingTrees.{items_of}
use Rattle.lf_parser.specs.ReadingFunctions.{items_from}
use Rattle.lf_parser.specs.Limits.{within_limits}
use Rattle.lf_parser.proofs.statements.Statements.items_from.Given as goal

abbrev pub invariant-loop-cursor : goal.invariant-loop-cursor
invariant-loop-cursor g l = within_limits items_from l.self.nest (items_of l.fn.first) l.fn.cursor ≡ within_limits items_from l.self.nest (items_of l.tree) l.cursor

abbrev pub decreases-loop-cursor : goal.decreases-loop-cursor
decreases-loop-cursor g l = length l.cursor
