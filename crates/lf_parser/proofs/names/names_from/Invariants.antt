use Rattle.std.proofs.Common.{◌≡◌, length}
use Rattle.lf_parser.specs.ReadingFunctions.{names_from}
use Rattle.lf_parser.specs.Limits.{part_fits}
use Rattle.lf_parser.proofs.names.names_from.Given as goal

abbrev pub invariant-loop-cursor : goal.invariant-loop-cursor
invariant-loop-cursor l = names_from part_fits l.fn.first l.fn.cursor ≡ names_from part_fits l.names l.cursor

abbrev pub decreases-loop-cursor : goal.decreases-loop-cursor
decreases-loop-cursor l = length l.cursor
