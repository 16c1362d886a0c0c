use Rattle.std.proofs.Common.{◌≡◌, ◌++◌}
use Rattle.lf_parser.specs.Plain.{plain_expr}
use Rattle.lf_codegen.specs.Mentions.{expr_mentions}
use Rattle.lf_codegen.specs.Parts.{plain_lent}
use Rattle.lf_codegen.proofs.Mentioning.Visiting.{mentions_left, size_left}
use Rattle.lf_codegen.proofs.mentions.of_expr.Given as goal

abbrev pub invariant-loop-next : goal.invariant-loop-next
invariant-loop-next l = l.out.items ++ mentions_left (plain_lent l.unvisited.items) ≡ l.fn.out.items ++ expr_mentions (plain_expr l.expr)

abbrev pub decreases-loop-next : goal.decreases-loop-next
decreases-loop-next l = size_left (plain_lent l.unvisited.items)
