use Rattle.std.proofs.Common.{◌≡◌, ◌++◌, length}
use Rattle.lf_parser.specs.Plain.{plain_expr}
use Rattle.lf_codegen.specs.GeneratedCode.{expr_code}
use Rattle.lf_emit.specs.Left.{all_left, finished}
use Rattle.lf_emit.proofs.Emitted.{size_of_all}
use Rattle.lf_emit.proofs.emitting.emit_expr.Given as goal

abbrev pub invariant-loop-work : goal.invariant-loop-work
invariant-loop-work g l =
    finished (g.N.Numbering.source l.names) (g.N.Numbering.vars l.names) l.line (all_left l.works.items) l.out.items
    ≡ l.fn.out.items ++ expr_code (g.N.Numbering.source l.names) (g.N.Numbering.vars l.names) (plain_expr l.expr) l.line
    (length l.fn.out.items)

abbrev pub decreases-loop-work : goal.decreases-loop-work
decreases-loop-work g l = size_of_all (all_left l.works.items)
