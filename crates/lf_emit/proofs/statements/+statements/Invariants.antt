use Rattle.std.proofs.Common.{◌≡◌, ◌++◌, drop, length}
use Rattle.lf_parser.specs.Plain.{plain_block}
use Rattle.lf_codegen.specs.GeneratedCode.{block_code}
use Rattle.lf_emit.proofs.statements.+statements.Given as goal

abbrev pub invariant-emit_stmts-loop-stmt : goal.invariant-emit_stmts-loop-stmt
invariant-emit_stmts-loop-stmt g l =
    l.out.items ++ block_code (g.N.Numbering.source l.names) (g.N.Numbering.vars l.names) (plain_block (drop l.stmt-index l.stmts))
    (length l.out.items)
    ≡ l.fn.out.items ++ block_code (g.N.Numbering.source l.names) (g.N.Numbering.vars l.names) (plain_block l.stmts) (length l.fn.out.items)
