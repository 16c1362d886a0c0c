use Rattle.std.proofs.Common.{◌≡◌, ◌++◌, drop}
use Rattle.lf_parser.specs.Plain.{plain_block}
use Rattle.lf_codegen.specs.Mentions.{block_mentions}
use Rattle.lf_codegen.proofs.mentions.+statements.Given as goal

abbrev pub invariant-of_stmts-loop-stmt : goal.invariant-of_stmts-loop-stmt
invariant-of_stmts-loop-stmt l =
    l.out.items ++ block_mentions (plain_block (drop l.stmt-index l.stmts)) ≡ l.fn.out.items ++ block_mentions (plain_block l.stmts)
