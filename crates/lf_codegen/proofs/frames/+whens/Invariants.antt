use Rattle.std.proofs.Common.{◌≡◌, ◌++◌, drop}
use Rattle.lf_parser.specs.Plain.{plain_block}
use Rattle.lf_codegen.specs.Frames.{block_whens}
use Rattle.lf_codegen.specs.TablesMean.{plain_frames}
use Rattle.lf_codegen.proofs.frames.+whens.Given as goal

abbrev pub invariant-of_stmts-loop-stmt : goal.invariant-of_stmts-loop-stmt
invariant-of_stmts-loop-stmt l =
    plain_frames l.out.items ++ block_whens (plain_block (drop l.stmt-index l.stmts)) ≡ plain_frames l.fn.out.items ++ block_whens
    (plain_block l.stmts)
