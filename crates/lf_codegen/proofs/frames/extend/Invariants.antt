use Rattle.std.proofs.Common.{◌≡◌, ◌++◌, drop}
use Rattle.lf_codegen.proofs.frames.extend.Given as goal

abbrev pub invariant-loop-name : goal.invariant-loop-name
invariant-loop-name l = l.names ++ drop l.name-index l.more ≡ l.fn.names ++ l.more
