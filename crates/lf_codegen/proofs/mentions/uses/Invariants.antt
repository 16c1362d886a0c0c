use Rattle.std.proofs.Common.{◌≡◌, ◌++◌, drop}
use Rattle.lf_codegen.specs.Mentions.{uses}
use Rattle.lf_codegen.proofs.mentions.uses.Given as goal

abbrev pub invariant-loop-name : goal.invariant-loop-name
invariant-loop-name l = l.out.items ++ uses (drop l.name-index l.name-items) ≡ l.fn.out.items ++ uses l.names
