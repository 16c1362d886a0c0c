use Rattle.std.proofs.Common.{◌≡◌, ◌++◌, drop, map}
use Rattle.lf_codegen.specs.Numbers.{var_number}
use Rattle.lf_emit.proofs.statements.numbers.Given as goal

abbrev pub invariant-loop-name : goal.invariant-loop-name
invariant-loop-name g l = l.vars
    ++ map (var_number (g.N.Numbering.vars l.names)) (drop l.name-index l.list) ≡ map (var_number (g.N.Numbering.vars l.names)) l.list
