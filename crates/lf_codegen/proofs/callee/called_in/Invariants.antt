use Rattle.std.proofs.Common.{◌≡◌, drop, map}
use Rattle.lf_codegen.specs.Numbers.{called_in}
use Rattle.lf_codegen.specs.TablesMean.{built_in_row}
use Rattle.lf_codegen.proofs.callee.called_in.Given as goal

abbrev pub invariant-loop-row : goal.invariant-loop-row
invariant-loop-row l =
    called_in (map built_in_row (drop l.row-index l.rows)) l.name l.function ≡ called_in (map built_in_row l.rows) l.name l.function
