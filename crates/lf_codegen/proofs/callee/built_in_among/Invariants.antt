use Rattle.std.proofs.Common.{◌≡◌, drop, map}
use Rattle.lf_codegen.specs.Callees.{built_in_among}
use Rattle.lf_codegen.specs.TablesMean.{built_in_row}
use Rattle.lf_codegen.proofs.callee.built_in_among.Given as goal

abbrev pub invariant-loop-row : goal.invariant-loop-row
invariant-loop-row l = built_in_among (map built_in_row (drop l.row-index l.rows)) l.name ≡ built_in_among (map built_in_row l.rows) l.name
