use Rattle.std.proofs.Common.{◌≡◌, drop, flat_map}
use Rattle.lf_app.specs.Unbuilt as spec
use Rattle.lf_app.proofs.unbuilt.first_of_instrs.Given as goal

-- the least line so far, and the least of those that are left, give the least of all
abbrev pub invariant-loop-placed : goal.invariant-loop-placed
invariant-loop-placed l = spec.lesser_line l.least (spec.least_line (flat_map spec.line_unbuilt (drop l.placed-index l.list))) ≡
    spec.least_line (flat_map spec.line_unbuilt l.list)
