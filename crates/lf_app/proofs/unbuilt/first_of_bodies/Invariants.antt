use Rattle.std.proofs.Common.{◌≡◌, drop, flat_map}
use Rattle.lf_app.specs.Unbuilt as spec
use Rattle.lf_app.proofs.unbuilt.first_of_bodies.Given as goal

-- the least line so far, and the least of those that are left, give the least of all
abbrev pub invariant-loop-body : goal.invariant-loop-body
invariant-loop-body l = spec.lesser_line l.least (spec.least_line (flat_map spec.lines_unbuilt (drop l.body-index l.bodies))) ≡
    spec.least_line (flat_map spec.lines_unbuilt l.bodies)
