use Rattle.std.proofs.Common.{drop, ◌≡◌}
use Rattle.lf_code.specs.ValidCode as spec
use Rattle.lf_code.proofs.fits.bodies_fit.Given as goal

abbrev pub invariant-loop-body : goal.invariant-loop-body
invariant-loop-body l = spec.bodies_fit l.bodies l.texts (drop l.body-index l.rest) ≡ spec.bodies_fit l.bodies l.texts l.rest
