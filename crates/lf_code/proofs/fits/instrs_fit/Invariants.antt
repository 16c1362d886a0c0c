use Rattle.std.proofs.Common.{drop, length, ◌≡◌}
use Rattle.lf_code.specs.ValidCode as spec
use Rattle.lf_code.proofs.fits.instrs_fit.Given as goal

abbrev pub invariant-loop-placed : goal.invariant-loop-placed
invariant-loop-placed l =
    spec.instrs_fit l.bodies l.texts l.vars (length l.list) (drop l.placed-index l.list) ≡ spec.instrs_fit l.bodies l.texts l.vars
    (length l.list) l.list
