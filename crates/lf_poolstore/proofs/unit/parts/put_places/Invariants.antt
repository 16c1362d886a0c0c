use Rattle.lf_poolstore.proofs.UnitPlaces.{Putting}
use Rattle.lf_poolstore.proofs.unit.parts.put_places.Given as goal

abbrev pub invariant-loop-step : goal.invariant-loop-step
invariant-loop-step l = Putting (l.fn.rows).entries l.fn.unit l.fn.index l.index l._step l.at
