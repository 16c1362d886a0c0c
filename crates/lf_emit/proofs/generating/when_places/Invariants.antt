use Rattle.std.proofs.Common.{map, take}
use Rattle.lf_emit.specs.PlaceTables.{HasPlaces}
use Rattle.lf_emit.proofs.generating.when_places.Given as goal

abbrev pub invariant-loop-frame : goal.invariant-loop-frame
invariant-loop-frame l = HasPlaces l.places (map (λ f. f.line) (take l.frame-index l.whens))
