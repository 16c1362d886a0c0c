use Rattle.std.proofs.Common.{map, take}
use Rattle.lf_emit.specs.PlaceTables.{HasPlaces}
use Rattle.lf_emit.proofs.generating.function_places.Given as goal

abbrev pub invariant-loop-function : goal.invariant-loop-function
invariant-loop-function l = HasPlaces l.places (map (λ f. f.name.id.index) (take l.function-index l.functions))
