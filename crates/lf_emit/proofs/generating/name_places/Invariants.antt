use Rattle.std.proofs.Common.{take}
use Rattle.lf_emit.specs.PlaceTables.{HasPlaces}
use Rattle.lf_emit.specs.Scopes.{name_keys}
use Rattle.lf_emit.proofs.generating.name_places.Given as goal

abbrev pub invariant-loop-name : goal.invariant-loop-name
invariant-loop-name l = HasPlaces l.places (name_keys (take l.name-index l.names))
