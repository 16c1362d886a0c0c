-- The places of names.
use Rattle.std.specs.Prelude.{Option, Some, None}
use Rattle.std.specs.HashMap.{HashMap}
use Rattle.std.specs.HashMap as hash
use Rattle.lf_base.specs.declared.ids.ObjId.{ObjId}
use Rattle.lf_base.specs.Names.{same_name}
use Rattle.lf_poolstore.specs.declared.place.Place.{Place}
use Rattle.lf_poolstore.specs.declared.place.TheConstants.{NOWHERE}

-- the place of a name among those outside the dense part
abbrev pub other_at : {S : Type 0} → HashMap ObjId Place S → ObjId → Option Place
other_at places o = hash.get same_name places o

-- the place found, or that of no row
abbrev pub place_or : Option Place → Place
place_or None = NOWHERE
place_or (Some p) = p
