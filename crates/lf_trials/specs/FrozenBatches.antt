-- Batches of frozen rows that have one number.
use Rattle.std.specs.Prelude.{List, ℕ, ◌<◌, ◌≡◌}
use Rattle.lf_base.specs.Sets.{Member}
use Rattle.lf_frozen.specs.declared.row.FrozenRow.{FrozenRow}

-- each row has this number
abbrev pub AreNumbered : ℕ → List FrozenRow → Type 0
AreNumbered seq rows = (row : FrozenRow) → Member row rows → row.id.seq ≡ seq

-- each row has a lesser number
abbrev pub HaveLesserNumbers : ℕ → List FrozenRow → Type 0
HaveLesserNumbers seq rows = (row : FrozenRow) → Member row rows → row.id.seq < seq

-- each row has a lesser birth
abbrev pub HaveLesserBirths : ℕ → List FrozenRow → Type 0
HaveLesserBirths birth rows = (row : FrozenRow) → Member row rows → row.id.birth < birth
