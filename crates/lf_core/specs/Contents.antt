-- How contents are kept by cown: a place for each cown, which stands empty while the content is out.
use Rattle.std.specs.Prelude.{Bool, List, None, Option, Some, find, flat_map, true}
use Rattle.std.specs.List.{list_any}
use Rattle.std.specs.declared.ops.Bound.{Bound}
use Rattle.std.specs.declared.ops.Bound.TheVariants.{Excluded, Unbounded}
use Rattle.lf_base.specs.declared.ids.CownId.{CownId}
use Rattle.lf_base.specs.declared.values.Value.{Value}
use Rattle.lf_base.specs.Names.{same_cown}
use Rattle.lf_base.specs.PlainState.{Row}
use Rattle.lf_core.specs.declared.contents.Contents.{Contents}
use Rattle.lf_core.specs.Keyed.{cown_below, found}
use Rattle.lf_core.specs.Reading.{Parked, seen}

-- a place for each cown
abbrev pub Places : Type 0 → Type 0
Places C = List (CownId × Option C)

-- what isn't out
abbrev pub kept : {C : Type 0} → Places C → List (CownId × C)
kept places = flat_map (λ p. found p.0 p.1) places

-- the cown has a place
abbrev pub has_place : {C : Type 0} → Places C → CownId → Bool
has_place places c = list_any (λ p. same_cown p.0 c) places

-- the contents that aren't out, by rising cown, each by what it tells
abbrev pub left_in : {C : Type 0} → (C → Value) → (C → List Row) → Contents C → List (CownId × Parked)
left_in content rows contents = seen content rows (kept contents.places.entries)

-- ---- one after another
-- the cown is above that one, where one is given
abbrev pub is_above : Option CownId → CownId → Bool
is_above None c = true
is_above (Some after) c = cown_below after c

-- the first of rising contents whose cown is above that one
abbrev pub next_content : {C : Type 0} → List (CownId × C) → Option CownId → Option (CownId × C)
next_content contents after = find (λ x. is_above after x.0) contents

-- where the cowns above that one begin
abbrev pub start_above : Option CownId → Bound CownId
start_above None = Unbounded
start_above (Some after) = Excluded after
