-- A `when` as an instruction: what it is refused for, and the spawn that it asks for.
use Rattle.std.specs.Prelude.{List, None, Option, Some, [], cond, length, ltb, map, ℕ, ◌++◌, ◌∷◌}
use Rattle.std.specs.List.{list_any}
use Rattle.std.specs.Option.{option_or}
use Rattle.lf_base.specs.declared.behaviours.Spawn.{Spawn}
use Rattle.lf_base.specs.declared.faults.Fault.{Fault}
use Rattle.lf_base.specs.declared.faults.Fault.TheVariants.{NotCown, NotShareable, TooManySpawns, Unset}
use Rattle.lf_base.specs.declared.ids.CownId.{CownId}
use Rattle.lf_base.specs.declared.limits.TheConstants.{MOST_SPAWNS}
use Rattle.lf_base.specs.declared.values.Value.{Value}
use Rattle.lf_base.specs.declared.values.Value.TheVariants.{Cown, Obj}
use Rattle.lf_base.specs.Names.{same_cown}
use Rattle.lf_base.specs.Operands.{set_value}
use Rattle.lf_base.specs.Owners.{has_row}
use Rattle.lf_base.specs.PlainChanges.{slot_at}
use Rattle.lf_base.specs.PlainState.{State}
use Rattle.lf_code.specs.Progress.{Progress, Did, Does, Faulted}

-- a cown name must hold a cown
abbrev pub not_cown : Value → Option Fault
not_cown (Cown c) = None
not_cown _ = Some NotCown

-- a capture may be no local object and no object in a region
abbrev pub not_shareable : State → Value → Option Fault
not_shareable s (Obj o) = cond (has_row s.rows o) (Some NotShareable) None
not_shareable s _ = None

-- what one name is refused for: it must be set, and then its value is judged
abbrev pub name_fault : (Value → Option Fault) → Option Value → Option Fault
name_fault refusal None = Some Unset
name_fault refusal (Some v) = refusal v

-- the first refusal among names, whose slots are at these places
abbrev pub names_fault : (Value → Option Fault) → State → List ℕ → Option Fault
names_fault refusal s [] = None
names_fault refusal s (at ∷ ats) = option_or (name_fault refusal (slot_at s.slots at)) (names_fault refusal s ats)

abbrev pub too_many_spawns : Progress → Option Fault
too_many_spawns c = cond (ltb (length c.spawns) MOST_SPAWNS) None (Some TooManySpawns)

-- cown names come first, then captures, then the number of spawns
abbrev pub when_fault : List ℕ → List ℕ → Progress → Option Fault
when_fault cowns captures c =
    option_or (names_fault not_cown c.state cowns) (option_or (names_fault (not_shareable c.state) c.state captures) (too_many_spawns c))

-- the values of slots that are set
abbrev pub values_at : State → List ℕ → List Value
values_at s ats = map (λ at. set_value (slot_at s.slots at)) ats

-- the cowns among values, each where it stands first, without those that were seen
abbrev pub distinct_cowns : List CownId → List Value → List CownId
distinct_cowns seen [] = []
distinct_cowns seen (Cown c ∷ vs) = cond (list_any (same_cown c) seen) (distinct_cowns seen vs) (c ∷ distinct_cowns (c ∷ seen) vs)
distinct_cowns seen (_ ∷ vs) = distinct_cowns seen vs

abbrev pub spawn_of : ℕ → List ℕ → List ℕ → State → Spawn
spawn_of body cowns captures s =
    record { body = body; cowns = distinct_cowns [] (values_at s cowns); values = values_at s (cowns ++ captures) }

abbrev pub spawn_by : Option Fault → Progress → Spawn → Did
spawn_by (Some fault) c spawn = Faulted fault
spawn_by None c spawn = Does (record c { spawns = c.spawns ++ spawn ∷ [] })

-- a `when` asks for a behaviour of that body; its names are the slots at these places
abbrev pub spawns_one : ℕ → List ℕ → List ℕ → Progress → Did
spawns_one body cowns captures c = spawn_by (when_fault cowns captures c) c (spawn_of body cowns captures c.state)
