-- Worked rows of the calls on a state: what each leaves, operands included, and what it is refused for.
use Rattle.std.specs.Prelude.{List, None, Some, [], false, map, pos, true, ℕ, ◌++◌, ◌∷◌, ◌≡◌}
use Rattle.lf_base.specs.declared.faults.Fault.TheVariants as fault
use Rattle.lf_base.specs.declared.ids.CownId.{CownId}
use Rattle.lf_base.specs.declared.ids.ObjId.{ObjId}
use Rattle.lf_base.specs.declared.questions.Answer.TheVariants.{Label, Number, Truth}
use Rattle.lf_base.specs.declared.questions.Label.TheVariants as label
use Rattle.lf_base.specs.declared.questions.Question.TheVariants.{Borrowed, IsClosed, OpenChildren, Owner, Refs}
use Rattle.lf_base.specs.declared.values.Value.TheVariants as value
use Rattle.lf_base.specs.Asking.{Answered, NotAnswered, value_of_answer}
use Rattle.lf_base.specs.HeapCalls.{Changed}
use Rattle.lf_base.specs.Owners.{names}
use Rattle.lf_base.specs.PlainChanges.{first_state}
use Rattle.lf_base.specs.PlainState.{State}
use Rattle.lf_laws.specs.CallScripts.{Call, Close, Dissolve, Freeze, Lift, Load, Merge, NewCown, NewObject, NewRegion, Pop, Push}
use Rattle.lf_laws.specs.CallScripts.{Put, Read, Take, Unset, Write, ask_after, refusal_of, run, state_of}

-- the state of behaviour 0 at its begin
abbrev nothing : State
nothing = first_state 0 []

-- its object of that number
abbrev object : ℕ → ObjId
object n = record { birth = 0; seq = n }

-- a text of the script as an operand
abbrev text : ℕ → Call
text k = Push (Some (value.Text (record { index = k })))

-- x = Region(), x = {}
abbrev region : ℕ → List Call
region x = NewRegion ∷ Put x ∷ []

abbrev fresh : ℕ → List Call
fresh x = NewObject ∷ Put x ∷ []

-- x.k = y, and what its evaluation leaves for reading x.k and taking it
abbrev store : ℕ → ℕ → ℕ → List Call
store x k y = Load x ∷ text k ∷ Load y ∷ Write ∷ []

abbrev field : ℕ → ℕ → List Call
field x k = Load x ∷ text k ∷ []

-- three variables
abbrev variables : List Call
variables = Push None ∷ Push None ∷ Push None ∷ []

-- ---- slots, a region, and questions on it
abbrev twice : Changed
twice = run nothing (Push None ∷ Push None ∷ NewRegion ∷ Put 0 ∷ Load 0 ∷ Put 1 ∷ [])

abbrev once : Changed
once = run (state_of twice) (Unset 1 ∷ [])

abbrev pub SlotsShow : Type 0
SlotsShow =
    (ask_after twice Borrowed 0 ≡ Answered (Number 2)) × (ask_after twice Refs 0 ≡ Answered (Number 2))
    × (ask_after twice IsClosed 0 ≡ Answered (Truth false)) × (ask_after once IsClosed 0 ≡ Answered (Truth true))
    × (refusal_of (run (state_of once) (Unset 1 ∷ [])) ≡ Some fault.Unset)
    × (refusal_of (run (state_of once) (Load 1 ∷ [])) ≡ Some fault.Unset)
    × (refusal_of (run (state_of once) (Lift 1 ∷ [])) ≡ Some fault.Unset) × (ask_after once Refs 1 ≡ NotAnswered fault.Unset)
    × ((state_of once).slots ≡ Some (value.Obj (object 1)) ∷ None ∷ [])

-- a popped object is dropped, and one that a variable holds is not
abbrev pub PopShows : Type 0
PopShows =
    ((state_of (run nothing (NewObject ∷ Pop ∷ []))).rows ≡ [])
    × (names (state_of (run nothing (Push None ∷ NewObject ∷ Put 0 ∷ Load 0 ∷ Pop ∷ []))).rows ≡ object 1 ∷ [])

-- ---- dropping
abbrev cycle : Changed
cycle = run nothing (variables ++ (region 0 ++ (fresh 1
    ++ (fresh 2 ++ (store 1 17 2 ++ (store 2 17 1 ++ (store 1 18 0 ++ (Unset 1 ∷ Unset 2 ∷ []))))))))

abbrev orphan : Changed
orphan = run nothing (variables ++ (region 0 ++ (region 1 ++ (fresh 2 ++ (store 1 17 2 ++ (store 0 18 1 ++ (Unset 1 ∷ Unset 0 ∷ [])))))))

-- a cycle of local objects lives on and borrows; a region without owner and borrow goes, and its borrowed child lives on
abbrev pub DroppingShows : Type 0
DroppingShows =
    (ask_after cycle Borrowed 0 ≡ Answered (Number 2)) × (ask_after orphan Owner 2 ≡ Answered (Label label.Region))
    × (ask_after orphan Refs 2 ≡ Answered (Number 2)) × (names (state_of orphan).rows ≡ object 2 ∷ object 3 ∷ [])

-- ---- fields
abbrev seven : State
seven = state_of (run nothing (variables ++ (fresh 0 ++ (Load 0 ∷ text 17 ∷ Push (Some (value.Int (pos 7))) ∷ Write ∷ []))))

-- a read and a take leave the value in place of target and key
abbrev pub FieldsShow : Type 0
FieldsShow =
    ((state_of (run seven (field 0 17 ++ (Read ∷ Put 1 ∷ [])))).slots ≡ Some (value.Obj (object 1)) ∷ Some (value.Int (pos 7)) ∷ None ∷ [])
    × (refusal_of (run seven (field 0 17 ++ (Take ∷ Put 1 ∷ field 0 17 ++ (Read ∷ [])))) ≡ Some fault.NoField)
    × (refusal_of (run seven (field 0 18 ++ (Take ∷ []))) ≡ Some fault.NoField)
    × (refusal_of (run seven (Load 0 ∷ Push (Some value.None) ∷ Read ∷ [])) ≡ Some fault.Kind)
    × (refusal_of (run seven (Push (Some value.None) ∷ Push (Some value.None) ∷ Read ∷ [])) ≡ Some fault.NotObject)
    × (refusal_of (run seven (Load 0 ∷ Freeze ∷ Pop ∷ field 0 17 ++ (Take ∷ []))) ≡ Some fault.FrozenWrite)

-- ---- contents

-- a cown that is held, and one that isn't
abbrev cown : ℕ → CownId
cown n = record { birth = 1; seq = n }

abbrev holding : State
holding = record nothing { held = (cown 1, value.None) ∷ [] }

-- c.value = x for the cown in variable 0
abbrev put_content : List Call
put_content = store 0 0 2

abbrev with_cown : ℕ → List Call → Changed
with_cown n calls = run holding (Push (Some (value.Cown (cown n))) ∷ Push None ∷ Push None ∷ calls)

abbrev held_region : Changed
held_region = with_cown 1 (region 2 ++ put_content)

-- a local object, an inner object and a bridge with an owner are refused as content, a cown that isn't held before them;
-- a bridge without owner is taken in, and moved out again
abbrev pub ContentsShow : Type 0
ContentsShow =
    (refusal_of (with_cown 1 (fresh 2 ++ put_content)) ≡ Some fault.LocalInCown)
    × (refusal_of (with_cown 1 (region 1 ++ (fresh 2 ++ (store 1 17 2 ++ put_content)))) ≡ Some fault.Interior)
    × (refusal_of (with_cown 1 (region 1 ++ (region 2 ++ (store 1 17 2 ++ put_content)))) ≡ Some fault.SecondOwner)
    × (refusal_of (with_cown 2 (fresh 2 ++ put_content)) ≡ Some fault.NotAcquired)
    × (refusal_of (with_cown 1 (field 0 17 ++ (Read ∷ []))) ≡ Some fault.NoField)
    × ((state_of held_region).held ≡ (cown 1, value.Obj (object 1)) ∷ [])
    × ((state_of (run (state_of held_region) (Unset 2 ∷ field 0 0 ++ (Take ∷ Put 2 ∷ [])))).held ≡ (cown 1, value.None) ∷ [])
    × (ask_after (run (state_of held_region) (Unset 2 ∷ field 0 0 ++ (Take ∷ Put 2 ∷ []))) Borrowed 2 ≡ Answered (Number 1))

-- ---- making

-- a behaviour that has made that many objects, with a region in variable 0
abbrev made : ℕ → State
made n = record (state_of (run nothing (Push None ∷ region 0))) { objects = n }

-- the millionth is made and no further one; the operand's own slot isn't judged, and an open region is refused before the number
abbrev pub MakingShows : Type 0
MakingShows =
    (refusal_of (run (made 999999) (NewObject ∷ [])) ≡ None)
    × (refusal_of (run (made 999999) (NewRegion ∷ NewObject ∷ [])) ≡ Some fault.TooManyObjects)
    × (refusal_of (run (made 1000000) (NewRegion ∷ [])) ≡ Some fault.TooManyObjects)
    × (refusal_of (run (made 1) (Load 0 ∷ NewCown ∷ [])) ≡ Some fault.Open) × (refusal_of (run (made 1) (Lift 0 ∷ NewCown ∷ [])) ≡ None)
    × (refusal_of (run (made 1000000) (Load 0 ∷ NewCown ∷ [])) ≡ Some fault.Open)
    × (refusal_of (run (made 1000000) (Lift 0 ∷ NewCown ∷ [])) ≡ Some fault.TooManyObjects)
    × ((state_of (run (made 1) (Lift 0 ∷ NewCown ∷ []))).slots ≡ None ∷ Some (value.Cown (record { birth = 0; seq = 1 })) ∷ [])

-- ---- regions as a whole
abbrev two_regions : State
two_regions = state_of (run nothing (variables ++ (region 0 ++ (region 1 ++ (fresh 2 ++ store 1 17 2)))))

-- merging leaves the operand of the region that grows, and dissolving its own; closing reaches all other slots
abbrev pub RegionsShow : Type 0
RegionsShow =
    (ask_after (run two_regions (Load 0 ∷ Load 1 ∷ Merge ∷ Pop ∷ [])) Borrowed 0 ≡ Answered (Number 3))
    × (refusal_of (run two_regions (Load 0 ∷ Load 2 ∷ Merge ∷ [])) ≡ Some fault.NotBridge)
    × (ask_after (run two_regions (Load 1 ∷ Dissolve ∷ Pop ∷ [])) Owner 2 ≡ Answered (Label label.Local))
    × ((state_of (run two_regions (Close 1 ∷ []))).slots ≡ Some (value.Obj (object 1)) ∷ Some (value.Obj (object 2)) ∷ Some value.None ∷ [])
    × (ask_after (run two_regions (Load 2 ∷ Freeze ∷ Pop ∷ [])) Owner 2 ≡ Answered (Label label.Frozen))

-- ---- questions
abbrev pub QuestionsShow : Type 0
QuestionsShow =
    (ask_after (run two_regions []) Owner 0 ≡ Answered (Label label.Region))
    × (ask_after (run two_regions (store 0 18 1)) OpenChildren 0 ≡ Answered (Number 1))
    × (ask_after (run two_regions []) Borrowed 2 ≡ NotAnswered fault.NotBridge) × (ask_after (run seven []) Refs 0 ≡ Answered (Number 1))
    × (ask_after (run seven (Push (Some (value.Int (pos 7))) ∷ Put 1 ∷ [])) Refs 1 ≡ NotAnswered fault.Kind)
    × (ask_after (run seven (Push (Some value.None) ∷ Put 1 ∷ [])) Owner 1 ≡ Answered (Label label.Value))
    × (ask_after held_region Owner 0 ≡ Answered (Label label.Cown))
    × (map value_of_answer (Label label.Local ∷ Label label.Region ∷ Label label.Frozen ∷ Label label.Cown ∷ Label label.Value ∷ [])
    ≡ map (λ k. value.Text (record { index = k })) (1 ∷ 2 ∷ 3 ∷ 4 ∷ 0 ∷ []))
