-- Worked rows: what the definitions say of short words, texts and code.
use Rattle.std.specs.Prelude.{◌≡◌, ℕ, List, [], ◌∷◌, codes, Some, None}
use Rattle.lf_code.specs.declared.body.Body.{Body}
use Rattle.lf_code.specs.declared.body.BodyName.TheVariants.{When}
use Rattle.lf_code.specs.declared.body.Placed.{Placed}
use Rattle.lf_code.specs.declared.instr.AskName.TheVariants.{Close}
use Rattle.lf_code.specs.declared.instr.BuiltName.TheVariants.{Cown, Print}
use Rattle.lf_code.specs.declared.instr.Instr.TheVariants as instr
use Rattle.lf_code.specs.CodeStep.{Program, on_line}
use Rattle.lf_app.specs.declared.commands.Command.TheVariants.{Run}
use Rattle.lf_app.specs.Words.{command_of}
use Rattle.lf_app.specs.Unbuilt.{first_unbuilt}
use Rattle.lf_app.specs.Output.{run_text}

-- leading zeros are allowed, and the largest number
abbrev pub StepsShow : Type 0
StepsShow =
    (command_of (codes "run" ∷ []) ≡ Some (Run 1000000))
    × (command_of (codes "run" ∷ codes "--steps" ∷ codes "007" ∷ []) ≡ Some (Run 7))
    × (command_of (codes "run" ∷ codes "--steps=1000000000" ∷ []) ≡ Some (Run 1000000000))

-- the words name no command
abbrev pub Wrong : List (List ℕ) → Type 0
Wrong words = command_of words ≡ None

-- no number, one that is too small or too large, a sign, no digits, and another command's option
abbrev pub WrongStepsShow : Type 0
WrongStepsShow =
    Wrong (codes "run" ∷ codes "--steps" ∷ []) × Wrong (codes "run" ∷ codes "--steps=0" ∷ [])
    × Wrong (codes "run" ∷ codes "--steps=1000000001" ∷ []) × Wrong (codes "run" ∷ codes "--steps" ∷ codes "+7" ∷ [])
    × Wrong (codes "run" ∷ codes "--steps=" ∷ []) × Wrong (codes "run" ∷ codes "--" ∷ [])
    × Wrong (codes "check" ∷ codes "--steps=7" ∷ [])

-- one line was printed
abbrev pub TextShows : Type 0
TextShows = run_text (codes "42" ∷ []) None ≡ codes "[0]\n42\ndone 1 behaviours 0 faults\n"

-- a body of these instructions
abbrev pub of_list : List Placed → Body
of_list list = record { name = When; params = 0; vars = 1; list = list }

abbrev pub of_bodies : List Body → Program
of_bodies bodies = record { bodies = bodies; texts = [] }

-- in a later body, in an earlier one, and nowhere
abbrev pub FirstUnbuiltShows : Type 0
FirstUnbuiltShows =
    (first_unbuilt (of_bodies (of_list (on_line 5 (instr.When 1 [] []) ∷ []) ∷ of_list (on_line 3 (instr.Built Cown 1) ∷ []) ∷ [])) ≡ Some 3)
    × (first_unbuilt (of_bodies (of_list (on_line 2 instr.Tick ∷ on_line 2 (instr.Built Cown 1) ∷ []) ∷ of_list [] ∷ [])) ≡ Some 2)
    × (first_unbuilt (of_bodies (of_list (on_line 1 (instr.Built Print 1) ∷ on_line 2 (instr.Ask Close 0) ∷ []) ∷ [])) ≡ None)
