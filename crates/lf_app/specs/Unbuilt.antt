-- Where a script has a form that doesn't run yet.
use Rattle.std.specs.Prelude.{ℕ, List, [], ◌∷◌, flat_map, min, Option, Some, None, if◌then◌else◌}
use Rattle.lf_code.specs.declared.body.Body.{Body}
use Rattle.lf_code.specs.declared.body.Placed.{Placed}
use Rattle.lf_code.specs.CodeStep.{Program}
use Rattle.lf_machine.specs.Forms.{runs}

-- the lesser of two lines, where there are two
abbrev pub lesser_line : Option ℕ → Option ℕ → Option ℕ
lesser_line None other = other
lesser_line (Some line) None = Some line
lesser_line (Some line) (Some other) = Some (min line other)

-- the least of some lines
abbrev pub least_line : List ℕ → Option ℕ
least_line [] = None
least_line (line ∷ more) = lesser_line (Some line) (least_line more)

-- the line of an instruction, where it doesn't run yet
abbrev pub line_unbuilt : Placed → List ℕ
line_unbuilt i = if runs i.instr then [] else i.line ∷ []

-- the lines of the instructions of a body that don't run yet
abbrev pub lines_unbuilt : Body → List ℕ
lines_unbuilt body = flat_map line_unbuilt body.list

-- the least line of the script on which a form stands that doesn't run yet. Each instruction has the line of its statement, and the
-- code has a body for each function and each `when`, also for those that are never reached
abbrev pub first_unbuilt : Program → Option ℕ
first_unbuilt code = least_line (flat_map lines_unbuilt code.bodies)
