-- The words of the command line.
use Rattle.std.specs.Prelude.{ℕ, Bool, List, [], ◌∷◌, ◌&&◌, codes, drop, nat_le, take, Option, Some, None, if◌then◌else◌}
use Rattle.std.specs.List.{list_all}
use Rattle.std.specs.Option.{option_map}
use Rattle.std.specs.Str.{bytes_eq}
use Rattle.std.specs.Str.Parse.{digits_value}
use Rattle.lf_app.specs.declared.commands.Command.{Command}
use Rattle.lf_app.specs.declared.commands.Command.TheVariants.{Run, Check, Code}
use Rattle.lf_base.specs.declared.limits.TheConstants.{DEFAULT_TICKS, MOST_TICKS}

-- `0` to `9`
abbrev pub is_digit : ℕ → Bool
is_digit byte = nat_le 48 byte && nat_le byte 57

-- a number of ticks: decimal digits, of which the first may be zeros, with a value in the limits; the value of none is 0
abbrev pub ticks_of : List ℕ → Option ℕ
ticks_of number =
    if list_all is_digit number && nat_le 1 (digits_value 10 number) && nat_le (digits_value 10 number) MOST_TICKS
    then Some (digits_value 10 number) else None

-- a run within the ticks that a number says
abbrev pub run_within : List ℕ → Option Command
run_within number = option_map Run (ticks_of number)

-- the command that a word names
abbrev pub command_named : List ℕ → Option Command
command_named word =
    if bytes_eq word (codes "run") then Some (Run DEFAULT_TICKS)
    else (if bytes_eq word (codes "check") then Some Check
    else (if bytes_eq word (codes "code") then Some Code else None))

-- the value of an option that is one word with it
abbrev pub joined_value : List ℕ → Option (List ℕ)
joined_value option = if bytes_eq (take 8 option) (codes "--steps=") then Some (drop 8 option) else None

abbrev pub run_with : Option (List ℕ) → Option Command
run_with None = None
run_with (Some number) = run_within number

-- `run`, and an option with its value in one word
abbrev pub command_of_two : List ℕ → List ℕ → Option Command
command_of_two word option = if bytes_eq word (codes "run") then run_with (joined_value option) else None

-- `run`, an option, and its value
abbrev pub command_of_three : List ℕ → List ℕ → List ℕ → Option Command
command_of_three word option number =
    if bytes_eq word (codes "run") && bytes_eq option (codes "--steps") then run_within number else None

-- the command that the words are
abbrev pub command_of : List (List ℕ) → Option Command
command_of (word ∷ []) = command_named word
command_of (word ∷ option ∷ []) = command_of_two word option
command_of (word ∷ option ∷ number ∷ []) = command_of_three word option number
command_of _ = None
