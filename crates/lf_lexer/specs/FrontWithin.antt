-- How many bytes stand at the front of a line's rest.
use Rattle.std.specs.Prelude.{ℕ, ◌+◌, ◌≤◌}
use Rattle.lf_lexer.specs.declared.texts.TextEnd.{TextEnd}
use Rattle.lf_lexer.specs.declared.texts.TextEnd.TheVariants.{Closed, Open, Bad}
use Rattle.lf_lexer.specs.declared.texts.TextStep.{TextStep}
use Rattle.lf_lexer.specs.declared.texts.TextStep.TheVariants as step
use Rattle.lf_lexer.specs.declared.front.Front.{Front}
use Rattle.lf_lexer.specs.declared.front.Front.TheVariants.{End, Space, Name, Number, Text, Sign, Refused}

-- a step in a text takes some bytes that are there
abbrev pub TextStepsWithin : ℕ → TextStep → Type 0
TextStepsWithin count step.Closes = 1 ≤ count
TextStepsWithin count step.Open = Unit {0}
TextStepsWithin count (step.Bad offset) = offset + 1 ≤ count
TextStepsWithin count (step.Goes len) = (1 ≤ len) × (len ≤ count)

-- the end of a text stands within so many bytes
abbrev pub EndsWithin : ℕ → TextEnd → Type 0
EndsWithin count (Closed len) = len + 1 ≤ count
EndsWithin count Open = Unit {0}
EndsWithin count (Bad at) = at + 1 ≤ count

-- what stands at the front takes no more bytes than there are
abbrev pub TakesWithin : ℕ → Front → Type 0
TakesWithin count End = Unit {0}
TakesWithin count Space = 1 ≤ count
TakesWithin count (Name len) = len ≤ count
TakesWithin count (Number value len) = len ≤ count
TakesWithin count (Text len) = len + 2 ≤ count
TakesWithin count (Sign mark len) = len ≤ count
TakesWithin count (Refused kind offset) = offset ≤ count
