-- Questions on a variable, and the closing of its region, as instructions.
use Rattle.std.specs.Prelude.{None, Option, Some, ℕ}
use Rattle.lf_base.specs.declared.questions.Question.{Question}
use Rattle.lf_base.specs.declared.questions.Question.TheVariants as question
use Rattle.lf_base.specs.declared.values.Value.TheVariants as value
use Rattle.lf_base.specs.Asking.{Answered, Asked, NotAnswered, asked, value_of_answer}
use Rattle.lf_base.specs.HeapCalls.{Changed, Done, Refused, close_change}
use Rattle.lf_base.specs.Operands.{pushed}
use Rattle.lf_base.specs.PlainState.{State}
use Rattle.lf_code.specs.declared.instr.AskName.{AskName}
use Rattle.lf_code.specs.declared.instr.AskName.TheVariants.{Borrowed, Close, IsClosed, OpenChildren, Owner, Refs}

-- the question that a name asks; `close` asks none
abbrev pub question_of : AskName → Option Question
question_of Close = None
question_of Refs = Some question.Refs
question_of Borrowed = Some question.Borrowed
question_of OpenChildren = Some question.OpenChildren
question_of Owner = Some question.Owner
question_of IsClosed = Some question.IsClosed

-- the answer is pushed
abbrev pub answer_pushed : State → Asked → Changed
answer_pushed s (Answered a) = Done (pushed (Some (value_of_answer a)) s)
answer_pushed s (NotAnswered fault) = Refused fault

-- None is pushed behind a change
abbrev pub none_pushed : Changed → Changed
none_pushed (Done s) = Done (pushed (Some value.None) s)
none_pushed (Refused fault) = Refused fault

abbrev pub ask_by : Option Question → ℕ → State → Changed
ask_by None at s = none_pushed (close_change at s)
ask_by (Some q) at s = answer_pushed s (asked s q at)

-- a question on the variable at a place, or its closing
abbrev pub ask_change : AskName → ℕ → State → Changed
ask_change name at s = ask_by (question_of name) at s
