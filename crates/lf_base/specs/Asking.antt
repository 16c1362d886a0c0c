-- Questions as a call: what comes of each, and its answer as a value of the script.
use Rattle.std.specs.Prelude.{Err, List, None, Ok, Option, Some, codes, pos, ℕ, ◌≡◌}
use Rattle.std.specs.declared.result.Result.{Result}
use Rattle.std.specs.Option.{option_map}
use Rattle.lf_base.specs.declared.faults.Fault.{Fault}
use Rattle.lf_base.specs.declared.faults.Fault.TheVariants.{Kind, NotBridge, Unset}
use Rattle.lf_base.specs.declared.questions.Answer.{Answer}
use Rattle.lf_base.specs.declared.questions.Answer.TheVariants as answer
use Rattle.lf_base.specs.declared.questions.Label.{Label}
use Rattle.lf_base.specs.declared.questions.Label.TheVariants as label
use Rattle.lf_base.specs.declared.questions.Question.{Question}
use Rattle.lf_base.specs.declared.questions.Question.TheVariants as question
use Rattle.lf_base.specs.declared.values.Value.{Value}
use Rattle.lf_base.specs.declared.values.Value.TheVariants as value
use Rattle.lf_base.specs.PlainChanges.{slot_at}
use Rattle.lf_base.specs.PlainState.{State}
use Rattle.lf_base.specs.Questions.{borrowed_answer, is_closed_answer, label_of, open_children_answer, refs_answer}
use Rattle.lf_base.specs.Texts.{fixed_texts, place_of}

-- what a question on a variable at a place that holds v answers; None stands for a fault
abbrev pub answer_to : State → Question → ℕ → Value → Option Answer
answer_to s question.Refs at v = option_map answer.Number (refs_answer s v)
answer_to s question.Borrowed at v = option_map answer.Number (borrowed_answer s v)
answer_to s question.OpenChildren at v = option_map answer.Number (open_children_answer s v)
answer_to s question.Owner at v = Some (answer.Label (label_of s v))
answer_to s question.IsClosed at v = option_map answer.Truth (is_closed_answer s at v)

-- the fault of a question that has no answer: on the counts of an object that isn't mutable, or of a region that isn't there
abbrev pub fault_of_question : Question → Fault
fault_of_question question.Refs = Kind
fault_of_question _ = NotBridge

-- what comes of a question
pub data Asked : Type 0 where
  Answered : Answer → Asked
  NotAnswered : Fault → Asked

abbrev pub asked_by : Fault → Option Answer → Asked
asked_by f (Some a) = Answered a
asked_by f None = NotAnswered f

abbrev pub asked_of : State → Question → ℕ → Option Value → Asked
asked_of s q at None = NotAnswered Unset
asked_of s q at (Some v) = asked_by (fault_of_question q) (answer_to s q at v)

-- what comes of a question on the variable at a place: it must be set
abbrev pub asked : State → Question → ℕ → Asked
asked s q at = asked_of s q at (slot_at s.slots at)

-- what a call answers that asks
abbrev pub GivesAnswer : Asked → Result Answer Fault → Type 0
GivesAnswer came (Ok a) = came ≡ Answered a
GivesAnswer came (Err f) = came ≡ NotAnswered f

-- the text of a label
abbrev pub label_text : Label → List ℕ
label_text label.Local = codes "local"
label_text label.Region = codes "region"
label_text label.Frozen = codes "frozen"
label_text label.Cown = codes "cown"
label_text label.Value = codes "value"

-- an answer as a value of the script
abbrev pub value_of_answer : Answer → Value
value_of_answer (answer.Number n) = value.Int (pos n)
value_of_answer (answer.Truth b) = value.Bool b
value_of_answer (answer.Label l) = value.Text (record { index = place_of fixed_texts (label_text l) })
