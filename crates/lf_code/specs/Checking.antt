-- What a check of code answers.
use Rattle.std.specs.Prelude.{Err, List, Ok, Result, ◌≡◌}
use Rattle.lf_base.specs.Texts.{Text}
use Rattle.lf_code.specs.declared.body.Body.{Body}
use Rattle.lf_code.specs.declared.code.CodeFail.{CodeFail}
use Rattle.lf_code.specs.declared.code.CodeFail.TheVariants as fail
use Rattle.lf_code.specs.CodeStep.{Program}
use Rattle.lf_code.specs.ValidCode.{ValidCode}

-- the code that these bodies and texts are
abbrev pub checked_code : List Body → List Text → Program
checked_code bodies texts = record { bodies = bodies; texts = texts }

-- valid code comes as it is, and what isn't valid is refused; both arguments are handed back by a refusal
abbrev pub CheckAnswers : List Body → List Text → Result Program CodeFail → Type 0
CheckAnswers bodies texts (Ok code) = (code ≡ checked_code bodies texts) × ValidCode code
CheckAnswers bodies texts (Err (fail.Invalid b t)) = (b ≡ bodies) × ((t ≡ texts) × (ValidCode (checked_code bodies texts) → ⊥))
CheckAnswers bodies texts (Err (fail.OutOfMemory b t)) = (b ≡ bodies) × (t ≡ texts)
