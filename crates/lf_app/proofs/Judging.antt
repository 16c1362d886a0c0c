-- What comes of bytes that were read.
use Rattle.std.proofs.Common.{ℕ, List, inr, refl}
use Rattle.lf_base.specs.Texts.{Text}
use Rattle.lf_parser.specs.Plain.{PlainTree}
use Rattle.lf_codegen.specs.ScriptReading.{IsRead}
use Rattle.lf_app.specs.declared.commands.Command.{Command}
use Rattle.lf_app.specs.declared.outcomes.Outcome.{Outcome}
use Rattle.lf_app.specs.Verdicts.{IsOfScript, script_verdict}
use Rattle.lf_app.specs.Outcomes.{IsOutcome, IsOutcomeOf}

-- the outcome of the script's verdict is that of the bytes
pub of_script : (command : Command) (bytes : List ℕ) (texts : List Text) (tree : PlainTree) (outcome : Outcome) → IsRead bytes texts tree
    → IsOutcomeOf (script_verdict command (record { texts = texts; tree = tree })) outcome → IsOutcome command bytes outcome
of_script command bytes texts tree outcome is_read is_of =
    let verdict = script_verdict command (record { texts = texts; tree = tree }) in
    let of : IsOfScript command bytes verdict = record { texts = texts; tree = tree; is_read = is_read; verdict_is = refl } in
    record { verdict = verdict; is_verdict = inr of; is_of = is_of }
