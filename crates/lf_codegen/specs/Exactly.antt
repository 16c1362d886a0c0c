-- What an answer says, where a script or a refusal is known: the answer gives just that, or want of memory,
-- of which no clause says when it comes.
use Rattle.std.specs.Prelude.{◌≡◌, List, Ok, Err}
use Rattle.std.specs.declared.result.Result.{Result}
use Rattle.lf_base.specs.declared.refusals.Refusal.{Refusal}
use Rattle.lf_base.specs.declared.refusals.ReadFail.{ReadFail}
use Rattle.lf_base.specs.declared.refusals.ReadFail.TheVariants as fail
use Rattle.lf_base.specs.Texts.{Text}
use Rattle.lf_parser.specs.Plain.{PlainTree, plain_tree}
use Rattle.lf_codegen.specs.declared.script.Script.{Script}

-- these texts and this tree
abbrev pub GivesScript : Result Script ReadFail → List Text → PlainTree → Type 0
GivesScript (Ok script) texts tree = (script.texts ≡ texts) × (plain_tree script.resolved ≡ tree)
GivesScript (Err (fail.Refused refusal)) texts tree = ⊥
GivesScript (Err fail.OutOfMemory) texts tree = Unit {0}

-- this refusal
abbrev pub GivesRefusal : Result Script ReadFail → Refusal → Type 0
GivesRefusal (Ok script) refusal = ⊥
GivesRefusal (Err (fail.Refused answered)) refusal = answered ≡ refusal
GivesRefusal (Err fail.OutOfMemory) refusal = Unit {0}
