-- What the reader answers, by what its parts answer.
use Rattle.std.proofs.Common.{ℕ, List, Ok, Err, IfOk, IfErr, inr}
use Rattle.std.specs.declared.result.Result.{Result}
use Rattle.lf_base.specs.Texts.{Text}
use Rattle.lf_base.specs.declared.refusals.Refusal.{Refusal}
use Rattle.lf_base.specs.declared.refusals.ReadFail.{ReadFail}
use Rattle.lf_base.specs.declared.refusals.ReadFail.TheVariants as fail
use Rattle.lf_parser.specs.Plain.{PlainTree, plain_tree}
use Rattle.lf_codegen.specs.declared.script.Script.{Script}
use Rattle.lf_codegen.specs.Exactly.{GivesScript, GivesRefusal}
use Rattle.lf_codegen.proofs.Answering.OneAnswer.{read_texts, read_tree, refused_once, read_not_refused}
use Rattle.lf_codegen.specs.NameRefusals as names
use Rattle.lf_codegen.specs.ScriptReading.{IsParsed, IsRead, IsFirstRefusal, ReadFailsAs}

pub names_fail : (bytes : List ℕ) (texts : List Text) (tree : PlainTree) (why : ReadFail) → IsParsed bytes texts tree
    → names.ResolveFailsAs texts tree why → ReadFailsAs bytes why
names_fail bytes texts tree (fail.Refused refusal) parsed refused =
    inr (inr (record { texts = texts; tree = tree; parsed = parsed; refused = refused }))
names_fail bytes texts tree fail.OutOfMemory parsed refused = refused

-- a known script, and a known refusal, is the one that is answered
pub gives_script : (bytes : List ℕ) (result : Result Script ReadFail)
    → IfOk result (λ script. IsRead bytes script.texts (plain_tree script.resolved)) → IfErr result (ReadFailsAs bytes)
    → (texts : List Text) (tree : PlainTree) → IsRead bytes texts tree → GivesScript result texts tree
gives_script bytes (Ok script) read refused texts tree is = (
  read_texts bytes script.texts texts (plain_tree script.resolved) tree read is,
  read_tree bytes script.texts texts (plain_tree script.resolved) tree read is,
)
gives_script bytes (Err (fail.Refused r)) read refused texts tree is = read_not_refused bytes texts tree r is refused
gives_script bytes (Err fail.OutOfMemory) read refused texts tree is = tt

pub gives_refusal : (bytes : List ℕ) (result : Result Script ReadFail)
    → IfOk result (λ script. IsRead bytes script.texts (plain_tree script.resolved)) → IfErr result (ReadFailsAs bytes)
    → (refusal : Refusal) → IsFirstRefusal bytes refusal → GivesRefusal result refusal
gives_refusal bytes (Ok script) read refused refusal is = read_not_refused bytes script.texts (plain_tree script.resolved) refusal read is
gives_refusal bytes (Err (fail.Refused r)) read refused refusal is = refused_once bytes r refusal refused is
gives_refusal bytes (Err fail.OutOfMemory) read refused refusal is = tt
