use Rattle.std.proofs.Common.{◌≡◌, List, flat_map, take}
use Rattle.lf_base.specs.Texts.{Text}
use Rattle.lf_parser.specs.declared.name.Name.{Name}
use Rattle.lf_parser.specs.Plain.{PlainFunction}
use Rattle.lf_codegen.specs.Earliest.{earliest}
use Rattle.lf_codegen.specs.NameRefusals.{mention_refusals}
use Rattle.lf_codegen.specs.NameSets.{HasNames}
use Rattle.lf_codegen.specs.TablesMean.{Knows}
use Rattle.lf_codegen.proofs.resolving.judge_mentions.Given as goal

abbrev pub invariant-loop-mention : goal.invariant-loop-mention
invariant-loop-mention l =
    (texts : List Text) (functions : List PlainFunction) (names : List Name) → Knows l.callees texts functions → HasNames l.bound names
    → l.first.refusal ≡ earliest l.fn.first.refusal (flat_map (mention_refusals texts functions names) (take l.mention-index l.mentions))
