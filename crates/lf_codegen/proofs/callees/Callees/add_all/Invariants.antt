use Rattle.std.proofs.Common.{◌≡◌, [], List, map, take}
use Rattle.lf_base.specs.Texts.{Text}
use Rattle.lf_parser.specs.Plain.{plain_function}
use Rattle.lf_codegen.specs.Earliest.{earliest}
use Rattle.lf_codegen.specs.NameRefusals.{names_refusals}
use Rattle.lf_codegen.specs.TablesMean.{Knows}
use Rattle.lf_codegen.proofs.callees.Callees.add_all.Given as goal

abbrev pub invariant-loop-function : goal.invariant-loop-function
invariant-loop-function l = (texts : List Text) → Knows l.fn.self texts []
    → Knows l.self texts (map plain_function (take l.function-index l.functions))
    × (l.first.refusal ≡ earliest l.fn.first.refusal (names_refusals texts [] (map plain_function (take l.function-index l.functions))))
