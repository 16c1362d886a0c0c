use Rattle.std.proofs.Common.{◌≡◌, flat_map, map, drop}
use Rattle.lf_parser.specs.Plain.{plain_function}
use Rattle.lf_codegen.specs.Earliest.{earliest}
use Rattle.lf_codegen.specs.NameRefusals.{params_refusals}
use Rattle.lf_codegen.proofs.resolving.judge_functions.Given as goal

abbrev pub invariant-loop-function : goal.invariant-loop-function
invariant-loop-function l =
    earliest l.first.refusal (flat_map params_refusals (map plain_function (drop l.function-index l.functions)))
    ≡ earliest l.fn.first.refusal (flat_map params_refusals (map plain_function l.functions))
