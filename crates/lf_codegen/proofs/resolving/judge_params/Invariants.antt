use Rattle.std.proofs.Common.{◌≡◌, [], take}
use Rattle.lf_codegen.specs.Earliest.{earliest}
use Rattle.lf_codegen.specs.NameRefusals.{repeats}
use Rattle.lf_codegen.specs.NameSets.{HasNames}
use Rattle.lf_codegen.proofs.resolving.judge_params.Given as goal

abbrev pub invariant-loop-param : goal.invariant-loop-param
invariant-loop-param l = HasNames l.earlier (take l.param-index l.params)
    × (l.first.refusal ≡ earliest l.fn.first.refusal (repeats [] (take l.param-index l.params)))
