use Rattle.std.proofs.Common.{◌∙◌, sym}
use Rattle.lf_codegen.proofs.FirstRefusal.First.{kept_is_first, none_came}
use Rattle.lf_codegen.proofs.resolving.resolve.Goals as goal

pub returns-in-Some-clause-refused : goal.returns-in-Some-clause-refused
returns-in-Some-clause-refused c = kept_is_first _ _ (sym c.in_ok-names.ensures.refusals ∙ c.in-Some.is)

pub returns-clause-resolves : goal.returns-clause-resolves
returns-clause-resolves c = none_came _ (sym c.in_ok-names.ensures.refusals ∙ c.in_default.is)
