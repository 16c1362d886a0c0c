use Rattle.std.proofs.Common.{ap}
use Rattle.lf_base.specs.Names.{targets_of_value}
use Rattle.lf_base.specs.NewCown.{is_open_region, or_open}
use Rattle.lf_laws.proofs.Judging.Contents.{held_refusal, made_refusal}
use Rattle.lf_laws.proofs.refusal_laws.refusals_of_content.Goals as goal

pub returns-clause-held : goal.returns-clause-held
returns-clause-held c s d old v at = held_refusal s d old at v

pub returns-clause-made : goal.returns-clause-made
returns-clause-made c = made_refusal

pub returns-clause-new_cown : goal.returns-clause-new_cown
returns-clause-new_cown c s v = ap (λ f. or_open f (is_open_region s (targets_of_value v))) (made_refusal s v)
