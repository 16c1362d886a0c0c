use Rattle.std.proofs.Common.{refl}
use Rattle.lf_regions.proofs.ChangeLaws.{ended_here, made_is_found, written_here}
use Rattle.lf_regions.proofs.laws.region_changes.Goals as goal

pub returns-clause-made : goal.returns-clause-made
returns-clause-made c = made_is_found

pub returns-clause-ended : goal.returns-clause-ended
returns-clause-ended c = ended_here

pub returns-clause-borrowed : goal.returns-clause-borrowed
returns-clause-borrowed c regions r number = written_here r (λ x. record x { borrowed = number }) (λ x. refl) regions

pub returns-clause-owned : goal.returns-clause-owned
returns-clause-owned c regions r owned = written_here r (λ x. record x { owned = owned }) (λ x. refl) regions
