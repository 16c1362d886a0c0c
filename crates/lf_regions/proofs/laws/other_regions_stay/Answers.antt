use Rattle.std.proofs.Common.{refl}
use Rattle.lf_regions.proofs.ChangeLaws.{ended_other, made_other, written_other}
use Rattle.lf_regions.proofs.laws.other_regions_stay.Goals as goal

pub returns-clause-made : goal.returns-clause-made
returns-clause-made c = made_other

pub returns-clause-ended : goal.returns-clause-ended
returns-clause-ended c = ended_other

pub returns-clause-borrowed : goal.returns-clause-borrowed
returns-clause-borrowed c regions r q number = written_other r (λ x. record x { borrowed = number }) (λ x. refl) regions q

pub returns-clause-owned : goal.returns-clause-owned
returns-clause-owned c regions r q owned = written_other r (λ x. record x { owned = owned }) (λ x. refl) regions q
