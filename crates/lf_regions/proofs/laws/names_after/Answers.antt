use Rattle.std.proofs.Common.{refl}
use Rattle.lf_regions.proofs.ChangeLaws.{ended_has, made_names, written_names}
use Rattle.lf_regions.specs.RegionChanges.{with_borrowed, with_owned}
use Rattle.lf_regions.proofs.RegionNames.{names_without}
use Rattle.lf_regions.proofs.RegionNumbers.{same_names_tell}
use Rattle.lf_regions.proofs.laws.names_after.Goals as goal

pub returns-clause-made : goal.returns-clause-made
returns-clause-made c = made_names

pub returns-clause-ended : goal.returns-clause-ended
returns-clause-ended c = ended_has

pub returns-clause-ended_names : goal.returns-clause-ended_names
returns-clause-ended_names c = names_without

pub returns-clause-borrowed : goal.returns-clause-borrowed
returns-clause-borrowed c regions r number = written_names r (λ x. record x { borrowed = number }) (λ x. refl) regions

pub returns-clause-owned : goal.returns-clause-owned
returns-clause-owned c regions r owned = written_names r (λ x. record x { owned = owned }) (λ x. refl) regions

pub returns-clause-borrowed_has : goal.returns-clause-borrowed_has
returns-clause-borrowed_has c regions r q number = same_names_tell (with_borrowed regions r number) regions q (written_names r (λ x. record x { borrowed = number }) (λ x. refl) regions)

pub returns-clause-owned_has : goal.returns-clause-owned_has
returns-clause-owned_has c regions r q owned = same_names_tell (with_owned regions r owned) regions q (written_names r (λ x. record x { owned = owned }) (λ x. refl) regions)
