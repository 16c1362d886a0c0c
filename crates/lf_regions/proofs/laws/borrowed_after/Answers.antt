use Rattle.std.proofs.Common.{refl}
use Rattle.lf_regions.specs.declared.region.Region.{Region}
use Rattle.lf_regions.proofs.RegionNumbers.{read_ended, read_made, read_stays, read_written}
use Rattle.lf_regions.proofs.laws.borrowed_after.Goals as goal

pub returns-clause-made : goal.returns-clause-made
returns-clause-made c regions r q new = read_made (λ (x : Region). x.borrowed) 0 regions r q new refl

pub returns-clause-ended : goal.returns-clause-ended
returns-clause-ended c = read_ended (λ (x : Region). x.borrowed) 0

pub returns-clause-borrowed : goal.returns-clause-borrowed
returns-clause-borrowed c regions r q number there =
    read_written (λ (x : Region). x.borrowed) 0 r (λ x. record x { borrowed = number }) (λ x. refl) regions q number there (λ x. refl)

pub returns-clause-owned : goal.returns-clause-owned
returns-clause-owned c regions r q owned =
    read_stays (λ (x : Region). x.borrowed) 0 r (λ x. record x { owned = owned }) (λ x. refl) (λ x. refl) regions q
