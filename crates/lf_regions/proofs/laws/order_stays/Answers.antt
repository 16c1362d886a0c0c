use Rattle.std.proofs.Common.{refl}
use Rattle.lf_regions.proofs.ChangeLaws.{written_order}
use Rattle.lf_regions.proofs.RegionNames.{order_with, order_without}
use Rattle.lf_regions.proofs.laws.order_stays.Goals as goal

pub returns-clause-made : goal.returns-clause-made
returns-clause-made c = order_with

pub returns-clause-ended : goal.returns-clause-ended
returns-clause-ended c = order_without

pub returns-clause-borrowed : goal.returns-clause-borrowed
returns-clause-borrowed c regions r number = written_order r (λ x. record x { borrowed = number }) (λ x. refl) regions

pub returns-clause-owned : goal.returns-clause-owned
returns-clause-owned c regions r owned = written_order r (λ x. record x { owned = owned }) (λ x. refl) regions
