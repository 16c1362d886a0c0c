use Rattle.std.proofs.Common.{refl}
use Rattle.lf_base.specs.declared.values.Owner.TheVariants.{Local}
use Rattle.lf_laws.proofs.Edges.GivenRegions.{borrows_gone, freed_other, owning_less}
use Rattle.lf_laws.proofs.count_laws.counts_of_dissolved_region.Goals as goal

pub returns-clause-no_borrows : goal.returns-clause-no_borrows
returns-clause-no_borrows c rows r es = borrows_gone rows r Local es refl

pub returns-clause-other_borrows : goal.returns-clause-other_borrows
returns-clause-other_borrows c rows r q es n = freed_other rows r es q n

pub returns-clause-other_owners : goal.returns-clause-other_owners
returns-clause-other_owners c rows r d es n = owning_less rows r Local es d refl n
