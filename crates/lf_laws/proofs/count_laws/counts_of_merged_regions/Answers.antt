use Rattle.std.proofs.Common.{ap, not}
use Rattle.lf_base.specs.declared.values.Owner.TheVariants.{In}
use Rattle.lf_base.proofs.NameLemmas.SameNames.{same_name_itself}
use Rattle.lf_laws.proofs.Edges.GivenRegions.{borrows_gone, merged_home, merged_other, merged_owning, owning_less}
use Rattle.lf_laws.proofs.count_laws.counts_of_merged_regions.Goals as goal

pub returns-clause-borrows : goal.returns-clause-borrows
returns-clause-borrows c rows a b es n = merged_home rows b a es n

pub returns-clause-no_borrows : goal.returns-clause-no_borrows
returns-clause-no_borrows c rows a b es n = borrows_gone rows b (In a) es n

pub returns-clause-other_borrows : goal.returns-clause-other_borrows
returns-clause-other_borrows c rows a b q es n m = merged_other rows b a es q n m

pub returns-clause-owners : goal.returns-clause-owners
returns-clause-owners c rows a b es n = owning_less rows b (In a) es a (ap not (same_name_itself a)) n

pub returns-clause-other_owners : goal.returns-clause-other_owners
returns-clause-other_owners c rows a b d es n m = merged_owning rows b a es d n m
