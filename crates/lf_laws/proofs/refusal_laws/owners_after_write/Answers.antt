use Rattle.lf_laws.proofs.Judging.OwnersCounted.{old_owns, other_owners, own_owners}
use Rattle.lf_laws.proofs.refusal_laws.owners_after_write.Goals as goal

pub returns-clause-other : goal.returns-clause-other
returns-clause-other c s x k v home ms b w = other_owners s x k v home ms w b

pub returns-clause-home : goal.returns-clause-home
returns-clause-home c s x k v home ms w = own_owners s x k v home ms w

pub returns-clause-old : goal.returns-clause-old
returns-clause-old c s x k v home ms b w = old_owns s x k v home ms w b
