use Rattle.lf_laws.proofs.Dropping.KeptRows.{kept_in, kept_has, kept_meets}
use Rattle.lf_laws.proofs.laws.kept_is_greatest.Goals as goal

pub returns-clause-among : goal.returns-clause-among
returns-clause-among c = kept_in

pub returns-clause-meets : goal.returns-clause-meets
returns-clause-meets c = kept_meets

pub returns-clause-greatest : goal.returns-clause-greatest
returns-clause-greatest c s rows h = kept_has s rows (λ row m. (h row m).1) (λ row m. (h row m).0)
