use Rattle.lf_laws.proofs.Changes.ContentLaw.{content_law, made_law}
use Rattle.lf_laws.proofs.laws.content_law.Goals as goal

pub returns-clause-held : goal.returns-clause-held
returns-clause-held c s d v t h may = content_law s d v h t may

pub returns-clause-made : goal.returns-clause-made
returns-clause-made c = made_law
