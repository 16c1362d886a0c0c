use Rattle.lf_laws.proofs.Writes.WriteShows.{write_shows_interior, write_shows_round}
use Rattle.lf_laws.proofs.laws.write_shows.Goals as goal

pub returns-clause-interior : goal.returns-clause-interior
returns-clause-interior c s x k v t may = write_shows_interior s t x k v may

pub returns-clause-round : goal.returns-clause-round
returns-clause-round c s x k v home t may = write_shows_round s t x k v may home
