use Rattle.lf_laws.proofs.Writes.WriteShows.{write_counts}
use Rattle.lf_laws.proofs.laws.write_counts.Goals as goal

pub returns : goal.returns
returns c = write_counts
