use Rattle.lf_laws.proofs.Dropping.RowsInPlace.{rows_in_place}
use Rattle.lf_laws.proofs.Dropping.RowsWithout.{run_settles}
use Rattle.lf_laws.proofs.laws.suspects_settle.Goals as goal

pub returns : goal.returns
returns c s t w top hang run = run_settles s t w run (rows_in_place s top) top.no_round hang
