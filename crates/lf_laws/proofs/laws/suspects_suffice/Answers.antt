use Rattle.lf_laws.proofs.Dropping.HangingRows.{suspected_hang}
use Rattle.lf_laws.proofs.Dropping.RowsInPlace.{rows_in_place}
use Rattle.lf_laws.proofs.laws.suspects_suffice.Goals as goal

pub returns : goal.returns
returns c s w t h = suspected_hang s (rows_in_place s t) w h t.no_round
