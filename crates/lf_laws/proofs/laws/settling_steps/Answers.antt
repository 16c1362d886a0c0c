use Rattle.std.proofs.Common.{inl, inr}
use Rattle.lf_laws.proofs.Dropping.SuspectsDecided.{decision, goes, idle}
use Rattle.lf_laws.proofs.Dropping.HangingRows.{settled}
use Rattle.lf_laws.proofs.Dropping.LeftRows.{well_formed_without}
use Rattle.lf_laws.proofs.Dropping.RowsInPlace.{rows_in_place}
use Rattle.lf_laws.proofs.Dropping.HangingIsWatched.{hang_watched}
use Rattle.lf_laws.proofs.Dropping.RowsWithout.{kept_without, watched_forget, watched_without}
use Rattle.lf_laws.proofs.laws.settling_steps.Goals as goal

pub returns-clause-watched : goal.returns-clause-watched
returns-clause-watched c s w t h = hang_watched s (rows_in_place s t) w h

pub returns-clause-decided : goal.returns-clause-decided
returns-clause-decided c s u t = elim (decision s (rows_in_place s t) u) [
  | idle i ↦ inl i
  | goes gone can spent ↦ inr (gone, (can, spent))
]

pub returns-clause-forgotten : goal.returns-clause-forgotten
returns-clause-forgotten c = watched_forget

pub returns-clause-well_formed : goal.returns-clause-well_formed
returns-clause-well_formed c = well_formed_without

pub returns-clause-stays_same : goal.returns-clause-stays_same
returns-clause-stays_same c s gone t can = kept_without s (rows_in_place s t) gone can

pub returns-clause-watched_again : goal.returns-clause-watched_again
returns-clause-watched_again c s gone u new w t can = watched_without s (rows_in_place s t) gone can u new w

pub returns-clause-all_stay : goal.returns-clause-all_stay
returns-clause-all_stay c s t h = settled s (rows_in_place s t) h t.no_round
