-- The rows, computed.
use Rattle.std.proofs.Common.{refl}
use Rattle.std.specs.Fmt.{digits}
use Rattle.lf_script_rows.specs.ControlRows.{ShortWaysRuns, AndTestsRuns, OrTestsRuns, NoTruthLeftRuns, DivisionsRuns, LeastRestRuns}
use Rattle.lf_script_rows.specs.ControlRows.{ComparisonsRuns, ElifsRuns, NoBranchRuns, TurnsRuns, Counts198Runs, Counts199Runs}
use Rattle.lf_script_rows.specs.ControlRows.{MainReturnsRuns, FrameGoesRuns, FirstDefFirstRuns, SpelledRuns}

pub short_ways_shows : ShortWaysRuns
unfolding digits
short_ways_shows = ((refl, refl), (refl, refl))

pub and_tests_shows : AndTestsRuns
unfolding digits
and_tests_shows = ((refl, refl), (refl, refl))

pub or_tests_shows : OrTestsRuns
unfolding digits
or_tests_shows = ((refl, refl), (refl, refl))

pub no_truth_left_shows : NoTruthLeftRuns
unfolding digits
no_truth_left_shows = ((refl, refl), (refl, refl))

pub divisions_shows : DivisionsRuns
unfolding digits
divisions_shows = ((refl, refl), (refl, refl))

pub least_rest_shows : LeastRestRuns
unfolding digits
least_rest_shows = ((refl, refl), (refl, refl))

pub comparisons_shows : ComparisonsRuns
unfolding digits
comparisons_shows = ((refl, refl), (refl, refl))

pub elifs_shows : ElifsRuns
unfolding digits
elifs_shows = (((refl, refl), (refl, refl)), ((refl, refl), (refl, refl)), ((refl, refl), (refl, refl)))

pub no_branch_shows : NoBranchRuns
unfolding digits
no_branch_shows = (((refl, refl), (refl, refl)), ((refl, refl), (refl, refl)))

pub turns_shows : TurnsRuns
unfolding digits
turns_shows = ((refl, refl), (refl, refl))

pub counts_198_shows : Counts198Runs
unfolding digits
counts_198_shows = ((refl, refl), (refl, refl))

pub counts_199_shows : Counts199Runs
unfolding digits
counts_199_shows = ((refl, refl), (refl, refl))

pub main_returns_shows : MainReturnsRuns
unfolding digits
main_returns_shows = ((refl, refl), (refl, refl))

pub frame_goes_shows : FrameGoesRuns
unfolding digits
frame_goes_shows = ((refl, refl), (refl, refl))

pub first_def_first_shows : FirstDefFirstRuns
unfolding digits
first_def_first_shows = ((refl, refl), (refl, refl))

pub spelled_shows : SpelledRuns
unfolding digits
spelled_shows = ((refl, refl), (refl, refl))
