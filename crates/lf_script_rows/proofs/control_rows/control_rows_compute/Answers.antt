use Rattle.lf_script_rows.proofs.ControlRowsComputed.{short_ways_shows, and_tests_shows, or_tests_shows, no_truth_left_shows}
use Rattle.lf_script_rows.proofs.ControlRowsComputed.{divisions_shows, least_rest_shows, comparisons_shows, elifs_shows, no_branch_shows}
use Rattle.lf_script_rows.proofs.ControlRowsComputed.{turns_shows, counts_198_shows, counts_199_shows, main_returns_shows, frame_goes_shows}
use Rattle.lf_script_rows.proofs.ControlRowsComputed.{first_def_first_shows, spelled_shows}
use Rattle.lf_script_rows.proofs.control_rows.control_rows_compute.Goals as goal

pub returns-clause-short_ways : goal.returns-clause-short_ways
returns-clause-short_ways c = short_ways_shows

pub returns-clause-and_tests : goal.returns-clause-and_tests
returns-clause-and_tests c = and_tests_shows

pub returns-clause-or_tests : goal.returns-clause-or_tests
returns-clause-or_tests c = or_tests_shows

pub returns-clause-no_truth_left : goal.returns-clause-no_truth_left
returns-clause-no_truth_left c = no_truth_left_shows

pub returns-clause-divisions : goal.returns-clause-divisions
returns-clause-divisions c = divisions_shows

pub returns-clause-least_rest : goal.returns-clause-least_rest
returns-clause-least_rest c = least_rest_shows

pub returns-clause-comparisons : goal.returns-clause-comparisons
returns-clause-comparisons c = comparisons_shows

pub returns-clause-elifs : goal.returns-clause-elifs
returns-clause-elifs c = elifs_shows

pub returns-clause-no_branch : goal.returns-clause-no_branch
returns-clause-no_branch c = no_branch_shows

pub returns-clause-turns : goal.returns-clause-turns
returns-clause-turns c = turns_shows

pub returns-clause-counts_198 : goal.returns-clause-counts_198
returns-clause-counts_198 c = counts_198_shows

pub returns-clause-counts_199 : goal.returns-clause-counts_199
returns-clause-counts_199 c = counts_199_shows

pub returns-clause-main_returns : goal.returns-clause-main_returns
returns-clause-main_returns c = main_returns_shows

pub returns-clause-frame_goes : goal.returns-clause-frame_goes
returns-clause-frame_goes c = frame_goes_shows

pub returns-clause-first_def_first : goal.returns-clause-first_def_first
returns-clause-first_def_first c = first_def_first_shows

pub returns-clause-spelled : goal.returns-clause-spelled
returns-clause-spelled c = spelled_shows
