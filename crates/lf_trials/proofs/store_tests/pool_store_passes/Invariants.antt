use Rattle.lf_trials.proofs.store_tests.pool_store_passes.Given as goal

abbrev pub ghosts-failed_case : goal.ghosts-failed_case
ghosts-failed_case g a = record { name = a.blank.name; parts = a.blank.parts }
