use Rattle.lf_trials.proofs.transfer_tests.regions_freeze.Given as goal

abbrev pub ghosts-freeze_passes : goal.ghosts-freeze_passes
ghosts-freeze_passes g a = record { name = a.blank.name; parts = a.blank.parts }
