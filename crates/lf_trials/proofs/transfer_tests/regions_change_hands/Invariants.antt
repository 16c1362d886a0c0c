use Rattle.lf_trials.proofs.transfer_tests.regions_change_hands.Given as goal

abbrev pub ghosts-transfer_passes : goal.ghosts-transfer_passes
ghosts-transfer_passes g a = record { name = a.blank.name; parts = a.blank.parts }
