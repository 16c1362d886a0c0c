use Rattle.lf_trials.proofs.barrier_tests.barrier_writes.Given as goal

abbrev pub ghosts-barrier_passes : goal.ghosts-barrier_passes
ghosts-barrier_passes g a = record { name = a.blank.name; parts = a.blank.parts }
