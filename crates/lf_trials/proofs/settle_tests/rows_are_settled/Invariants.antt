use Rattle.lf_trials.proofs.settle_tests.rows_are_settled.Given as goal

abbrev pub ghosts-settles_rows : goal.ghosts-settles_rows
ghosts-settles_rows g a = record { name = a.blank.name; parts = a.blank.parts }
