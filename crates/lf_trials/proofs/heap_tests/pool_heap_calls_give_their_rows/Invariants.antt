use Rattle.lf_trials.proofs.heap_tests.pool_heap_calls_give_their_rows.Given as goal

abbrev pub ghosts-failed_heap_row : goal.ghosts-failed_heap_row
ghosts-failed_heap_row g a = record { name = a.blank.name; parts = a.blank.parts }
