use Rattle.lf_trials.proofs.domain_tests.edges_are_counted.Given as goal

abbrev pub ghosts-counts_edges : goal.ghosts-counts_edges
ghosts-counts_edges g a = record { name = a.blank.name; parts = a.blank.parts }
