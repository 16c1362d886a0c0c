use Rattle.lf_trials.proofs.settle_tests.long_chain_goes.Given as goal

abbrev pub ghosts-chain_goes : goal.ghosts-chain_goes
ghosts-chain_goes g a = record { name = a.blank.name; parts = a.blank.parts }
