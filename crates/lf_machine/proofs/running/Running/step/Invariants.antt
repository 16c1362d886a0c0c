use Rattle.lf_machine.proofs.running.Running.step.Given as goal

abbrev pub ghosts-step_alone : goal.ghosts-step_alone
ghosts-step_alone g a = record { name = a.blank.name; parts = a.blank.parts }
