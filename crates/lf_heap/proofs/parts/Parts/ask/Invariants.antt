use Rattle.lf_heap.proofs.parts.Parts.ask.Given as goal

abbrev pub ghosts-answer_alone : goal.ghosts-answer_alone
ghosts-answer_alone g a = record { name = a.blank.name; parts = a.blank.parts }
