use Rattle.lf_heap.proofs.parts.Parts.add_region.Given as goal

abbrev pub ghosts-insert_alone : goal.ghosts-insert_alone
ghosts-insert_alone g a = record { name = a.blank.name; parts = a.blank.parts }
