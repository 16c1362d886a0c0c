use Rattle.lf_bench.proofs.main.Given as goal

abbrev pub ghosts-measure : goal.ghosts-measure
ghosts-measure a = record { name = a.blank.name; parts = a.blank.parts }

abbrev pub ghosts-measure-2 : goal.ghosts-measure-2
ghosts-measure-2 a = record { name = a.blank.name; parts = a.blank.parts }
