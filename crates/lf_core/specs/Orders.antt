-- The orders of two schedules: one behaviour at a time, and round by round.
use Rattle.std.specs.Prelude.{List, [], length, map, suc, take, zero, ℕ, ◌++◌, ◌-◌, ◌<◌, ◌∷◌}
use Rattle.lf_base.specs.declared.behaviours.Job.{Job}
use Rattle.lf_base.specs.Sets.{Member}
use Rattle.lf_core.specs.World.{Runs, World, done, first, ready_jobs}

-- each job has a lower number than all after it
abbrev pub Rises : List Job → Type 0
Rises [] = Unit {0}
Rises (j ∷ js) = ((k : Job) → Member k js → j.id < k.id) × Rises js

abbrev pub ids : List Job → List ℕ
ids js = map (λ (j : Job). j.id) js

module _ {C : Type 0} (f : Runs C) where
  -- these were started, run and ended, one after the other
  abbrev pub all_done : World C → List Job → World C
  all_done w [] = w
  all_done w (j ∷ js) = all_done (done f w j) js

  abbrev pub first_then : (World C → List ℕ) → World C → List Job → List ℕ
  first_then rest w [] = []
  first_then rest w (j ∷ js) = j.id ∷ rest (done f w j)

  -- the first ready one each time, up to so many
  abbrev pub singles_from : ℕ → World C → List ℕ
  singles_from zero w = []
  singles_from (suc n) w = first_then (singles_from n) w (ready_jobs w)

  abbrev pub singles : ℕ → List ℕ
  singles budget = singles_from budget first

  abbrev pub round_then : (ℕ → World C → List ℕ) → ℕ → World C → List Job → List ℕ
  round_then rest n w [] = []
  round_then rest n w (j ∷ js) = ids (j ∷ js) ++ rest (n - length (j ∷ js)) (all_done w (j ∷ js))

  -- all ready ones, the first ones if there are more than so many, and then again, up to so many rounds
  abbrev pub rounds_from : ℕ → ℕ → World C → List ℕ
  rounds_from zero n w = []
  rounds_from (suc rounds) n w = round_then (rounds_from rounds) n w (take n (ready_jobs w))

  -- each round has one at least, so no more rounds come than behaviours may start
  abbrev pub rounds_order : ℕ → List ℕ
  rounds_order budget = rounds_from budget budget first
