-- A behaviour run to its end by its code.
use Rattle.std.specs.Prelude.{List, None, Option, Some, [], length, map, max, replicate, suc, zero, ℕ, ◌*◌, ◌++◌, ◌+◌, ◌-◌, ◌∷◌}
use Rattle.lf_base.specs.declared.behaviours.Job.{Job}
use Rattle.lf_base.specs.declared.behaviours.Spawn.{Spawn}
use Rattle.lf_base.specs.declared.faults.FaultAt.{FaultAt}
use Rattle.lf_base.specs.declared.ids.CownId.{CownId}
use Rattle.lf_base.specs.declared.values.Value.{Value}
use Rattle.lf_base.specs.Contents.{Parked, parted, stored}
use Rattle.lf_base.specs.EndResult.{end_result}
use Rattle.lf_base.specs.PlainChanges.{with_slots}
use Rattle.lf_base.specs.PlainState.{Row, State}
use Rattle.lf_code.specs.declared.body.Body.{Body}
use Rattle.lf_code.specs.CodeStep.{Config, Over, Program, Running, code_step, new_frame, vars_at}
use Rattle.lf_code.specs.Progress.{Progress}

-- what comes of a behaviour: the contents of the cowns that it held and of those that it made, the rows that it froze, its lines,
-- its fault where one ended it, and its spawns
pub record RunResult : Type 0 where
  pub held : List (CownId × Parked)
  pub made : List (CownId × Parked)
  pub frozen : List Row
  pub lines : List (List ℕ)
  pub fault : Option FaultAt
  pub spawns : List Spawn

-- the slots of a body with so many variables: the values of its parameters, and the other variables unset
abbrev pub first_slots : List Value → ℕ → List (Option Value)
first_slots values vars = map Some values ++ replicate (vars - length values) None

-- the course at the start of a body with so many variables, with the contents of the job's cowns and some frozen rows
abbrev pub first_progress : Job → List (CownId × Parked) → List Row → ℕ → ℕ → Progress
first_progress job contents given vars ticks = record {
  state = with_slots (stored job.id contents given) (first_slots job.values vars);
  ticks = ticks;
  lines = [];
  spawns = [];
}

abbrev pub result_from : Progress → Option FaultAt → State → RunResult
result_from c fault last = record {
  held = parted last last.held;
  made = parted last last.made;
  frozen = last.own;
  lines = c.lines;
  fault = fault;
  spawns = c.spawns;
}

-- a behaviour ends with this course
abbrev pub result_of : Progress → Option FaultAt → RunResult
result_of c fault = result_from c fault (end_result c.state)

-- so many instructions at most, until it is over
abbrev pub steps : Program → ℕ → Config → Config
steps p zero x = x
steps p (suc n) (Over c fault) = Over c fault
steps p (suc n) (Running f fs c) = steps p n (code_step p (Running f fs c))

-- the most instructions of one body
abbrev pub longest : List Body → ℕ
longest [] = 0
longest (b ∷ bs) = max (length b.list) (longest bs)

-- no run of ticked code is longer
abbrev pub most_steps : Program → ℕ → ℕ
most_steps p ticks = (2 * ticks + 2) * (longest p.bodies + 4)

abbrev pub config_result : Config → RunResult
config_result (Over c fault) = result_of c fault
config_result (Running f fs c) = result_of c None

-- what comes of a job by its code, within a budget of ticks
abbrev pub run_code : Program → ℕ → Job → List (CownId × Parked) → List Row → RunResult
run_code p ticks job contents given =
    config_result (steps p (most_steps p ticks)
    (Running (new_frame job.body 0) [] (first_progress job contents given (vars_at p job.body) ticks)))
