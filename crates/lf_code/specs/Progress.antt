-- How far a behaviour is, and how a piece of it ends.
use Rattle.std.specs.Prelude.{Bool, List, None, Option, Some, false, true, ℕ}
use Rattle.lf_base.specs.declared.behaviours.Spawn.{Spawn}
use Rattle.lf_base.specs.declared.faults.Fault.{Fault}
use Rattle.lf_base.specs.declared.faults.FaultAt.{FaultAt}
use Rattle.lf_base.specs.HeapCalls.{Changed}
use Rattle.lf_base.specs.HeapCalls as heap
use Rattle.lf_base.specs.PlainState.{State}

-- the state of a behaviour, the ticks that it has left, and its lines and its spawns so far
pub record Progress : Type 0 where
  pub state : State
  pub ticks : ℕ
  pub lines : List (List ℕ)
  pub spawns : List Spawn

-- what comes of one action: a course, or a fault, which leaves the course as it was
pub data Did : Type 0 where
  Does : Progress → Did
  Faulted : Fault → Did

-- how a piece of a behaviour ends: it goes on, or returns with the last slot, or is over by a fault
pub data Flow : Type 0 where
  Next : Progress → Flow
  Return : Progress → Flow
  Fails : Progress → FaultAt → Flow

infixl 10 ◌▷◌
-- one piece after another
abbrev pub ◌▷◌ : Flow → (Progress → Flow) → Flow
(Next c) ▷ f = f c
(Return c) ▷ f = Return c
(Fails c at) ▷ f = Fails c at

abbrev pub fails : ℕ → Fault → Progress → Flow
fails line fault c = Fails c (record { fault = fault; line = line })

abbrev pub flow_of : ℕ → Progress → Did → Flow
flow_of line c (Does d) = Next d
flow_of line c (Faulted fault) = fails line fault c

-- an action on a line
abbrev pub does : ℕ → (Progress → Did) → Progress → Flow
does line action c = flow_of line c (action c)

-- the course with another state
abbrev pub with_state : Progress → State → Progress
with_state c s = record c { state = s }

abbrev pub did_change : Progress → Changed → Did
did_change c (heap.Done s) = Does (with_state c s)
did_change c (heap.Refused fault) = Faulted fault

-- an action on the state alone, which the rules may refuse
abbrev pub on_state : (State → Changed) → Progress → Did
on_state f c = did_change c (f c.state)

-- one that they can't refuse
abbrev pub to_state : (State → State) → Progress → Did
to_state f c = Does (with_state c (f c.state))

-- by a truth value, where there is one
abbrev pub by_truth : {X : Type 0} → Option Bool → Progress → (Progress → X) → (Progress → X) → (Progress → X) → X
by_truth None c neither holds lacks = neither c
by_truth (Some true) c neither holds lacks = holds c
by_truth (Some false) c neither holds lacks = lacks c
