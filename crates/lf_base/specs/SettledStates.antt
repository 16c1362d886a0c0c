-- States in which nothing is left to drop: each call on a behaviour's state leaves one.
use Rattle.std.specs.Prelude.{◌≡◌}
use Rattle.lf_base.specs.HeapCalls.{Changed, Done, Refused}
use Rattle.lf_base.specs.Kept.{kept}
use Rattle.lf_base.specs.PlainState.{State}
use Rattle.lf_base.specs.WellFormed.{WellFormed}

-- the state is well-formed, and all its rows stay
pub record Settled (s : State) : Type 0 where
  pub well_formed : WellFormed s
  pub all_stay : kept s ≡ s

-- what comes of a call is such a state, or a refusal
abbrev pub IsSettled : Changed → Type 0
IsSettled (Done s) = Settled s
IsSettled (Refused f) = Unit {0}
