-- What a call does before it settles: from a state to the next, with suspects for what lost its last justification.
use Rattle.std.specs.Prelude.{length, ℕ, ◌+◌, ◌≡◌, ◌≤◌}
use Rattle.lf_base.specs.CloseResult.{close_result}
use Rattle.lf_base.specs.HeapCalls.{on_bridge}
use Rattle.lf_base.specs.Noticing.{Noticed}
use Rattle.lf_base.specs.Operands.{set_value}
use Rattle.lf_base.specs.Owners.{bridge_of}
use Rattle.lf_base.specs.PlainChanges.{slot_at}
use Rattle.lf_base.specs.PlainState.{State}
use Rattle.lf_base.specs.WellFormed.{WellFormed}
use Rattle.lf_settle.specs.Drops.{SameCapacity}
use Rattle.lf_settle.specs.WorkLists.{WorkList}

-- the state t follows s with as many rows, and at most n suspects more: whatever nothing justifies in t is noticed, where it was in s
pub record Follows (s t : State) (old new : WorkList) (n : ℕ) : Type 0 where
  pub well_formed : WellFormed t
  pub noticed : Noticed s old.suspects → Noticed t new.suspects
  pub as_many : length t.rows ≡ length s.rows
  pub room : old.spare ≤ new.spare + n
  pub capacity : SameCapacity old new

-- the region whose bridge the slot at a place holds is closed, where it holds one
abbrev pub closed_at : ℕ → State → State
closed_at at s = on_bridge (bridge_of s (set_value (slot_at s.slots at))) (close_result s at) s
