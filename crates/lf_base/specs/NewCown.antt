-- The making of a cown: its result, and what it is refused for.
use Rattle.std.specs.Prelude.{Bool, List, None, Option, Some, [], false, true, ◌&&◌, ◌++◌, ◌+◌, ◌∷◌}
use Rattle.lf_base.specs.declared.faults.Fault.{Fault}
use Rattle.lf_base.specs.declared.faults.Fault.TheVariants.{Open}
use Rattle.lf_base.specs.declared.ids.CownId.{CownId}
use Rattle.lf_base.specs.declared.ids.ObjId.{ObjId}
use Rattle.lf_base.specs.declared.values.Value.{Value}
use Rattle.lf_base.specs.ContentResult.{content_fault}
use Rattle.lf_base.specs.Names.{targets_of_value}
use Rattle.lf_base.specs.Owners.{is_bridge}
use Rattle.lf_base.specs.PlainState.{State}
use Rattle.lf_base.specs.WalkCounts.{is_open}

-- the name of the next cown
abbrev pub next_cown : State → CownId
next_cown s = record { birth = s.birth; seq = s.cowns + 1 }

-- a new cown with content v
abbrev pub made_result : State → Value → State
made_result s v = record s { cowns = s.cowns + 1; made = s.made ++ (next_cown s, v) ∷ [] }

-- the value is the bridge of an open region
abbrev pub is_open_region : State → List ObjId → Bool
is_open_region s [] = false
is_open_region s (o ∷ os) = is_bridge s.rows o && is_open s o

-- the first refusal, or else Open where the region is open
abbrev pub or_open : Option Fault → Bool → Option Fault
or_open (Some f) b = Some f
or_open None true = Some Open
or_open None false = None

-- what the making of a cown with content v is refused for; s is the state without the operand's own slot
abbrev pub new_cown_refusal : State → Value → Option Fault
new_cown_refusal s v = or_open (content_fault (made_result s v) v) (is_open_region s (targets_of_value v))
