-- Dissolving a region.
use Rattle.std.specs.Prelude.{None, Option, Some, cond}
use Rattle.lf_base.specs.declared.faults.Fault.{Fault}
use Rattle.lf_base.specs.declared.faults.Fault.TheVariants.{NotBridge, Owned}
use Rattle.lf_base.specs.declared.ids.ObjId.{ObjId}
use Rattle.lf_base.specs.declared.values.Owner.TheVariants.{Local}
use Rattle.lf_base.specs.declared.values.Value.{Value}
use Rattle.lf_base.specs.MergeResult.{relabel_region}
use Rattle.lf_base.specs.Owners.{bridge_of}
use Rattle.lf_base.specs.Ownership.{is_owned}
use Rattle.lf_base.specs.PlainState.{State}

-- every row of region r becomes local
abbrev pub dissolve_result : State → ObjId → State
dissolve_result s r = record s { rows = relabel_region s.rows r Local }

-- by the bridge: there must be one, and it must have no owner
abbrev pub dissolve_refusal_by : State → Option ObjId → Option Fault
dissolve_refusal_by s (Some r) = cond (is_owned s r) (Some Owned) None
dissolve_refusal_by s None = Some NotBridge

-- what dissolve(v) is refused for
abbrev pub dissolve_refusal : State → Value → Option Fault
dissolve_refusal s v = dissolve_refusal_by s (bridge_of s v)
