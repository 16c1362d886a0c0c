-- What a value is refused for as a cown's content, by the state before: the same for a held cown and for one that is being made.
use Rattle.std.specs.Prelude.{List, None, Option, Some, [], cond, ltb, ◌∷◌}
use Rattle.lf_base.specs.declared.faults.Fault.{Fault}
use Rattle.lf_base.specs.declared.faults.Fault.TheVariants.{Interior, LocalInCown, SecondOwner}
use Rattle.lf_base.specs.declared.ids.ObjId.{ObjId}
use Rattle.lf_base.specs.declared.values.Owner.{Owner}
use Rattle.lf_base.specs.declared.values.Owner.TheVariants.{In, Local}
use Rattle.lf_base.specs.declared.values.Value.{Value}
use Rattle.lf_base.specs.Names.{same_name, targets_of_value}
use Rattle.lf_base.specs.Owners.{owner_of}
use Rattle.lf_base.specs.Ownership.{owning_edges}
use Rattle.lf_base.specs.PlainState.{State}
use Rattle.lf_base.specs.WalkCounts.{counted}

-- object o of that owner is refused where it is local, or inside a region, or a bridge with an owning edge other than
-- that of the old content
abbrev pub refused_target : State → Option Value → ObjId → Option Owner → Option Fault
refused_target s old o (Some Local) = Some LocalInCown
refused_target s old o (Some (In q)) =
    cond (same_name q o) (cond (ltb (counted o old) (owning_edges s o)) (Some SecondOwner) None) (Some Interior)
refused_target s old o _ = None

-- the same by what a value refers to: a plain value or a cown is refused for nothing
abbrev pub refused_targets : State → Option Value → List ObjId → Option Fault
refused_targets s old [] = None
refused_targets s old (o ∷ os) = refused_target s old o (owner_of s o)

-- what v is refused for where the cown's content is `old`; a cown that is being made has none
abbrev pub refusal_as_content : State → Option Value → Value → Option Fault
refusal_as_content s old v = refused_targets s old (targets_of_value v)
