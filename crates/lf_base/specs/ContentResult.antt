-- A write of a cown's content: its result, and what it is refused for.
use Rattle.std.specs.Prelude.{Bool, List, None, Option, Some, [], cond, ltb, ◌∷◌}
use Rattle.std.specs.List.{list_any}
use Rattle.lf_base.specs.declared.faults.Fault.{Fault}
use Rattle.lf_base.specs.declared.faults.Fault.TheVariants.{Interior, LocalInCown, SecondOwner}
use Rattle.lf_base.specs.declared.ids.CownId.{CownId}
use Rattle.lf_base.specs.declared.ids.ObjId.{ObjId}
use Rattle.lf_base.specs.declared.values.Owner.{Owner}
use Rattle.lf_base.specs.declared.values.Owner.TheVariants.{In, Local}
use Rattle.lf_base.specs.declared.values.Value.{Value}
use Rattle.lf_base.specs.Names.{same_cown, same_name, targets_of_value}
use Rattle.lf_base.specs.Owners.{owner_of}
use Rattle.lf_base.specs.Ownership.{owning_edges}
use Rattle.lf_base.specs.PlainState.{State}

-- some of the cowns is c
abbrev pub has_cown : List (CownId × Value) → CownId → Bool
has_cown cs c = list_any (λ h. same_cown h.0 c) cs

-- the content of c
abbrev pub content_at : List (CownId × Value) → CownId → Option Value
content_at [] c = None
content_at (h ∷ hs) c = cond (same_cown h.0 c) (Some h.1) (content_at hs c)

-- the contents with that of c set to v
abbrev pub put_content : List (CownId × Value) → CownId → Value → List (CownId × Value)
put_content [] c v = []
put_content (h ∷ hs) c v = cond (same_cown h.0 c) ((h.0, v) ∷ hs) (h ∷ put_content hs c v)

-- the content of the held cown c becomes v
abbrev pub content_result : State → CownId → Value → State
content_result s c v = record s { held = put_content s.held c v }

-- what a state is refused for that has object o of that owner as a cown's content
abbrev pub target_fault : State → ObjId → Option Owner → Option Fault
target_fault s o (Some Local) = Some LocalInCown
target_fault s o (Some (In q)) = cond (same_name q o) (cond (ltb 1 (owning_edges s o)) (Some SecondOwner) None) (Some Interior)
target_fault s o _ = None

-- the same by what a value refers to: a plain value or a cown is refused for nothing
abbrev pub targets_fault : State → List ObjId → Option Fault
targets_fault s [] = None
targets_fault s (o ∷ os) = target_fault s o (owner_of s o)

-- what a state is refused for that has v as a cown's content: a local object, an inner object, a bridge with another owning edge
abbrev pub content_fault : State → Value → Option Fault
content_fault s v = targets_fault s (targets_of_value v)

-- what a write of a held cown's content is refused for; the result is judged as it is before anything is dropped
abbrev pub content_refusal : State → CownId → Value → Option Fault
content_refusal s c v = content_fault (content_result s c v) v
