-- What the questions on a variable answer.
use Rattle.std.specs.Prelude.{Bool, List, None, Option, Some, [], cond, not, ℕ, ◌∷◌}
use Rattle.lf_base.specs.declared.ids.ObjId.{ObjId}
use Rattle.lf_base.specs.declared.values.Owner.{Owner}
use Rattle.lf_base.specs.declared.questions.Label.{Label}
use Rattle.lf_base.specs.declared.questions.Label.TheVariants as label
use Rattle.lf_base.specs.declared.values.Owner.TheVariants.{Frozen, In, Local}
use Rattle.lf_base.specs.declared.values.Value.{Value}
use Rattle.lf_base.specs.declared.values.Value.TheVariants.{Cown, Obj}
use Rattle.lf_base.specs.Names.{targets_of_value}
use Rattle.lf_base.specs.Owners.{bridge_of, has_row, owner_of}
use Rattle.lf_base.specs.PlainChanges.{with_slot_at}
use Rattle.lf_base.specs.PlainState.{State}
use Rattle.lf_base.specs.WalkCounts.{borrowed, is_open, open_children, refs}

-- where an object stands, by its owner
abbrev pub label_by : Option Owner → Label
label_by (Some Local) = label.Local
label_by (Some (In r)) = label.Region
label_by (Some Frozen) = label.Frozen
label_by None = label.Frozen

-- owner(x) of the value of x
abbrev pub label_of : State → Value → Label
label_of s (Obj o) = label_by (owner_of s o)
label_of s (Cown c) = label.Cown
label_of s _ = label.Value

-- the count of the first object, where it is mutable
abbrev pub first_refs : State → List ObjId → Option ℕ
first_refs s [] = None
first_refs s (o ∷ os) = cond (has_row s.rows o) (Some (refs s o)) None

-- refs(x) of the value of x: the count of a mutable object; None stands for the fault Kind
abbrev pub refs_answer : State → Value → Option ℕ
refs_answer s v = first_refs s (targets_of_value v)

-- what is asked of a bridge, where there is one
abbrev pub of_bridge : {X : Type 0} → (ObjId → X) → Option ObjId → Option X
of_bridge f None = None
of_bridge f (Some r) = Some (f r)

-- borrowed(x) of the value of x; None stands for the fault NotBridge
abbrev pub borrowed_answer : State → Value → Option ℕ
borrowed_answer s v = of_bridge (borrowed s) (bridge_of s v)

-- open_children(x) of the value of x; None stands for the fault NotBridge
abbrev pub open_children_answer : State → Value → Option ℕ
open_children_answer s v = of_bridge (open_children s) (bridge_of s v)

-- is_closed(x) of a variable at a place that holds v: the region would be closed if that variable were unset
abbrev pub is_closed_answer : State → ℕ → Value → Option Bool
is_closed_answer s at v = of_bridge (λ r. not (is_open (with_slot_at s at None) r)) (bridge_of s v)
