-- Short scripts on an empty state, for the worked rows. Variables are slots, counted from 0.
use Rattle.std.specs.Prelude.{Bool, List, None, Option, Some, [], pos, ℕ, ◌∷◌}
use Rattle.lf_base.specs.declared.faults.Fault.{Fault}
use Rattle.lf_base.specs.declared.ids.ObjId.{ObjId}
use Rattle.lf_base.specs.declared.questions.Label.{Label}
use Rattle.lf_base.specs.declared.values.Value.{Value}
use Rattle.lf_base.specs.declared.values.Value.TheVariants.{Cown, Obj}
use Rattle.lf_base.specs.Accesses.{after_refusal, store_refusal, store_result}
use Rattle.lf_base.specs.CloseResult.{close_refusal, close_result}
use Rattle.lf_base.specs.DissolveResult.{dissolve_refusal, dissolve_result}
use Rattle.lf_base.specs.FreezeResult.{freeze_result}
use Rattle.lf_base.specs.Kept.{kept}
use Rattle.lf_base.specs.MergeResult.{merge_refusal, merge_result}
use Rattle.lf_base.specs.Names.{key_of}
use Rattle.lf_base.specs.NewCown.{made_result, new_cown_refusal, next_cown}
use Rattle.lf_base.specs.Owners.{bridge_of}
use Rattle.lf_base.specs.PlainChanges.{next_object, object_result, region_result, slot_at, with_slot_at}
use Rattle.lf_base.specs.PlainState.{State}
use Rattle.lf_base.specs.Questions.{borrowed_answer, is_closed_answer, open_children_answer, label_of, refs_answer}
use Rattle.lf_base.specs.declared.values.Value.TheVariants as value

-- one statement of a script
pub data Statement : Type 0 where
  -- x = {}
  NewObject : ℕ → Statement
  -- x = Region()
  NewRegion : ℕ → Statement
  -- x = y
  Copy : ℕ → ℕ → Statement
  -- drop x
  Forget : ℕ → Statement
  -- x.k = y
  Store : ℕ → ℕ → ℕ → Statement
  -- x.k = 0
  StoreZero : ℕ → ℕ → Statement
  -- freeze(x)
  Freeze : ℕ → Statement
  -- merge(x, y)
  Merge : ℕ → ℕ → Statement
  -- dissolve(x)
  Dissolve : ℕ → Statement
  -- close(x)
  Close : ℕ → Statement
  -- c = Cown(move x)
  Guard : ℕ → ℕ → Statement

-- the value of a set slot
abbrev pub value_in : Option Value → Value
value_in None = value.None
value_in (Some v) = v

-- the value of variable x
abbrev pub var : State → ℕ → Value
var s x = value_in (slot_at s.slots x)

-- the key of a field that the script calls by the text at place k
abbrev pub text : ℕ → Value
text k = value.Text (record { index = k })

-- variable x becomes a reference to object o
abbrev pub refer : State → ℕ → ObjId → State
refer s x o = kept (with_slot_at s x (Some (Obj o)))

-- the rest of an operation on a bridge, where there is one
abbrev pub where_bridge : State → Option ObjId → (ObjId → State) → State
where_bridge s None f = s
where_bridge s (Some r) f = f r

-- variable x becomes unset, without anything else
abbrev pub taken_out : State → ℕ → State
taken_out s x = with_slot_at s x None

-- what the statement c = Cown(move x) is refused for
abbrev pub guard_refusal : State → ℕ → Option Fault
guard_refusal s x = new_cown_refusal (taken_out s x) (var s x)

-- what the statement x.k = y is refused for
abbrev pub set_refusal : State → ℕ → ℕ → ℕ → Option Fault
set_refusal s x k y = store_refusal s (var s x) (text k) (var s y)

-- the state after a statement: what it gives and then what stays of it, or the same state where it is refused
abbrev pub after_statement : State → Statement → State
after_statement s (NewObject x) = refer (object_result s) x (next_object s)
after_statement s (NewRegion x) = refer (region_result s) x (next_object s)
after_statement s (Copy x y) = kept (with_slot_at s x (slot_at s.slots y))
after_statement s (Forget x) = kept (with_slot_at s x None)
after_statement s (Store x k y) = after_refusal (set_refusal s x k y) s (store_result s (var s x) (key_of (text k)) (var s y))
after_statement s (StoreZero x k) = after_refusal (store_refusal s (var s x) (text k) (value.Int (pos 0))) s
    (store_result s (var s x) (key_of (text k)) (value.Int (pos 0)))
after_statement s (Freeze x) = kept (freeze_result s (var s x))
after_statement s (Merge x y) = after_refusal (merge_refusal s (var s x) (var s y)) s
    (where_bridge s (bridge_of s (var s x)) (λ a. where_bridge s (bridge_of s (var s y)) (merge_result s a)))
after_statement s (Dissolve x) = after_refusal (dissolve_refusal s (var s x)) s (where_bridge s (bridge_of s (var s x)) (dissolve_result s))
after_statement s (Close x) = after_refusal (close_refusal s x) s (where_bridge s (bridge_of s (var s x)) (close_result s x))
after_statement s (Guard c x) = after_refusal (guard_refusal s x) s
    (with_slot_at (made_result (taken_out s x) (var s x)) c (Some (Cown (next_cown s))))

-- the state after a script
abbrev pub after_script : State → List Statement → State
after_script s [] = s
after_script s (a ∷ rest) = after_script (after_statement s a) rest

-- the state of a behaviour numbered 0 that has made nothing, with four unset variables
abbrev pub empty_state : State
empty_state = record {
  birth = 0;
  objects = 0;
  cowns = 0;
  rows = [];
  slots = None ∷ None ∷ None ∷ None ∷ [];
  held = [];
  made = [];
  given = [];
  own = [];
}

-- the state after a script on the empty state
abbrev pub script : List Statement → State
script statements = after_script empty_state statements

-- refs(x)
abbrev pub ask_refs : State → ℕ → Option ℕ
ask_refs s x = refs_answer s (var s x)

-- borrowed(x)
abbrev pub ask_borrowed : State → ℕ → Option ℕ
ask_borrowed s x = borrowed_answer s (var s x)

-- open_children(x)
abbrev pub ask_open_children : State → ℕ → Option ℕ
ask_open_children s x = open_children_answer s (var s x)

-- owner(x)
abbrev pub ask_owner : State → ℕ → Label
ask_owner s x = label_of s (var s x)

-- is_closed(x)
abbrev pub ask_is_closed : State → ℕ → Option Bool
ask_is_closed s x = is_closed_answer s x (var s x)
