-- Reads, writes and takes of any target: what they answer, and what they leave.
use Rattle.std.specs.Prelude.{None, Option, Some, ◌++◌}
use Rattle.std.specs.Option.{option_or}
use Rattle.lf_base.specs.declared.faults.Fault.{Fault}
use Rattle.lf_base.specs.declared.faults.Fault.TheVariants.{NoField}
use Rattle.lf_base.specs.declared.ids.ObjId.{ObjId}
use Rattle.lf_base.specs.declared.values.Key.{Key}
use Rattle.lf_base.specs.declared.values.Value.{Value}
use Rattle.lf_base.specs.declared.values.Value.TheVariants.{Cown, Obj}
use Rattle.lf_base.specs.ContentResult.{content_at, content_refusal, content_result}
use Rattle.lf_base.specs.Kept.{kept}
use Rattle.lf_base.specs.Names.{key_of}
use Rattle.lf_base.specs.Owners.{row_at}
use Rattle.lf_base.specs.PlainChecks.{cown_refusal, plain_refusal}
use Rattle.lf_base.specs.PlainState.{State}
use Rattle.lf_base.specs.TakeResult.{row_field, take_refusal, take_result}
use Rattle.lf_base.specs.WriteResult.{write_refusal, write_result}
use Rattle.lf_base.specs.declared.values.Value.TheVariants as value

-- the field of an object, mutable or frozen
abbrev pub field_of : State → ObjId → Key → Option Value
field_of s o k = row_field (row_at (s.rows ++ (s.given ++ s.own)) o) k

-- what is there, or else NoField
abbrev pub or_no_field : Option Value → Option Fault
or_no_field None = Some NoField
or_no_field (Some v) = None

-- what a read is refused for after the plain checks
abbrev pub read_fault : State → Value → Option Key → Option Fault
read_fault s (Obj o) (Some k) = or_no_field (field_of s o k)
read_fault s (Cown c) (Some k) = cown_refusal s c k
read_fault s _ _ = None

-- what a read is refused for
abbrev pub read_refusal : State → Value → Value → Option Fault
read_refusal s target key = option_or (plain_refusal target key) (read_fault s target (key_of key))

-- the value that a read gives that isn't refused
abbrev pub read_value : State → Value → Option Key → Option Value
read_value s (Obj o) (Some k) = field_of s o k
read_value s (Cown c) (Some k) = content_at s.held c
read_value s _ _ = None

-- what a write is refused for after the plain checks
abbrev pub store_fault : State → Value → Option Key → Value → Option Fault
store_fault s (Obj o) (Some k) v = write_refusal s o k v
store_fault s (Cown c) (Some k) v = option_or (cown_refusal s c k) (content_refusal s c v)
store_fault s _ _ v = None

-- what a write is refused for
abbrev pub store_refusal : State → Value → Value → Value → Option Fault
store_refusal s target key v = option_or (plain_refusal target key) (store_fault s target (key_of key) v)

-- what a write gives that isn't refused
abbrev pub store_result : State → Value → Option Key → Value → State
store_result s (Obj o) (Some k) v = write_result s o k v
store_result s (Cown c) (Some k) v = content_result s c v
store_result s _ _ v = s

-- what a take is refused for after the plain checks
abbrev pub remove_fault : State → Value → Option Key → Option Fault
remove_fault s (Obj o) (Some k) = take_refusal s o k
remove_fault s (Cown c) (Some k) = cown_refusal s c k
remove_fault s _ _ = None

-- what a take is refused for
abbrev pub remove_refusal : State → Value → Value → Option Fault
remove_refusal s target key = option_or (plain_refusal target key) (remove_fault s target (key_of key))

-- what a take leaves that isn't refused: the object without the field, the cown with the content None
abbrev pub remove_result : State → Value → Option Key → State
remove_result s (Obj o) (Some k) = take_result s o k
remove_result s (Cown c) (Some k) = content_result s c value.None
remove_result s _ _ = s

-- a refused operation changes nothing; of what any other one gives, the rows that stay are left
abbrev pub after_refusal : Option Fault → State → State → State
after_refusal None old new = kept new
after_refusal (Some f) old new = old
