-- The actions of the instructions that stay in their frame, and what a call answers that does an action.
use Rattle.std.specs.Prelude.{Err, List, Ok, map, ℕ, ◌+◌, ◌≡◌}
use Rattle.std.specs.declared.result.Result.{Result}
use Rattle.lf_base.specs.declared.faults.HeapFail.{HeapFail}
use Rattle.lf_base.specs.declared.faults.HeapFail.TheVariants as fail
use Rattle.lf_base.specs.declared.values.Value.TheVariants as value
use Rattle.lf_base.specs.HeapCalls.{lift_change, load_change, new_object_change, read_change, take_change, unset_change, write_change}
use Rattle.lf_base.specs.Operands.{put_down}
use Rattle.lf_base.specs.Texts.{Text}
use Rattle.lf_code.specs.declared.instr.Instr.{Instr}
use Rattle.lf_code.specs.declared.instr.Instr.TheVariants as instr
use Rattle.lf_code.specs.Actions.{binary_change, pop_value, push_value, test_truth, tick, unary_change}
use Rattle.lf_code.specs.Asks.{ask_change}
use Rattle.lf_code.specs.Progress.{Did, Does, Faulted, Progress, on_state, to_state}
use Rattle.lf_code.specs.Prints.{built}
use Rattle.lf_code.specs.Spawning.{spawns_one}

-- an action was done, or refused, or memory was wanting; the last two change nothing
abbrev pub Tells : Did → Result (Unit {0}) HeapFail → Progress → Progress → Type 0
Tells did (Ok _) old new = did ≡ Does new
Tells did (Err (fail.Fault f)) old new = (did ≡ Faulted f) × (new ≡ old)
Tells did (Err fail.OutOfMemory) old new = new ≡ old

-- the action of an instruction that goes on to the next address, in a frame whose first slot has this place; one that doesn't has none
abbrev pub action_of : List Text → ℕ → Instr → Progress → Did
action_of texts base instr.Tick = tick
action_of texts base instr.None = push_value value.None
action_of texts base (instr.Bool b) = push_value (value.Bool b)
action_of texts base (instr.Int n) = push_value (value.Int n)
action_of texts base (instr.Text t) = push_value (value.Text t)
action_of texts base (instr.Get v) = on_state (load_change (base + v))
action_of texts base (instr.Take v) = on_state (lift_change (base + v))
action_of texts base (instr.Set v) = to_state (put_down (base + v))
action_of texts base (instr.Drop v) = on_state (unset_change (base + v))
action_of texts base instr.Object = on_state new_object_change
action_of texts base instr.Read = on_state read_change
action_of texts base instr.Write = on_state write_change
action_of texts base instr.Remove = on_state take_change
action_of texts base (instr.Unary op) = on_state (unary_change op)
action_of texts base (instr.Binary op) = on_state (binary_change op)
action_of texts base instr.Test = test_truth
action_of texts base (instr.Built name count) = built texts name count
action_of texts base (instr.Ask name v) = on_state (ask_change name (base + v))
action_of texts base (instr.When body cowns captures) = spawns_one body (map (λ v. base + v) cowns) (map (λ v. base + v) captures)
action_of texts base instr.Pop = pop_value
action_of texts base _ = Does
