-- What instructions do, but to go elsewhere: ticks, operands, and frames that come and go. What has several parts drops after
-- each of them what nothing holds.
use Rattle.std.specs.Prelude.{Bool, List, None, Option, Some, drop, false, length, ltb, map, suc, true, zero, ℕ, ◌+◌, ◌-◌}
use Rattle.lf_base.specs.declared.faults.Fault.TheVariants.{Kind, OutOfTicks, TooDeep}
use Rattle.lf_base.specs.declared.values.Op.{Op}
use Rattle.lf_base.specs.declared.values.Value.{Value}
use Rattle.lf_base.specs.HeapCalls.{Changed, Done, Refused}
use Rattle.lf_base.specs.Operands.{operand, popped, pushed, put_down, set_value}
use Rattle.lf_base.specs.PlainState.{State}
use Rattle.lf_code.specs.declared.instr.Prefix.{Prefix}
use Rattle.lf_code.specs.Progress.{Progress, Did, Does, Faulted, to_state, with_state}
use Rattle.lf_code.specs.Operators.{Computed, Faults, Yields, binary, truth_of, unary}

-- a tick is taken
abbrev pub tick_by : ℕ → Progress → Did
tick_by zero c = Faulted OutOfTicks
tick_by (suc t) c = Does (record c { ticks = t })

abbrev pub tick : Progress → Did
tick c = tick_by c.ticks c

-- ---- operands

abbrev pub push_value : Value → Progress → Did
push_value v = to_state (pushed (Some v))

abbrev pub pop_value : Progress → Did
pop_value = to_state popped

-- the last slots go, one after another
abbrev pub pops : ℕ → State → State
pops zero s = s
pops (suc n) s = pops n (popped s)

-- so many unset slots more
abbrev pub unset_pushed : ℕ → State → State
unset_pushed zero s = s
unset_pushed (suc n) s = unset_pushed n (pushed None s)

-- the last operands become a value
abbrev pub replaced : ℕ → State → Computed → Changed
replaced n s (Yields v) = Done (pushed (Some v) (pops n s))
replaced n s (Faults fault) = Refused fault

abbrev pub unary_change : Prefix → State → Changed
unary_change op s = replaced 1 s (unary op (operand s 0))

abbrev pub binary_change : Op → State → Changed
binary_change op s = replaced 2 s (binary op (operand s 1) (operand s 0))

-- the last operands, in their order
abbrev pub operands : ℕ → State → List Value
operands n s = map set_value (drop (length s.slots - n) s.slots)

-- the truth value that the last operand is
abbrev pub last_truth : Progress → Option Bool
last_truth c = truth_of (operand c.state 0)

abbrev pub without_operand : Progress → Progress
without_operand c = with_state c (popped c.state)

-- the last operand must be a truth value
abbrev pub test_by : Option Bool → Progress → Did
test_by None c = Faulted Kind
test_by (Some b) c = Does c

abbrev pub test_truth : Progress → Did
test_truth c = test_by (last_truth c) c

-- ---- frames

-- a call where no further frame may stand: a tick is asked for first
abbrev pub no_frame_left_by : ℕ → Progress → Did
no_frame_left_by zero c = Faulted OutOfTicks
no_frame_left_by (suc t) c = Faulted TooDeep

abbrev pub no_frame_left : Progress → Did
no_frame_left c = no_frame_left_by c.ticks c

-- a new frame: a tick is taken, and the variables behind the parameters are unset
abbrev pub enter_by : ℕ → ℕ → Progress → Did
enter_by zero further c = Faulted OutOfTicks
enter_by (suc t) further c = Does (record c { ticks = t; state = unset_pushed further c.state })

abbrev pub enter : ℕ → Progress → Did
enter further c = enter_by c.ticks further c

-- the place of the first slot of a frame whose parameters are the last operands
abbrev pub base_of : ℕ → Progress → ℕ
base_of count c = length c.state.slots - count

-- the last slot comes in the place of a frame's first one, where it doesn't stand there
abbrev pub brought_down : Bool → ℕ → State → State
brought_down true base s = put_down base s
brought_down false base s = s

-- the slots behind the first ones go
abbrev pub left_down_to : ℕ → State → State
left_down_to n s = pops (length s.slots - n) s

-- a frame goes: of its slots the last one is left, as the top operand of the frame below
abbrev pub leave : ℕ → Progress → Progress
leave base c = with_state c (left_down_to (base + 1) (brought_down (ltb (base + 1) (length c.state.slots)) base c.state))
