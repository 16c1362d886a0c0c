-- The end of a behaviour.
use Rattle.std.specs.Prelude.{[], filter, not}
use Rattle.lf_base.specs.Kept.{kept}
use Rattle.lf_base.specs.Names.{is_local}
use Rattle.lf_base.specs.PlainState.{State}

-- the state without slots and without local rows
abbrev pub without_near : State → State
without_near s = record s { slots = []; rows = filter (λ r. not (is_local r.owner)) s.rows }

-- the end of a behaviour: all slots go, then all local rows, and of the rest what stays
abbrev pub end_result : State → State
end_result s = kept (without_near s)
