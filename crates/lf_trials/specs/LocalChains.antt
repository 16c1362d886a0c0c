-- States for a trial of settling: chains of local rows.
use Rattle.std.specs.Prelude.{[], suc, zero, ℕ, ◌+◌}
use Rattle.lf_base.specs.declared.ids.ObjId.{ObjId}
use Rattle.lf_base.specs.declared.values.Value.TheVariants.{Obj}
use Rattle.lf_base.specs.PlainChanges.{first_state, object_result}
use Rattle.lf_base.specs.PlainState.{State}
use Rattle.lf_base.specs.WriteResult.{write_result}
use Rattle.lf_trials.specs.SettledRows.{key_zero}

-- the object of a number
abbrev pub numbered : ℕ → ObjId
numbered n = record { birth = 1; seq = n }

-- local rows with so many links: each row but the first leads to the one before it
abbrev pub chain : ℕ → State
chain zero = object_result (first_state 1 [])
chain (suc n) = write_result (object_result (chain n)) (numbered (n + 2)) key_zero (Obj (numbered (n + 1)))
