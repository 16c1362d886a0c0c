-- What an answer to an action makes of the frame.
use Rattle.std.specs.Prelude.{Err, IsErr, Ok, ℕ, ◌+◌, ◌≡◌}
use Rattle.std.specs.declared.result.Result.{Result}
use Rattle.lf_base.specs.declared.faults.HeapFail.{HeapFail}
use Rattle.lf_base.specs.declared.faults.HeapFail.TheVariants as fail
use Rattle.lf_base.specs.declared.memory.OutOfMemory.{OutOfMemory}
use Rattle.lf_machine.specs.declared.frame.Course.{Course}
use Rattle.lf_machine.specs.declared.frame.Course.TheVariants as course
use Rattle.lf_machine.specs.declared.frame.FrameAt.{FrameAt}

-- after an action that was done the frame is at the next address
abbrev pub Went : ℕ → Result (Unit {0}) HeapFail → Result Course OutOfMemory → FrameAt → FrameAt → Type 0
Went line (Ok _) result old new = (result ≡ Ok course.Going) × (new ≡ record old { at = old.at + 1 })
Went line (Err (fail.Fault f)) result old new = (result ≡ Ok (course.Failed (record { fault = f; line = line }))) × (new ≡ old)
Went line (Err fail.OutOfMemory) result old new = IsErr result × (new ≡ old)
