-- What contracts see of the parts of a machine.
use Rattle.std.specs.Prelude.{List, None, Some, map, reverse, ℕ, ◌≡◌, ◌≤◌}
use Rattle.lf_base.specs.declared.limits.TheConstants.{MOST_PRINTED_BYTES}
use Rattle.lf_code.specs.CodeStep.{Config, Frame, Over, Running}
use Rattle.lf_code.specs.Prints.{bytes_of}
use Rattle.lf_code.specs.Progress.{Progress}
use Rattle.lf_machine.specs.declared.frame.FrameAt.{FrameAt}
use Rattle.lf_machine.specs.declared.frame.Course.{Course}
use Rattle.lf_machine.specs.declared.frame.Course.TheVariants as course

abbrev pub frame_of : FrameAt → Frame
frame_of f = record { body = f.body; at = f.at; base = f.base }

-- the frames below the last one, of which the code lists the highest last
abbrev pub frames_below : List FrameAt → List Frame
frames_below fs = map frame_of (reverse fs)

-- what is still going, or has ended, with this last frame and these below
abbrev pub config_of : Course → FrameAt → List FrameAt → Progress → Config
config_of course.Going f fs c = Running (frame_of f) (frames_below fs) c
config_of course.Finished f fs c = Over c None
config_of (course.Failed at) f fs c = Over c (Some at)

-- so many bytes were printed, and no more than may be
abbrev pub HasPrinted : ℕ → List (List ℕ) → Type 0
HasPrinted printed lines = (printed ≡ bytes_of lines) × (printed ≤ MOST_PRINTED_BYTES)
