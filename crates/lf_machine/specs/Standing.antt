-- Where the frames of a behaviour stand in its code, and what an instruction finds there.
use Rattle.std.specs.Prelude.{List, Some, [], length, slice_get, true, ℕ, ◌+◌, ◌<◌, ◌≡◌, ◌≤◌, ◌∷◌}
use Rattle.lf_code.specs.declared.body.Body.{Body}
use Rattle.lf_code.specs.declared.instr.Instr.{Instr}
use Rattle.lf_code.specs.CodeStep.{Config, Frame, Over, Program, Running}
use Rattle.lf_code.specs.Operations.{IsReached, needs}
use Rattle.lf_code.specs.ValidCode.{instr_fits}
use Rattle.lf_machine.specs.Forms.{Runs, runs}

-- a frame is at an address of its body that is reached with as many operands as there are among so many slots above its variables
pub record FrameStands (p : Program) (f : Frame) (slots : ℕ) : Type 0 where
  pub body : Body
  pub there : slice_get p.bodies f.body ≡ Some body
  pub operands : ℕ
  pub reached : IsReached body.list f.at operands
  pub slots_are : f.base + body.vars + operands ≡ slots

-- each frame stands so, the last one with all slots; those below wait for the value of the one above as their last operand
abbrev pub FramesStand : Program → ℕ → List Frame → Type 0
FramesStand p slots [] = Unit {0}
FramesStand p slots (f ∷ fs) = FrameStands p f slots × FramesStand p (f.base + 1) fs

-- a behaviour stands in its code, all of which runs today; what is over stands anywhere
abbrev pub StandsIn : Program → Config → Type 0
StandsIn p (Running f fs c) = Runs p × FramesStand p (length c.state.slots) (f ∷ fs)
StandsIn p (Over c fault) = Unit {0}

-- what an instruction finds in a frame whose first slot has this place, where there are so many slots: the variables and the operands
-- that it needs; and it runs today
pub record IsReady (p : Program) (i : Instr) (base slots : ℕ) : Type 0 where
  pub vars : ℕ
  pub addresses : ℕ
  pub operands : ℕ
  pub slots_are : base + vars + operands ≡ slots
  pub fits : instr_fits p.bodies (length p.texts) vars addresses i ≡ true
  pub enough : needs i ≤ operands
  pub runs_today : runs i ≡ true

-- the address of a frame is one of its body's
pub record IsAt (p : Program) (f : Frame) : Type 0 where
  pub body : Body
  pub there : slice_get p.bodies f.body ≡ Some body
  pub within : f.at < length body.list
