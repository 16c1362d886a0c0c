-- One instruction of valid code leaves a behaviour where it may stand, and finds what it needs.
use Rattle.std.proofs.Common.{Bool, List, None, Option, Some, [], ap, arith, false, inl, inr, length, refl, subst, suc, sym, true, zero, ℕ, ◌+◌, ◌-◌, ◌<◌, ◌∙◌, ◌∷◌, ◌≡◌, ◌≤◌}
use Rattle.std.specs.Prelude.{Err, IfOk, Ok, slice_get}
use Rattle.std.specs.declared.result.Result.{Result}
use Rattle.lf_base.specs.declared.memory.OutOfMemory.{OutOfMemory}
use Rattle.lf_machine.specs.declared.frame.Course.{Course}
use Rattle.lf_base.specs.Sets.{Member}
use Rattle.lf_code.specs.declared.body.Body.{Body}
use Rattle.lf_code.specs.declared.body.Placed.{Placed}
use Rattle.lf_code.specs.declared.instr.Instr.{Instr}
use Rattle.lf_code.specs.declared.instr.Instr.TheVariants as instr
use Rattle.lf_code.specs.Actions.{base_of, enter_by, last_truth, leave, no_frame_left_by, unset_pushed, without_operand}
use Rattle.lf_code.specs.CodeStep.{Config, Frame, Over, Program, Running, act, act_at, acts, at_address, call_by, code_at, code_step, frames_left, led, list_of, new_frame, no_truth, return_to, returned, to_address, vars_at, vars_of}
use Rattle.lf_code.specs.Operations.{HasOperands, Way, leaves, needs, next, way, ways, first}
use Rattle.lf_code.specs.Progress.{Did, Does, Faulted, Progress, by_truth, flow_of}
use Rattle.lf_code.specs.ValidCode.{ValidCode, body_fits, instr_fits}
use Rattle.lf_heap.proofs.Calls.SlotsAfter.{slots_popped}
use Rattle.lf_machine.specs.Actions.{action_of}
use Rattle.lf_machine.specs.Forms.{Runs, goes_on, list_runs, runs}
use Rattle.lf_machine.specs.Standing.{FrameStands, FramesStand, IsAt, IsReady, StandsIn}
use Rattle.lf_machine.proofs.Standing.SlotsMoved.{Moves, left_slots, moved, unset_slots}
use Rattle.lf_machine.proofs.Standing.ValidParts.{HasParams, fits_at, holds_at, instr_fits_at, list_fits, params_at, params_fit, passes_at, valid_bodies}

-- what goes on does its action and then the next instruction
pub acts_so : (p : Program) (line : ℕ) (i : Instr) (f : Frame) (fs : List Frame) (c : Progress) → goes_on i ≡ true
    → act p line i f fs c ≡ acts line (action_of p.texts f.base i) f fs c
acts_so p line instr.Tick f fs c g = refl
acts_so p line instr.None f fs c g = refl
acts_so p line (instr.Bool b) f fs c g = refl
acts_so p line (instr.Int n) f fs c g = refl
acts_so p line (instr.Text t) f fs c g = refl
acts_so p line (instr.Get v) f fs c g = refl
acts_so p line (instr.Take v) f fs c g = refl
acts_so p line (instr.Set v) f fs c g = refl
acts_so p line (instr.Drop v) f fs c g = refl
acts_so p line instr.Object f fs c g = refl
acts_so p line instr.Read f fs c g = refl
acts_so p line instr.Write f fs c g = refl
acts_so p line instr.Remove f fs c g = refl
acts_so p line (instr.Unary op) f fs c g = refl
acts_so p line (instr.Binary op) f fs c g = refl
acts_so p line (instr.Jump a) f fs c g = absurd (cc)
acts_so p line (instr.Unless a) f fs c g = absurd (cc)
acts_so p line (instr.And a) f fs c g = absurd (cc)
acts_so p line (instr.Or a) f fs c g = absurd (cc)
acts_so p line instr.Test f fs c g = refl
acts_so p line (instr.Call body count) f fs c g = absurd (cc)
acts_so p line instr.Return f fs c g = absurd (cc)
acts_so p line (instr.Built name count) f fs c g = refl
acts_so p line (instr.Ask name v) f fs c g = refl
acts_so p line (instr.When body cowns captures) f fs c g = refl
acts_so p line instr.Pop f fs c g = refl

-- its one way on
onward : (i : Instr) (at rest : ℕ) → goes_on i ≡ true → ways i at rest ≡ way (at + 1) (rest + leaves i) ∷ []
onward instr.Tick at rest g = refl
onward instr.None at rest g = refl
onward (instr.Bool b) at rest g = refl
onward (instr.Int n) at rest g = refl
onward (instr.Text t) at rest g = refl
onward (instr.Get v) at rest g = refl
onward (instr.Take v) at rest g = refl
onward (instr.Set v) at rest g = refl
onward (instr.Drop v) at rest g = refl
onward instr.Object at rest g = refl
onward instr.Read at rest g = refl
onward instr.Write at rest g = refl
onward instr.Remove at rest g = refl
onward (instr.Unary op) at rest g = refl
onward (instr.Binary op) at rest g = refl
onward (instr.Jump a) at rest g = absurd (cc)
onward (instr.Unless a) at rest g = absurd (cc)
onward (instr.And a) at rest g = absurd (cc)
onward (instr.Or a) at rest g = absurd (cc)
onward instr.Test at rest g = refl
onward (instr.Call body count) at rest g = absurd (cc)
onward instr.Return at rest g = absurd (cc)
onward (instr.Built name count) at rest g = refl
onward (instr.Ask name v) at rest g = refl
onward (instr.When body cowns captures) at rest g = refl
onward instr.Pop at rest g = refl

module _ (p : Program) (valid : ValidCode p) (run : Runs p) where
  -- a body that is there
  module _ (number : ℕ) (b : Body) (there : slice_get p.bodies number ≡ Some b) where
    fits_body : body_fits p.bodies (length p.texts) b ≡ true
    fits_body = fits_at p.bodies (length p.texts) p.bodies number b (valid_bodies p valid) there

    pub has_operands : HasOperands b.list
    has_operands = holds_at (λ (c : Body). HasOperands c.list) p.bodies number b valid.operands there

    pub fits_instr : (at : ℕ) (i : Placed) → slice_get b.list at ≡ Some i → instr_fits p.bodies (length p.texts) b.vars (length b.list) i.instr ≡ true
    fits_instr at i e = instr_fits_at p.bodies (length p.texts) b.vars (length b.list) b.list at i (list_fits p.bodies (length p.texts) b fits_body) e

    pub runs_instr : (at : ℕ) (i : Placed) → slice_get b.list at ≡ Some i → runs i.instr ≡ true
    runs_instr at i e = passes_at (λ (j : Placed). runs j.instr) b.list at i (passes_at (λ (c : Body). list_runs c.list) p.bodies number b run there) e

    pub few_params : b.params ≤ b.vars
    few_params = params_fit p.bodies (length p.texts) b fits_body

  -- an instruction at the address of a frame that stands, with so many slots
  module _ (f : Frame) (slots : ℕ) (stands : FrameStands p f slots) (i : Placed) (at : slice_get stands.body.list f.at ≡ Some i) where
    enough : needs i.instr ≤ stands.operands
    enough = (has_operands f.body stands.body stands.there).enough f.at stands.operands i stands.reached at

    -- what it finds
    pub ready : IsReady p i.instr f.base slots
    ready = record {
      vars = stands.body.vars;
      addresses = length stands.body.list;
      operands = stands.operands;
      slots_are = stands.slots_are;
      fits = fits_instr f.body stands.body stands.there f.at i at;
      enough = enough;
      runs_today = runs_instr f.body stands.body stands.there f.at i at;
    }

    -- a way on
    goes : (w : Way) (more : ℕ) → Member w (ways i.instr f.at (stands.operands - needs i.instr)) → f.base + stands.body.vars + w.operands ≡ more
        → FrameStands p (to_address f w.to) more
    goes w more m e = record {
      body = stands.body;
      there = stands.there;
      operands = w.operands;
      reached = next i w stands.reached at m;
      slots_are = e;
    }

    goes_next : goes_on i.instr ≡ true → (more : ℕ) → more + needs i.instr ≡ slots + leaves i.instr → FrameStands p (to_address f (f.at + 1)) more
    goes_next g more e =
        goes (way (f.at + 1) (stands.operands - needs i.instr + leaves i.instr)) more
        (subst (Member (way (f.at + 1) (stands.operands - needs i.instr + leaves i.instr))) (sym (onward i.instr f.at (stands.operands - needs i.instr) g)) (inl refl))
        (omega (arith, e, enough, stands.slots_are))

  module _ (line : ℕ) (f : Frame) (fs : List Frame) (c : Progress) (stands : FrameStands p f (length c.state.slots))
      (below : FramesStand p (f.base + 1) fs) (i : Placed) (at : slice_get stands.body.list f.at ≡ Some i) where
    found : IsReady p i.instr f.base (length c.state.slots)
    found = ready f (length c.state.slots) stands i at

    there_are : needs i.instr ≤ stands.operands
    there_are = enough f (length c.state.slots) stands i at

    did_stands : goes_on i.instr ≡ true → (x : Did) → Moves (needs i.instr) (leaves i.instr) c x
        → StandsIn p (led (at_address f fs (f.at + 1)) (return_to f fs) (flow_of line c x))
    did_stands g (Does d) m = (run, (goes_next f (length c.state.slots) stands i at g (length d.state.slots) m, below))
    did_stands g (Faulted fault) m = tt

    plain_stands : goes_on i.instr ≡ true → StandsIn p (act p line i.instr f fs c)
    plain_stands g =
        subst (StandsIn p) (sym (acts_so p line i.instr f fs c g))
        (did_stands g (action_of p.texts f.base i.instr c)
        (moved p.bodies p.texts found.vars found.addresses f.base c i.instr g found.runs_today found.fits (omega (arith, found.enough, found.slots_are))))

    by_truth_stands : (o : Option Bool) (n h k : Progress → Config) → StandsIn p (n c) → StandsIn p (h c) → StandsIn p (k c) → StandsIn p (by_truth o c n h k)
    by_truth_stands None n h k x y z = x
    by_truth_stands (Some true) n h k x y z = y
    by_truth_stands (Some false) n h k x y z = z

    -- at an address that the instruction leads to, with as many operands as it needs and no more slots
    stands_at : (a more : ℕ) (d : Progress) → Member (way a more) (ways i.instr f.at (stands.operands - needs i.instr))
        → f.base + stands.body.vars + more ≡ length d.state.slots → StandsIn p (at_address f fs a d)
    stands_at a more d m e = (run, (goes f (length c.state.slots) stands i at (way a more) (length d.state.slots) m e, below))

    -- the frame that a call enters
    enters : (body count : ℕ) → i.instr ≡ instr.Call body count → (n further : ℕ) → further ≡ vars_at p body - count
        → StandsIn p (led (Running (new_frame body (base_of count c)) (to_address f (f.at + 1) ∷ fs)) (return_to f fs) (flow_of line c (enter_by n further c)))
    enters body count is zero further e = tt
    enters body count is (suc t) further e =
        let has : HasParams p.bodies body count = params_at p.bodies body count (subst (λ j. instr_fits p.bodies (length p.texts) found.vars found.addresses j ≡ true) is found.fits) in
        let some : needs i.instr ≡ count = ap needs is in
        let left : leaves i.instr ≡ 1 = ap leaves is in
        let many : vars_at p body ≡ has.called.vars = ap vars_of has.there in
        let params : has.called.params ≤ has.called.vars = few_params body has.called has.there in
        let grown : length (unset_pushed further c.state).slots ≡ length c.state.slots + further = unset_slots further c.state in
        let operands : needs i.instr ≤ length c.state.slots = omega (arith, there_are, stands.slots_are) in
        let entered : FrameStands p (new_frame body (base_of count c)) (length (unset_pushed further c.state).slots) =
        record { body = has.called; there = has.there; operands = 0; reached = first; slots_are = omega (arith, e, some, many, has.many, params, grown, operands) } in
        let waits : FrameStands p (to_address f (f.at + 1)) (base_of count c + 1) =
        goes f (length c.state.slots) stands i at (way (f.at + 1) (stands.operands - needs i.instr + leaves i.instr)) (base_of count c + 1)
        (subst (λ j. Member (way (f.at + 1) (stands.operands - needs i.instr + leaves i.instr)) (ways j f.at (stands.operands - needs i.instr))) (sym is)
        (subst (λ n. Member (way (f.at + 1) (stands.operands - needs i.instr + leaves i.instr)) (way (f.at + 1) (stands.operands - needs i.instr + n) ∷ [])) left (inl refl)))
        (omega (arith, some, left, there_are, stands.slots_are)) in
        (run, (entered, (waits, below)))

    no_frame_stands : (n : ℕ) → StandsIn p (led (at_address f fs (f.at + 1)) (return_to f fs) (flow_of line c (no_frame_left_by n c)))
    no_frame_stands zero = tt
    no_frame_stands (suc n) = tt

    called : (body count : ℕ) → i.instr ≡ instr.Call body count → (n : ℕ) → StandsIn p (call_by p n line body count f fs c)
    called body count is zero = no_frame_stands c.ticks
    called body count is (suc n) = enters body count is c.ticks (vars_at p body - count) refl

    -- back in the frame below, which has one operand more
    back : (gs : List Frame) → FramesStand p (f.base + 1) gs → f.base + 1 ≤ length c.state.slots → StandsIn p (returned gs (leave f.base c))
    back [] h there = tt
    back (g ∷ gs) h there = (run, subst (λ n. FramesStand p n (g ∷ gs)) (sym (left_slots f.base c.state there)) h)

    one_less : 1 ≤ length c.state.slots → length (without_operand c).state.slots + 1 ≡ length c.state.slots
    one_less h = slots_popped c.state h

    plain : (j : Instr) → i.instr ≡ j → goes_on j ≡ true → StandsIn p (act p line j f fs c)
    plain j is g = subst (λ k. StandsIn p (act p line k f fs c)) is (plain_stands (ap goes_on is ∙ g))

    -- a way of an instruction that is known
    leads : (j : Instr) (a more : ℕ) (d : Progress) → i.instr ≡ j → Member (way a more) (ways j f.at (stands.operands - needs j))
        → f.base + stands.body.vars + more ≡ length d.state.slots → StandsIn p (at_address f fs a d)
    leads j a more d is m e = stands_at a more d (subst (λ k. Member (way a more) (ways k f.at (stands.operands - needs k))) (sym is) m) e

    has_one : (j : Instr) → i.instr ≡ j → needs j ≡ 1 → 1 ≤ stands.operands
    has_one j is e = omega (arith, ap needs is, e, there_are)

    -- an operand goes, or stays
    less : (j : Instr) (a : ℕ) → i.instr ≡ j → needs j ≡ 1 → Member (way a (stands.operands - 1)) (ways j f.at (stands.operands - needs j))
        → StandsIn p (at_address f fs a (without_operand c))
    less j a is one m =
        let some : 1 ≤ stands.operands = has_one j is one in
        leads j a (stands.operands - 1) (without_operand c) is m
        (omega (arith, some, one_less (omega (arith, some, stands.slots_are)), stands.slots_are))

    same : (j : Instr) (a : ℕ) → i.instr ≡ j → needs j ≡ 1 → Member (way a (stands.operands - 1 + 1)) (ways j f.at (stands.operands - needs j))
        → StandsIn p (at_address f fs a c)
    same j a is one m = leads j a (stands.operands - 1 + 1) c is m (omega (arith, has_one j is one, stands.slots_are))

    stands_by : (j : Instr) → i.instr ≡ j → StandsIn p (act p line j f fs c)
    stands_by (instr.Jump a) is = leads (instr.Jump a) a (stands.operands - 0) c is (inl refl) (omega (arith, stands.slots_are))
    stands_by (instr.Unless a) is =
        by_truth_stands (last_truth c) (no_truth line) (λ d. at_address f fs (f.at + 1) (without_operand d)) (λ d. at_address f fs a (without_operand d)) tt
        (less (instr.Unless a) (f.at + 1) is refl (inr (inl refl))) (less (instr.Unless a) a is refl (inl refl))
    stands_by (instr.And a) is =
        by_truth_stands (last_truth c) (no_truth line) (λ d. at_address f fs (f.at + 1) (without_operand d)) (at_address f fs a) tt
        (less (instr.And a) (f.at + 1) is refl (inr (inl refl))) (same (instr.And a) a is refl (inl refl))
    stands_by (instr.Or a) is =
        by_truth_stands (last_truth c) (no_truth line) (at_address f fs a) (λ d. at_address f fs (f.at + 1) (without_operand d)) tt
        (same (instr.Or a) a is refl (inl refl)) (less (instr.Or a) (f.at + 1) is refl (inr (inl refl)))
    stands_by (instr.Call body count) is = called body count is (frames_left fs)
    stands_by instr.Return is = back fs below (omega (arith, has_one instr.Return is refl, stands.slots_are))
    stands_by j is = plain j is refl

  -- an instruction is there, and after it the behaviour stands as well
  module _ (f : Frame) (fs : List Frame) (c : Progress) (stands : FramesStand p (length c.state.slots) (f ∷ fs)) where
    abbrev first_stands : FrameStands p f (length c.state.slots)
    first_stands = stands.0

    code_is : code_at p f.body ≡ first_stands.body.list
    code_is = ap list_of first_stands.there

    within : f.at < length first_stands.body.list
    within = (has_operands f.body first_stands.body first_stands.there).there f.at first_stands.operands first_stands.reached

    by_found : (o : Option Placed) → slice_get first_stands.body.list f.at ≡ o → StandsIn p (act_at p o f fs c)
    by_found None at = tt
    by_found (Some i) at = stands_by i.line f fs c first_stands stands.1 i at i.instr refl

    pub step_stands : StandsIn p (code_step p (Running f fs c))
    step_stands =
        subst (λ l. StandsIn p (act_at p (slice_get l f.at) f fs c)) (sym code_is) (by_found (slice_get first_stands.body.list f.at) refl)

-- the instruction at the address of the last frame finds what it needs
pub found_ready : (p : Program) → ValidCode p → (f : Frame) (fs : List Frame) (c : Progress) → StandsIn p (Running f fs c) → (i : Placed)
    → slice_get (code_at p f.body) f.at ≡ Some i → IsReady p i.instr f.base (length c.state.slots)
found_ready p valid f fs c stands i at =
    ready p valid stands.0 f (length c.state.slots) stands.1.0 i
    (subst (λ l. slice_get l f.at ≡ Some i) (code_is p valid stands.0 f fs c stands.1) at)

-- and that address is one of its body
pub found_at : (p : Program) → ValidCode p → (f : Frame) (fs : List Frame) (c : Progress) → StandsIn p (Running f fs c) → IsAt p f
found_at p valid f fs c stands = record {
  body = stands.1.0.body;
  there = stands.1.0.there;
  within = within p valid stands.0 f fs c stands.1;
}

-- what one instruction leads to stands as well
pub led_stands : (p : Program) → ValidCode p → (x : Config) → StandsIn p x → StandsIn p (code_step p x)
led_stands p valid (Running f fs c) stands = step_stands p valid stands.0 f fs c stands.1
led_stands p valid (Over c fault) stands = tt

pub answer_stands : (p : Program) (r : Result Course OutOfMemory) (config : Course → Config) (x : Config) → IfOk r (λ course. config course ≡ x) → StandsIn p x
    → IfOk r (λ course. StandsIn p (config course))
answer_stands p (Ok course) config x e s = subst (StandsIn p) (sym e) s
answer_stands p (Err e) config x h s = tt

pub answer_led : (p : Program) (r : Result Course OutOfMemory) (config : Course → Config) (f : Frame) (fs : List Frame) (c : Progress) (i : Placed) (o : Option Placed)
    → o ≡ Some i → IfOk r (λ course. config course ≡ act p i.line i.instr f fs c) → IfOk r (λ course. config course ≡ act_at p o f fs c)
answer_led p r config f fs c i o e h = subst (λ k. IfOk r (λ course. config course ≡ act_at p k f fs c)) (sym e) h
