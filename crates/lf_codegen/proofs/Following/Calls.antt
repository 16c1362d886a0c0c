-- Calls, and whole bodies.
use Rattle.std.proofs.Common.{◌≡◌, ℕ, zero, suc, ◌+◌, ◌-◌, ◌<◌, ◌≤◌, Bool, true, false, List, [], ◌∷◌, ◌++◌, length, map, Option, Some}
use Rattle.std.proofs.Common.{None, refl, sym, ap, ◌∙◌, subst, arith}
use Rattle.std.specs.Prelude.{slice_get}
use Rattle.lf_base.specs.declared.values.Value.TheVariants as value
use Rattle.lf_code.specs.declared.body.Placed.{Placed}
use Rattle.lf_code.specs.declared.instr.Instr.TheVariants as instr
use Rattle.lf_code.specs.Progress.{Progress, Did, Flow, Next, Return, Fails, ◌▷◌, does}
use Rattle.lf_base.specs.declared.limits.TheConstants.{MOST_FRAMES}
use Rattle.lf_code.specs.CodeStep.{Frame, Config, Running, Over, Program, act, code_at, vars_at, list_of, vars_of, on_line, body_end, led}
use Rattle.lf_code.specs.CodeStep.{returned, return_to, at_address, to_address, frames_left, call_by, new_frame}
use Rattle.lf_code.specs.RunCode.{first_progress}
use Rattle.lf_code.proofs.Ending.Reaching.{Reaches, stop, go, on, one, CodeStandsAt, stands_front, stands_back}
use Rattle.lf_codegen.specs.GeneratedCode.{program_of, generated_body, body_code, block_code}
use Rattle.lf_codegen.specs.Meaning.{Callee, block_meaning, frame_end, calls_within_frames}
use Rattle.lf_codegen.specs.Numbers.{PlainScript, NamedFrame, named_frames, frame_vars, frame_block, body_vars, body_block}
use Rattle.lf_codegen.proofs.Following.Ticks.{calls_within}
use Rattle.lf_codegen.proofs.Following.Runs.{ConfigLeads, CallsLead, both, block_runs}
use Rattle.lf_base.specs.Operands.{pushed}
use Rattle.lf_code.specs.Actions.{base_of, enter, leave, no_frame_left, push_value}

shifted : (y : Placed) (ys : List Placed) (a b : ℕ) (xs : List Placed) → CodeStandsAt ys a xs b → CodeStandsAt (y ∷ ys) (a + 1) xs (b + 1)
shifted y ys a b [] h = ap (λ n. n + 1) h
shifted y ys a b (x ∷ xs) h =
    let e : suc a ≡ a + 1 = omega arith in
    (subst (λ n. slice_get (y ∷ ys) n ≡ Some x) e h.0, shifted y ys (a + 1) b xs h.1)

all_stand : (xs : List Placed) → CodeStandsAt xs 0 xs (length xs)
all_stand [] = refl
all_stand (x ∷ xs) =
    let e : length xs + 1 ≡ suc (length xs) = omega arith in
    (refl, subst (λ n. CodeStandsAt (x ∷ xs) 1 xs n) e (shifted x xs 0 (length xs) xs (all_stand xs)))

module _ (s : PlainScript) where
  abbrev p : Program
  p = program_of s

  list_in : (fs : List NamedFrame) (n : ℕ)
      → list_of (slice_get (map (generated_body s) fs) n) ≡ body_code s (frame_vars (slice_get fs n)) (frame_block (slice_get fs n))
  list_in [] n = refl
  list_in (f ∷ fs) zero = refl
  list_in (f ∷ fs) (suc n) = list_in fs n

  vars_in : (fs : List NamedFrame) (n : ℕ) → vars_of (slice_get (map (generated_body s) fs) n) ≡ length (frame_vars (slice_get fs n))
  vars_in [] n = refl
  vars_in (f ∷ fs) zero = refl
  vars_in (f ∷ fs) (suc n) = vars_in fs n

  abbrev list : ℕ → List Placed
  list body = body_code s (body_vars s body) (body_block s body)

  abbrev block_list : ℕ → List Placed
  block_list body = block_code s (body_vars s body) (body_block s body) 0

  pub code_is : (body : ℕ) → code_at p body ≡ list body
  code_is body = list_in (named_frames s.tree) body

  pub vars_are : (body : ℕ) → vars_at p body ≡ length (body_vars s body)
  vars_are body = vars_in (named_frames s.tree) body

  body_stands : (body : ℕ) → CodeStandsAt (code_at p body) 0 (list body) (length (list body))
  body_stands body = subst (λ c. CodeStandsAt c 0 (list body) (length (list body))) (sym (code_is body)) (all_stand (list body))

  -- the end of the block's code, and the end of the body behind it
  abbrev end_at : ℕ → ℕ
  end_at body = 0 + length (block_list body)

  pub block_stands : (body : ℕ) → CodeStandsAt (code_at p body) 0 (block_list body) (end_at body)
  block_stands body = stands_front (code_at p body) 0 (length (list body)) (block_list body) body_end (body_stands body)

  end_stands : (body : ℕ) → CodeStandsAt (code_at p body) (end_at body) body_end (length (list body))
  end_stands body = stands_back (code_at p body) 0 (length (list body)) (block_list body) body_end (body_stands body)

  -- a frame that goes leads to where a return leads
  ended : (body base : ℕ) (fs : List Frame) (x : Config) (back : Progress → Config) (o : Flow)
      → ConfigLeads p x (λ c. Running (record { body = body; at = end_at body; base = base }) fs c) (λ c. returned fs (leave base c)) o
      → ConfigLeads p x (λ c. returned fs c) back (frame_end base o)
  ended body base fs x back (Next c) h =
      let f : Frame = record { body = body; at = end_at body; base = base } in
      let g : Frame = record { body = body; at = end_at body + 1; base = base } in
      let d : Progress = record c { state = pushed (Some value.None) c.state } in
      on p h (on p (one p f fs c 0 instr.None (Running g fs d) (end_stands body).0 refl)
      (one p g fs d 0 instr.Return (returned fs (leave base d)) (end_stands body).1.0 refl))
  ended body base fs x back (Return c) h = h
  ended body base fs x back (Fails c at) h = h

  entered : (k body base : ℕ) (fs : List Frame) (d : Progress) (back : Progress → Config)
      → CallsLead p (calls_within_frames s k) (frames_left fs)
      → ConfigLeads p (Running (new_frame body base) fs d) (λ c. returned fs c) back
      (frame_end base (block_meaning s (body_vars s body) base (calls_within_frames s k) (body_block s body) d))
  entered k body base fs d back lead =
      ended body base fs (Running (new_frame body base) fs d) back
      (block_meaning s (body_vars s body) base (calls_within_frames s k) (body_block s body) d)
      (block_runs s (body_vars s body) (calls_within_frames s k) (calls_within s k) p refl body base fs lead (body_block s body) 0
      (end_at body) d (block_stands body))

  pub calls_lead : (n : ℕ) → CallsLead p (calls_within_frames s n) n
  calls_lead zero line body count f fs c left at =
      one p f fs c line (instr.Call body count) _ at (ap (λ n. call_by p n line body count f fs c) left)
  calls_lead (suc k) line body count f fs c left at =
      let g : Frame = to_address f (f.at + 1) in
      let fs1 : List Frame = g ∷ fs in
      let base = base_of count c in
      let fewer : k ≡ frames_left fs1 = omega (arith, left) in
      let entering : ConfigLeads p (Running f fs c) (Running (new_frame body base) fs1) (return_to f fs)
      (does line (enter (length (body_vars s body) - count)) c) =
      one p f fs c line (instr.Call body count) _ at
      (ap (λ n. call_by p n line body count f fs c) left
      ∙ ap (λ n. led (Running (new_frame body base) fs1) (return_to f fs) (does line (enter (n - count)) c)) (vars_are body)) in
      both p (Running f fs c) (Running (new_frame body base) fs1) (at_address f fs (f.at + 1)) (return_to f fs)
      (does line (enter (length (body_vars s body) - count)) c) _ entering
      (λ d. entered k body base fs1 d (return_to f fs) (subst (CallsLead p (calls_within_frames s k)) fewer (calls_lead k)))

  -- a whole body
  pub body_leads : (body : ℕ) (c : Progress) (back : Progress → Config)
      → ConfigLeads p (Running (new_frame body 0) [] c) (λ d. Over d None) back
      (frame_end 0 (block_meaning s (body_vars s body) 0 (calls_within_frames s (MOST_FRAMES - 1)) (body_block s body) c))
  body_leads body c back = entered (MOST_FRAMES - 1) body 0 [] c back (calls_lead (MOST_FRAMES - 1))
