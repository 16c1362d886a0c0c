-- A call that isn't refused has the number of arguments that its instruction takes.
use Rattle.std.proofs.Common.{◌≡◌, ℕ, ◌+◌, ◌≤◌, Bool, true, false, cond, not, ◌&&◌, ◌||◌, ltb, List, [], ◌∷◌, ◌++◌, length, map, Option}
use Rattle.std.proofs.Common.{Some, None, refl, ap, sym, ◌∙◌, inl, inr, arith, slice_get}
use Rattle.std.specs.List.{AllByRecursion, position_or_len}
use Rattle.std.specs.Str.{bytes_eq}
use Rattle.std.proofs.lemmas.Bool.{ltb-false, eq-eqb, le-leb}
use Rattle.lf_base.specs.declared.ids.TextId.{TextId}
use Rattle.lf_base.specs.declared.refusals.RefusalKind.TheVariants.{WrongArity, NotVariable}
use Rattle.lf_base.specs.declared.limits.TheConstants.{MOST_PARTS}
use Rattle.lf_base.specs.Sets.{Member}
use Rattle.lf_base.specs.Texts.{Text, text_at, same_text}
use Rattle.lf_parser.specs.Plain.{PlainFunction}
use Rattle.lf_code.specs.ValidCode.{takes_count, has_params}
use Rattle.lf_codegen.specs.declared.callee.Callee.{Callee}
use Rattle.lf_codegen.specs.declared.called.Called.{Called}
use Rattle.lf_codegen.specs.declared.called.Called.TheVariants.{Built, Question, Function}
use Rattle.lf_codegen.specs.Callees.{BuiltIn, callee_taking, question, built_ins, built_in, built_in_among, built_in_or, exactly, params_of}
use Rattle.lf_codegen.specs.Callees.{callee_of}
use Rattle.lf_codegen.specs.Frames.{distinct, when_frames}
use Rattle.lf_codegen.specs.GeneratedCode.{program_of, generated_body}
use Rattle.lf_codegen.specs.NameRefusals.{call_refusal, misfits, kind_where, params_refusals}
use Rattle.lf_codegen.specs.Numbers.{PlainScript, NamedFrame, called_in, called_of, function_named, function_number, when_named}
use Rattle.lf_codegen.proofs.ValidOutput.DistinctNames.{all_distinct}
use Rattle.lf_codegen.proofs.ValidOutput.WhenFrames.{behind_one}

-- a number of arguments that isn't refused lies between the least and the most
or_first : (a b : Bool) → (a || b) ≡ false → a ≡ false
or_first true b h = absurd cc
or_first false b h = refl

or_second : (a b : Bool) → (a || b) ≡ false → b ≡ false
or_second true b h = absurd cc
or_second false b h = h

neither_kind : (m a : Bool) → cond m (Some WrongArity) (kind_where a NotVariable) ≡ None → (m ≡ false) × (a ≡ false)
neither_kind true a h = absurd cc
neither_kind false true h = absurd cc
neither_kind false false h = (refl, refl)

fitted : (c : Callee) (count : ℕ) (v : Bool) → call_refusal (Some c) count v ≡ None
    → (c.least ≤ count) × (count ≤ c.most) × ((c.asks && not v) ≡ false)
fitted c count v h =
    let parts = neither_kind (misfits c count) (c.asks && not v) h in (
      ltb-false count c.least (or_first (ltb count c.least) (ltb c.most count) parts.0),
      ltb-false c.most count (or_second (ltb count c.least) (ltb c.most count) parts.0),
      parts.1,
    )

variable_given : (v : Bool) → (true && not v) ≡ false → v ≡ true
variable_given true h = refl
variable_given false h = absurd cc

module _ (s : PlainScript) where
  -- the number of arguments, and whether they are one variable, are what is called asks for
  abbrev pub CallFits : Called → ℕ → Bool → Type 0
  CallFits (Built name) count v = takes_count name count ≡ true
  CallFits (Question name) count v = v ≡ true
  CallFits (Function body) count v = has_params (slice_get (program_of s).bodies body) count ≡ true

  abbrev RowFits : BuiltIn → Type 0
  RowFits b = (count : ℕ) (v : Bool) → call_refusal (Some b.callee) count v ≡ None → CallFits b.called count v

  exact_count : (c : Callee) (n count : ℕ) (v : Bool) → c.least ≡ n → c.most ≡ n → call_refusal (Some c) count v ≡ None → count ≡ n
  exact_count c n count v l m h = let f = fitted c count v h in omega (arith, f.0, f.1, l, m)

  rows_fit : AllByRecursion RowFits built_ins
  rows_fit = (
    (λ count v h. le-leb count MOST_PARTS (fitted (callee_taking 0 MOST_PARTS) count v h).1),
    (
      (λ count v h. eq-eqb count 0 (exact_count (callee_taking 0 0) 0 count v refl refl h)),
      (
        (λ count v h. eq-eqb count 1 (exact_count (callee_taking 1 1) 1 count v refl refl h)),
        (
          (λ count v h. eq-eqb count 1 (exact_count (callee_taking 1 1) 1 count v refl refl h)),
          (
            (λ count v h. eq-eqb count 2 (exact_count (callee_taking 2 2) 2 count v refl refl h)),
            (
              (λ count v h. eq-eqb count 1 (exact_count (callee_taking 1 1) 1 count v refl refl h)),
              (
                (λ count v h. variable_given v (fitted question count v h).2),
                (
                  (λ count v h. variable_given v (fitted question count v h).2),
                  (
                    (λ count v h. variable_given v (fitted question count v h).2),
                    (
                      (λ count v h. variable_given v (fitted question count v h).2),
                      (
                        (λ count v h. variable_given v (fitted question count v h).2),
                        (
                          (λ count v h. variable_given v (fitted question count v h).2),
                          tt,
                        ),
                      ),
                    ),
                  ),
                ),
              ),
            ),
          ),
        ),
      ),
    ),
  )

  among_fits : (bs : List BuiltIn) (text : Text) (params : Option ℕ) (function count : ℕ) (v : Bool) → AllByRecursion RowFits bs
      → (call_refusal (exactly params) count v ≡ None → CallFits (Function function) count v)
      → call_refusal (built_in_or (built_in_among bs text) params) count v ≡ None → CallFits (called_in bs text function) count v
  among_fits [] text params function count v a k h = k h
  among_fits (b ∷ bs) text params function count v a k h = elim (bytes_eq text b.name)
      as (λ t. call_refusal (built_in_or (cond t (Some b.callee) (built_in_among bs text)) params) count v ≡ None
      → CallFits (cond t b.called (called_in bs text function)) count v) [
        | true ↦ λ e. a.0 count v e
        | false ↦ λ e. among_fits bs text params function count v a.1 k e
      ] h

  function_fits : (fs : List PlainFunction) (more : List NamedFrame) (id : TextId) (count : ℕ) (v : Bool)
      → ((f : PlainFunction) → Member f fs → params_refusals f ≡ []) → call_refusal (exactly (params_of fs id)) count v ≡ None
      → has_params (slice_get (map (generated_body s) (map function_named fs ++ more)) (position_or_len
      (λ f. same_text id f.name.id) fs)) count ≡ true
  function_fits [] more id count v ok h = absurd cc
  function_fits (f ∷ fs) more id count v ok h = by (same_text id f.name.id) (λ e. function_fits fs more id count v (λ g m. ok g
      (inr m)) e) h
    where
      by : (b : Bool)
          → (call_refusal (exactly (params_of fs id)) count v ≡ None → has_params (slice_get (map (generated_body s)
          (map function_named fs ++ more))
          (position_or_len (λ g. same_text id g.name.id) fs)) count ≡ true)
          → call_refusal (exactly (cond b (Some (length f.params)) (params_of fs id))) count v ≡ None
          → has_params (slice_get (generated_body s (function_named f) ∷ map (generated_body s) (map function_named fs ++ more))
          (cond (not b) (1 + position_or_len (λ g. same_text id g.name.id) fs) 0)) count ≡ true
      by true k e =
          eq-eqb (length (distinct f.params)) count
          (ap length (all_distinct f.params (ok f (inl refl))) ∙ sym (exact_count (callee_taking (length f.params) (length f.params))
          (length f.params) count v refl refl e))
      by false k e =
          ap (λ b. has_params b count) (behind_one (generated_body s (function_named f)) (map (generated_body s)
          (map function_named fs ++ more))
          (position_or_len (λ g. same_text id g.name.id) fs))
          ∙ k e

  pub call_fits : ((f : PlainFunction) → Member f s.tree.functions → params_refusals f ≡ []) → (id : TextId) (count : ℕ) (v : Bool)
      → call_refusal (callee_of s.texts s.tree.functions id) count v ≡ None → CallFits (called_of s id) count v
  unfolding built_in
  call_fits ok id count v h =
      among_fits built_ins (text_at s.texts id.index) (params_of s.tree.functions id) (function_number s.tree id) count v rows_fit
      (λ e. ap (λ b. has_params b count) (behind_one _ _ (position_or_len (λ f. same_text id f.name.id) s.tree.functions))
      ∙ function_fits s.tree.functions (map when_named (when_frames s.tree)) id count v ok e) h
