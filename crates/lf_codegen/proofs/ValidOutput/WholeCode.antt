-- Each body of a script's code fits, and the code is valid.
use Rattle.std.proofs.Common.{◌≡◌, suc, ◌-◌, true, List, [], ◌∷◌, ◌++◌, length, map, flat_map, Option, Some, None}
use Rattle.std.proofs.Common.{refl, ap, sym, subst, ◌∙◌, inl, inr, arith, slice_get, nat_le}
use Rattle.std.specs.List.{AllByRecursion}
use Rattle.std.proofs.lemmas.Bool.{eq-eqb, le-leb}
use Rattle.std.proofs.lemmas.List.{length-append}
use Rattle.lf_base.specs.declared.refusals.RefusalKind.{RefusalKind}
use Rattle.lf_base.specs.Sets.{Member}
use Rattle.lf_base.specs.Texts.{same_text}
use Rattle.lf_base.proofs.ListLemmas.Members.{Member_left, Member_right, Member_map, Member_of_map, Member_of_append, Member_flat_map}
use Rattle.lf_base.proofs.ListLemmas.Members.{Member_any}
use Rattle.lf_parser.specs.declared.name.Name.{Name}
use Rattle.lf_parser.specs.Plain.{PlainFunction}
use Rattle.lf_code.specs.declared.body.Placed.{Placed}
use Rattle.lf_code.specs.declared.instr.Instr.TheVariants as instr
use Rattle.lf_code.specs.CodeStep.{body_end, on_line}
use Rattle.lf_code.specs.Operations.{HasOperands}
use Rattle.lf_code.specs.ValidCode.{ValidCode, code_fits, bodies_fit, body_fits, has_params, ends_in_return, returns_at}
use Rattle.lf_codegen.specs.declared.mention.Mention.{Mention}
use Rattle.lf_codegen.specs.declared.mention.Mention.TheVariants.{Use, Bind, Call}
use Rattle.lf_codegen.specs.Callees.{callee_of}
use Rattle.lf_codegen.specs.Frames.{PlainFrame, frames, function_frame, when_frames, block_whens, is_among, distinct, variable_of}
use Rattle.lf_codegen.specs.Frames.{variables, bound}
use Rattle.lf_codegen.specs.GeneratedCode.{program_of, generated_body, block_code, body_code}
use Rattle.lf_codegen.specs.Mentions.{block_mentions}
use Rattle.lf_codegen.specs.NameRefusals.{call_refusal, mention_refusals, frame_refusals, names_refusals, params_refusals, refusals_at}
use Rattle.lf_codegen.specs.Numbers.{PlainScript, NamedFrame, named_frames, function_named, when_named}
use Rattle.lf_codegen.specs.TextsNamed.{IsFitForCode, block_texts}
use Rattle.lf_codegen.proofs.CodeShape.Depths.{body_has_operands}
use Rattle.lf_codegen.proofs.TextsOfTokens.FrameTexts.{frame_texts}
use Rattle.lf_codegen.proofs.ValidOutput.CallsFit.{call_fits}
use Rattle.lf_codegen.proofs.ValidOutput.DistinctNames.{none_front, none_back, distinct_behind, among_distinct}
use Rattle.lf_codegen.proofs.ValidOutput.FittingCode.{Good, AllGood, WhensFit, block_run, fit_append}
use Rattle.lf_codegen.proofs.ValidOutput.VariableNumbers.{both}
use Rattle.lf_codegen.proofs.ValidOutput.WhenFrames.{frame_whens, when_has_params}

none_of : {X Y : Type 0} (f : X → List Y) (xs : List X) (x : X) → flat_map f xs ≡ [] → Member x xs → f x ≡ []
none_of f [] x h m = absurd m
none_of f (y ∷ ys) x h (inl e) = ap f (sym e) ∙ none_front (f y) (flat_map f ys) h
none_of f (y ∷ ys) x h (inr m) = none_of f ys x (none_back (f y) (flat_map f ys) h) m

no_kind : (o : Option RefusalKind) (x : Name) → refusals_at o x ≡ [] → o ≡ None
no_kind None x h = refl
no_kind (Some kind) x h = absurd cc

-- the last instruction is a return
at_end : (xs : List Placed) → slice_get (xs ++ body_end) (suc (length xs)) ≡ Some (on_line 0 instr.Return)
at_end [] = refl
at_end (x ∷ xs) = at_end xs

ends : (xs : List Placed) → ends_in_return (xs ++ body_end) ≡ true
ends xs =
    let last : length (xs ++ body_end) - 1 ≡ suc (length xs) = omega (arith, length-append xs body_end) in
    ap (λ n. returns_at (slice_get (xs ++ body_end) n)) last ∙ ap returns_at (at_end xs)

-- a name that is there is among the names
there : (x : Name) (xs : List Name) → Member x xs → is_among x.id xs ≡ true
there x xs m = Member_any (λ (y : Name). same_text x.id y.id) x xs m (eq-eqb x.id.index x.id.index refl)

module _ (s : PlainScript) (fit : IsFitForCode s) where
  behind_names : flat_map params_refusals s.tree.functions ++ flat_map (frame_refusals s.texts s.tree.functions) (frames s.tree) ≡ []
  behind_names = none_back (names_refusals s.texts [] s.tree.functions) _ fit.resolves

  params_right : (f : PlainFunction) → Member f s.tree.functions → params_refusals f ≡ []
  params_right f m = none_of params_refusals s.tree.functions f (none_front (flat_map params_refusals s.tree.functions) _ behind_names) m

  mentions_right : (f : PlainFrame) → Member f (frames s.tree) → (m : Mention) → Member m (block_mentions f.body)
      → mention_refusals s.texts s.tree.functions (bound f) m ≡ []
  mentions_right f k m l =
      none_of (mention_refusals s.texts s.tree.functions (bound f)) (block_mentions f.body) m
      (none_of (frame_refusals s.texts s.tree.functions) (frames s.tree) f
      (none_back (flat_map params_refusals s.tree.functions) _ behind_names) k) l

  variable_there : (f : PlainFrame) (m : Mention) (x : Name) → Member m (block_mentions f.body) → Member x (variable_of m)
      → is_among x.id (variables f) ≡ true
  variable_there f m x k l =
      let ms = flat_map variable_of (block_mentions f.body) in
      among_distinct x.id [] (f.own ++ ms)
      (there x (f.own ++ ms) (Member_right x f.own ms (Member_flat_map variable_of m x (block_mentions f.body) k l)))

  mention_good : (f : PlainFrame) → Member f (frames s.tree) → (m : Mention) → Member m (block_mentions f.body)
      → Good s (variables f) (length (body_code s (variables f) f.body)) m
  mention_good f k (Use x) l = variable_there f (Use x) x l (inl refl)
  mention_good f k (Bind x) l = variable_there f (Bind x) x l (inl refl)
  mention_good f k (Call x count v) l =
      call_fits s params_right x.id count v
      (no_kind (call_refusal (callee_of s.texts s.tree.functions x.id) count v) x (mentions_right f k (Call x count v) l))

  params_within : (f : PlainFrame) → nat_le (length (distinct f.own)) (length (variables f)) ≡ true
  params_within f =
      let parts = distinct_behind f.own (flat_map variable_of (block_mentions f.body)) in
      le-leb (length (distinct f.own)) (length (variables f)) (omega (arith, ap length parts.1, length-append (distinct f.own) parts.0))

  frame_fits : (n : NamedFrame) → Member n.frame (frames s.tree)
      → body_fits (program_of s).bodies (length s.texts) (generated_body s n) ≡ true
  frame_fits n k =
      let f = n.frame in
      let vars = variables f in
      let code = block_code s vars f.body 0 in
      let list = code ++ body_end in
      let good : AllGood s vars (length list) (block_mentions f.body) (block_texts f.body) =
      (mention_good f k, (λ t m. fit.texts_there t (frame_texts s.tree f t k m))) in
      let whens : WhensFit s vars (length list) (block_whens f.body) =
      (λ g m. when_has_params s g fit.whens_in_order (frame_whens s.tree f g k m)) in
      let run = block_run s vars (length list) f.body 0 good whens (omega (arith, length-append code body_end)) in
      both (nat_le (length (distinct f.own)) (length vars)) _ (params_within f)
      (both (ends_in_return list) _ (ends code) (fit_append s vars (length list) code body_end run refl))

  all_fit : (ns : List NamedFrame) → ((n : NamedFrame) → Member n ns → Member n.frame (frames s.tree))
      → bodies_fit (program_of s).bodies (length s.texts) (map (generated_body s) ns) ≡ true
  all_fit [] h = refl
  all_fit (n ∷ ns) h =
      both (body_fits (program_of s).bodies (length s.texts) (generated_body s n)) _ (frame_fits n (h n (inl refl)))
      (all_fit ns (λ m k. h m (inr k)))

  named_frame : (n : NamedFrame) → Member n (named_frames s.tree) → Member n.frame (frames s.tree)
  named_frame n (inl e) = inl (ap (λ m. m.frame) e)
  named_frame n (inr m) =
      let fs = s.tree.functions in
      let ws = when_frames s.tree in
      elim (Member_of_append n (map function_named fs) (map when_named ws) m) [
        | inl k ↦ let at = Member_of_map function_named n fs k in
            inr (Member_left n.frame (map function_frame fs) ws
            (subst (λ p. Member p.frame (map function_frame fs)) at.1.1 (Member_map function_frame at.0 fs at.1.0)))
        | inr k ↦ let at = Member_of_map when_named n ws k in
            inr (Member_right n.frame (map function_frame fs) ws (subst (λ p. Member p.frame ws) at.1.1 at.1.0))
      ]

  whole_fits : code_fits (program_of s).bodies (length s.texts) ≡ true
  whole_fits =
      both (has_params (slice_get (program_of s).bodies 0) 0) (bodies_fit (program_of s).bodies (length s.texts) (program_of s).bodies) refl
      (all_fit (named_frames s.tree) named_frame)

each_has_operands : (s : PlainScript) (ns : List NamedFrame) → AllByRecursion (λ b. HasOperands b.list) (map (generated_body s) ns)
each_has_operands s [] = tt
each_has_operands s (n ∷ ns) = (body_has_operands s (variables n.frame) n.frame.body, each_has_operands s ns)

pub code_is_valid : (s : PlainScript) → IsFitForCode s → ValidCode (program_of s)
code_is_valid s fit = record { fits = whole_fits s fit; operands = each_has_operands s (named_frames s.tree) }
