-- Each `when` has the body of its number, which has as many parameters as the `when` has names.
use Rattle.std.proofs.Common.{◌≡◌, ℕ, zero, suc, ◌+◌, ◌<◌, true, false, cond, not, eqb, ltb, List, [], ◌∷◌, ◌++◌, length, map, flat_map}
use Rattle.std.proofs.Common.{Some, refl, ap, sym, subst, ◌∙◌, ◌⊎◌, inl, inr, arith, slice_get}
use Rattle.std.specs.List.{position_or_len}
use Rattle.std.proofs.lemmas.Bool.{eq-eqb, ne_eqb, ltb-true}
use Rattle.lf_base.specs.Sets.{Member}
use Rattle.lf_base.proofs.ListLemmas.Members.{Member_map, Member_of_map, Member_flat_map, Member_left, Member_right, Member_of_append}
use Rattle.lf_base.proofs.ListLemmas.Members.{Member_of_flat_map}
use Rattle.lf_parser.specs.Ascending.{Ascending}
use Rattle.lf_parser.specs.Plain.{PlainStmt, PlainBlock, PlainFunction, PlainTree, no_stmts, stmt}
use Rattle.lf_parser.specs.Plain as plain
use Rattle.lf_code.specs.ValidCode.{has_params}
use Rattle.lf_codegen.specs.Frames.{PlainFrame, put_in_order, rising, stmt_whens, block_whens, function_whens, frame_line, when_frames}
use Rattle.lf_codegen.specs.Frames.{function_frame, frames, distinct}
use Rattle.lf_codegen.specs.GeneratedCode.{program_of, generated_body}
use Rattle.lf_codegen.specs.Numbers.{PlainScript, NamedFrame, function_named, when_named, when_number}
use Rattle.lf_codegen.proofs.OverLists.StableSorts.{of_rising}

-- ---- sorting keeps each item
module _ {X : Type 0} (key : X → ℕ) where
  placed : (x y : X) (ys : List X) → (x ≡ y) ⊎ Member y ys → Member y (put_in_order key x ys)
  placed x y [] m = m
  placed x y (z ∷ zs) m = elim (ltb (key z) (key x)) as (λ b. Member y (cond b (z ∷ put_in_order key x zs) (x ∷ (z ∷ zs)))) [
    | true ↦ elim m [
      | inl e ↦ inr (placed x y zs (inl e))
      | inr k ↦ elim k [ inl e ↦ inl e | inr l ↦ inr (placed x y zs (inr l)) ]
    ]
    | false ↦ m
  ]

  to_rising : (y : X) (xs : List X) → Member y xs → Member y (rising key xs)
  to_rising y [] m = absurd m
  to_rising y (x ∷ xs) (inl e) = placed x y (rising key xs) (inl e)
  to_rising y (x ∷ xs) (inr m) = placed x y (rising key xs) (inr (to_rising y xs m))

-- ---- the `when`s in the body of a `when` are among those round it
either : (g : PlainFrame) (fs gs : List PlainFrame) → Member g fs ⊎ Member g gs → Member g (fs ++ gs)
either g fs gs (inl m) = Member_left g fs gs m
either g fs gs (inr m) = Member_right g fs gs m

in_parts : (f g : PlainFrame) (fs gs : List PlainFrame) → (Member f fs → Member g fs) → (Member f gs → Member g gs)
    → Member f (fs ++ gs) → Member g (fs ++ gs)
in_parts f g fs gs p q m = elim (Member_of_append f fs gs m) [
  | inl k ↦ Member_left g fs gs (p k)
  | inr k ↦ Member_right g fs gs (q k)
]

mutual
  stmt_inner : (st : PlainStmt) (f g : PlainFrame) → Member g (block_whens f.body) → Member f (stmt_whens st) → Member g (stmt_whens st)
  stmt_inner (plain.Assign line x value) f g k m = absurd m
  stmt_inner (plain.Store line target key value) f g k m = absurd m
  stmt_inner (plain.Drop line x) f g k m = absurd m
  stmt_inner (plain.Return line value) f g k m = absurd m
  stmt_inner (plain.Pass line) f g k m = absurd m
  stmt_inner (plain.Eval line value) f g k m = absurd m
  stmt_inner (plain.If line test body other) f g k m =
      in_parts f g (block_whens body) (block_whens other) (block_inner body f g k) (block_inner other f g k) m
  stmt_inner (plain.While line test body) f g k m = block_inner body f g k m
  stmt_inner (plain.When line cowns captures body) f g k (inl e) = inr (subst (λ h. Member g (block_whens h.body)) (sym e) k)
  stmt_inner (plain.When line cowns captures body) f g k (inr m) = inr (block_inner body f g k m)

  block_inner : (b : PlainBlock) (f g : PlainFrame) → Member g (block_whens f.body) → Member f (block_whens b) → Member g (block_whens b)
  block_inner no_stmts f g k m = absurd m
  block_inner (stmt st ss) f g k m =
      in_parts f g (stmt_whens st) (block_whens ss) (stmt_inner st f g k) (block_inner ss f g k) m

-- ---- the `when`s of each frame are among those of the tree
module _ (tree : PlainTree) where
  abbrev all_whens : List PlainFrame
  all_whens = flat_map function_whens tree.functions ++ block_whens tree.main

  of_function : (f : PlainFunction) (g : PlainFrame) → Member f tree.functions → Member g (block_whens f.body) → Member g all_whens
  of_function f g m k =
      Member_left g (flat_map function_whens tree.functions) (block_whens tree.main) (Member_flat_map function_whens f g tree.functions m k)

  of_when : (f g : PlainFrame) → Member f all_whens → Member g (block_whens f.body) → Member g all_whens
  of_when f g m k = elim (Member_of_append f (flat_map function_whens tree.functions) (block_whens tree.main) m) [
    | inl l ↦ let at = Member_of_flat_map function_whens f tree.functions l in
        of_function at.0 g at.1.0 (block_inner (at.0).body f g k at.1.1)
    | inr l ↦ Member_right g (flat_map function_whens tree.functions) (block_whens tree.main) (block_inner tree.main f g k l)
  ]

  of_frame : (f g : PlainFrame) → Member f (frames tree) → Member g (block_whens f.body) → Member g all_whens
  of_frame f g (inl e) k =
      Member_right g (flat_map function_whens tree.functions) (block_whens tree.main)
      (subst (λ h. Member g (block_whens h.body)) (sym e) k)
  of_frame f g (inr m) k = elim (Member_of_append f (map function_frame tree.functions) (when_frames tree) m) [
    | inl l ↦ let at = Member_of_map function_frame f tree.functions l in
        of_function at.0 g at.1.0 (subst (λ h. Member g (block_whens h.body)) (sym at.1.1) k)
    | inr l ↦ of_when f g (of_rising frame_line f all_whens l) k
  ]

  pub frame_whens : (f g : PlainFrame) → Member f (frames tree) → Member g (block_whens f.body) → Member g (when_frames tree)
  frame_whens f g m k = to_rising frame_line g all_whens (of_frame f g m k)

-- ---- the `when` on a line, where the lines rise
pub behind_one : {X : Type 0} (x : X) (xs : List X) (n : ℕ) → slice_get (x ∷ xs) (1 + n) ≡ slice_get xs n
behind_one x xs n = let e : 1 + n ≡ suc n = omega arith in ap (slice_get (x ∷ xs)) e

when_at : (fs : List PlainFrame) (g : PlainFrame) → Ascending ltb (map frame_line fs) → Member g fs
    → slice_get fs (position_or_len (λ f. eqb f.line g.line) fs) ≡ Some g
when_at [] g a m = absurd m
when_at (f ∷ fs) g a (inl e) =
    ap (λ b. slice_get (f ∷ fs) (cond (not b) (1 + position_or_len (λ h. eqb h.line g.line) fs) 0)) (eq-eqb f.line g.line (ap
    (λ h. h.line) e))
    ∙ ap Some e
when_at (f ∷ fs) g a (inr m) =
    let below : f.line < g.line = ltb-true f.line g.line (a.0 g.line (Member_map frame_line g fs m)) in
    ap (λ b. slice_get (f ∷ fs) (cond (not b) (1 + position_or_len (λ h. eqb h.line g.line) fs) 0))
    (ne_eqb f.line g.line (λ e. omega (arith, e, below)))
    ∙ behind_one f fs (position_or_len (λ h. eqb h.line g.line) fs) ∙ when_at fs g a.1 m

module _ (s : PlainScript) where
  when_body : (ws : List PlainFrame) (n : ℕ) (g : PlainFrame) → slice_get ws n ≡ Some g
      → slice_get (map (generated_body s) (map when_named ws)) n ≡ Some (generated_body s (when_named g))
  when_body [] n g h = absurd cc
  when_body (w ∷ ws) zero g h = let same : w ≡ g = cc in ap (λ f. Some (generated_body s (when_named f))) same
  when_body (w ∷ ws) (suc n) g h = when_body ws n g h

  behind_functions : (fs : List PlainFunction) (more : List NamedFrame) (n : ℕ)
      → slice_get (map (generated_body s) (map function_named fs ++ more)) (length fs + n) ≡ slice_get (map (generated_body s) more) n
  behind_functions [] more n = let e : 0 + n ≡ n = omega arith in ap (slice_get (map (generated_body s) more)) e
  behind_functions (f ∷ fs) more n =
      let e : suc (length fs) + n ≡ suc (length fs + n) = omega arith in
      ap (slice_get (map (generated_body s) (map function_named (f ∷ fs) ++ more))) e ∙ behind_functions fs more n

  pub when_has_params : (g : PlainFrame) → Ascending ltb (map frame_line (when_frames s.tree)) → Member g (when_frames s.tree)
      → has_params (slice_get (program_of s).bodies (when_number s.tree g.line)) (length (distinct g.own)) ≡ true
  when_has_params g a m =
      let ws = when_frames s.tree in
      let n = position_or_len (λ f. eqb f.line g.line) ws in
      let e : 1 + length s.tree.functions + n ≡ suc (length s.tree.functions + n) = omega arith in
      ap (λ b. has_params b (length (distinct g.own))) (ap (slice_get (program_of s).bodies) e
      ∙ behind_functions s.tree.functions (map when_named ws) n
      ∙ when_body ws n g (when_at ws g a m))
      ∙ eq-eqb (length (distinct g.own)) (length (distinct g.own)) refl
