-- Pieces of code behind one another, and jumps over them.
use Rattle.std.proofs.Common.{◌≡◌, ℕ, ◌+◌, true, false, List, [], ◌∷◌, ◌++◌, length, refl, sym, ap, arith, ◌∙◌}
use Rattle.std.proofs.lemmas.List.{append_assoc, length-append}
use Rattle.lf_code.specs.declared.body.Placed.{Placed}
use Rattle.lf_code.specs.declared.instr.Instr.{Instr}
use Rattle.lf_code.specs.declared.instr.Instr.TheVariants as instr
use Rattle.lf_code.specs.CodeStep.{on_line}
use Rattle.lf_codegen.specs.GeneratedCode.{round_code, branches_code}
use Rattle.lf_emit.specs.Left.{patched}
use Rattle.lf_emit.proofs.Emitted.{patched_at}

-- code by the address where it begins
abbrev pub CodePiece : Type 0
CodePiece = ℕ → List Placed

abbrev pub seq : CodePiece → CodePiece → CodePiece
seq p q at = p at ++ q (at + length (p at))

-- a piece at the end of a list
abbrev pub Emits : CodePiece → List Placed → List Placed → Type 0
Emits p old new = new ≡ old ++ p (length old)

pub seq_emits : (p q : CodePiece) (a b c : List Placed) → Emits p a b → Emits q b c → Emits (seq p q) a c
seq_emits p q a b c h k =
    k ∙ ap (λ o. o ++ q (length o)) h
    ∙ ap (λ n. (a ++ p (length a)) ++ q n) (length-append a (p (length a)))
    ∙ append_assoc a (p (length a)) (q (length a + length (p (length a))))

-- a jump over a piece
pub over : (line : ℕ) (jump : ℕ → Instr) (i : Instr) (f : CodePiece) (a b c d : List Placed)
    → b ≡ a ++ on_line line i ∷ [] → Emits f b c → d ≡ patched (length a) line (jump (length c)) c
    → d ≡ a ++ on_line line (jump (length a + 1 + length (f (length a + 1)))) ∷ f (length a + 1)
over line jump i f a b c d hb hc hd =
    let F = f (length a + 1) in
    let h : c ≡ a ++ on_line line i ∷ F = seq_emits (λ n. on_line line i ∷ []) f a b c hb hc in
    hd ∙ ap (λ o. patched (length a) line (jump (length o)) o) h
    ∙ ap (λ n. patched (length a) line (jump n) (a ++ on_line line i ∷ F)) (omega (arith, length-append a (on_line line i ∷ F)))
    ∙ patched_at a F (on_line line i) line (jump (length a + 1 + length F))

-- a jump over a piece and one instruction more
pub over_more : (line : ℕ) (jump : ℕ → Instr) (i : Instr) (last : Placed) (f : CodePiece) (a b c e : List Placed)
    → b ≡ a ++ on_line line i ∷ [] → Emits f b c → e ≡ patched (length a) line (jump (length c + 1)) (c ++ last ∷ [])
    → e ≡ a ++ on_line line (jump (length a + 1 + length (f (length a + 1)) + 1)) ∷ (f (length a + 1) ++ last ∷ [])
over_more line jump i last f a b c e hb hc he =
    over line jump i (λ n. f n ++ last ∷ []) a b (c ++ last ∷ []) e hb (seq_emits f (λ n. last ∷ []) b c (c ++ last ∷ []) hc refl)
    (he ∙ ap (λ n. patched (length a) line (jump n) (c ++ last ∷ [])) (omega (arith, length-append c (last ∷ []))))
    ∙ ap (λ n. a ++ on_line line (jump n) ∷ (f (length a + 1) ++ last ∷ [])) (omega (arith, length-append (f (length a + 1)) (last ∷ [])))

-- two pieces, and jumps over the first one and over the second one
pub both_codes : (line : ℕ) (i k : Instr) (f g : CodePiece) (a b c e x y : List Placed)
    → b ≡ a ++ on_line line i ∷ [] → Emits f b c → e ≡ patched (length a) line (instr.Unless (length c + 1)) (c ++ on_line line k ∷ [])
    → Emits g e x → y ≡ patched (length c) line (instr.Jump (length x)) x
    → y ≡ a ++ branches_code false line (length a) (f (length a + 1)) (g (length a + 1 + length (f (length a + 1)) + 1))
both_codes line i k f g a b c e x y hb hc he hx hy =
    let F = f (length a + 1) in
    let U = on_line line (instr.Unless (length a + 1 + length F + 1)) in
    let K = on_line line k in
    let m = length a + 1 + length F + 1 in
    let h : e ≡ a ++ U ∷ (F ++ K ∷ []) = over_more line instr.Unless i K f a b c e hb hc he in
    let n : length c ≡ length (a ++ U ∷ F) =
    omega (
      arith,
      ap length (seq_emits (λ n. on_line line i ∷ []) f a b c hb hc),
      length-append a (on_line line i ∷ F),
      length-append a
          (U ∷ F),
    ) in
    let l : length e ≡ m = omega (arith, ap length h, length-append a (U ∷ (F ++ K ∷ [])), length-append F (K ∷ [])) in
    let s : e ≡ (a ++ U ∷ F) ++ K ∷ [] = h ∙ sym (append_assoc a (U ∷ F) (K ∷ [])) in
    let t : x ≡ (a ++ U ∷ F) ++ K ∷ g m = hx ∙ ap (λ n. e ++ g n) l ∙ ap (λ o. o ++ g m) s ∙ append_assoc (a ++ U ∷ F) (K ∷ []) (g m) in
    hy ∙ ap (λ o. patched (length c) line (instr.Jump (length o)) o) t
    ∙ ap (λ n. patched n line (instr.Jump (length ((a ++ U ∷ F) ++ K ∷ g m))) ((a ++ U ∷ F) ++ K ∷ g m)) n
    ∙ ap (λ n. patched (length (a ++ U ∷ F)) line (instr.Jump n) ((a ++ U ∷ F) ++ K ∷ g m))
    (omega (arith, length-append (a ++ U ∷ F) (K ∷ g m), length-append a (U ∷ F)))
    ∙ patched_at (a ++ U ∷ F) (g m) K line (instr.Jump (m + length (g m)))
    ∙ append_assoc a (U ∷ F) (on_line line (instr.Jump (m + length (g m))) ∷ g m)

-- ---- a test and what follows it, from a
module _ (line : ℕ) (test : CodePiece) (a b : List Placed) (tested : b ≡ a ++ on_line line instr.Tick ∷ test (length a + 1)) where
  abbrev past : ℕ
  past = length a + 1 + length (test (length a + 1))

  behind : (q : CodePiece) (e : List Placed) → Emits q b e → e ≡ a ++ on_line line instr.Tick ∷ (test (length a + 1) ++ q past)
  behind q e h =
      seq_emits (λ n. on_line line instr.Tick ∷ test (n + 1)) q a b e tested h
      ∙ ap (λ n. a ++ on_line line instr.Tick ∷ (test (length a + 1) ++ q n)) (omega arith)

  module _ (k : Instr) (body : CodePiece) (c d e : List Placed) (at : ℕ) (opened : c ≡ b ++ on_line line k ∷ []) (is_at : at ≡ length b)
      (has_body : Emits body c d) where
    pub if_alone : (other : ℕ → List Placed) → e ≡ patched at line (instr.Unless (length d)) d
        → e ≡ a ++ on_line line instr.Tick ∷
        (test (length a + 1) ++ branches_code true line past (body (past + 1)) (other (past + 1 + length (body (past + 1)) + 1)))
    if_alone other h =
        behind (λ n. branches_code true line n (body (n + 1)) []) e
        (over line instr.Unless k body b c d e opened has_body (h ∙ ap (λ n. patched n line (instr.Unless (length d)) d) is_at))

    pub if_both : (j : Instr) (other : CodePiece) (skip : ℕ) (x y : List Placed)
        → e ≡ patched at line (instr.Unless (length d + 1)) (d ++ on_line line j ∷ []) → skip ≡ length d
        → Emits other e x → y ≡ patched skip line (instr.Jump (length x)) x
        → y ≡ a ++ on_line line instr.Tick ∷
        (test (length a + 1) ++ branches_code false line past (body (past + 1)) (other (past + 1 + length (body (past + 1)) + 1)))
    if_both j other skip x y h is_skip hx hy =
        behind (λ n. branches_code false line n (body (n + 1)) (other (n + 1 + length (body (n + 1)) + 1))) y
        (both_codes line k j body other b c d e x y opened has_body
        (h ∙ ap (λ n. patched n line (instr.Unless (length d + 1)) (d ++ on_line line j ∷ [])) is_at) hx
        (hy ∙ ap (λ n. patched n line (instr.Jump (length x)) x) is_skip))

    pub go_round : (top : ℕ) → e ≡ patched at line (instr.Unless (length d + 1)) (d ++ on_line line (instr.Jump top) ∷ [])
        → e ≡ a ++ on_line line instr.Tick ∷ (test (length a + 1) ++ round_code line top past (body (past + 1)))
    go_round top h =
        behind (λ n. round_code line top n (body (n + 1))) e
        (over_more line instr.Unless k (on_line line (instr.Jump top)) body b c d e opened has_body
        (h ∙ ap (λ n. patched n line (instr.Unless (length d + 1)) (d ++ on_line line (instr.Jump top) ∷ [])) is_at))
