-- The end of a text, one step after another.
use Rattle.std.proofs.Common.{◌≡◌, ◌∙◌, ◌≤◌, ℕ, ◌+◌, ◌-◌, ◌||◌, Bool, true, false, List, [], ◌∷◌, ◌++◌, length, take, drop, get_or, refl, sym, ap, subst, arith}
use Rattle.std.specs.Prelude.{◌==◌, if◌then◌else◌}
use Rattle.std.proofs.Math.Seq.{take-add}
use Rattle.std.proofs.lemmas.Bool.Decides.{Decides-eqb}
use Rattle.std.proofs.lemmas.List.{drop-drop, get_or-take}
use Rattle.lf_lexer.specs.declared.texts.TextEnd.{TextEnd}
use Rattle.lf_lexer.specs.declared.texts.TextEnd.TheVariants.{Closed, Open, Bad}
use Rattle.lf_lexer.specs.declared.texts.TextStep.{TextStep}
use Rattle.lf_lexer.specs.declared.texts.TextStep.TheVariants as step
use Rattle.lf_lexer.specs.Bytes.{is_text_byte}
use Rattle.lf_lexer.specs.Front.{pair_step, text_step, text_end}
use Rattle.lf_lexer.specs.LineRest.{line_rest}
use Rattle.lf_lexer.specs.Meaning.{meaning}
use Rattle.lf_lexer.specs.Pieces.{TextBytes}
use Rattle.lf_lexer.specs.Pieces as p
use Rattle.lf_lexer.proofs.LineBytes.LineRests.{rest_take}
use Rattle.lf_lexer.proofs.NextPiece.TextBytes.{text_bytes_on, meaning_is}

abbrev pub after_step : ℕ → List ℕ → TextStep → TextEnd
after_step at bytes step.Closes = Closed at
after_step at bytes step.Open = Open
after_step at bytes (step.Bad offset) = Bad (at + offset)
after_step at bytes (step.Goes len) = text_end (at + len) (drop len bytes)

here : (at : ℕ) → at ≡ at + 0
here at = omega arith

pub text_end_steps : (at : ℕ) (bytes : List ℕ) → text_end at bytes ≡ after_step at bytes (text_step bytes)
unfolding text_end text_step
text_end_steps at [] = refl
text_end_steps at (byte ∷ []) = by_quote (byte == 34) (byte == 92) (is_text_byte byte)
  where
    by_quote : (q s t : Bool) → (if q then Closed at else if s then Open else if t then Open else Bad at)
        ≡ after_step at (byte ∷ []) (if q then step.Closes else if s then step.Open else if t then step.Goes 1 else step.Bad 0)
    by_quote true s t = refl
    by_quote false true t = refl
    by_quote false false true = refl
    by_quote false false false = ap Bad (here at)
text_end_steps at (byte ∷ next ∷ rest) = by_quote (byte == 34) (byte == 92) ((next == 34) || (next == 92)) (is_text_byte byte)
  where
    by_quote : (q s p t : Bool) → (if q then Closed at else if s then (if p then text_end (at + 2) rest else Bad (at + 1)) else if t then text_end (at + 1) (next ∷ rest) else Bad at)
        ≡ after_step at (byte ∷ next ∷ rest) (if q then step.Closes else if s then (if p then step.Goes 2 else step.Bad 1) else if t then step.Goes 1 else step.Bad 0)
    by_quote true s p t = refl
    by_quote false true true t = refl
    by_quote false true false t = refl
    by_quote false false p true = refl
    by_quote false false p false = ap Bad (here at)

pub step_ends : (at : ℕ) (bytes : List ℕ) (s : TextStep) (all : TextEnd) → s ≡ text_step bytes → text_end at bytes ≡ all → after_step at bytes s ≡ all
step_ends at bytes s all is same = ap (after_step at bytes) is ∙ sym (text_end_steps at bytes) ∙ same

-- a step takes no more than there is
pub step_within : (bytes : List ℕ) (len : ℕ) → step.Goes len ≡ text_step bytes → len ≤ length bytes
unfolding text_step
step_within [] len e = cc
step_within (byte ∷ []) len e = by_byte (byte == 34) (byte == 92) (is_text_byte byte) e
  where
    by_byte : (q s t : Bool) → step.Goes len ≡ (if q then step.Closes else if s then step.Open else if t then step.Goes 1 else step.Bad 0) → len ≤ 1
    by_byte true s t e = cc
    by_byte false true t e = cc
    by_byte false false true e = let one : len ≡ 1 = cc in omega arith
    by_byte false false false e = cc
step_within (byte ∷ next ∷ rest) len e = by_byte (byte == 34) (byte == 92) ((next == 34) || (next == 92)) (is_text_byte byte) e
  where
    by_byte : (q s p t : Bool) → step.Goes len ≡ (if q then step.Closes else if s then (if p then step.Goes 2 else step.Bad 1) else if t then step.Goes 1 else step.Bad 0) → len ≤ length (byte ∷ next ∷ rest)
    by_byte true s p t e = cc
    by_byte false true true t e = let two : len ≡ 2 = cc in omega arith
    by_byte false true false t e = cc
    by_byte false false p true e = let one : len ≡ 1 = cc in omega arith
    by_byte false false p false e = cc

-- a part of a text stands for its last byte
pub step_means : (bytes : List ℕ) (len : ℕ) → step.Goes len ≡ text_step bytes → TextBytes (take len bytes) (get_or bytes (len - 1) 0 ∷ [])
unfolding text_step
step_means [] len e = cc
step_means (byte ∷ rest) len e = by_quote (byte == 34) (byte == 92) (is_text_byte byte) refl refl e
  where
    Means : ℕ → Type 0
    Means len = TextBytes (take len (byte ∷ rest)) (get_or (byte ∷ rest) (len - 1) 0 ∷ [])

    itself : is_text_byte byte ≡ true → step.Goes len ≡ step.Goes 1 → Means len
    itself t e = subst Means (let one : 1 ≡ len = cc in one) (p.byte_itself t p.no_byte)

    pair : (rest : List ℕ) → (byte == 92) ≡ true → step.Goes len ≡ pair_step rest → TextBytes (take len (byte ∷ rest)) (get_or (byte ∷ rest) (len - 1) 0 ∷ [])
    pair [] s e = cc
    pair (next ∷ rest) s e = by_next (next == 34) (next == 92) refl refl e
      where
        two : TextBytes (byte ∷ next ∷ []) (next ∷ []) → step.Goes len ≡ step.Goes 2 → TextBytes (take len (byte ∷ next ∷ rest)) (get_or (byte ∷ next ∷ rest) (len - 1) 0 ∷ [])
        two good e = subst (λ (n : ℕ). TextBytes (take n (byte ∷ next ∷ rest)) (get_or (byte ∷ next ∷ rest) (n - 1) 0 ∷ [])) (let two : 2 ≡ len = cc in two) good

        by_next : (q s' : Bool) → (next == 34) ≡ q → (next == 92) ≡ s' → step.Goes len ≡ (if q || s' then step.Goes 2 else step.Bad 1)
            → TextBytes (take len (byte ∷ next ∷ rest)) (get_or (byte ∷ next ∷ rest) (len - 1) 0 ∷ [])
        by_next true s' q_is s_is e = two (rw ((Decides-eqb byte 92).0 s, (Decides-eqb next 34).0 q_is) (p.quote_pair p.no_byte)) e
        by_next false true q_is s_is e = two (rw ((Decides-eqb byte 92).0 s, (Decides-eqb next 92).0 s_is) (p.slash_pair p.no_byte)) e
        by_next false false q_is s_is e = cc

    by_quote : (q s t : Bool) → (byte == 92) ≡ s → is_text_byte byte ≡ t
        → step.Goes len ≡ (if q then step.Closes else if s then pair_step rest else if t then step.Goes 1 else step.Bad 0) → Means len
    by_quote true s t s_is t_is e = cc
    by_quote false true t s_is t_is e = pair rest s_is e
    by_quote false false true s_is t_is e = itself t_is e
    by_quote false false false s_is t_is e = cc

-- the part of a text that stands on its line, in all that is left of the script
means_here : (rest : List ℕ) (len : ℕ) → step.Goes len ≡ text_step (line_rest rest) → 1 ≤ len → TextBytes (take len rest) (get_or rest (len - 1) 0 ∷ [])
means_here rest len e some =
    let within = step_within (line_rest rest) len e in
    let front = rest_take len rest within in
    let last : get_or (line_rest rest) (len - 1) 0 ≡ get_or rest (len - 1) 0 =
    sym (get_or-take len (line_rest rest) (len - 1) 0 (omega arith)) ∙ ap (λ (bytes : List ℕ). get_or bytes (len - 1) 0) front ∙ get_or-take len rest (len - 1) 0 (omega arith) in
    subst (λ (byte : ℕ). TextBytes (take len rest) (byte ∷ [])) last
    (subst (λ (bytes : List ℕ). TextBytes bytes (get_or (line_rest rest) (len - 1) 0 ∷ [])) front (step_means (line_rest rest) len e))

-- what a text means so far, of which so many bytes stand before this rest
pub record TextSoFar (bytes : List ℕ) (at : ℕ) (rest text : List ℕ) : Type 0 where
  pub left : rest ≡ drop at bytes
  pub good : TextBytes (take at bytes) text

pub text_starts : (bytes text : List ℕ) → text ≡ [] → TextSoFar bytes 0 bytes text
text_starts bytes text empty = record { left = refl; good = subst (TextBytes []) (sym empty) p.no_byte }

pub text_goes : (bytes : List ℕ) (at : ℕ) (rest text later newer : List ℕ) (len : ℕ) → step.Goes len ≡ text_step (line_rest rest) → 1 ≤ len → later ≡ drop len rest
    → newer ≡ text ++ get_or rest (len - 1) 0 ∷ [] → TextSoFar bytes at rest text → TextSoFar bytes (at + len) later newer
text_goes bytes at rest text later newer len e some after_is newer_is s = record {
  left = after_is ∙ ap (drop len) s.left ∙ drop-drop len at bytes;
  good =
      let here = means_here rest len e some in
      let front : take (at + len) bytes ≡ take at bytes ++ take len rest = take-add at len bytes ∙ ap (λ (left : List ℕ). take at bytes ++ take len left) (sym s.left) in
      rw (front, newer_is) (text_bytes_on (take at bytes) text (take len rest) (get_or rest (len - 1) 0 ∷ []) s.good here);
}

pub text_meant : (bytes : List ℕ) (at : ℕ) (rest text : List ℕ) → TextSoFar bytes at rest text → text ≡ meaning (take at bytes)
text_meant bytes at rest text s = sym (meaning_is (take at bytes) text s.good)
