-- The spaces at the front of a line.
use Rattle.std.proofs.Common.{◌≡◌, ◌∙◌, ◌≤◌, ℕ, ◌+◌, ◌||◌, Bool, true, false, cond, List, [], ◌∷◌, length, length-drop, drop, refl, sym, ap, subst, arith, one-add}
use Rattle.std.specs.Prelude.{◌==◌, if◌then◌else◌}
use Rattle.std.proofs.lemmas.Bool.Decides.{Decides-eqb}
use Rattle.std.proofs.lemmas.List.Sums.{prefix_len-le-length}
use Rattle.lf_base.specs.declared.refusals.RefusalKind.{RefusalKind}
use Rattle.lf_lexer.specs.declared.line_start.LineStart.{LineStart}
use Rattle.lf_lexer.specs.Pieces.{Piece, RestSpells}
use Rattle.lf_lexer.specs.Pieces as p
use Rattle.lf_lexer.specs.SourceLines.{indentation, is_blank}
use Rattle.lf_lexer.specs.Refusals.{RestRefused}
use Rattle.lf_lexer.specs.Refusals as r
use Rattle.lf_lexer.specs.LineRest.{ends_line, line_rest, ends_tokens}
use Rattle.lf_lexer.proofs.LineBytes.LineRests.{stops_there, rest_prefix, rest_drop}

-- what is spelled, or refused, after the spaces is so before them
spelled_from : (line : LineStart) (at : ℕ) (bytes : List ℕ) (pieces : List Piece) → RestSpells line (indentation bytes + at) (drop (indentation bytes) bytes) pieces
    → RestSpells line at bytes pieces
spelled_from line at [] pieces spells = subst (λ (n : ℕ). RestSpells line n [] pieces) (let e : 0 + at ≡ at = omega arith in e) spells
spelled_from line at (byte ∷ bytes) pieces spells = by_test (byte == 32) refl (spelled_from line (at + 1) bytes pieces) spells
  where
    by_test : (b : Bool) → (byte == 32) ≡ b → (RestSpells line (indentation bytes + (at + 1)) (drop (indentation bytes) bytes) pieces → RestSpells line (at + 1) bytes pieces)
        → RestSpells line (cond b (1 + indentation bytes) 0 + at) (drop (cond b (1 + indentation bytes) 0) (byte ∷ bytes)) pieces → RestSpells line at (byte ∷ bytes) pieces
    by_test true e h spells =
        subst (λ (first : ℕ). RestSpells line at (first ∷ bytes) pieces) (sym ((Decides-eqb byte 32).0 e))
        (p.space (h (subst (λ (k : ℕ). RestSpells line k (drop (indentation bytes) bytes) pieces) (let e : 1 + indentation bytes + at ≡ indentation bytes + (at + 1) = omega arith in e)
        (subst (λ (k : ℕ). RestSpells line (1 + indentation bytes + at) (drop k (byte ∷ bytes)) pieces) (one-add (indentation bytes)) spells))))
    by_test false e h spells = subst (λ (k : ℕ). RestSpells line k (byte ∷ bytes) pieces) (let e : 0 + at ≡ at = omega arith in e) spells

refused_from : (at : ℕ) (bytes : List ℕ) (kind : RefusalKind) (place : ℕ) → RestRefused (indentation bytes + at) (drop (indentation bytes) bytes) kind place
    → RestRefused at bytes kind place
refused_from at [] kind place refused = subst (λ (n : ℕ). RestRefused n [] kind place) (let e : 0 + at ≡ at = omega arith in e) refused
refused_from at (byte ∷ bytes) kind place refused = by_test (byte == 32) refl (refused_from (at + 1) bytes kind place) refused
  where
    by_test : (b : Bool) → (byte == 32) ≡ b → (RestRefused (indentation bytes + (at + 1)) (drop (indentation bytes) bytes) kind place → RestRefused (at + 1) bytes kind place)
        → RestRefused (cond b (1 + indentation bytes) 0 + at) (drop (cond b (1 + indentation bytes) 0) (byte ∷ bytes)) kind place → RestRefused at (byte ∷ bytes) kind place
    by_test true e h refused =
        subst (λ (first : ℕ). RestRefused at (first ∷ bytes) kind place) (sym ((Decides-eqb byte 32).0 e))
        (r.after_space (h (subst (λ (k : ℕ). RestRefused k (drop (indentation bytes) bytes) kind place) (let e : 1 + indentation bytes + at ≡ indentation bytes + (at + 1) = omega arith in e)
        (subst (λ (k : ℕ). RestRefused (1 + indentation bytes + at) (drop k (byte ∷ bytes)) kind place) (one-add (indentation bytes)) refused))))
    by_test false e h refused = subst (λ (k : ℕ). RestRefused k (byte ∷ bytes) kind place) (let e : 0 + at ≡ at = omega arith in e) refused

pub spaces_spelled : (line : LineStart) (bytes : List ℕ) (pieces : List Piece) → RestSpells line (indentation bytes) (drop (indentation bytes) bytes) pieces → RestSpells line 0 bytes pieces
spaces_spelled line bytes pieces spells =
    spelled_from line 0 bytes pieces (subst (λ (n : ℕ). RestSpells line n (drop (indentation bytes) bytes) pieces) (let e : indentation bytes ≡ indentation bytes + 0 = omega arith in e) spells)

pub spaces_refused : (bytes : List ℕ) (kind : RefusalKind) (place : ℕ) → RestRefused (indentation bytes) (drop (indentation bytes) bytes) kind place → RestRefused 0 bytes kind place
spaces_refused bytes kind place refused =
    refused_from 0 bytes kind place (subst (λ (n : ℕ). RestRefused n (drop (indentation bytes) bytes) kind place) (let e : indentation bytes ≡ indentation bytes + 0 = omega arith in e) refused)

-- a line is blank where nothing but a comment is left after its spaces
blank_after : (bytes : List ℕ) → is_blank (line_rest bytes) ≡ ends_tokens (drop (indentation bytes) bytes)
blank_after [] = refl
blank_after (byte ∷ bytes) = by_end (ends_line (byte ∷ bytes)) refl (blank_after bytes)
  where
    by_space : (s : Bool) → ends_line (byte ∷ bytes) ≡ false → is_blank (line_rest bytes) ≡ ends_tokens (drop (indentation bytes) bytes)
        → (if s then is_blank (line_rest bytes) else byte == 35) ≡ ends_tokens (drop (cond s (1 + indentation bytes) 0) (byte ∷ bytes))
    by_space true e h = rw (one-add (indentation bytes)) h
    by_space false e h = ap (λ (b : Bool). b || (byte == 35)) (sym e)

    by_end : (b : Bool) → ends_line (byte ∷ bytes) ≡ b → is_blank (line_rest bytes) ≡ ends_tokens (drop (indentation bytes) bytes)
        → is_blank (if b then [] else byte ∷ line_rest bytes) ≡ ends_tokens (drop (cond (byte == 32) (1 + indentation bytes) 0) (byte ∷ bytes))
    by_end true e h = rw (stops_there (λ byte. byte == 32) refl refl byte bytes e) (ap (λ (b : Bool). b || (byte == 35)) (sym e))
    by_end false e h = by_space (byte == 32) e h

-- a line's indentation, and what is left of the script after it
pub record Indented (bytes : List ℕ) (indent : ℕ) (after : List ℕ) : Type 0 where
  pub indent_is : indent ≡ indentation (line_rest bytes)
  pub within : indent ≤ length (line_rest bytes)
  pub whole : indent + length (line_rest after) ≡ length (line_rest bytes)
  pub after_is : line_rest after ≡ drop (indentation (line_rest bytes)) (line_rest bytes)
  pub blank_is : is_blank (line_rest bytes) ≡ ends_tokens after

pub indented : (bytes : List ℕ) (indent : ℕ) (after : List ℕ) → indent ≡ indentation bytes → after ≡ drop indent bytes → Indented bytes indent after
indented bytes indent after indent_is after_is =
    let same : indentation (line_rest bytes) ≡ indentation bytes = rest_prefix (λ byte. byte == 32) refl refl bytes in
    let within : indent ≤ length (line_rest bytes) = let le = prefix_len-le-length (λ byte. byte == 32) (line_rest bytes) in omega arith in
    let left : line_rest after ≡ drop indent (line_rest bytes) = ap line_rest after_is ∙ rest_drop indent bytes within in
    record {
      indent_is = indent_is ∙ sym same;
      within = within;
      whole = let long = ap length left ∙ length-drop indent (line_rest bytes) in omega arith;
      after_is = left ∙ ap (λ (n : ℕ). drop n (line_rest bytes)) (indent_is ∙ sym same);
      blank_is = blank_after bytes ∙ ap (λ (n : ℕ). ends_tokens (drop n bytes)) (sym indent_is) ∙ ap ends_tokens (sym after_is);
    }
