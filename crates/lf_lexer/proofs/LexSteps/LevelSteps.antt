-- The levels of indentation, one after another.
use Rattle.std.proofs.Common.{◌≡◌, ◌∙◌, ℕ, ◌+◌, ◌<◌, ◌≤◌, ◌||◌, Bool, true, false, List, [], ◌∷◌, ◌++◌, length, map, drop, refl, sym, ap, subst, arith, append-nil, append_assoc}
use Rattle.std.specs.Prelude.{◌==◌}
use Rattle.std.proofs.lemmas.Bool.Decides.{nat_tests}
use Rattle.std.proofs.lemmas.List.{map-append}
use Rattle.lf_base.specs.declared.limits.TheConstants.{MOST_INDENT_LEVELS}
use Rattle.lf_base.specs.declared.refusals.RefusalKind.TheVariants.{BadIndent, TooDeepIndent}
use Rattle.lf_base.specs.declared.refusals.Refusal.{Refusal}
use Rattle.lf_lexer.specs.declared.tokens.Lexeme.TheVariants as lexeme
use Rattle.lf_lexer.specs.declared.lexed.Lexed.{Lexed}
use Rattle.lf_lexer.specs.declared.line_start.LineStart.{LineStart}
use Rattle.lf_lexer.specs.Places.{token_at}
use Rattle.lf_lexer.specs.Lexed.{with_token}
use Rattle.lf_lexer.specs.Pieces.{PieceForm, level_opens, level_closes, Piece}
use Rattle.lf_lexer.specs.Levels.{innermost, is_level, Closes, Indents, IndentRefused}
use Rattle.lf_lexer.specs.Levels as levels_spec
use Rattle.lf_lexer.specs.Reading.{empty_piece, closing}
use Rattle.lf_lexer.specs.Refusals.{refusal_at}
use Rattle.lf_lexer.specs.Lexing.{AddsPieces, Descend, ClosesDown, LexesIndent, RefusedIndent}
use Rattle.lf_lexer.proofs.LexSteps.Adding.{adds_on, adds_empty}

-- the levels that closed so far
pub record ClosedSoFar (line : LineStart) (indent : ℕ) (levels now : List ℕ) (old new : Lexed) : Type 0 where
  pub forms : List PieceForm
  pub descend : Descend now
  pub on : (left : List ℕ) (others : List PieceForm) → Closes indent now left others → Closes indent levels left (forms ++ others)
  pub no_level : is_level indent now ≡ false → is_level indent levels ≡ false
  pub adds : AddsPieces old new (map (empty_piece line indent) forms)

pub closed_more : (line : LineStart) (indent : ℕ) (levels now : List ℕ) (old new newer : Lexed) → indent < innermost now
    → newer ≡ with_token new (token_at line indent lexeme.Dedent 0) → ClosedSoFar line indent levels now old new → ClosedSoFar line indent levels (drop 1 now) old newer
closed_more line indent levels [] old new newer lt is s = absurd (omega arith)
closed_more line indent levels (level ∷ now) old new newer lt is s = record {
  forms = s.forms ++ level_closes ∷ [];
  descend = s.descend.1;
  on = λ left others closes.
      subst (Closes indent levels left) (sym (append_assoc s.forms (level_closes ∷ []) others)) (s.on left (level_closes ∷ others) (levels_spec.closed lt closes));
  no_level = λ none.
      let other : (indent == level) ≡ false = grind (arith, nat_tests) in
      s.no_level (ap (λ (b : Bool). b || is_level indent now) other ∙ none);
  adds =
      subst (AddsPieces old newer) (sym (map-append (empty_piece line indent) s.forms (level_closes ∷ [])))
      (adds_on old new newer (map (empty_piece line indent) s.forms) (empty_piece line indent level_closes ∷ []) s.adds
      (adds_empty new newer line indent level_closes lexeme.Dedent refl (λ after. refl) is));
}

-- the indentation is a level
pub indent_met : (line : LineStart) (indent : ℕ) (levels now : List ℕ) (old new : Lexed) → ClosesDown line indent levels now old new → innermost now ≡ indent
    → LexesIndent line indent levels now old new
indent_met line indent levels now old new s met = record {
  forms = s.forms;
  indents = levels_spec.back (subst (Closes indent levels now) (append-nil s.forms) (s.on now [] (levels_spec.met met)));
  descend = s.descend;
  adds = s.adds;
}

-- it is none
pub none_below : (indent : ℕ) (levels : List ℕ) → Descend levels → innermost levels < indent → is_level indent levels ≡ false
none_below indent [] descend lt = grind (arith, nat_tests)
none_below indent (level ∷ levels) descend lt =
    let other : (indent == level) ≡ false = grind (arith, nat_tests) in
    ap (λ (b : Bool). b || is_level indent levels) other ∙ none_below indent levels descend.1 (let d = descend.0 in omega arith)

pub is_innermost : (indent : ℕ) (levels : List ℕ) → is_level indent levels ≡ false → ¬ (innermost levels ≡ indent)
is_innermost indent [] none is = let e : (indent == 0) ≡ true = grind (arith, nat_tests) in cc
is_innermost indent (level ∷ levels) none is = by_test (indent == level) (grind (arith, nat_tests)) none
  where
    by_test : (b : Bool) → b ≡ true → (b || is_level indent levels) ≡ false → ⊥
    by_test true e n = cc
    by_test false e n = cc

pub indent_missed : (line : LineStart) (indent : ℕ) (levels now : List ℕ) (old new : Lexed) (refusal : Refusal) → ClosesDown line indent levels now old new
    → ¬ (innermost levels < indent) → ¬ (innermost now ≡ indent) → refusal ≡ refusal_at line BadIndent indent → RefusedIndent line indent levels refusal
indent_missed line indent levels now old new refusal s no_deeper missed is =
    let low = s.low in
    let none = s.no_level (none_below indent now s.descend (omega arith)) in
    let other = is_innermost indent levels none in
    record { kind = BadIndent; refused = levels_spec.no_level (omega arith) none; is = is }

-- a level opens
pub level_opened : (line : LineStart) (indent : ℕ) (levels after : List ℕ) (old new : Lexed) → Descend levels → innermost levels < indent → length levels < MOST_INDENT_LEVELS
    → after ≡ indent ∷ levels → new ≡ with_token old (token_at line indent lexeme.Indent 0) → LexesIndent line indent levels after old new
level_opened line indent levels after old new descend deeper room after_is is =
    subst (λ (a : List ℕ). LexesIndent line indent levels a old new) (sym after_is) (record {
      forms = level_opens ∷ [];
      indents = levels_spec.deeper deeper room;
      descend = (deeper, descend);
      adds = adds_empty old new line indent level_opens lexeme.Indent refl (λ after. refl) is;
    })

pub too_many_levels : (line : LineStart) (indent : ℕ) (levels : List ℕ) (refusal : Refusal) → innermost levels < indent → MOST_INDENT_LEVELS ≤ length levels
    → refusal ≡ refusal_at line TooDeepIndent indent → RefusedIndent line indent levels refusal
too_many_levels line indent levels refusal deeper many is = record { kind = TooDeepIndent; refused = levels_spec.too_deep deeper many; is = is }

-- all levels close at the end of a script
pub record ClosingSoFar (size last : ℕ) (levels now : List ℕ) (old new : Lexed) : Type 0 where
  pub pieces : List Piece
  pub split : closing size last levels ≡ pieces ++ closing size last now
  pub adds : AddsPieces old new pieces

pub closing_more : (size last : ℕ) (line : LineStart) (levels now : List ℕ) (old new newer : Lexed) → line ≡ record { number = last + 1; start = size } → 0 < length now
    → newer ≡ with_token new (token_at line 0 lexeme.Dedent 0) → ClosingSoFar size last levels now old new → ClosingSoFar size last levels (drop 1 now) old newer
closing_more size last line levels [] old new newer line_is some is s = absurd (omega arith)
closing_more size last line levels (level ∷ now) old new newer line_is some is s =
    let piece : Piece = empty_piece (record { number = last + 1; start = size }) 0 level_closes in
    record {
      pieces = s.pieces ++ piece ∷ [];
      split = s.split ∙ sym (append_assoc s.pieces (piece ∷ []) (closing size last now));
      adds =
          adds_on old new newer s.pieces (piece ∷ []) s.adds
          (adds_empty new newer (record { number = last + 1; start = size }) 0 level_closes lexeme.Dedent refl (λ after. refl)
          (is ∙ ap (λ (l : LineStart). with_token new (token_at l 0 lexeme.Dedent 0)) line_is));
    }
