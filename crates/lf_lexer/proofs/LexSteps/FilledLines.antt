-- A line that isn't blank, from its levels and its tokens.
use Rattle.std.proofs.Common.{◌≡◌, ◌∙◌, ℕ, false, List, [], ◌∷◌, ◌++◌, map, drop, refl, sym, ap, subst}
use Rattle.lf_base.specs.declared.refusals.ReadFail.{ReadFail}
use Rattle.lf_base.specs.declared.refusals.ReadFail.TheVariants as fail
use Rattle.lf_lexer.specs.declared.tokens.Lexeme.TheVariants as lexeme
use Rattle.lf_lexer.specs.declared.lexed.Lexed.{Lexed}
use Rattle.lf_lexer.specs.declared.line_start.LineStart.{LineStart}
use Rattle.lf_lexer.specs.Places.{token_at}
use Rattle.lf_lexer.specs.Lexed.{with_token}
use Rattle.lf_lexer.specs.Pieces.{line_end, Piece}
use Rattle.lf_lexer.specs.SourceLines.{indentation, is_blank}
use Rattle.lf_lexer.specs.Reading.{empty_piece, end_of}
use Rattle.lf_lexer.specs.Refusals.{refusal_at, LineRefused}
use Rattle.lf_lexer.specs.Refusals as r
use Rattle.lf_lexer.specs.Lexing.{AddsPieces, LexesPieces, RefusesPieces, LexesIndent, RefusesIndent, FilledLine, RefusesLine}
use Rattle.lf_lexer.proofs.LexSteps.Adding.{adds_on, adds_empty}
use Rattle.lf_lexer.proofs.LineBytes.Spaces.{spaces_spelled, spaces_refused}

pub line_filled : (line : LineStart) (bytes levels after : List ℕ) (old indented lexed new : Lexed) (end : ℕ) → is_blank bytes ≡ false
    → LexesIndent line (indentation bytes) levels after old indented → LexesPieces line (indentation bytes) (drop (indentation bytes) bytes) indented lexed end
    → new ≡ with_token lexed (token_at line end lexeme.NewLine 0) → FilledLine line bytes levels after old new
line_filled line bytes levels after old indented lexed new end filled indent tokens is =
    let ends : Piece = empty_piece line (end_of 0 tokens.pieces) line_end in
    let last : AddsPieces lexed new (ends ∷ []) =
    adds_empty lexed new line (end_of 0 tokens.pieces) line_end lexeme.NewLine refl (λ after. refl)
    (is ∙ ap (λ (n : ℕ). with_token lexed (token_at line n lexeme.NewLine 0)) tokens.end_is) in
    record {
      pieces = map (empty_piece line (indentation bytes)) indent.forms ++ (tokens.pieces ++ ends ∷ []);
      spells = record { filled = filled; forms = indent.forms; indents = indent.indents; tokens = tokens.pieces; spells = spaces_spelled line bytes tokens.pieces tokens.spells; pieces_are = refl };
      descend = indent.descend;
      adds =
          adds_on old indented new (map (empty_piece line (indentation bytes)) indent.forms) (tokens.pieces ++ ends ∷ []) indent.adds
          (adds_on indented lexed new tokens.pieces (ends ∷ []) tokens.adds last);
    }

pub refused_at_indent : (line : LineStart) (bytes levels : List ℕ) (f : ReadFail) → is_blank bytes ≡ false → RefusesIndent line (indentation bytes) levels f → RefusesLine line levels bytes f
refused_at_indent line bytes levels (fail.Refused refusal) filled refused = subst (LineRefused line levels bytes) (sym refused.is) (r.indented filled refused.refused)
refused_at_indent line bytes levels fail.OutOfMemory filled refused = tt

pub refused_in_rest : (line : LineStart) (bytes levels after : List ℕ) (old new : Lexed) (f : ReadFail) → is_blank bytes ≡ false
    → LexesIndent line (indentation bytes) levels after old new → RefusesPieces line (indentation bytes) (drop (indentation bytes) bytes) f → RefusesLine line levels bytes f
refused_in_rest line bytes levels after old new (fail.Refused refusal) filled indent refused =
    subst (LineRefused line levels bytes) (sym refused.is) (r.on_line filled indent.indents (spaces_refused bytes refused.kind refused.place refused.refused))
refused_in_rest line bytes levels after old new fail.OutOfMemory filled indent refused = tt
