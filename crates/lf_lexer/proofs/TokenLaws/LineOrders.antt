-- The lines of each script's tokens.
use Rattle.std.proofs.Common.{◌≡◌, ◌∙◌, ℕ, suc, ◌+◌, ◌≤◌, true, List, [], ◌∷◌, ◌++◌, length, map, refl, sym, ap, subst, arith}
use Rattle.lf_base.specs.Texts.{Text}
use Rattle.lf_lexer.specs.declared.tokens.Lexeme.{Lexeme}
use Rattle.lf_lexer.specs.declared.tokens.Lexeme.TheVariants as lexeme
use Rattle.lf_lexer.specs.declared.tokens.Token.{Token}
use Rattle.lf_lexer.specs.declared.line_start.LineStart.{LineStart}
use Rattle.lf_lexer.specs.Pieces.{PieceForm, line_end, Piece, RestSpells}
use Rattle.lf_lexer.specs.Pieces as p
use Rattle.lf_lexer.specs.SourceLines.{full_lines, content, indentation}
use Rattle.lf_lexer.specs.Levels.{Closes, Indents}
use Rattle.lf_lexer.specs.Levels as v
use Rattle.lf_lexer.specs.Tokens.{lexeme_of, token_of}
use Rattle.lf_lexer.specs.Reading.{empty_piece, end_of, line_after, closing, LineSpells, LinesSpell, Spells, first_line}
use Rattle.lf_lexer.specs.Reading as spell
use Rattle.lf_lexer.specs.Layout.{has_bytes}
use Rattle.lf_lexer.specs.LineOrder.{least_line, OnLines}
use Rattle.lf_lexer.proofs.TokenLaws.Layouts.{longest_bytes, line_tokens}

-- a lexeme with bytes ends no line
stays : (l : Lexeme) (line : ℕ) → has_bytes l ≡ true → least_line l line ≡ line
stays lexeme.NewLine line e = absurd (cc)
stays _ line e = refl

module _ (texts : List Text) where
  -- the tokens of a line
  rest_on : (line : LineStart) (at : ℕ) (bytes : List ℕ) (pieces : List Piece) → RestSpells line at bytes pieces → (n : ℕ) → n ≤ line.number
      → (others : List Token) → ((m : ℕ) → m ≤ line.number → OnLines m others) → OnLines n (map (token_of texts) pieces ++ others)
  rest_on line at _ _ p.ended n le others later = later n le
  rest_on line at _ _ p.comment n le others later = later n le
  rest_on line at _ pieces (p.space {rest = rest} spells) n le others later = rest_on line (at + 1) rest pieces spells n le others later
  rest_on line at _ _ (p.next {word = word} {rest = rest} {form = form} {pieces = pieces} longest spells) n le others later = (
    le,
    subst (λ m. OnLines m (map (token_of texts) pieces ++ others)) (sym (stays (lexeme_of texts form word) line.number (longest_bytes texts word rest form word longest)))
        (rest_on line (at + length word) rest pieces spells line.number (omega arith) others later),
  )

  -- its levels
  closes_on : (line : LineStart) (indent : ℕ) (levels after : List ℕ) (forms : List PieceForm) → Closes indent levels after forms → (n : ℕ) → n ≤ line.number
      → (others : List Token) → ((m : ℕ) → m ≤ line.number → OnLines m others) → OnLines n (map (token_of texts) (map (empty_piece line indent) forms) ++ others)
  closes_on line indent levels _ _ (v.met met) n le others later = later n le
  closes_on line indent _ after _ (v.closed {levels = levels} {forms = forms} lt rest) n le others later =
      (le, closes_on line indent levels after forms rest line.number (omega arith) others later)

  indent_on : (line : LineStart) (levels : List ℕ) (indent : ℕ) (after : List ℕ) (forms : List PieceForm) → Indents levels indent after forms → (n : ℕ) → n ≤ line.number
      → (others : List Token) → ((m : ℕ) → m ≤ line.number → OnLines m others) → OnLines n (map (token_of texts) (map (empty_piece line indent) forms) ++ others)
  indent_on line levels indent _ _ (v.deeper deep room) n le others later = (le, later line.number (omega arith))
  indent_on line levels indent after forms (v.back closing) n le others later = closes_on line indent levels after forms closing n le others later

  -- the end of the script
  closing_on : (size last : ℕ) (levels : List ℕ) (n : ℕ) → n ≤ last + 1 → OnLines n (map (token_of texts) (closing size last levels))
  closing_on size last [] n le = (le, tt)
  closing_on size last (level ∷ levels) n le = (le, closing_on size last levels (last + 1) (omega arith))

  -- a line that isn't blank
  line_on : (line : LineStart) (levels after : List ℕ) (bytes : List ℕ) (pieces others : List Piece) (s : LineSpells line levels after bytes pieces) (n : ℕ) → n ≤ line.number
      → OnLines (suc line.number) (map (token_of texts) others) → OnLines n (map (token_of texts) (pieces ++ others))
  line_on line levels after bytes pieces others s n le later =
      let indent = indentation bytes in
      subst (OnLines n) (sym (ap (λ (ps : List Piece). map (token_of texts) (ps ++ others)) s.pieces_are ∙ line_tokens texts line indent s.forms s.tokens others))
      (indent_on line levels indent after s.forms s.indents n le _
      (λ m ml. rest_on line 0 bytes s.tokens s.spells m ml (token_of texts (empty_piece line (end_of 0 s.tokens) line_end) ∷ map (token_of texts) others) (λ k kl. (kl, later))))

  lines_on : (size : ℕ) (levels : List ℕ) (last : ℕ) (line : LineStart) (lines : List (List ℕ)) (pieces : List Piece) → LinesSpell size levels last line lines pieces
      → (n : ℕ) → n ≤ line.number → n ≤ last + 1 → OnLines n (map (token_of texts) pieces)
  lines_on size levels last line _ _ spell.no_line n le end = closing_on size last levels n end
  lines_on size levels last line _ pieces (spell.after_blank {bytes = bytes} {lines = lines} blank rest) n le end =
      lines_on size levels last (line_after line bytes) lines pieces rest n (omega arith) end
  lines_on size levels last line _ _ (spell.after_filled {after = after} {bytes = bytes} {lines = lines} {pieces = pieces} {others = others} s rest) n le end =
      line_on line levels after (content bytes) pieces others s n le
      (lines_on size after line.number (line_after line bytes) lines others rest (suc line.number) (omega arith) (omega arith))

pub tokens_on_lines : (bytes : List ℕ) (tokens : List Token) (texts : List Text) → Spells bytes tokens texts → OnLines 1 tokens
tokens_on_lines bytes tokens texts s =
    subst (OnLines 1) (sym s.tokens_are) (lines_on texts (length bytes) [] 0 first_line (full_lines bytes) s.pieces s.spelled 1 (omega arith) (omega arith))
