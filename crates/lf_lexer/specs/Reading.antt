-- Which tokens and texts a script spells.
use Rattle.std.specs.Prelude.{◌≡◌, ℕ, ◌+◌, ◌≤◌, true, false, List, [], ◌∷◌, ◌++◌, length, map}
use Rattle.lf_base.specs.declared.limits.TheConstants.{MOST_SCRIPT_BYTES}
use Rattle.lf_base.specs.Texts.{Text}
use Rattle.lf_lexer.specs.declared.tokens.Token.{Token}
use Rattle.lf_lexer.specs.declared.line_start.LineStart.{LineStart}
use Rattle.lf_lexer.specs.Pieces.{PieceForm, line_end, level_closes, script_end, Piece, RestSpells}
use Rattle.lf_lexer.specs.SourceLines.{full_lines, content, indentation, is_blank}
use Rattle.lf_lexer.specs.Levels.{Indents}
use Rattle.lf_lexer.specs.Tokens.{script_texts, token_of}

abbrev pub first_line : LineStart
first_line = record { number = 1; start = 0 }

-- the line after this one
abbrev pub line_after : LineStart → List ℕ → LineStart
line_after line bytes = record { number = line.number + 1; start = line.start + length bytes }

-- a piece without bytes
abbrev pub empty_piece : LineStart → ℕ → PieceForm → Piece
empty_piece line at form = record { form = form; line = line; at = at; bytes = [] }

-- where the last of these pieces ends
abbrev pub end_of : ℕ → List Piece → ℕ
end_of end [] = end
end_of end (piece ∷ pieces) = end_of (piece.at + length piece.bytes) pieces

-- the pieces of a line that isn't blank: its levels at its first token, its tokens, and its end after the last one
abbrev pub line_pieces : LineStart → ℕ → List PieceForm → List Piece → List Piece
line_pieces line indent levels pieces = map (empty_piece line indent) levels ++ (pieces ++ empty_piece line (end_of 0 pieces) line_end ∷ [])

-- the end of a script of so many bytes, on the line after the last one that has a token; all levels close before it
abbrev pub closing : ℕ → ℕ → List ℕ → List Piece
closing size last [] = empty_piece (record { number = last + 1; start = size }) 0 script_end ∷ []
closing size last (level ∷ levels) = empty_piece (record { number = last + 1; start = size }) 0 level_closes ∷ closing size last levels

-- a line that isn't blank and its pieces, where the levels before it and after it are these
pub record LineSpells (line : LineStart) (levels after : List ℕ) (bytes : List ℕ) (pieces : List Piece) : Type 0 where
  pub filled : is_blank bytes ≡ false
  pub forms : List PieceForm
  pub indents : Indents levels (indentation bytes) after forms
  pub tokens : List Piece
  pub spells : RestSpells line 0 bytes tokens
  pub pieces_are : pieces ≡ line_pieces line (indentation bytes) forms tokens

-- the lines from one on, of a script of so many bytes, and their pieces, where these levels stand and this is the number
-- of the last line that has a token
pub data LinesSpell (size : ℕ) : List ℕ → ℕ → LineStart → List (List ℕ) → List Piece → Type 0 where
  no_line : {levels : List ℕ} {last : ℕ} {line : LineStart} → LinesSpell size levels last line [] (closing size last levels)
  after_blank : {levels : List ℕ} {last : ℕ} {line : LineStart} {bytes : List ℕ} {lines : List (List ℕ)} {others : List Piece}
      → is_blank (content bytes) ≡ true → LinesSpell size levels last (line_after line bytes) lines others
      → LinesSpell size levels last line (bytes ∷ lines) others
  after_filled : {levels after : List ℕ} {last : ℕ} {line : LineStart} {bytes : List ℕ} {lines : List (List ℕ)}
      {pieces others : List Piece}
      → LineSpells line levels after (content bytes) pieces → LinesSpell size after line.number (line_after line bytes) lines others
      → LinesSpell size levels last line (bytes ∷ lines) (pieces ++ others)

-- these bytes spell these tokens and texts
pub record Spells (bytes : List ℕ) (tokens : List Token) (texts : List Text) : Type 0 where
  pub pieces : List Piece
  pub spelled : LinesSpell (length bytes) [] 0 first_line (full_lines bytes) pieces
  pub texts_are : texts ≡ script_texts pieces
  pub tokens_are : tokens ≡ map (token_of texts) pieces

-- some script that isn't too long spells these tokens and texts
pub record AreSpelled (tokens : List Token) (texts : List Text) : Type 0 where
  pub bytes : List ℕ
  pub short : length bytes ≤ MOST_SCRIPT_BYTES
  pub spelled : Spells bytes tokens texts
