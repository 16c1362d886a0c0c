-- The pieces of a script: its tokens before their texts are numbered.
use Rattle.std.specs.Prelude.{◌≡◌, ℕ, ◌+◌, ◌<◌, ◌^◌, true, List, [], ◌∷◌, ◌++◌, length, Some, None}
use Rattle.std.specs.Str.Parse.{digits_value}
use Rattle.lf_base.specs.Texts.{Text}
use Rattle.lf_lexer.specs.declared.tokens.Mark.{Mark}
use Rattle.lf_lexer.specs.declared.line_start.LineStart.{LineStart}
use Rattle.lf_lexer.specs.Bytes.{is_digit, is_letter, is_name_byte, is_text_byte, Passes, PassesNoMore}
use Rattle.lf_lexer.specs.Marks.{word_of, short_sign, long_sign}

-- what a piece is; the last four have no bytes
pub data PieceForm : Type 0 where
  name : PieceForm
  number : PieceForm
  text_of : Text → PieceForm
  mark_of : Mark → PieceForm
  line_end : PieceForm
  level_opens : PieceForm
  level_closes : PieceForm
  script_end : PieceForm

-- a piece: what it is, its line, how many bytes of that line stand before it, and its bytes
pub record Piece : Type 0 where
  pub form : PieceForm
  pub line : LineStart
  pub at : ℕ
  pub bytes : List ℕ

-- what stands between the quotes of a text, and the text that it means
pub data TextBytes : List ℕ → Text → Type 0 where
  no_byte : TextBytes [] []
  byte_itself : {byte : ℕ} {bytes : List ℕ} {text : Text} → is_text_byte byte ≡ true → TextBytes bytes text
      → TextBytes (byte ∷ bytes) (byte ∷ text)
  quote_pair : {bytes : List ℕ} {text : Text} → TextBytes bytes text → TextBytes (92 ∷ 34 ∷ bytes) (34 ∷ text)
  slash_pair : {bytes : List ℕ} {text : Text} → TextBytes bytes text → TextBytes (92 ∷ 92 ∷ bytes) (92 ∷ text)

-- no sign of two bytes begins with this byte before these
abbrev pub NoLongSign : ℕ → List ℕ → Type 0
NoLongSign byte [] = Unit {0}
NoLongSign byte (next ∷ rest) = long_sign byte next ≡ None

-- the longest token at the front, and what follows it
pub data Longest : List ℕ → List ℕ → PieceForm → Type 0 where
  a_name : {byte : ℕ} {bytes rest : List ℕ} → is_letter byte ≡ true → Passes is_name_byte bytes → PassesNoMore is_name_byte rest
      → word_of (byte ∷ bytes) ≡ None → Longest (byte ∷ bytes) rest name
  a_word : {byte : ℕ} {bytes rest : List ℕ} {mark : Mark} → is_letter byte ≡ true → Passes is_name_byte bytes
      → PassesNoMore is_name_byte rest
      → word_of (byte ∷ bytes) ≡ Some mark → Longest (byte ∷ bytes) rest (mark_of mark)
  a_number : {byte : ℕ} {bytes rest : List ℕ} → is_digit byte ≡ true → Passes is_digit bytes → PassesNoMore is_digit rest
      → digits_value 10 (byte ∷ bytes) < 2 ^ 63 → Longest (byte ∷ bytes) rest number
  a_text : {bytes rest : List ℕ} {text : Text} → TextBytes bytes text → Longest (34 ∷ (bytes ++ 34 ∷ [])) rest (text_of text)
  a_short_sign : {byte : ℕ} {rest : List ℕ} {mark : Mark} → NoLongSign byte rest → short_sign byte ≡ Some mark
      → Longest (byte ∷ []) rest (mark_of mark)
  a_long_sign : {byte next : ℕ} {rest : List ℕ} {mark : Mark} → long_sign byte next ≡ Some mark
      → Longest (byte ∷ next ∷ []) rest (mark_of mark)

-- the rest of a line, from a place on, and its pieces; a comment goes to its end
pub data RestSpells (line : LineStart) : ℕ → List ℕ → List Piece → Type 0 where
  ended : {at : ℕ} → RestSpells line at [] []
  comment : {at : ℕ} {rest : List ℕ} → RestSpells line at (35 ∷ rest) []
  space : {at : ℕ} {rest : List ℕ} {pieces : List Piece} → RestSpells line (at + 1) rest pieces → RestSpells line at (32 ∷ rest) pieces
  next : {at : ℕ} {word rest : List ℕ} {form : PieceForm} {pieces : List Piece} → Longest word rest form
      → RestSpells line (at + length word) rest pieces
      → RestSpells line at (word ++ rest) ((record { form = form; line = line; at = at; bytes = word }) ∷ pieces)

-- the tokens of a line's rest, from a place on, end before this place: a comment stands there, or the line's end
pub data StopsAt : ℕ → List ℕ → ℕ → Type 0 where
  at_end : {at : ℕ} → StopsAt at [] at
  at_comment : {at : ℕ} {rest : List ℕ} → StopsAt at (35 ∷ rest) at
  past_space : {at stop : ℕ} {rest : List ℕ} → StopsAt (at + 1) rest stop → StopsAt at (32 ∷ rest) stop
  past_token : {at stop : ℕ} {word rest : List ℕ} {form : PieceForm} → Longest word rest form → StopsAt (at + length word) rest stop
      → StopsAt at (word ++ rest) stop
