-- Which refusal of its bytes is a script's first.
use Rattle.std.specs.Prelude.{◌≡◌, ℕ, ◌+◌, ◌≤◌, ◌^◌, ◌==◌, ◌||◌, Bool, not, true, false, List, [], ◌∷◌, ◌++◌, length, None}
use Rattle.std.specs.Str.Parse.{digits_value}
use Rattle.lf_base.specs.declared.refusals.Refusal.{Refusal}
use Rattle.lf_base.specs.declared.refusals.RefusalKind.{RefusalKind}
use Rattle.lf_base.specs.declared.refusals.RefusalKind.TheVariants.{BadByte, OpenText, WideNumber}
use Rattle.lf_base.specs.declared.refusals.ReadFail.{ReadFail}
use Rattle.lf_base.specs.declared.refusals.ReadFail.TheVariants as fail
use Rattle.lf_base.specs.Texts.{Text}
use Rattle.lf_lexer.specs.declared.line_start.LineStart.{LineStart}
use Rattle.lf_lexer.specs.Bytes.{is_digit, is_letter, is_text_byte, Passes, PassesNoMore}
use Rattle.lf_lexer.specs.Places.{place_at}
use Rattle.lf_lexer.specs.Marks.{short_sign}
use Rattle.lf_lexer.specs.Pieces.{PieceForm, Piece, TextBytes, NoLongSign, Longest}
use Rattle.lf_lexer.specs.SourceLines.{full_lines, content, indentation, is_blank}
use Rattle.lf_lexer.specs.Levels.{Indents, IndentRefused}
use Rattle.lf_lexer.specs.Reading.{first_line, line_after, LineSpells}

-- with this byte begin neither a space, a comment, a name or word, a number nor a text
abbrev pub begins_with_sign : ℕ → Bool
begins_with_sign byte = not ((byte == 32) || (byte == 35) || is_letter byte || is_digit byte || (byte == 34))

-- what is refused at the front of a line's rest, and how many bytes before
pub data FrontRefused : List ℕ → RefusalKind → ℕ → Type 0 where
  wide_number : (byte : ℕ) (bytes rest : List ℕ) → is_digit byte ≡ true → Passes is_digit bytes → PassesNoMore is_digit rest
      → 2 ^ 63 ≤ digits_value 10 (byte ∷ bytes) → FrontRefused (byte ∷ (bytes ++ rest)) WideNumber 0
  no_sign : (byte : ℕ) (rest : List ℕ) → begins_with_sign byte ≡ true → NoLongSign byte rest → short_sign byte ≡ None
      → FrontRefused (byte ∷ rest) BadByte 0
  open_text : (bytes : List ℕ) (text : Text) → TextBytes bytes text → FrontRefused (34 ∷ bytes) OpenText 0
  open_pair : (bytes : List ℕ) (text : Text) → TextBytes bytes text → FrontRefused (34 ∷ (bytes ++ 92 ∷ [])) OpenText 0
  bad_in_text : (bytes : List ℕ) (text : Text) (byte : ℕ) (rest : List ℕ) → TextBytes bytes text → is_text_byte byte ≡ false
      → (byte == 34) ≡ false → (byte == 92) ≡ false
      → FrontRefused (34 ∷ (bytes ++ byte ∷ rest)) BadByte (length bytes + 1)
  bad_pair : (bytes : List ℕ) (text : Text) (byte : ℕ) (rest : List ℕ) → TextBytes bytes text → (byte == 34) ≡ false → (byte == 92) ≡ false
      → FrontRefused (34 ∷ (bytes ++ 92 ∷ byte ∷ rest)) BadByte (length bytes + 2)

-- what is refused first in the rest of a line, from a place on, and how many bytes of the line stand before it
pub data RestRefused : ℕ → List ℕ → RefusalKind → ℕ → Type 0 where
  at_front : {at offset : ℕ} {bytes : List ℕ} {kind : RefusalKind} → FrontRefused bytes kind offset
      → RestRefused at bytes kind (at + offset)
  after_space : {at place : ℕ} {rest : List ℕ} {kind : RefusalKind} → RestRefused (at + 1) rest kind place
      → RestRefused at (32 ∷ rest) kind place
  after_token : {at place : ℕ} {word rest : List ℕ} {form : PieceForm} {kind : RefusalKind} → Longest word rest form
      → RestRefused (at + length word) rest kind place → RestRefused at (word ++ rest) kind place

-- the refusal at a place of a line before which stand so many of its bytes
abbrev pub refusal_at : LineStart → RefusalKind → ℕ → Refusal
refusal_at line kind at = record { kind = kind; place = place_at line at }

-- what is refused first on a line that isn't blank, where these levels stand; its indentation comes before what stands on it
pub data LineRefused (line : LineStart) (levels : List ℕ) (bytes : List ℕ) : Refusal → Type 0 where
  indented : {kind : RefusalKind} → is_blank bytes ≡ false → IndentRefused levels (indentation bytes) kind
      → LineRefused line levels bytes (refusal_at line kind (indentation bytes))
  on_line : {after : List ℕ} {forms : List PieceForm} {kind : RefusalKind} {place : ℕ}
      → is_blank bytes ≡ false → Indents levels (indentation bytes) after forms → RestRefused 0 bytes kind place
      → LineRefused line levels bytes (refusal_at line kind place)

-- what is refused first in the lines from one on, where these levels stand
pub data LinesRefused : List ℕ → LineStart → List (List ℕ) → Refusal → Type 0 where
  on_this_line : {levels : List ℕ} {line : LineStart} {bytes : List ℕ} {lines : List (List ℕ)} {refusal : Refusal}
      → LineRefused line levels (content bytes) refusal → LinesRefused levels line (bytes ∷ lines) refusal
  after_blank : {levels : List ℕ} {line : LineStart} {bytes : List ℕ} {lines : List (List ℕ)} {refusal : Refusal}
      → is_blank (content bytes) ≡ true → LinesRefused levels (line_after line bytes) lines refusal
      → LinesRefused levels line (bytes ∷ lines) refusal
  after_filled : {levels after : List ℕ} {line : LineStart} {bytes : List ℕ} {lines : List (List ℕ)}
      {pieces : List Piece} {refusal : Refusal}
      → LineSpells line levels after (content bytes) pieces → LinesRefused after (line_after line bytes) lines refusal
      → LinesRefused levels line (bytes ∷ lines) refusal

-- this refusal is the first one in the order of these bytes
abbrev pub IsFirstLexRefusal : List ℕ → Refusal → Type 0
IsFirstLexRefusal bytes refusal = LinesRefused [] first_line (full_lines bytes) refusal

-- what failing says of these bytes: want of memory may come at any
abbrev pub LexFailsAs : List ℕ → ReadFail → Type 0
LexFailsAs bytes (fail.Refused refusal) = IsFirstLexRefusal bytes refusal
LexFailsAs bytes fail.OutOfMemory = Unit {0}
