-- What is lexed so far, and what each step of the code adds to it: a token, a level, a line.
use Rattle.std.specs.Prelude.{◌≡◌, ℕ, ◌+◌, ◌≤◌, ◌<◌, Bool, true, false, List, [], ◌∷◌, ◌++◌, length, map, take, drop}
use Rattle.lf_base.specs.declared.refusals.Refusal.{Refusal}
use Rattle.lf_base.specs.declared.refusals.RefusalKind.{RefusalKind}
use Rattle.lf_base.specs.declared.refusals.ReadFail.{ReadFail}
use Rattle.lf_base.specs.declared.refusals.ReadFail.TheVariants as fails
use Rattle.lf_base.specs.Texts.{Text, with_texts, fixed_texts, Grows}
use Rattle.lf_lexer.specs.declared.tokens.Lexeme.TheVariants as lexeme
use Rattle.lf_lexer.specs.declared.front.Front.{Front}
use Rattle.lf_lexer.specs.declared.front.Front.TheVariants as front
use Rattle.lf_lexer.specs.declared.line.Step.{Step}
use Rattle.lf_lexer.specs.declared.line.Step.TheVariants as step
use Rattle.lf_lexer.specs.declared.lexed.Lexed.{Lexed}
use Rattle.lf_lexer.specs.declared.line_start.LineStart.{LineStart}
use Rattle.lf_lexer.specs.Places.{token_at}
use Rattle.lf_lexer.specs.Meaning.{meaning}
use Rattle.lf_lexer.specs.Lexed.{with_token, with_name, with_quoted}
use Rattle.lf_lexer.specs.Pieces.{PieceForm, Piece, RestSpells}
use Rattle.lf_lexer.specs.SourceLines.{full_lines, is_blank}
use Rattle.lf_lexer.specs.Levels.{innermost, is_level, Closes, Indents, IndentRefused}
use Rattle.lf_lexer.specs.Tokens.{texts_of_pieces, token_of}
use Rattle.lf_lexer.specs.Reading.{first_line, empty_piece, end_of, closing, LineSpells, LinesSpell}
use Rattle.lf_lexer.specs.Refusals.{refusal_at, RestRefused, LineRefused}

-- these pieces came to what was lexed before: their texts are numbered in any list that begins with the texts so far
pub record AddsPieces (old new : Lexed) (pieces : List Piece) : Type 0 where
  pub texts : new.texts ≡ with_texts old.texts (texts_of_pieces pieces)
  pub tokens : (after : List Text) → Grows new.texts after → new.tokens ≡ old.tokens ++ map (token_of after) pieces

-- nothing is lexed so far
pub record StartsEmpty (lexed : Lexed) : Type 0 where
  pub tokens : lexed.tokens ≡ []
  pub texts : lexed.texts ≡ fixed_texts

-- what stands at the front of a line's rest adds its token, if it is one
unfoldable pub with_front : LineStart → Lexed → ℕ → List ℕ → Front → Lexed
with_front line lexed at bytes (front.Name len) = with_name line lexed at (take len bytes)
with_front line lexed at bytes (front.Number value len) = with_token lexed (token_at line at (lexeme.Number value) len)
with_front line lexed at bytes (front.Text len) = with_quoted line lexed at (meaning (take len (drop 1 bytes))) len
with_front line lexed at bytes (front.Sign mark len) = with_token lexed (token_at line at (lexeme.Mark mark) len)
with_front line lexed at bytes _ = lexed

unfoldable pub step_at : Front → Step
step_at front.End = step.End
step_at front.Space = step.Space
step_at (front.Name len) = step.Piece len
step_at (front.Number value len) = step.Piece len
step_at (front.Text len) = step.Piece (len + 2)
step_at (front.Sign mark len) = step.Piece len
step_at (front.Refused kind offset) = step.Refused kind offset

-- a step takes no more bytes than there are
abbrev pub StepsWithin : ℕ → Step → Type 0
StepsWithin count step.End = Unit {0}
StepsWithin count step.Space = 1 ≤ count
StepsWithin count (step.Piece len) = len ≤ count
StepsWithin count (step.Refused kind offset) = offset ≤ count

-- the tokens of a line's rest, from a place on, came to what was lexed before
pub record LexesPieces (line : LineStart) (at : ℕ) (bytes : List ℕ) (old new : Lexed) (end : ℕ) : Type 0 where
  pub pieces : List Piece
  pub spells : RestSpells line at bytes pieces
  pub adds : AddsPieces old new pieces
  pub end_is : end ≡ end_of 0 pieces

pub record RefusedPieces (line : LineStart) (at : ℕ) (bytes : List ℕ) (refusal : Refusal) : Type 0 where
  pub kind : RefusalKind
  pub place : ℕ
  pub refused : RestRefused at bytes kind place
  pub is : refusal ≡ refusal_at line kind place

abbrev pub RefusesPieces : LineStart → ℕ → List ℕ → ReadFail → Type 0
RefusesPieces line at bytes (fails.Refused refusal) = RefusedPieces line at bytes refusal
RefusesPieces line at bytes fails.OutOfMemory = Unit {0}

-- each level is further in than those round it
abbrev pub Descend : List ℕ → Type 0
Descend [] = Unit {0}
Descend (level ∷ levels) = (innermost levels < level) × Descend levels

-- the levels before and after a line of this indentation came to what was lexed before
pub record LexesIndent (line : LineStart) (indent : ℕ) (levels after : List ℕ) (old new : Lexed) : Type 0 where
  pub forms : List PieceForm
  pub indents : Indents levels indent after forms
  pub descend : Descend after
  pub adds : AddsPieces old new (map (empty_piece line indent) forms)

pub record RefusedIndent (line : LineStart) (indent : ℕ) (levels : List ℕ) (refusal : Refusal) : Type 0 where
  pub kind : RefusalKind
  pub refused : IndentRefused levels indent kind
  pub is : refusal ≡ refusal_at line kind indent

abbrev pub RefusesIndent : LineStart → ℕ → List ℕ → ReadFail → Type 0
RefusesIndent line indent levels (fails.Refused refusal) = RefusedIndent line indent levels refusal
RefusesIndent line indent levels fails.OutOfMemory = Unit {0}

-- the levels that are larger than an indentation closed, and came to what was lexed before
pub record ClosesDown (line : LineStart) (indent : ℕ) (levels after : List ℕ) (old new : Lexed) : Type 0 where
  pub forms : List PieceForm
  pub low : innermost after ≤ indent
  pub descend : Descend after
  pub on : (left : List ℕ) (others : List PieceForm) → Closes indent after left others → Closes indent levels left (forms ++ others)
  pub no_level : is_level indent after ≡ false → is_level indent levels ≡ false
  pub adds : AddsPieces old new (map (empty_piece line indent) forms)

-- a blank line changes nothing
pub record BlankLine (bytes : List ℕ) (levels after : List ℕ) (old new : Lexed) : Type 0 where
  pub blank : is_blank bytes ≡ true
  pub levels_stay : after ≡ levels
  pub lexed_stays : new ≡ old

-- the line came to what was lexed before
pub record FilledLine (line : LineStart) (bytes : List ℕ) (levels after : List ℕ) (old new : Lexed) : Type 0 where
  pub pieces : List Piece
  pub spells : LineSpells line levels after bytes pieces
  pub descend : Descend after
  pub adds : AddsPieces old new pieces

abbrev pub LexesLine : LineStart → List ℕ → List ℕ → List ℕ → Lexed → Lexed → Bool → Type 0
LexesLine line bytes levels after old new false = BlankLine bytes levels after old new
LexesLine line bytes levels after old new true = FilledLine line bytes levels after old new

abbrev pub RefusesLine : LineStart → List ℕ → List ℕ → ReadFail → Type 0
RefusesLine line levels bytes (fails.Refused refusal) = LineRefused line levels bytes refusal
RefusesLine line levels bytes fails.OutOfMemory = Unit {0}

-- all lines are lexed; the levels that still stand close at the end
pub record LexesLines (bytes : List ℕ) (old new : Lexed) (levels : List ℕ) (last : ℕ) : Type 0 where
  pub pieces : List Piece
  pub spelled : LinesSpell (length bytes) [] 0 first_line (full_lines bytes) (pieces ++ closing (length bytes) last levels)
  pub adds : AddsPieces old new pieces
