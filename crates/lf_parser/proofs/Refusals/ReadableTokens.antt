-- Tokens that some script spells end once, and are few.
use Rattle.std.proofs.Common.{List, Some, [], ap, arith, true, ℕ, ◌<◌, ◌∷◌, ◌≡◌}
use Rattle.lf_base.specs.Texts.{Text}
use Rattle.lf_lexer.specs.declared.tokens.Lexeme.{Lexeme}
use Rattle.lf_lexer.specs.declared.tokens.Lexeme.TheVariants as lexeme
use Rattle.lf_lexer.specs.declared.tokens.Mark.{Mark}
use Rattle.lf_lexer.specs.declared.tokens.Mark.TheVariants as mark
use Rattle.lf_lexer.specs.declared.tokens.Token.{Token}
use Rattle.lf_lexer.specs.Layout.{Laid, LayoutSpot, has_bytes, ends, opens, closes, goes_on, line_ends}
use Rattle.lf_lexer.specs.Reading.{AreSpelled}
use Rattle.lf_lexer.proofs.TokenLaws.Layouts.{tokens_laid}
use Rattle.lf_lexer.proofs.TokenLaws.Totals.{tokens_count}
use Rattle.lf_parser.specs.Kinds.{kind, lexeme_kind, mark_kind, END, DEDENT, INDENT, NEW_LINE}
use Rattle.lf_parser.specs.Refusals.{EndsOnce, Readable}

mark_above : (m : Mark) → END < mark_kind m
mark_above mark.And = omega arith
mark_above _ = omega arith

-- a lexeme with bytes is no end
bytes_above : (l : Lexeme) → has_bytes l ≡ true → END < lexeme_kind l
bytes_above (lexeme.Name id) e = omega arith
bytes_above (lexeme.Number n) e = omega arith
bytes_above (lexeme.Text t) e = omega arith
bytes_above (lexeme.Mark m) e = mark_above m
bytes_above lexeme.NewLine e = cc
bytes_above lexeme.Indent e = cc
bytes_above lexeme.Dedent e = cc
bytes_above lexeme.End e = cc

before : (token : Token) (tokens : List Token) → END < kind (Some token) → EndsOnce tokens → EndsOnce (token ∷ tokens)
before token [] above e = absurd e
before token (t ∷ ts) above e = (above, e)

pub ends_once : {spot : LayoutSpot} {depth : ℕ} {tokens : List Token} → Laid spot depth tokens → EndsOnce tokens
ends_once (ends between is) = ap lexeme_kind is
ends_once (opens {depth} {token} {tokens} is more) = let k : lexeme_kind token.lexeme ≡ INDENT = ap lexeme_kind is in before token tokens (omega arith) (ends_once more)
ends_once (closes {spot} {depth} {token} {tokens} between is more) = let k : lexeme_kind token.lexeme ≡ DEDENT = ap lexeme_kind is in before token tokens (omega arith) (ends_once more)
ends_once (goes_on {spot} {depth} {token} {tokens} is more) = before token tokens (bytes_above token.lexeme is) (ends_once more)
ends_once (line_ends {depth} {token} {tokens} is more) = let k : lexeme_kind token.lexeme ≡ NEW_LINE = ap lexeme_kind is in before token tokens (omega arith) (ends_once more)

pub readable : (tokens : List Token) (texts : List Text) → AreSpelled tokens texts → Readable tokens
readable tokens texts s = record {
  ends = ends_once (tokens_laid s.bytes tokens texts s.spelled);
  few = let n = tokens_count s.bytes tokens texts s.spelled in let m = s.short in omega arith;
}
