-- The front of the rest of a line, which is what stands next on it: a token, a space, an end or a refusal, as a function of the bytes.
use Rattle.std.specs.Prelude.{ℕ, ◌+◌, ◌^◌, ◌==◌, ◌||◌, List, [], ◌∷◌, Option, Some, None, if◌then◌else◌, nat_lt, take, pos}
use Rattle.std.specs.List.{prefix_len}
use Rattle.std.specs.Str.Parse.{digits_value}
use Rattle.lf_base.specs.declared.refusals.RefusalKind.TheVariants.{BadByte, OpenText, WideNumber}
use Rattle.lf_lexer.specs.declared.tokens.Mark.{Mark}
use Rattle.lf_lexer.specs.declared.texts.TextEnd.{TextEnd}
use Rattle.lf_lexer.specs.declared.texts.TextEnd.TheVariants.{Closed, Open, Bad}
use Rattle.lf_lexer.specs.declared.texts.TextStep.{TextStep}
use Rattle.lf_lexer.specs.declared.texts.TextStep.TheVariants as step
use Rattle.lf_lexer.specs.declared.front.Front.{Front}
use Rattle.lf_lexer.specs.declared.front.Front.TheVariants.{End, Space, Name, Number, Text, Sign, Refused}
use Rattle.lf_lexer.specs.Bytes.{is_digit, is_letter, is_name_byte, is_text_byte}
use Rattle.lf_lexer.specs.Marks.{word_of, short_sign, long_sign}

-- a word or a name of so many bytes
abbrev pub word_front : ℕ → Option Mark → Front
word_front len (Some mark) = Sign mark len
word_front len None = Name len

unfoldable pub name_front_at : List ℕ → ℕ → Front
name_front_at bytes len = word_front len (word_of (take len bytes))

abbrev pub name_front : List ℕ → Front
name_front bytes = name_front_at bytes (prefix_len is_name_byte bytes)

-- a number of so many digits, unless its value is too large
unfoldable pub number_front_at : List ℕ → ℕ → Front
number_front_at bytes len =
    if nat_lt (digits_value 10 (take len bytes)) (2 ^ 63) then Number (pos (digits_value 10 (take len bytes))) len else Refused WideNumber 0

abbrev pub number_front : List ℕ → Front
number_front bytes = number_front_at bytes (prefix_len is_digit bytes)

-- what stands at the front of the rest of a text, after its backslash
abbrev pub pair_step : List ℕ → TextStep
pair_step [] = step.Open
pair_step (next ∷ rest) = if (next == 34) || (next == 92) then step.Goes 2 else step.Bad 1

-- what stands at the front of the rest of a text
unfoldable pub text_step : List ℕ → TextStep
text_step [] = step.Open
text_step (byte ∷ rest) =
    if byte == 34 then step.Closes else if byte == 92 then pair_step rest else
    if is_text_byte byte then step.Goes 1 else step.Bad 0

-- how the text ends, so many bytes of which stand before these
unfoldable pub text_end : ℕ → List ℕ → TextEnd
text_end at [] = Open
text_end at (byte ∷ []) = if byte == 34 then Closed at else if byte == 92 then Open else if is_text_byte byte then Open else Bad at
text_end at (byte ∷ next ∷ rest) =
    if byte == 34 then Closed at else
    if byte == 92 then (if (next == 34) || (next == 92) then text_end (at + 2) rest else Bad (at + 1)) else
    if is_text_byte byte then text_end (at + 1) (next ∷ rest) else Bad at

abbrev pub text_front_at : TextEnd → Front
text_front_at (Closed len) = Text len
text_front_at Open = Refused OpenText 0
text_front_at (Bad at) = Refused BadByte (at + 1)

abbrev pub text_front : List ℕ → Front
text_front bytes = text_front_at (text_end 0 bytes)

abbrev pub short_front : Option Mark → Front
short_front (Some mark) = Sign mark 1
short_front None = Refused BadByte 0

abbrev pub long_front : ℕ → Option Mark → Front
long_front byte (Some mark) = Sign mark 2
long_front byte None = short_front (short_sign byte)

abbrev pub sign_front : ℕ → List ℕ → Front
sign_front byte [] = short_front (short_sign byte)
sign_front byte (next ∷ rest) = long_front byte (long_sign byte next)

unfoldable pub front : List ℕ → Front
front [] = End
front (byte ∷ rest) =
    if byte == 32 then Space else
    if byte == 35 then End else
    if is_letter byte then name_front (byte ∷ rest) else
    if is_digit byte then number_front (byte ∷ rest) else
    if byte == 34 then text_front rest else sign_front byte rest
