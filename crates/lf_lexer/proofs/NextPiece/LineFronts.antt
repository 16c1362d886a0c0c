-- What stands at the front of a line's rest stands at the front of all that is left of the script, but for a text.
use Rattle.std.proofs.Common.{◌≡◌, ◌∙◌, ℕ, ◌+◌, ◌-◌, Bool, true, false, List, [], ◌∷◌, length, length-drop, take, drop, refl, sym, ap, subst, arith, slice_index_or, Option, Some, None, pos, ◌^◌}
use Rattle.std.specs.Prelude.{◌==◌, nat_lt, if◌then◌else◌}
use Rattle.std.specs.Str.Parse.{digits_value}
use Rattle.std.specs.List.{prefix_len}
use Rattle.std.proofs.lemmas.Bool.Decides.{nat_tests}
use Rattle.std.proofs.lemmas.List.Sums.{prefix_len-le-length}
use Rattle.lf_lexer.specs.declared.front.Front.{Front}
use Rattle.lf_lexer.specs.declared.front.Front.TheVariants as f
use Rattle.lf_lexer.specs.Bytes.{is_digit, is_letter, is_name_byte}
use Rattle.lf_base.specs.declared.refusals.RefusalKind.TheVariants.{WideNumber}
use Rattle.lf_lexer.specs.declared.tokens.Mark.{Mark}
use Rattle.lf_lexer.specs.Marks.{word_of, long_sign}
use Rattle.lf_lexer.specs.Meaning.{meaning, FrontMeans}
use Rattle.lf_lexer.specs.Pieces.{name, text_of}
use Rattle.lf_lexer.specs.Front.{front, word_front, name_front, name_front_at, number_front, number_front_at, text_front, sign_front}
use Rattle.lf_lexer.specs.LineRest.{ends_line, line_rest}
use Rattle.lf_lexer.proofs.LineBytes.LineRests.{stops_there, rest_prefix, rest_take, rest_drop}
use Rattle.lf_lexer.proofs.NextPiece.Fronts.{Taken, Stands, stands}

-- so many bytes of a kind, which no line's end has, are the same
taken : (test : ℕ → Bool) → test 10 ≡ false → test 13 ≡ false → (bytes : List ℕ) → take (prefix_len test bytes) (line_rest bytes) ≡ take (prefix_len test bytes) bytes
taken test feed return bytes =
    rest_take (prefix_len test bytes) bytes
    (let same = rest_prefix test feed return bytes in let le = prefix_len-le-length test (line_rest bytes) in omega arith)

rest_name : (bytes : List ℕ) → name_front (line_rest bytes) ≡ name_front bytes
unfolding name_front_at
rest_name bytes = rw (rest_prefix is_name_byte refl refl bytes, taken is_name_byte refl refl bytes) refl

rest_number : (bytes : List ℕ) → number_front (line_rest bytes) ≡ number_front bytes
unfolding number_front_at
rest_number bytes = rw (rest_prefix is_digit refl refl bytes, taken is_digit refl refl bytes) refl

-- no sign of two bytes has a line's end in it
no_long_sign : (byte next : ℕ) → (next == 61) ≡ false → long_sign byte next ≡ None
unfolding long_sign
no_long_sign byte next e = rw e refl

rest_sign : (byte : ℕ) (rest : List ℕ) → sign_front byte (line_rest rest) ≡ sign_front byte rest
rest_sign byte [] = refl
rest_sign byte (next ∷ rest) = by_test (ends_line (next ∷ rest)) refl
  where
    by_test : (b : Bool) → ends_line (next ∷ rest) ≡ b → sign_front byte (if b then [] else next ∷ line_rest rest) ≡ sign_front byte (next ∷ rest)
    by_test true e = rw (no_long_sign byte next (stops_there (λ byte. byte == 61) refl refl next rest e)) refl
    by_test false e = refl

goes_on_with : (byte : ℕ) (rest : List ℕ) → ends_line (byte ∷ rest) ≡ false → (byte == 34) ≡ false → front (byte ∷ line_rest rest) ≡ front (byte ∷ rest)
unfolding front
goes_on_with byte rest e quote = by_byte (byte == 32) (byte == 35) (is_letter byte) (is_digit byte) (byte == 34) quote
  where
    whole : line_rest (byte ∷ rest) ≡ byte ∷ line_rest rest
    whole = ap (λ (b : Bool). if b then [] else byte ∷ line_rest rest) e

    by_byte : (s h l d q : Bool) → q ≡ false
        → (if s then f.Space else if h then f.End else if l then name_front (byte ∷ line_rest rest) else if d then number_front (byte ∷ line_rest rest)
        else if q then text_front (line_rest rest) else sign_front byte (line_rest rest))
        ≡ (if s then f.Space else if h then f.End else if l then name_front (byte ∷ rest) else if d then number_front (byte ∷ rest) else if q then text_front rest else sign_front byte rest)
    by_byte true h l d q none = refl
    by_byte false true l d q none = refl
    by_byte false false true d q none = ap name_front (sym whole) ∙ rest_name (byte ∷ rest)
    by_byte false false false true q none = ap number_front (sym whole) ∙ rest_number (byte ∷ rest)
    by_byte false false false false true none = cc
    by_byte false false false false false none = rest_sign byte rest

pub front_on_line : (bytes : List ℕ) → ends_line bytes ≡ false → ¬ (slice_index_or bytes 0 0 ≡ 34) → front (line_rest bytes) ≡ front bytes
front_on_line [] e none = refl
front_on_line (byte ∷ rest) e none =
    ap (λ (b : Bool). front (if b then [] else byte ∷ line_rest rest)) e
    ∙ goes_on_with byte rest e (let other : (byte == 34) ≡ false = grind (arith, nat_tests) in other)

-- the bytes of a name, and those between a text's quotes, stand on the line
pub name_taken : (bytes : List ℕ) (len : ℕ) → f.Name len ≡ front (line_rest bytes) → take len bytes ≡ take len (line_rest bytes)
name_taken bytes len is =
    let taken : Taken (line_rest bytes) len name = subst (Stands (line_rest bytes)) (sym is) (stands (line_rest bytes)) in
    sym (rest_take len bytes taken.within)

pub text_taken : (bytes : List ℕ) (len : ℕ) → f.Text len ≡ front (line_rest bytes) → take len (drop 1 bytes) ≡ take len (drop 1 (line_rest bytes))
text_taken bytes len is =
    let text = text_of (meaning (take len (drop 1 (line_rest bytes)))) in
    let taken : Taken (line_rest bytes) (len + 2) text = subst (Stands (line_rest bytes)) (sym is) (stands (line_rest bytes)) in
    let within = taken.within in
    let same : line_rest (drop 1 bytes) ≡ drop 1 (line_rest bytes) = rest_drop 1 bytes (omega arith) in
    sym (ap (take len) (sym same) ∙ rest_take len (drop 1 bytes)
    (let long : length (line_rest (drop 1 bytes)) ≡ length (line_rest bytes) - 1 = ap length same ∙ length-drop 1 (line_rest bytes) in omega arith))

-- a name, a word or a number is no text
pub name_no_text : (text all bytes : List ℕ) (x : Front) → x ≡ name_front bytes → FrontMeans text all x
unfolding name_front_at
name_no_text text all bytes x is = subst (FrontMeans text all) (sym is) (by_word (word_of (take (prefix_len is_name_byte bytes) bytes)))
  where
    by_word : (w : Option Mark) → FrontMeans text all (word_front (prefix_len is_name_byte bytes) w)
    by_word (Some mark) = tt
    by_word None = tt

pub number_no_text : (text all bytes : List ℕ) (x : Front) → x ≡ number_front bytes → FrontMeans text all x
unfolding number_front_at
number_no_text text all bytes x is = subst (FrontMeans text all) (sym is) (by_size (nat_lt (digits_value 10 digits) (2 ^ 63)))
  where
    digits : List ℕ
    digits = take (prefix_len is_digit bytes) bytes

    by_size : (b : Bool) → FrontMeans text all (if b then f.Number (pos (digits_value 10 digits)) (prefix_len is_digit bytes) else f.Refused WideNumber 0)
    by_size true = tt
    by_size false = tt
