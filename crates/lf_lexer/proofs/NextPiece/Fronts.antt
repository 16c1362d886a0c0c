-- What stands at the front of a line's rest, as a function and by the definitions of tokens and refusals.
use Rattle.std.proofs.Common.{◌≡◌, ◌∙◌, ℕ, suc, ◌+◌, ◌-◌, ◌<◌, ◌≤◌, ◌^◌, ◌⊎◌, inl, inr, Bool, true, false, List, [], ◌∷◌, ◌++◌, length, take, drop, refl, sym, ap, subst, arith, pos, append-nil, append_assoc, length-append, not, Option, Some, None}
use Rattle.std.specs.Prelude.{◌==◌, ◌||◌, nat_lt, if◌then◌else◌}
use Rattle.std.specs.List.{prefix_len}
use Rattle.std.specs.Str.Parse.{digits_value}
use Rattle.std.proofs.lemmas.Bool.{true_from_ne_false, lt-ltb, ltb-true, le-ltb, ltb-false}
use Rattle.std.proofs.lemmas.Bool.Decides.{nat_tests, Decides-eqb}
use Rattle.std.proofs.Math.Seq.{take-append_seam, drop-append_seam}
use Rattle.std.proofs.lemmas.List.{take-append-drop, length-take-le}
use Rattle.std.proofs.lemmas.List.Sums.{prefix_len-le-length}
use Rattle.lf_base.specs.Texts.{Text}
use Rattle.lf_base.specs.declared.refusals.RefusalKind.{RefusalKind}
use Rattle.lf_base.specs.declared.refusals.RefusalKind.TheVariants.{BadByte, WideNumber}
use Rattle.lf_lexer.specs.declared.tokens.Mark.{Mark}
use Rattle.lf_lexer.specs.declared.texts.TextEnd.{TextEnd}
use Rattle.lf_lexer.specs.declared.texts.TextEnd.TheVariants.{Closed, Open, Bad}
use Rattle.lf_lexer.specs.declared.front.Front.{Front}
use Rattle.lf_lexer.specs.declared.front.Front.TheVariants as f
use Rattle.lf_lexer.specs.Bytes.{is_digit, is_letter, is_name_byte, is_text_byte, Passes, PassesNoMore}
use Rattle.lf_lexer.specs.Marks.{word_of, short_sign, long_sign}
use Rattle.lf_lexer.specs.Meaning.{meaning}
use Rattle.lf_lexer.specs.Pieces.{PieceForm, name, number, text_of, mark_of, TextBytes, NoLongSign, Longest}
use Rattle.lf_lexer.specs.Pieces as p
use Rattle.lf_lexer.specs.Front.{front, word_front, name_front, name_front_at, number_front, number_front_at, text_end, text_front, text_front_at, short_front, long_front, sign_front}
use Rattle.lf_lexer.specs.Refusals.{FrontRefused, begins_with_sign}
use Rattle.lf_lexer.specs.Refusals as r
use Rattle.lf_lexer.proofs.NextPiece.Prefixes.{prefix, passes_prefix, stops_prefix, prefix_more}
use Rattle.lf_lexer.proofs.NextPiece.TextBytes.{third_test, text_end_after, TextStands, ClosedText, text_stands}

-- a kind of byte is none of the kinds that are asked for before it
record NoOther (byte : ℕ) : Type 0 where
  no_space : (byte == 32) ≡ false
  no_hash : (byte == 35) ≡ false

letter_not : (byte : ℕ) → is_letter byte ≡ true → NoOther byte
letter_not byte h = record { no_space = grind (arith, nat_tests); no_hash = grind (arith, nat_tests) }

digit_not : (byte : ℕ) → is_digit byte ≡ true → NoOther byte
digit_not byte h = record { no_space = grind (arith, nat_tests); no_hash = grind (arith, nat_tests) }

digit_no_letter : (byte : ℕ) → is_digit byte ≡ true → is_letter byte ≡ false
digit_no_letter byte h = grind (arith, nat_tests)

letter_goes_on : (byte : ℕ) → is_letter byte ≡ true → is_name_byte byte ≡ true
letter_goes_on byte h = grind (arith, nat_tests)

-- the kinds of front by their first byte
at_letter : (byte : ℕ) (rest : List ℕ) → is_letter byte ≡ true → front (byte ∷ rest) ≡ name_front (byte ∷ rest)
unfolding front
at_letter byte rest letter = let n = letter_not byte letter in rw (n.no_space, n.no_hash, letter) refl

at_digit : (byte : ℕ) (rest : List ℕ) → is_digit byte ≡ true → front (byte ∷ rest) ≡ number_front (byte ∷ rest)
unfolding front
at_digit byte rest digit = let n = digit_not byte digit in rw (n.no_space, n.no_hash, digit_no_letter byte digit, digit) refl

at_quote : (rest : List ℕ) → front (34 ∷ rest) ≡ text_front rest
unfolding front
at_quote rest = refl

-- what the tests say of a byte with which a sign may begin
record NoneOf (a b c d e : Bool) : Type 0 where
  first : a ≡ false
  second : b ≡ false
  third : c ≡ false
  fourth : d ≡ false
  fifth : e ≡ false

none_of : (a b c d e : Bool) → not (a || b || c || d || e) ≡ true → NoneOf a b c d e
none_of true b c d e h = cc
none_of false true c d e h = cc
none_of false false true d e h = cc
none_of false false false true e h = cc
none_of false false false false true h = cc
none_of false false false false false h = record { first = refl; second = refl; third = refl; fourth = refl; fifth = refl }

at_sign : (byte : ℕ) (rest : List ℕ) → begins_with_sign byte ≡ true → front (byte ∷ rest) ≡ sign_front byte rest
unfolding front
at_sign byte rest h =
    let n = none_of (byte == 32) (byte == 35) (is_letter byte) (is_digit byte) (byte == 34) h in
    rw (n.first, n.second, n.third, n.fourth, n.fifth) refl

-- what the function says of a longest token
abbrev pub token_front : PieceForm → List ℕ → Front
token_front name word = f.Name (length word)
token_front number word = f.Number (pos (digits_value 10 word)) (length word)
token_front (text_of text) word = f.Text (length word - 2)
token_front (mark_of mark) word = f.Sign mark (length word)
token_front _ word = f.End

word_is : (word rest : List ℕ) (w : Option Mark) → word_of word ≡ w → name_front_at (word ++ rest) (length word) ≡ word_front (length word) w
unfolding name_front_at
word_is word rest w h = ap (λ (bytes : List ℕ). word_front (length word) (word_of bytes)) (take-append_seam word rest) ∙ ap (word_front (length word)) h

letter_front : (byte : ℕ) (bytes rest : List ℕ) (w : Option Mark) → is_letter byte ≡ true → Passes is_name_byte bytes → PassesNoMore is_name_byte rest → word_of (byte ∷ bytes) ≡ w
    → front (byte ∷ (bytes ++ rest)) ≡ word_front (length (byte ∷ bytes)) w
letter_front byte bytes rest w letter passes stops is =
    at_letter byte (bytes ++ rest) letter
    ∙ ap (name_front_at (byte ∷ (bytes ++ rest))) (prefix is_name_byte (byte ∷ bytes) rest (letter_goes_on byte letter, passes) stops)
    ∙ word_is (byte ∷ bytes) rest w is

digit_front : (byte : ℕ) (bytes rest : List ℕ) (b : Bool) → is_digit byte ≡ true → Passes is_digit bytes → PassesNoMore is_digit rest → nat_lt (digits_value 10 (byte ∷ bytes)) (2 ^ 63) ≡ b
    → front (byte ∷ (bytes ++ rest)) ≡ (if b then f.Number (pos (digits_value 10 (byte ∷ bytes))) (length (byte ∷ bytes)) else f.Refused WideNumber 0)
unfolding number_front_at
digit_front byte bytes rest b digit passes stops is =
    let word = byte ∷ bytes in
    at_digit byte (bytes ++ rest) digit
    ∙ ap (number_front_at (byte ∷ (bytes ++ rest))) (prefix is_digit (byte ∷ bytes) rest (digit, passes) stops)
    ∙ ap (λ (w : List ℕ). if nat_lt (digits_value 10 w) (2 ^ 63) then f.Number (pos (digits_value 10 w)) (length word) else f.Refused WideNumber 0) (take-append_seam word rest)
    ∙ ap (λ (b : Bool). if b then f.Number (pos (digits_value 10 word)) (length word) else f.Refused WideNumber 0) is

closed_front : (bytes rest : List ℕ) (text : Text) → TextBytes bytes text → front (34 ∷ ((bytes ++ 34 ∷ []) ++ rest)) ≡ f.Text (length (34 ∷ (bytes ++ 34 ∷ [])) - 2)
unfolding text_end
closed_front bytes rest text good =
    at_quote ((bytes ++ 34 ∷ []) ++ rest)
    ∙ ap text_front (append_assoc bytes (34 ∷ []) rest)
    ∙ ap text_front_at (text_end_after 0 bytes text (34 ∷ rest) good ∙ closes rest)
    ∙ ap f.Text (let l = length-append bytes (34 ∷ []) in let e : 0 + length bytes ≡ length (34 ∷ (bytes ++ 34 ∷ [])) - 2 = omega arith in e)
  where
    closes : (tail : List ℕ) → text_end (0 + length bytes) (34 ∷ tail) ≡ Closed (0 + length bytes)
    closes [] = refl
    closes (next ∷ tail) = refl

-- which bytes are signs
sign_byte : (byte : ℕ) (mark : Mark) → short_sign byte ≡ Some mark → begins_with_sign byte ≡ true
unfolding short_sign
sign_byte byte mark h = true_from_ne_false (begins_with_sign byte) (λ e. grind (arith, nat_tests))

long_byte : (byte next : ℕ) (mark : Mark) → long_sign byte next ≡ Some mark → begins_with_sign byte ≡ true
unfolding long_sign
long_byte byte next mark h = true_from_ne_false (begins_with_sign byte) (λ e. grind (arith, nat_tests))

long_is : (byte next : ℕ) (rest : List ℕ) (mark : Mark) → long_sign byte next ≡ Some mark → front (byte ∷ next ∷ rest) ≡ f.Sign mark 2
long_is byte next rest mark h = at_sign byte (next ∷ rest) (long_byte byte next mark h) ∙ ap (long_front byte) h

short_is : (byte : ℕ) (rest : List ℕ) (s : Option Mark) → begins_with_sign byte ≡ true → NoLongSign byte rest → short_sign byte ≡ s → front (byte ∷ rest) ≡ short_front s
short_is byte [] s sign no_long h = at_sign byte [] sign ∙ ap short_front h
short_is byte (next ∷ rest) s sign no_long h = at_sign byte (next ∷ rest) sign ∙ ap (long_front byte) no_long ∙ ap short_front h

pub longest_front : (word rest : List ℕ) (form : PieceForm) → Longest word rest form → front (word ++ rest) ≡ token_front form word
longest_front _ rest _ (p.a_name {byte = byte} {bytes = bytes} letter passes stops no_word) = letter_front byte bytes rest None letter passes stops no_word
longest_front _ rest _ (p.a_word {byte = byte} {bytes = bytes} {mark = mark} letter passes stops word) = letter_front byte bytes rest (Some mark) letter passes stops word
longest_front _ rest _ (p.a_number {byte = byte} {bytes = bytes} digit passes stops small) =
    digit_front byte bytes rest true digit passes stops (lt-ltb (digits_value 10 (byte ∷ bytes)) (2 ^ 63) small)
longest_front _ rest _ (p.a_text {bytes = bytes} {text = text} good) = closed_front bytes rest text good
longest_front _ rest _ (p.a_short_sign {byte = byte} {mark = mark} no_long sign) = short_is byte rest (Some mark) (sign_byte byte mark sign) no_long sign
longest_front _ rest _ (p.a_long_sign {byte = byte} {next = next} {mark = mark} sign) = long_is byte next rest mark sign

-- what the function says of what is refused
refused_text : (bytes : List ℕ) (text : Text) (tail : List ℕ) (end : TextEnd) → TextBytes bytes text → text_end (length bytes) tail ≡ end
    → front (34 ∷ (bytes ++ tail)) ≡ text_front_at end
refused_text bytes text tail end good is =
    at_quote (bytes ++ tail)
    ∙ ap text_front_at (text_end_after 0 bytes text tail good ∙ ap (λ (n : ℕ). text_end n tail) (let e : 0 + length bytes ≡ length bytes = omega arith in e) ∙ is)

bad_end : (at byte : ℕ) (rest : List ℕ) → is_text_byte byte ≡ false → (byte == 34) ≡ false → (byte == 92) ≡ false → text_end at (byte ∷ rest) ≡ Bad at
unfolding text_end
bad_end at byte [] t q s = third_test (byte == 34) (byte == 92) (is_text_byte byte) false (Closed at) Open Open (Bad at) q s t
bad_end at byte (next ∷ rest) t q s =
    third_test (byte == 34) (byte == 92) (is_text_byte byte) false (Closed at) (if (next == 34) || (next == 92) then text_end (at + 2) rest else Bad (at + 1))
    (text_end (at + 1) (next ∷ rest)) (Bad at) q s t

bad_pair_end : (at byte : ℕ) (rest : List ℕ) → (byte == 34) ≡ false → (byte == 92) ≡ false → text_end at (92 ∷ byte ∷ rest) ≡ Bad (at + 1)
unfolding text_end
bad_pair_end at byte rest q s = rw (q, s) refl

open_end : (at : ℕ) → text_end at [] ≡ Open
unfolding text_end
open_end at = refl

open_pair_end : (at : ℕ) → text_end at (92 ∷ []) ≡ Open
unfolding text_end
open_pair_end at = refl

pub refused_front : (bytes : List ℕ) (kind : RefusalKind) (offset : ℕ) → FrontRefused bytes kind offset → front bytes ≡ f.Refused kind offset
refused_front _ _ _ (r.wide_number byte bytes rest digit passes stops wide) =
    digit_front byte bytes rest false digit passes stops (le-ltb (digits_value 10 (byte ∷ bytes)) (2 ^ 63) wide)
refused_front _ _ _ (r.no_sign byte rest sign no_long none) = short_is byte rest None sign no_long none
refused_front _ _ _ (r.open_text bytes text good) =
    ap (λ (all : List ℕ). front (34 ∷ all)) (sym (append-nil bytes)) ∙ refused_text bytes text [] Open good (open_end (length bytes))
refused_front _ _ _ (r.open_pair bytes text good) = refused_text bytes text (92 ∷ []) Open good (open_pair_end (length bytes))
refused_front _ _ _ (r.bad_in_text bytes text byte rest good t q s) =
    refused_text bytes text (byte ∷ rest) (Bad (length bytes)) good (bad_end (length bytes) byte rest t q s)
refused_front _ _ _ (r.bad_pair bytes text byte rest good q s) =
    refused_text bytes text (92 ∷ byte ∷ rest) (Bad (length bytes + 1)) good (bad_pair_end (length bytes) byte rest q s)
    ∙ ap (f.Refused BadByte) (let e : length bytes + 1 + 1 ≡ length bytes + 2 = omega arith in e)

-- a longest token of so many bytes
pub record Taken (bytes : List ℕ) (len : ℕ) (form : PieceForm) : Type 0 where
  pub longest : Longest (take len bytes) (drop len bytes) form
  pub within : len ≤ length bytes
  pub some : 0 < len

-- what the function says is so
abbrev pub Stands : List ℕ → Front → Type 0
Stands bytes f.End = (bytes ≡ []) ⊎ (bytes ≡ 35 ∷ drop 1 bytes)
Stands bytes f.Space = bytes ≡ 32 ∷ drop 1 bytes
Stands bytes (f.Name len) = Taken bytes len name
Stands bytes (f.Number value len) = Taken bytes len number × (value ≡ pos (digits_value 10 (take len bytes)))
Stands bytes (f.Text len) = Taken bytes (len + 2) (text_of (meaning (take len (drop 1 bytes))))
Stands bytes (f.Sign mark len) = Taken bytes len (mark_of mark)
Stands bytes (f.Refused kind offset) = FrontRefused bytes kind offset

stands_name : (byte : ℕ) (bytes : List ℕ) → is_letter byte ≡ true → Stands (byte ∷ bytes) (name_front (byte ∷ bytes))
unfolding name_front_at
stands_name byte bytes letter =
    let more = prefix_more is_name_byte byte bytes (letter_goes_on byte letter) in
    subst (λ (len : ℕ). Stands (byte ∷ bytes) (name_front_at (byte ∷ bytes) len)) (sym more) (by_word (word_of (byte ∷ take (prefix_len is_name_byte bytes) bytes)) refl)
  where
    short : suc (prefix_len is_name_byte bytes) ≤ length (byte ∷ bytes)
    short = let w = prefix_len-le-length is_name_byte bytes in omega arith

    by_word : (w : Option Mark) → word_of (byte ∷ take (prefix_len is_name_byte bytes) bytes) ≡ w → Stands (byte ∷ bytes) (word_front (suc (prefix_len is_name_byte bytes)) w)
    by_word (Some mark) e = record { longest = p.a_word letter (passes_prefix is_name_byte bytes) (stops_prefix is_name_byte bytes) e; within = short; some = omega arith }
    by_word None e = record { longest = p.a_name letter (passes_prefix is_name_byte bytes) (stops_prefix is_name_byte bytes) e; within = short; some = omega arith }

stands_number : (byte : ℕ) (bytes : List ℕ) → is_digit byte ≡ true → Stands (byte ∷ bytes) (number_front (byte ∷ bytes))
unfolding number_front_at
stands_number byte bytes digit =
    let n = prefix_len is_digit bytes in
    let more = prefix_more is_digit byte bytes digit in
    subst (λ (len : ℕ). Stands (byte ∷ bytes) (number_front_at (byte ∷ bytes) len)) (sym more) (by_test (nat_lt (digits_value 10 (byte ∷ take n bytes)) (2 ^ 63)) refl)
  where
    by_test : (b : Bool) → nat_lt (digits_value 10 (byte ∷ take (prefix_len is_digit bytes) bytes)) (2 ^ 63) ≡ b
        → Stands (byte ∷ bytes)
        (if b then f.Number (pos (digits_value 10 (byte ∷ take (prefix_len is_digit bytes) bytes))) (suc (prefix_len is_digit bytes)) else f.Refused WideNumber 0)
    by_test true e = (
      record {
        longest = p.a_number digit (passes_prefix is_digit bytes) (stops_prefix is_digit bytes) (ltb-true (digits_value 10 (byte ∷ take (prefix_len is_digit bytes) bytes)) (2 ^ 63) e);
        within = let w = prefix_len-le-length is_digit bytes in omega arith;
        some = omega arith;
      },
      refl,
    )
    by_test false e =
        subst (λ (all : List ℕ). FrontRefused (byte ∷ all) WideNumber 0) (take-append-drop (prefix_len is_digit bytes) bytes)
        (r.wide_number byte _ _ digit (passes_prefix is_digit bytes) (stops_prefix is_digit bytes) (ltb-false (digits_value 10 (byte ∷ take (prefix_len is_digit bytes) bytes)) (2 ^ 63) e))

stands_text : (rest : List ℕ) → Stands (34 ∷ rest) (text_front rest)
stands_text rest = by_end (text_end 0 rest) (text_stands rest)
  where
    closed : (len : ℕ) → ClosedText rest len → Taken (34 ∷ rest) (len + 2) (text_of (meaning (take len rest)))
    closed len c =
        let inner = take len rest in
        let after = drop (len + 1) rest in
        let word : List ℕ = 34 ∷ (inner ++ 34 ∷ []) in
        let long : length word ≡ len + 2 = let l = length-append inner (34 ∷ []) in let t = length-take-le len rest (let w = c.within in omega arith) in omega arith in
        let all : word ++ after ≡ 34 ∷ rest = ap (λ (l : List ℕ). 34 ∷ l) (append_assoc inner (34 ∷ []) after ∙ sym c.closes) in
        let front : take (len + 2) (34 ∷ rest) ≡ word = sym (ap (λ (n : ℕ). take n (word ++ after)) long ∙ ap (take (len + 2)) all) ∙ take-append_seam word after in
        let back : drop (len + 2) (34 ∷ rest) ≡ after = sym (ap (λ (n : ℕ). drop n (word ++ after)) long ∙ ap (drop (len + 2)) all) ∙ drop-append_seam word after in
        record {
          longest =
              subst (λ (w : List ℕ). Longest w (drop (len + 2) (34 ∷ rest)) (text_of (meaning inner))) (sym front)
              (subst (λ (b : List ℕ). Longest word b (text_of (meaning inner))) (sym back) (p.a_text c.good));
          within = let w = c.within in omega arith;
          some = omega arith;
        }

    by_end : (e : TextEnd) → TextStands rest e → Stands (34 ∷ rest) (text_front_at e)
    by_end (Closed len) c = closed len c
    by_end Open c = c
    by_end (Bad at) c = c

stands_short : (byte : ℕ) (rest : List ℕ) → begins_with_sign byte ≡ true → NoLongSign byte rest → (s : Option Mark) → short_sign byte ≡ s → Stands (byte ∷ rest) (short_front s)
stands_short byte rest sign no_long (Some mark) e = record { longest = p.a_short_sign no_long e; within = omega arith; some = omega arith }
stands_short byte rest sign no_long None e = r.no_sign byte rest sign no_long e

stands_sign : (byte : ℕ) (rest : List ℕ) → begins_with_sign byte ≡ true → Stands (byte ∷ rest) (sign_front byte rest)
stands_sign byte [] sign = stands_short byte [] sign tt (short_sign byte) refl
stands_sign byte (next ∷ rest) sign = by_long (long_sign byte next) refl
  where
    by_long : (s : Option Mark) → long_sign byte next ≡ s → Stands (byte ∷ next ∷ rest) (long_front byte s)
    by_long (Some mark) e = record { longest = p.a_long_sign e; within = omega arith; some = omega arith }
    by_long None e = stands_short byte (next ∷ rest) sign e (short_sign byte) refl

pub stands : (bytes : List ℕ) → Stands bytes (front bytes)
unfolding front
stands [] = inl refl
stands (byte ∷ rest) = by_tests (byte == 32) (byte == 35) (is_letter byte) (is_digit byte) (byte == 34) refl refl refl refl refl
  where
    by_tests : (s h l d q : Bool) → (byte == 32) ≡ s → (byte == 35) ≡ h → is_letter byte ≡ l → is_digit byte ≡ d → (byte == 34) ≡ q
        → Stands (byte ∷ rest)
        (if s then f.Space else if h then f.End else if l then name_front (byte ∷ rest) else if d then number_front (byte ∷ rest) else if q then text_front rest else sign_front byte rest)
    by_tests true h l d q es eh el ed eq = ap (λ (first : ℕ). first ∷ rest) ((Decides-eqb byte 32).0 es)
    by_tests false true l d q es eh el ed eq = inr (ap (λ (first : ℕ). first ∷ rest) ((Decides-eqb byte 35).0 eh))
    by_tests false false true d q es eh el ed eq = stands_name byte rest el
    by_tests false false false true q es eh el ed eq = stands_number byte rest ed
    by_tests false false false false true es eh el ed eq = subst (λ (first : ℕ). Stands (first ∷ rest) (text_front rest)) (sym ((Decides-eqb byte 34).0 eq)) (stands_text rest)
    by_tests false false false false false es eh el ed eq = let sign : begins_with_sign byte ≡ true = rw (es, eh, el, ed, eq) refl in stands_sign byte rest sign
