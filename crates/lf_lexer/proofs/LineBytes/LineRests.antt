-- Of the bytes that are left of a script, those of the line at their front.
use Rattle.std.proofs.Common.{◌≡◌, ◌∙◌, ◌≤◌, ℕ, zero, suc, ◌+◌, ◌||◌, ◌&&◌, Bool, true, false, cond, List, [], ◌∷◌, length, take, drop, refl, sym, ap, arith, one-add}
use Rattle.std.specs.Prelude.{◌==◌, if◌then◌else◌}
use Rattle.std.specs.List.{prefix_len}
use Rattle.std.proofs.lemmas.Bool.Decides.{Decides-eqb}
use Rattle.lf_lexer.specs.LineRest.{ends_line, line_rest}
use Rattle.lf_lexer.specs.SourceLines.{full_line_len, is_line_end, content}

-- a line ends at a line feed or at a carriage return
ends_with : (byte : ℕ) (bytes : List ℕ) → ends_line (byte ∷ bytes) ≡ true → (byte == 10) || (byte == 13) ≡ true
ends_with byte [] e = ap (λ (b : Bool). b || (byte == 13)) e
ends_with byte (next ∷ rest) e = by_test (byte == 10) (byte == 13) (next == 10) e
  where
    by_test : (l c n : Bool) → l || (c && n) ≡ true → l || c ≡ true
    by_test true c n e = refl
    by_test false true n e = refl
    by_test false false n e = e

-- what a line's end doesn't have goes on up to it
module _ (test : ℕ → Bool) (feed : test 10 ≡ false) (return : test 13 ≡ false) where
  pub stops_there : (byte : ℕ) (bytes : List ℕ) → ends_line (byte ∷ bytes) ≡ true → test byte ≡ false
  stops_there byte bytes e = by_test (byte == 10) (byte == 13) refl refl (ends_with byte bytes e)
    where
      by_test : (l c : Bool) → (byte == 10) ≡ l → (byte == 13) ≡ c → l || c ≡ true → test byte ≡ false
      by_test true c l_is c_is e = ap test ((Decides-eqb byte 10).0 l_is) ∙ feed
      by_test false true l_is c_is e = ap test ((Decides-eqb byte 13).0 c_is) ∙ return
      by_test false false l_is c_is e = cc

  pub rest_prefix : (bytes : List ℕ) → prefix_len test (line_rest bytes) ≡ prefix_len test bytes
  rest_prefix [] = refl
  rest_prefix (byte ∷ bytes) = by_test (ends_line (byte ∷ bytes)) refl (rest_prefix bytes)
    where
      by_test : (b : Bool) → ends_line (byte ∷ bytes) ≡ b → prefix_len test (line_rest bytes) ≡ prefix_len test bytes
          → prefix_len test (if b then [] else byte ∷ line_rest bytes) ≡ prefix_len test (byte ∷ bytes)
      by_test true e h = sym (ap (λ (b : Bool). cond b (1 + prefix_len test bytes) 0) (stops_there byte bytes e))
      by_test false e h = ap (λ (n : ℕ). cond (test byte) (1 + n) 0) h

-- it is a front of the bytes
pub rest_short : (bytes : List ℕ) → length (line_rest bytes) ≤ length bytes
rest_short [] = omega arith
rest_short (byte ∷ bytes) = by_test (ends_line (byte ∷ bytes)) (rest_short bytes)
  where
    by_test : (b : Bool) → length (line_rest bytes) ≤ length bytes → length (if b then [] else byte ∷ line_rest bytes) ≤ suc (length bytes)
    by_test true h = omega arith
    by_test false h = omega arith

pub rest_take : (n : ℕ) (bytes : List ℕ) → n ≤ length (line_rest bytes) → take n (line_rest bytes) ≡ take n bytes
rest_take zero bytes le = refl
rest_take (suc n) [] le = refl
rest_take (suc n) (byte ∷ bytes) le = by_test (ends_line (byte ∷ bytes)) (rest_take n bytes) le
  where
    by_test : (b : Bool) → (n ≤ length (line_rest bytes) → take n (line_rest bytes) ≡ take n bytes) → suc n ≤ length (if b then [] else byte ∷ line_rest bytes)
        → take (suc n) (if b then [] else byte ∷ line_rest bytes) ≡ byte ∷ take n bytes
    by_test true h le = absurd (omega arith)
    by_test false h le = ap (λ (l : List ℕ). byte ∷ l) (h (omega arith))

pub rest_drop : (n : ℕ) (bytes : List ℕ) → n ≤ length (line_rest bytes) → line_rest (drop n bytes) ≡ drop n (line_rest bytes)
rest_drop zero bytes le = refl
rest_drop (suc n) [] le = refl
rest_drop (suc n) (byte ∷ bytes) le = by_test (ends_line (byte ∷ bytes)) (rest_drop n bytes) le
  where
    by_test : (b : Bool) → (n ≤ length (line_rest bytes) → line_rest (drop n bytes) ≡ drop n (line_rest bytes)) → suc n ≤ length (if b then [] else byte ∷ line_rest bytes)
        → line_rest (drop n bytes) ≡ drop (suc n) (if b then [] else byte ∷ line_rest bytes)
    by_test true h le = absurd (omega arith)
    by_test false h le = h (omega arith)

-- a line that goes on has no line feed here
goes_on : (byte : ℕ) (bytes : List ℕ) → ends_line (byte ∷ bytes) ≡ false → (byte == 10) ≡ false
goes_on byte [] e = e
goes_on byte (next ∷ rest) e = by_test (byte == 10) ((byte == 13) && (next == 10)) e
  where
    by_test : (l c : Bool) → l || c ≡ false → l ≡ false
    by_test true c e = e
    by_test false c e = refl

-- the line with its end, after some bytes of it
pub full_len_after : (n : ℕ) (bytes : List ℕ) → n ≤ length (line_rest bytes) → n + full_line_len (drop n bytes) ≡ full_line_len bytes
full_len_after zero bytes le = omega arith
full_len_after (suc n) [] le = absurd (omega arith)
full_len_after (suc n) (byte ∷ bytes) le = by_test (ends_line (byte ∷ bytes)) refl (full_len_after n bytes) le
  where
    by_test : (b : Bool) → ends_line (byte ∷ bytes) ≡ b → (n ≤ length (line_rest bytes) → n + full_line_len (drop n bytes) ≡ full_line_len bytes)
        → suc n ≤ length (if b then [] else byte ∷ line_rest bytes) → suc n + full_line_len (drop n bytes) ≡ full_line_len (byte ∷ bytes)
    by_test true e h le = absurd (omega arith)
    by_test false e h le =
        let one : suc n + full_line_len (drop n bytes) ≡ 1 + full_line_len bytes = let same = h (omega arith) in omega arith in
        one ∙ sym (ap (λ (b : Bool). if b then 1 else 1 + full_line_len bytes) (goes_on byte bytes e))

-- where the first line ends, on the line alone and on all bytes
end_of_line : (byte : ℕ) (bytes : List ℕ) → (byte == 10) ≡ false → is_line_end (byte ∷ take (full_line_len bytes) bytes) ≡ ends_line (byte ∷ bytes)
end_of_line byte [] e = refl
end_of_line byte (next ∷ rest) e = by_next (next == 10) refl
  where
    never : (c : Bool) → false ≡ c && false
    never true = refl
    never false = refl

    -- a byte that is no line feed, and what follows it on the line
    two : (n : ℕ) (rest : List ℕ) → (next == 10) ≡ false → is_line_end (byte ∷ next ∷ take n rest) ≡ (byte == 10) || ((byte == 13) && (next == 10))
    two zero rest n_is = rw (e, n_is) refl
    two (suc n) [] n_is = rw (e, n_is) refl
    two (suc n) (third ∷ rest) n_is = rw (e, n_is) (never (byte == 13))

    by_next : (b : Bool) → (next == 10) ≡ b → is_line_end (byte ∷ take (if b then 1 else 1 + full_line_len rest) (next ∷ rest)) ≡ (byte == 10) || ((byte == 13) && (next == 10))
    by_next true n_is = rw e refl
    by_next false n_is = rw (one-add (full_line_len rest)) (two (full_line_len rest) rest n_is)

-- it is the first line without its end
pub rest_is_content : (bytes : List ℕ) → line_rest bytes ≡ content (take (full_line_len bytes) bytes)
rest_is_content [] = refl
rest_is_content (byte ∷ bytes) = by_feed (byte == 10) refl (rest_is_content bytes)
  where
    ends_at_feed : (bytes : List ℕ) → (byte == 10) ≡ true → ends_line (byte ∷ bytes) ≡ true
    ends_at_feed [] e = e
    ends_at_feed (next ∷ rest) e = ap (λ (b : Bool). b || ((byte == 13) && (next == 10))) e

    by_feed : (b : Bool) → (byte == 10) ≡ b → line_rest bytes ≡ content (take (full_line_len bytes) bytes)
        → line_rest (byte ∷ bytes) ≡ content (take (if b then 1 else 1 + full_line_len bytes) (byte ∷ bytes))
    by_feed true e h =
        ap (λ (b : Bool). if b then [] else byte ∷ line_rest bytes) (ends_at_feed bytes e)
        ∙ sym (ap (λ (b : Bool). if b then [] else byte ∷ []) e)
    by_feed false e h =
        rw (one-add (full_line_len bytes))
        (ap (λ (l : List ℕ). if ends_line (byte ∷ bytes) then [] else byte ∷ l) h
        ∙ ap (λ (b : Bool). if b then [] else byte ∷ content (take (full_line_len bytes) bytes)) (sym (end_of_line byte bytes e)))

pub full_len_within : (bytes : List ℕ) → full_line_len bytes ≤ length bytes
full_len_within [] = omega arith
full_len_within (byte ∷ bytes) = by_test (byte == 10) (full_len_within bytes)
  where
    by_test : (b : Bool) → full_line_len bytes ≤ length bytes → (if b then 1 else 1 + full_line_len bytes) ≤ suc (length bytes)
    by_test true h = omega arith
    by_test false h = omega arith
