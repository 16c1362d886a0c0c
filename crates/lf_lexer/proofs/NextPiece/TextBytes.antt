-- The bytes between the quotes of a text: where they end, and what they mean.
use Rattle.std.proofs.Common.{◌≡◌, ◌∙◌, ℕ, ◌+◌, ◌≤◌, ◌||◌, Bool, true, false, List, [], ◌∷◌, ◌++◌, length, take, drop, refl, sym, ap, subst, arith, append-nil, append_assoc, length-append}
use Rattle.std.specs.Prelude.{◌==◌, if◌then◌else◌}
use Rattle.std.proofs.lemmas.Bool.Decides.{nat_tests, Decides-eqb}
use Rattle.std.proofs.Math.Seq.{take-append_seam, drop-append_seam}
use Rattle.lf_base.specs.Texts.{Text}
use Rattle.lf_base.specs.declared.refusals.RefusalKind.TheVariants.{BadByte, OpenText}
use Rattle.lf_lexer.specs.declared.texts.TextEnd.{TextEnd}
use Rattle.lf_lexer.specs.declared.texts.TextEnd.TheVariants.{Closed, Open, Bad}
use Rattle.lf_lexer.specs.Bytes.{is_text_byte}
use Rattle.lf_lexer.specs.Meaning.{meaning}
use Rattle.lf_lexer.specs.Pieces.{TextBytes}
use Rattle.lf_lexer.specs.Pieces as p
use Rattle.lf_lexer.specs.Front.{text_end}
use Rattle.lf_lexer.specs.Refusals.{FrontRefused}
use Rattle.lf_lexer.specs.Refusals as r

no_quote : (byte : ℕ) → is_text_byte byte ≡ true → (byte == 34) ≡ false
no_quote byte h = grind (arith, nat_tests)

no_slash : (byte : ℕ) → is_text_byte byte ≡ true → (byte == 92) ≡ false
no_slash byte h = grind (arith, nat_tests)

-- a byte that stands for itself
pub third_test : (q s t b : Bool) (x y z w : TextEnd) → q ≡ false → s ≡ false → t ≡ b → (if q then x else if s then y else if t then z else w) ≡ (if b then z else w)
third_test true s t b x y z w hq hs ht = cc
third_test false true t b x y z w hq hs ht = cc
third_test false false t b x y z w hq hs ht = ap (λ (c : Bool). if c then z else w) ht

text_end_byte : (at byte : ℕ) (tail : List ℕ) → is_text_byte byte ≡ true → text_end at (byte ∷ tail) ≡ text_end (at + 1) tail
unfolding text_end
text_end_byte at byte [] h = third_test (byte == 34) (byte == 92) (is_text_byte byte) true (Closed at) Open Open (Bad at) (no_quote byte h) (no_slash byte h) h
text_end_byte at byte (next ∷ tail) h =
    third_test (byte == 34) (byte == 92) (is_text_byte byte) true (Closed at) (if (next == 34) || (next == 92) then text_end (at + 2) tail else Bad (at + 1))
    (text_end (at + 1) (next ∷ tail)) (Bad at) (no_quote byte h) (no_slash byte h) h

-- the end of a text is that of what stands after good bytes
pub text_end_after : (at : ℕ) (bytes : List ℕ) (text : Text) (tail : List ℕ) → TextBytes bytes text → text_end at (bytes ++ tail) ≡ text_end (at + length bytes) tail
unfolding text_end
text_end_after at _ _ tail p.no_byte = ap (λ (n : ℕ). text_end n tail) (let e : at ≡ at + 0 = omega arith in e)
text_end_after at _ _ tail (p.byte_itself {byte = byte} {bytes = bytes} {text = text} h rest) =
    text_end_byte at byte (bytes ++ tail) h ∙ text_end_after (at + 1) bytes text tail rest
    ∙ ap (λ (n : ℕ). text_end n tail) (let e : at + 1 + length bytes ≡ at + length (byte ∷ bytes) = omega arith in e)
text_end_after at _ _ tail (p.quote_pair {bytes = bytes} {text = text} rest) =
    text_end_after (at + 2) bytes text tail rest
    ∙ ap (λ (n : ℕ). text_end n tail) (let e : at + 2 + length bytes ≡ at + length (92 ∷ 34 ∷ bytes) = omega arith in e)
text_end_after at _ _ tail (p.slash_pair {bytes = bytes} {text = text} rest) =
    text_end_after (at + 2) bytes text tail rest
    ∙ ap (λ (n : ℕ). text_end n tail) (let e : at + 2 + length bytes ≡ at + length (92 ∷ 92 ∷ bytes) = omega arith in e)

-- what good bytes mean
pub meaning_is : (bytes : List ℕ) (text : Text) → TextBytes bytes text → meaning bytes ≡ text
unfolding meaning
meaning_is _ _ p.no_byte = refl
meaning_is _ _ (p.byte_itself {byte = byte} {bytes = []} {text = text} h rest) = ap (λ (t : Text). byte ∷ t) (meaning_is [] text rest)
meaning_is _ _ (p.byte_itself {byte = byte} {bytes = next ∷ bytes} {text = text} h rest) =
    rw (no_slash byte h) (ap (λ (t : Text). byte ∷ t) (meaning_is (next ∷ bytes) text rest))
meaning_is _ _ (p.quote_pair {bytes = bytes} {text = text} rest) = ap (λ (t : Text). 34 ∷ t) (meaning_is bytes text rest)
meaning_is _ _ (p.slash_pair {bytes = bytes} {text = text} rest) = ap (λ (t : Text). 92 ∷ t) (meaning_is bytes text rest)

-- good bytes after good bytes
pub text_bytes_on : (bytes : List ℕ) (text : Text) (more : List ℕ) (others : Text) → TextBytes bytes text → TextBytes more others → TextBytes (bytes ++ more) (text ++ others)
text_bytes_on _ _ more others p.no_byte rest = rest
text_bytes_on _ _ more others (p.byte_itself {bytes = bytes} {text = text} h good) rest = p.byte_itself h (text_bytes_on bytes text more others good rest)
text_bytes_on _ _ more others (p.quote_pair {bytes = bytes} {text = text} good) rest = p.quote_pair (text_bytes_on bytes text more others good rest)
text_bytes_on _ _ more others (p.slash_pair {bytes = bytes} {text = text} good) rest = p.slash_pair (text_bytes_on bytes text more others good rest)

-- a closed text
pub record ClosedText (all : List ℕ) (len : ℕ) : Type 0 where
  pub good : TextBytes (take len all) (meaning (take len all))
  pub closes : all ≡ take len all ++ 34 ∷ drop (len + 1) all
  pub within : len + 1 ≤ length all

-- what the function says of the end is so
abbrev pub TextStands : List ℕ → TextEnd → Type 0
TextStands all (Closed len) = ClosedText all len
TextStands all Open = FrontRefused (34 ∷ all) OpenText 0
TextStands all (Bad at) = FrontRefused (34 ∷ all) BadByte (at + 1)

closed_text : (before : List ℕ) (text : Text) (rest : List ℕ) → TextBytes before text → ClosedText (before ++ 34 ∷ rest) (length before)
closed_text before text rest good =
    let front : take (length before) (before ++ 34 ∷ rest) ≡ before = take-append_seam before (34 ∷ rest) in
    let one : before ++ 34 ∷ rest ≡ (before ++ 34 ∷ []) ++ rest = sym (append_assoc before (34 ∷ []) rest) in
    let long : length (before ++ 34 ∷ []) ≡ length before + 1 = length-append before (34 ∷ []) in
    let back : drop (length before + 1) (before ++ 34 ∷ rest) ≡ rest =
    ap (λ (n : ℕ). drop n (before ++ 34 ∷ rest)) (sym long) ∙ ap (drop (length (before ++ 34 ∷ []))) one ∙ drop-append_seam (before ++ 34 ∷ []) rest in
    record {
      good = subst (λ (bytes : List ℕ). TextBytes bytes (meaning bytes)) (sym front) (subst (TextBytes before) (sym (meaning_is before text good)) good);
      closes = sym (ap (λ (bytes : List ℕ). bytes ++ 34 ∷ drop (length before + 1) (before ++ 34 ∷ rest)) front ∙ ap (λ (bytes : List ℕ). before ++ 34 ∷ bytes) back);
      within = let l : length (before ++ 34 ∷ rest) ≡ length before + length (34 ∷ rest) = length-append before (34 ∷ rest) in omega arith;
    }

module _ (before : List ℕ) (text : Text) (good : TextBytes before text) where
  open_here : TextStands (before ++ []) Open
  open_here = subst (λ (all : List ℕ). FrontRefused (34 ∷ all) OpenText 0) (sym (append-nil before)) (r.open_text before text good)

  bad_here : (byte : ℕ) (rest : List ℕ) → is_text_byte byte ≡ false → (byte == 34) ≡ false → (byte == 92) ≡ false → TextStands (before ++ byte ∷ rest) (Bad (length before))
  bad_here byte rest t q s = r.bad_in_text before text byte rest good t q s

  bad_pair_here : (byte : ℕ) (rest : List ℕ) → (byte == 34) ≡ false → (byte == 92) ≡ false → TextStands (before ++ 92 ∷ byte ∷ rest) (Bad (length before + 1))
  bad_pair_here byte rest q s =
      subst (FrontRefused (34 ∷ (before ++ 92 ∷ byte ∷ rest)) BadByte) (let e : length before + 2 ≡ length before + 1 + 1 = omega arith in e) (r.bad_pair before text byte rest good q s)

-- the bytes so far with some more
moved : (before more rest : List ℕ) (at : ℕ) → length (before ++ more) ≡ at → TextStands ((before ++ more) ++ rest) (text_end (length (before ++ more)) rest)
    → TextStands (before ++ (more ++ rest)) (text_end at rest)
moved before more rest at long stands =
    subst (λ (all : List ℕ). TextStands all (text_end at rest)) (append_assoc before more rest)
    (subst (λ (n : ℕ). TextStands ((before ++ more) ++ rest) (text_end n rest)) long stands)

-- what stands after more good bytes
abbrev TextAfter : List ℕ → List ℕ → Type 0
TextAfter before tail = (more : List ℕ) (meant : Text) → TextBytes more meant → TextStands ((before ++ more) ++ tail) (text_end (length (before ++ more)) tail)

pub text_stands_after : (before : List ℕ) (text : Text) → TextBytes before text → (bytes : List ℕ) → TextStands (before ++ bytes) (text_end (length before) bytes)
unfolding text_end
text_stands_after before text good [] = open_here before text good
text_stands_after before text good (byte ∷ []) = by_quote (byte == 34) refl
  where
    by_byte : (b : Bool) → is_text_byte byte ≡ b → (byte == 34) ≡ false → (byte == 92) ≡ false → TextStands (before ++ byte ∷ []) (if b then Open else Bad (length before))
    by_byte true t q s = r.open_text _ _ (text_bytes_on before text (byte ∷ []) (byte ∷ []) good (p.byte_itself t p.no_byte))
    by_byte false t q s = bad_here before text good byte [] t q s

    by_slash : (b : Bool) → (byte == 92) ≡ b → (byte == 34) ≡ false
        → TextStands (before ++ byte ∷ []) (if b then Open else if is_text_byte byte then Open else Bad (length before))
    by_slash true s q = subst (λ (n : ℕ). FrontRefused (34 ∷ (before ++ n ∷ [])) OpenText 0) (sym ((Decides-eqb byte 92).0 s)) (r.open_pair before text good)
    by_slash false s q = by_byte (is_text_byte byte) refl q s

    by_quote : (b : Bool) → (byte == 34) ≡ b
        → TextStands (before ++ byte ∷ []) (if b then Closed (length before) else if byte == 92 then Open else if is_text_byte byte then Open else Bad (length before))
    by_quote true q = subst (λ (n : ℕ). ClosedText (before ++ n ∷ []) (length before)) (sym ((Decides-eqb byte 34).0 q)) (closed_text before text [] good)
    by_quote false q = by_slash (byte == 92) refl q
text_stands_after before text good (byte ∷ next ∷ rest) =
    by_quote (byte == 34) refl
    (λ more meant fine. text_stands_after (before ++ more) (text ++ meant) (text_bytes_on before text more meant good fine) rest)
    (λ more meant fine. text_stands_after (before ++ more) (text ++ meant) (text_bytes_on before text more meant good fine) (next ∷ rest))
  where
    long : (more : List ℕ) → length (before ++ more) ≡ length before + length more
    long more = length-append before more

    by_pair : (q s : Bool) → (next == 34) ≡ q → (next == 92) ≡ s → TextAfter before rest
        → TextStands (before ++ 92 ∷ next ∷ rest) (if q || s then text_end (length before + 2) rest else Bad (length before + 1))
    by_pair true s q' s' after =
        moved before (92 ∷ next ∷ []) rest (length before + 2) (long (92 ∷ next ∷ []))
        (after (92 ∷ next ∷ []) (34 ∷ []) (subst (λ (n : ℕ). TextBytes (92 ∷ n ∷ []) (34 ∷ [])) (sym ((Decides-eqb next 34).0 q')) (p.quote_pair p.no_byte)))
    by_pair false true q' s' after =
        moved before (92 ∷ next ∷ []) rest (length before + 2) (long (92 ∷ next ∷ []))
        (after (92 ∷ next ∷ []) (92 ∷ []) (subst (λ (n : ℕ). TextBytes (92 ∷ n ∷ []) (92 ∷ [])) (sym ((Decides-eqb next 92).0 s')) (p.slash_pair p.no_byte)))
    by_pair false false q' s' after = bad_pair_here before text good next rest q' s'

    by_byte : (b : Bool) → is_text_byte byte ≡ b → (byte == 34) ≡ false → (byte == 92) ≡ false → TextAfter before (next ∷ rest)
        → TextStands (before ++ byte ∷ next ∷ rest) (if b then text_end (length before + 1) (next ∷ rest) else Bad (length before))
    by_byte true t q s after =
        moved before (byte ∷ []) (next ∷ rest) (length before + 1) (long (byte ∷ [])) (after (byte ∷ []) (byte ∷ []) (p.byte_itself t p.no_byte))
    by_byte false t q s after = bad_here before text good byte (next ∷ rest) t q s

    by_slash : (b : Bool) → (byte == 92) ≡ b → (byte == 34) ≡ false → TextAfter before rest → TextAfter before (next ∷ rest)
        → TextStands (before ++ byte ∷ next ∷ rest)
        (if b then (if (next == 34) || (next == 92) then text_end (length before + 2) rest else Bad (length before + 1))
        else if is_text_byte byte then text_end (length before + 1) (next ∷ rest) else Bad (length before))
    by_slash true s q after_two after_one =
        subst (λ (n : ℕ). TextStands (before ++ n ∷ next ∷ rest) (if (next == 34) || (next == 92) then text_end (length before + 2) rest else Bad (length before + 1)))
        (sym ((Decides-eqb byte 92).0 s)) (by_pair (next == 34) (next == 92) refl refl after_two)
    by_slash false s q after_two after_one = by_byte (is_text_byte byte) refl q s after_one

    by_quote : (b : Bool) → (byte == 34) ≡ b → TextAfter before rest → TextAfter before (next ∷ rest)
        → TextStands (before ++ byte ∷ next ∷ rest)
        (if b then Closed (length before) else
        if byte == 92 then (if (next == 34) || (next == 92) then text_end (length before + 2) rest else Bad (length before + 1))
        else if is_text_byte byte then text_end (length before + 1) (next ∷ rest) else Bad (length before))
    by_quote true q after_two after_one =
        subst (λ (n : ℕ). ClosedText (before ++ n ∷ next ∷ rest) (length before)) (sym ((Decides-eqb byte 34).0 q)) (closed_text before text (next ∷ rest) good)
    by_quote false q after_two after_one = by_slash (byte == 92) refl q after_two after_one

pub text_stands : (bytes : List ℕ) → TextStands bytes (text_end 0 bytes)
text_stands bytes = text_stands_after [] [] p.no_byte bytes
