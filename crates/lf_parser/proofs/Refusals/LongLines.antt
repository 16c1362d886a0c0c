-- Lines that are too long, and the first token that is one too many on its line.
use Rattle.std.proofs.Common.{◌≡◌, ℕ, zero, suc, ◌+◌, ◌<◌, ◌≤◌, List, [], ◌∷◌, ◌++◌, length, take, get_or, Bool, true, false, ltb, refl, sym, ap, ap₂, ◌∙◌, subst, arith, append-nil, append_assoc, length-append, ◌⊎◌, inl, inr}
use Rattle.std.proofs.lemmas.Bool.{ltb-true, ltb-false}
use Rattle.std.proofs.lemmas.List.{take_all, take_more}
use Rattle.lf_base.specs.declared.limits.TheConstants.{MOST_LINE_TOKENS}
use Rattle.lf_lexer.specs.declared.tokens.Token.{Token}
use Rattle.lf_parser.specs.Refusals.{count_after, count_on, last_count, LinesFit, IsFirstPast}

count_append : (n : ℕ) (xs ys : List Token) → count_on n (xs ++ ys) ≡ count_on (count_on n xs) ys
count_append n [] ys = refl
count_append n (x ∷ xs) ys = count_append (count_after n x.lexeme) xs ys

-- ---- fronts of lines that fit
pub fits_prefix : (ts xs ys : List Token) → ts ≡ xs ++ ys → LinesFit ts → LinesFit xs
fits_prefix ts xs ys e l prefix rest h = l prefix (rest ++ ys) (e ∙ ap (λ z. z ++ ys) h ∙ append_assoc prefix rest ys)

-- what stands before a token is a prefix of all but the last one
before_last : (xs prefix rest : List Token) (x y : Token) → xs ++ x ∷ [] ≡ prefix ++ y ∷ rest → (more : List Token) × (xs ≡ prefix ++ more)
before_last xs [] rest x y e = (xs, refl)
before_last [] (t ∷ prefix) rest x y e = absurd (let n = ap length e in omega (arith, n, length-append prefix (y ∷ rest)))
before_last (u ∷ xs) (t ∷ prefix) rest x y e =
    let same : u ≡ t = cc in
    let tails : xs ++ x ∷ [] ≡ prefix ++ y ∷ rest = cc in
    let h = before_last xs prefix rest x y tails in
    (h.0, ap₂ (λ z zs. z ∷ zs) same h.1)

pub fits_before : (xs prefix rest : List Token) (x y : Token) → LinesFit xs → xs ++ x ∷ [] ≡ prefix ++ y ∷ rest → LinesFit prefix
fits_before xs prefix rest x y l e = let h = before_last xs prefix rest x y e in fits_prefix xs prefix h.0 h.1 l

fits_more : (xs : List Token) (x : Token) → LinesFit xs → last_count (xs ++ x ∷ []) ≤ MOST_LINE_TOKENS → LinesFit (xs ++ x ∷ [])
fits_more xs x l le prefix [] e = subst (λ z. last_count z ≤ MOST_LINE_TOKENS) (e ∙ append-nil prefix) le
fits_more xs x l le prefix (y ∷ rest) e = fits_before xs prefix rest x y l e prefix [] (sym (append-nil prefix))

pub none_fit : LinesFit []
none_fit [] rest e = omega arith
none_fit (t ∷ prefix) rest e = absurd (cc)

-- ---- one token more, where n is the count before it and m the count with it
module _ (ts : List Token) (i : ℕ) (d : Token) (lt : i < length ts) (n m : ℕ) (before : n ≡ last_count (take i ts)) (with_it : m ≡ count_after n (get_or ts i d).lexeme) (l : LinesFit (take i ts)) where
  count_last : m ≡ last_count (take i ts ++ get_or ts i d ∷ [])
  count_last = with_it ∙ ap (λ k. count_after k (get_or ts i d).lexeme) before ∙ sym (count_append 0 (take i ts) (get_or ts i d ∷ []))

  pub count_one_more : m ≡ last_count (take (i + 1) ts)
  count_one_more = count_last ∙ ap last_count (sym (take_more ts i d lt))

  pub fits_one_more : m ≤ MOST_LINE_TOKENS → LinesFit (take (i + 1) ts)
  fits_one_more le = subst LinesFit (sym (take_more ts i d lt)) (fits_more (take i ts) (get_or ts i d) l (subst (λ k. k ≤ MOST_LINE_TOKENS) count_last le))

  pub is_first_past : MOST_LINE_TOKENS < m → IsFirstPast ts i
  is_first_past h = record { there = lt; fits = l; past = subst (λ k. MOST_LINE_TOKENS < k) count_one_more h }

-- ---- lines fit, or some token is the first that is one too many
abbrev FitOrPast : List Token → Type 0
FitOrPast ts = LinesFit ts ⊎ ((i : ℕ) × IsFirstPast ts i)

abbrev count_at : List Token → Token → ℕ → ℕ
count_at ts d i = count_after (last_count (take i ts)) (get_or ts i d).lexeme

scan : (ts : List Token) (d : Token) (k i : ℕ) → i + k ≡ length ts → LinesFit (take i ts) → FitOrPast ts
scan ts d zero i e l = inl (subst LinesFit (take_all i ts (omega arith)) l)
scan ts d (suc k) i e l = by_count (scan ts d k (i + 1) (omega arith)) (ltb MOST_LINE_TOKENS (count_at ts d i)) refl
  where
    by_count : (LinesFit (take (i + 1) ts) → FitOrPast ts) → (b : Bool) → ltb MOST_LINE_TOKENS (count_at ts d i) ≡ b → FitOrPast ts
    by_count go true h = inr (i, is_first_past ts i d (omega arith) _ _ refl refl l (ltb-true MOST_LINE_TOKENS (count_at ts d i) h))
    by_count go false h = go (fits_one_more ts i d (omega arith) _ _ refl refl l (ltb-false MOST_LINE_TOKENS (count_at ts d i) h))

pub fit_or_past : (ts : List Token) → FitOrPast ts
fit_or_past [] = inl none_fit
fit_or_past (t ∷ ts) = scan (t ∷ ts) t (length (t ∷ ts)) 0 (omega arith) none_fit
