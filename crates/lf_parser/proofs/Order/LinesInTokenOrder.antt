-- What it means that lines of statements stand among tokens in this order, a line's end between one and the next, and that a rule adds its lines so.
use Rattle.std.proofs.Common.{Bool, List, None, Option, Some, [], ap, append-nil, arith, false, inl, inr, refl, subst, sym, true, ℕ, suc, ◌++◌, ◌<◌, ◌≤◌, ◌∙◌, ◌∷◌, ◌≡◌}
use Rattle.std.specs.Prelude.{eqb, if◌then◌else◌, ltb}
use Rattle.std.proofs.lemmas.Bool.Decides.{Decides-eqb, Decides-ltb}
use Rattle.lf_base.specs.Sets.{Member}
use Rattle.lf_lexer.specs.declared.tokens.Lexeme.{Lexeme}
use Rattle.lf_lexer.specs.declared.tokens.Lexeme.TheVariants as lexeme
use Rattle.lf_lexer.specs.declared.tokens.Mark.{Mark}
use Rattle.lf_lexer.specs.declared.tokens.Mark.TheVariants as mark
use Rattle.lf_lexer.specs.declared.tokens.Token.{Token}
use Rattle.lf_lexer.specs.LineOrder.{least_line, OnLines}
use Rattle.lf_parser.specs.Forms.{Form, Takes, Located}
use Rattle.lf_parser.specs.Grammar.{NewLine, Sign}
use Rattle.lf_parser.specs.Kinds.{lexeme_kind, mark_kind, NEW_LINE}
use Rattle.lf_parser.specs.Ascending.{Ascending}
use Rattle.lf_parser.proofs.Order.AddedItems.{Among, AddsInOrder}

-- where a statement may begin, and where none may before a line ends
pub data Where : Type 0 where
  at_line : Where
  in_line : Where

pub data Lined : Where → Where → List ℕ → List Token → Type 0 where
  rests : {i : Where} → Lined i i [] []
  past : {i j : Where} {lines : List ℕ} {t : Token} {tokens : List Token} → Lined i j lines tokens → Lined i j lines (t ∷ tokens)
  enters : {j : Where} {lines : List ℕ} {t : Token} {tokens : List Token} → Lined in_line j lines tokens → Lined at_line j lines (t ∷ tokens)
  begins : {j : Where} {line : ℕ} {lines : List ℕ} {t : Token} {tokens : List Token} → t.place.line ≡ line → Lined in_line j lines tokens → Lined at_line j (line ∷ lines) (t ∷ tokens)
  ends : {j : Where} {lines : List ℕ} {t : Token} {tokens : List Token} → t.lexeme ≡ lexeme.NewLine → Lined at_line j lines tokens → Lined in_line j lines (t ∷ tokens)

pub none_lined : (i : Where) (tokens : List Token) → Lined i i [] tokens
none_lined i [] = rests
none_lined i (t ∷ tokens) = past (none_lined i tokens)

pub lined_after : {i j k : Where} {us vs : List ℕ} {xs ys : List Token} → Lined i j us xs → Lined j k vs ys → Lined i k (us ++ vs) (xs ++ ys)
lined_after rests q = q
lined_after (past p) q = past (lined_after p q)
lined_after (enters p) q = enters (lined_after p q)
lined_after (begins e p) q = begins e (lined_after p q)
lined_after (ends e p) q = ends e (lined_after p q)

abbrev pub lines_among : Among Where ℕ
lines_among = record { Stand = Lined; none = none_lined; join = λ p q. lined_after p q }

-- a form whose values have these lines and those of its tokens
abbrev pub AddsLines : {A : Type 0} → Where → Where → List ℕ → (A → List ℕ) → Form A → Type 0
AddsLines i j before f P = AddsInOrder lines_among i j before f P

-- ---- single tokens
taken_if : (t a : Token) (b : Bool) → (if b then Some t else None) ≡ Some a → (t ≡ a) × (b ≡ true)
taken_if t a true e = ((let k : t ≡ a = cc in k), refl)
taken_if t a false e = absurd (cc)

no_line_end : (m : Mark) → eqb (mark_kind m) NEW_LINE ≡ false
no_line_end mark.And = refl
no_line_end _ = refl

is_line_end : (l : Lexeme) → eqb (lexeme_kind l) NEW_LINE ≡ true → l ≡ lexeme.NewLine
is_line_end lexeme.NewLine e = refl
is_line_end (lexeme.Mark m) e = let k : true ≡ false = sym e ∙ no_line_end m in absurd (cc)
is_line_end _ e = absurd (cc)

-- a word that begins a statement
pub takes_line : {before : List ℕ} (m : Mark) → AddsLines at_line in_line before (λ t. before ++ t.place.line ∷ []) (Sign m)
takes_line {before} m = record {
  each = λ ts a h.
      let same = (taken_if h.0 a _ h.2).0 in
      record { items = a.place.line ∷ []; is = refl; stand = subst (Lined at_line in_line (a.place.line ∷ [])) (sym h.1) (begins (ap (λ t. t.place.line) same) rests) };
}

-- a word that begins a line and no statement
pub takes_word : {A : Type 0} {before : List ℕ} {make : Token → Option A} → AddsLines at_line in_line before (λ _. before) (Takes make)
takes_word {before = before} = record {
  each = λ ts a h. record { items = []; is = sym (append-nil before); stand = subst (Lined at_line in_line []) (sym h.1) (enters rests) };
}

pub takes_end : {before : List ℕ} → AddsLines in_line at_line before (λ _. before) NewLine
takes_end {before} = record {
  each = λ ts a h.
      let is_end = is_line_end (h.0).lexeme (taken_if h.0 a _ h.2).1 in
      record { items = []; is = sym (append-nil before); stand = subst (Lined in_line at_line []) (sym h.1) (ends is_end rests) };
}

-- a form whose values have its first token's line
pub located_line : {A : Type 0} {f : A → List ℕ} {P : ℕ → Form A} → ((line : ℕ) (ts : List Token) (a : A) → P line ts a → f a ≡ line ∷ []) → AddsLines at_line in_line [] f (Located P)
located_line {f = f} h = record {
  each = λ ts a l.
      record { items = (l.0).place.line ∷ []; is = h (l.0).place.line ts a l.3; stand = subst (Lined at_line in_line ((l.0).place.line ∷ [])) (sym l.2) (begins refl (none_lined in_line l.1)) };
}

-- ---- that the lines rise
-- the least line of a statement, from a place of this line on
abbrev floor : Where → ℕ → ℕ
floor at_line n = n
floor in_line n = suc n

floor_up : (i : Where) (n m y : ℕ) → n ≤ m → floor i m ≤ y → floor i n ≤ y
floor_up at_line n m y le h = omega arith
floor_up in_line n m y le h = omega arith

least_above : (l : Lexeme) (n : ℕ) → n ≤ least_line l n
least_above lexeme.NewLine n = omega arith
least_above _ n = omega arith

lines_above : {i j : Where} {lines : List ℕ} {tokens : List Token} → Lined i j lines tokens → (n : ℕ) → OnLines n tokens → (y : ℕ) → Member y lines → floor i n ≤ y
lines_above rests n o y m = absurd m
lines_above (past {i} {t = t} p) n o y m =
    let le = o.0 in let up = least_above t.lexeme t.place.line in
    floor_up i n (least_line t.lexeme t.place.line) y (omega arith) (lines_above p _ o.1 y m)
lines_above (enters {t = t} p) n o y m = let le = o.0 in let up = least_above t.lexeme t.place.line in let h = lines_above p _ o.1 y m in omega arith
lines_above (begins {t = t} e p) n o y (inl same) = let le = o.0 in omega (arith, e, same)
lines_above (begins {t = t} e p) n o y (inr m) = let le = o.0 in let up = least_above t.lexeme t.place.line in let h = lines_above p _ o.1 y m in omega arith
lines_above (ends {t = t} {tokens = tokens} e p) n o y m =
    let le = o.0 in
    let h = lines_above p (suc t.place.line) (subst (λ l. OnLines (least_line l t.place.line) tokens) e o.1) y m in
    omega arith

pub lines_ascend : {i j : Where} {lines : List ℕ} {tokens : List Token} → Lined i j lines tokens → (n : ℕ) → OnLines n tokens → Ascending ltb lines
lines_ascend rests n o = tt
lines_ascend (past p) n o = lines_ascend p _ o.1
lines_ascend (enters p) n o = lines_ascend p _ o.1
lines_ascend (begins {line = line} {t = t} e p) n o = (
  (λ y m. (Decides-ltb line y).1 (let up = least_above t.lexeme t.place.line in let h = lines_above p _ o.1 y m in let k : line < y = omega (arith, e) in k)),
  lines_ascend p _ o.1,
)
lines_ascend (ends e p) n o = lines_ascend p _ o.1

-- one line isn't before itself
pub lines_apart : (line x y : ℕ) → eqb line x ≡ true → eqb line y ≡ true → ltb x y ≡ true → ⊥
lines_apart line x y h k e =
    let a = (Decides-eqb line x).0 h in
    let b = (Decides-eqb line y).0 k in
    let c = (Decides-ltb x y).0 e in
    omega (arith, a, b, c)
