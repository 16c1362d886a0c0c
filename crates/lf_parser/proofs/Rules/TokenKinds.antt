-- What is known of tokens by their kinds: which begin a rule, which may follow it, and which are taken by which rule.
use Rattle.std.proofs.Common.{◌≡◌, ℕ, ◌<◌, ◌≤◌, Option, Some, None, Bool, true, false, refl, sym, ap, ◌∙◌, arith}
use Rattle.std.specs.Prelude.{if◌then◌else◌, eqb}
use Rattle.std.proofs.lemmas.Bool.{eqb-true, eq-eqb}
use Rattle.lf_base.specs.declared.refusals.Place.{Place}
use Rattle.lf_base.specs.declared.values.Op.{Op}
use Rattle.lf_lexer.specs.declared.tokens.Token.{Token}
use Rattle.lf_lexer.specs.declared.tokens.Lexeme.{Lexeme}
use Rattle.lf_lexer.specs.declared.tokens.Lexeme.TheVariants as lexeme
use Rattle.lf_lexer.specs.declared.tokens.Mark.TheVariants as mark
use Rattle.lf_parser.specs.declared.name.Name.{Name}
use Rattle.lf_parser.specs.declared.expressions.Level.{Level}
use Rattle.lf_parser.specs.declared.expressions.Level.TheVariants as level
use Rattle.lf_parser.specs.Kinds.{kind, lexeme_kind, is, ASSIGN, END, EXPRESSIONS, LAST_LITERAL, MINUS, MOVE, NAME, NOT, COMPARISONS, LAST_COMPARISON, LAST_SUM, LAST_TERM, SUMS, TERMS}
use Rattle.lf_parser.specs.Plain.{PlainExpr}
use Rattle.lf_parser.specs.Words.{of_kind, name_at, name_of, literal, literal_of, operator, operator_of, is_some, is_operator}
use Rattle.lf_parser.proofs.Rules.RuleProperties.{RuleSetting}
use Rattle.lf_parser.proofs.Rules.OneToken.{Known}

-- a token of this kind, and one of a kind below it
abbrev pub IsKind : ℕ → Option Token → Type 0
IsKind k o = kind o ≡ k

abbrev pub Below : ℕ → Option Token → Type 0
Below k o = kind o < k

-- and no `=` either
abbrev pub Under : ℕ → Option Token → Type 0
Under k o = (kind o < k) × (is ASSIGN o ≡ false)

-- a token that may begin an expression, a comparison, and an operand without a sign
abbrev pub StartsExpr : Option Token → Type 0
StartsExpr o = EXPRESSIONS ≤ kind o

abbrev pub StartsCmp : Option Token → Type 0
StartsCmp o = (EXPRESSIONS ≤ kind o) × (is NOT o ≡ false)

abbrev pub StartsPost : Option Token → Type 0
StartsPost o = (EXPRESSIONS ≤ kind o) × (is NOT o ≡ false) × (is MINUS o ≡ false) × (is MOVE o ≡ false)

pub is_yes : (k : ℕ) (o : Option Token) → kind o ≡ k → is k o ≡ true
is_yes k o e = eq-eqb (kind o) k e

not_equal : (a b : ℕ) → (c : Bool) → eqb a b ≡ c → (a ≡ b → ⊥) → eqb a b ≡ false
not_equal a b true e h = absurd (h (eqb-true a b e))
not_equal a b false e h = e

pub is_no : (k : ℕ) (o : Option Token) → (kind o ≡ k → ⊥) → is k o ≡ false
is_no k o h = not_equal (kind o) k (eqb (kind o) k) refl h

pub kind_under : (k m : ℕ) (o : Option Token) → kind o ≡ k → k < m → (k ≡ ASSIGN → ⊥) → Under m o
kind_under k m o e lt no' = (omega arith, is_no ASSIGN o (λ h. no' (sym e ∙ h)))

pub widen : (k m : ℕ) (o : Option Token) → k ≤ m → Under k o → Under m o
widen k m o le h = let a = h.0 in (omega arith, h.1)

of_kind_is : (k : ℕ) (t a : Token) (b : Bool) → is k (Some t) ≡ b → (if b then Some t else None) ≡ Some a → kind (Some t) ≡ k
of_kind_is k t a true e h = eqb-true (kind (Some t)) k e
of_kind_is k t a false e h = absurd (cc)

named_is : (l : Lexeme) (place : Place) (x : Name) → name_at l place ≡ Some x → lexeme_kind l ≡ NAME
named_is (lexeme.Name id) place x e = refl
named_is _ place x e = absurd (cc)

abbrev pub StartsLiteral : Option Token → Type 0
StartsLiteral o = (EXPRESSIONS ≤ kind o) × (kind o ≤ LAST_LITERAL) × (is NAME o ≡ false)

literal_starts : (l : Lexeme) (e : PlainExpr) → literal l ≡ Some e → (EXPRESSIONS ≤ lexeme_kind l) × (lexeme_kind l ≤ LAST_LITERAL) × (eqb (lexeme_kind l) NAME ≡ false)
literal_starts (lexeme.Number n) e h = (omega arith, omega arith, refl)
literal_starts (lexeme.Text n) e h = (omega arith, omega arith, refl)
literal_starts (lexeme.Mark mark.None) e h = (omega arith, omega arith, refl)
literal_starts (lexeme.Mark mark.True) e h = (omega arith, omega arith, refl)
literal_starts (lexeme.Mark mark.False) e h = (omega arith, omega arith, refl)
literal_starts _ e h = absurd (cc)

-- the kinds of the operators of a level
abbrev pub first_kind : Level → ℕ
first_kind level.Compare = COMPARISONS
first_kind level.Sum = SUMS
first_kind level.Term = TERMS

abbrev pub last_kind : Level → ℕ
last_kind level.Compare = LAST_COMPARISON
last_kind level.Sum = LAST_SUM
last_kind level.Term = LAST_TERM

abbrev pub IsOperator : Level → Option Token → Type 0
IsOperator level o = (first_kind level ≤ kind o) × (kind o ≤ last_kind level) × (is_operator level o ≡ true)

operator_is : (v : Level) (l : Lexeme) (x : Op) → operator v l ≡ Some x → (first_kind v ≤ lexeme_kind l) × (lexeme_kind l ≤ last_kind v)
operator_is level.Compare (lexeme.Mark mark.Equal) x e = (omega arith, omega arith)
operator_is level.Compare (lexeme.Mark mark.NotEqual) x e = (omega arith, omega arith)
operator_is level.Compare (lexeme.Mark mark.Less) x e = (omega arith, omega arith)
operator_is level.Compare (lexeme.Mark mark.LessEqual) x e = (omega arith, omega arith)
operator_is level.Compare (lexeme.Mark mark.Greater) x e = (omega arith, omega arith)
operator_is level.Compare (lexeme.Mark mark.GreaterEqual) x e = (omega arith, omega arith)
operator_is level.Compare _ x e = absurd (cc)
operator_is level.Sum (lexeme.Mark mark.Plus) x e = (omega arith, omega arith)
operator_is level.Sum (lexeme.Mark mark.Minus) x e = (omega arith, omega arith)
operator_is level.Sum _ x e = absurd (cc)
operator_is level.Term (lexeme.Mark mark.Star) x e = (omega arith, omega arith)
operator_is level.Term (lexeme.Mark mark.Slash) x e = (omega arith, omega arith)
operator_is level.Term (lexeme.Mark mark.Percent) x e = (omega arith, omega arith)
operator_is level.Term _ x e = absurd (cc)

no_operator : (v : Level) (l : Lexeme) (o : Option Op) → operator v l ≡ o → lexeme_kind l < first_kind v → is_some o ≡ false
no_operator v l None e h = refl
no_operator v l (Some x) e h = absurd (let k = operator_is v l x e in let a = k.0 in omega arith)

pub is_no_operator : (v : Level) (o : Option Token) → Below (first_kind v) o → is_operator v o ≡ false
is_no_operator v None h = refl
is_no_operator v (Some t) h = no_operator v t.lexeme (operator_of v t) refl h

one_first : (v : Level) → END < first_kind v
one_first level.Compare = omega arith
one_first level.Sum = omega arith
one_first level.Term = omega arith

pub operator_under : (v : Level) (m : ℕ) (o : Option Token) → last_kind v < m → IsOperator v o → Under m o
operator_under level.Compare m o lt h = let a = h.0 in let b = h.1 in (omega arith, is_no ASSIGN o (λ e. omega arith))
operator_under level.Sum m o lt h = let a = h.0 in let b = h.1 in (omega arith, is_no ASSIGN o (λ e. omega arith))
operator_under level.Term m o lt h = let a = h.0 in let b = h.1 in (omega arith, is_no ASSIGN o (λ e. omega arith))

module _ {g : RuleSetting} (fits : (t : Token) → END < kind (Some t) → g.fits t) where
  pub known_kind : (k : ℕ) → END < k → Known g (IsKind k) (of_kind k)
  known_kind k some = record {
    begin = λ t a e. of_kind_is k t a (is k (Some t)) refl e;
    fits = λ t a e. fits t (let h = of_kind_is k t a (is k (Some t)) refl e in omega arith);
  }

  pub known_name : Known g (IsKind NAME) name_of
  known_name = record {
    begin = λ t a e. named_is t.lexeme t.place a e;
    fits = λ t a e. fits t (let h = named_is t.lexeme t.place a e in omega arith);
  }

  pub known_literal : Known g StartsLiteral literal_of
  known_literal = record {
    begin = λ t a e. literal_starts t.lexeme a e;
    fits = λ t a e. fits t (let h = literal_starts t.lexeme a e in let k = h.0 in omega arith);
  }

  pub known_operator : (v : Level) → Known g (IsOperator v) (operator_of v)
  known_operator v = record {
    begin = λ t a e. let h = operator_is v t.lexeme a e in (h.0, h.1, ap is_some e);
    fits = λ t a e. fits t (let h = operator_is v t.lexeme a e in let k = h.0 in let j = one_first v in omega arith);
  }
