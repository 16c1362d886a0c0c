-- No form is empty: some tokens are of each one; and forms that take a token have one.
use Rattle.std.proofs.Common.{◌≡◌, ℕ, ◌<◌, List, [], ◌∷◌, ◌++◌, length, Some, None, refl, ap, ◌∙◌, arith, length-append, inl, inr, pos}
use Rattle.std.specs.Prelude.{if◌then◌else◌}
use Rattle.std.proofs.lemmas.Bool.{eq-eqb}
use Rattle.lf_lexer.specs.declared.tokens.Token.{Token}
use Rattle.lf_lexer.specs.declared.tokens.Lexeme.{Lexeme}
use Rattle.lf_lexer.specs.declared.tokens.Lexeme.TheVariants as lexeme
use Rattle.lf_lexer.specs.declared.tokens.Mark.{Mark}
use Rattle.lf_lexer.specs.declared.tokens.Mark.TheVariants as mark
use Rattle.lf_parser.specs.Kinds.{mark_kind}
use Rattle.lf_parser.specs.Words.{literal_of}
use Rattle.lf_parser.specs.Forms.{Form, Yields, Takes, ◌⨟◌, ◌∣◌, Many, done, HasPrefix}
use Rattle.lf_parser.proofs.Rules.RuleProperties.{some_then, some_yields}
use Rattle.lf_parser.specs.Grammar as form
use Rattle.lf_parser.specs.Grammar.{Deeper, Sign, NewLine, Indent, Dedent, End, AName}

-- a token, somewhere
abbrev token : Lexeme → Token
token l = record { lexeme = l; place = record { line = 1; column = 1 }; start = 0; end = 0 }

pub some_sign : (m : Mark) → HasPrefix (Sign m) []
some_sign m = let t = token (lexeme.Mark m) in (t ∷ [], t, (t, refl, ap (λ b. if b then Some t else None) (eq-eqb (mark_kind m) (mark_kind m) refl)))

pub some_name : HasPrefix AName []
some_name = let t = token (lexeme.Name (record { index = 0 })) in (t ∷ [], _, (t, refl, refl))

pub some_literal : HasPrefix (Takes literal_of) []
some_literal = let t = token (lexeme.Number (pos 0)) in (t ∷ [], _, (t, refl, refl))

pub some_new_line : HasPrefix NewLine []
some_new_line = let t = token lexeme.NewLine in (t ∷ [], t, (t, refl, refl))

pub some_indent : HasPrefix Indent []
some_indent = let t = token lexeme.Indent in (t ∷ [], t, (t, refl, refl))

pub some_dedent : HasPrefix Dedent []
some_dedent = let t = token lexeme.Dedent in (t ∷ [], t, (t, refl, refl))

pub some_end : HasPrefix End []
some_end = let t = token lexeme.End in (t ∷ [], t, (t, refl, refl))

pub some_first : {A : Type 0} {P Q : Form A} → HasPrefix P [] → HasPrefix (P ∣ Q) []
some_first h = (h.0, h.1, inl h.2)

pub some_second : {A : Type 0} {P Q : Form A} → HasPrefix Q [] → HasPrefix (P ∣ Q) []
some_second h = (h.0, h.1, inr h.2)

pub some_many : {S : Type 0} {Step : S → Form S} (s : S) → HasPrefix (Many Step s) []
some_many s = ([], s, done)

-- the forms of names and expressions
pub some_close : {A : Type 0} (a : A) → HasPrefix (Sign mark.CloseParen ⨟ (λ _. Yields a)) []
some_close a = some_then (Sign mark.CloseParen) _ (some_sign mark.CloseParen) (λ t. some_yields a)

pub some_names : (Room : ℕ → Type 0) → HasPrefix (form.NameList Room) []
some_names Room = some_then AName _ some_name (λ x. some_many _)

module _ (Room : ℕ → Type 0) (D : Deeper) where
  pub some_place : HasPrefix (form.APlace Room D) []
  some_place = some_then AName _ some_name (λ x. some_many _)

  pub some_atom : HasPrefix (form.Atom Room D) []
  some_atom = some_second (some_second (some_second some_literal))

  pub some_unary : HasPrefix (form.Unary Room D) []
  some_unary = some_second (some_second (some_then (form.Atom Room D) _ some_atom (λ e. some_many e)))

  pub some_term : HasPrefix (form.Term Room D) []
  some_term = some_then (form.Unary Room D) _ some_unary (λ e. some_many e)

  pub some_sum : HasPrefix (form.Sum Room D) []
  some_sum = some_then (form.Term Room D) _ some_term (λ e. some_many e)

  pub some_cmp : HasPrefix (form.Cmp Room D) []
  some_cmp = some_then (form.Sum Room D) _ some_sum (λ e. some_second (some_yields e))

  pub some_neg : HasPrefix (form.Neg Room D) []
  some_neg = some_second some_cmp

  pub some_both : HasPrefix (form.Both Room D) []
  some_both = some_then (form.Neg Room D) _ some_neg (λ e. some_many e)

  pub some_expr : HasPrefix (form.Expr Room D) []
  some_expr = some_then (form.Both Room D) _ some_both (λ e. some_many e)

-- a list that is one token, or that begins with some, has one
pub one_token : {ts : List Token} {t : Token} → ts ≡ t ∷ [] → 0 < length ts
one_token e = let k = ap length e in omega arith

pub longer : {zs : List Token} (xs ys : List Token) → zs ≡ xs ++ ys → 0 < length xs → 0 < length zs
longer {zs} xs ys e k = let h = ap length e ∙ length-append xs ys in omega arith
