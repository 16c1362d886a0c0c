-- Forms of tokens: which tokens make which value. The grammar is put together from these.
use Rattle.std.specs.Prelude.{◌≡◌, ◌⊎◌, ℕ, List, [], ◌∷◌, ◌++◌, Option, Some}
use Rattle.lf_lexer.specs.declared.tokens.Token.{Token}

-- the tokens, and the value that they make
abbrev pub Form : Type 0 → Type 1
Form A = List Token → A → Type 0

-- no token, and this value
abbrev pub Yields : {A : Type 0} → A → Form A
Yields a ts b = (ts ≡ []) × (b ≡ a)

-- one token, of which f makes the value
abbrev pub Takes : {A : Type 0} → (Token → Option A) → Form A
Takes f ts a = (t : Token) × (ts ≡ t ∷ []) × (f t ≡ Some a)

-- what P says, where a condition holds
abbrev pub Only : {A : Type 0} → Type 0 → Form A → Form A
Only condition P ts a = condition × P ts a

-- P, and after it what Q says of P's value
infixr 10 ◌⨟◌
abbrev pub ◌⨟◌ : {A B : Type 0} → Form A → (A → Form B) → Form B
(P ⨟ Q) ts b = (xs : List Token) × (ys : List Token) × (a : _) × (ts ≡ xs ++ ys) × P xs a × Q a ys b

-- P or Q
infixr 9 ◌∣◌
abbrev pub ◌∣◌ : {A : Type 0} → Form A → Form A → Form A
(P ∣ Q) ts a = P ts a ⊎ Q ts a

-- any number of steps, each from the value so far
pub data Many {S : Type 0} (Step : S → Form S) : S → List Token → S → Type 0 where
  done : {s : S} → Many Step s [] s
  more : {s t u : S} {xs ys : List Token} → Step s xs t → Many Step t ys u → Many Step s (xs ++ ys) u

-- with the line of the first token
abbrev pub Located : {A : Type 0} → (ℕ → Form A) → Form A
Located P ts a = (t : Token) × (rest : List Token) × (ts ≡ t ∷ rest) × P t.place.line ts a

-- such a form begins with these tokens: some others go on with them
abbrev pub HasPrefix : {A : Type 0} → Form A → List Token → Type 0
HasPrefix {A} P ts = (more : List Token) × (a : A) × P (ts ++ more) a
