-- Which tree some tokens make, within the limits and without them, and which refusal is theirs.
use Rattle.std.specs.Prelude.{◌≡◌, ◌<◌, ◌≤◌, ◌+◌, ◌^◌, ℕ, suc, List, [], ◌∷◌, ◌++◌, length, take, Some}
use Rattle.lf_base.specs.declared.limits.TheConstants.{MOST_ELIFS, MOST_EXPRESSION_LEVELS, MOST_LINE_TOKENS, MOST_PARTS}
use Rattle.lf_base.specs.declared.refusals.Refusal.{Refusal}
use Rattle.lf_base.specs.declared.refusals.RefusalKind.{RefusalKind}
use Rattle.lf_base.specs.declared.refusals.RefusalKind.TheVariants.{Unexpected, TooDeepExpr, TooManyParts}
use Rattle.lf_base.specs.declared.refusals.ReadFail.{ReadFail}
use Rattle.lf_base.specs.declared.refusals.ReadFail.TheVariants as fail
use Rattle.lf_parser.specs.declared.halt.Cause.{Cause}
use Rattle.lf_parser.specs.declared.halt.Cause.TheVariants as cause
use Rattle.lf_lexer.specs.declared.tokens.Token.{Token}
use Rattle.lf_lexer.specs.declared.tokens.Lexeme.{Lexeme}
use Rattle.lf_lexer.specs.declared.tokens.Lexeme.TheVariants as lexeme
use Rattle.lf_parser.specs.Kinds.{kind, END}
use Rattle.lf_parser.specs.Plain.{PlainTree}
use Rattle.lf_parser.specs.Forms.{Form, HasPrefix}
use Rattle.lf_parser.specs.Grammar.{Script}

-- a script with blocks as deep as they are, and these limits on parts, `elif`s and levels
abbrev pub Bounded : (ℕ → Type 0) → ℕ → ℕ → Form PlainTree
Bounded Room elifs levels tokens tree = (nest : ℕ) × Script Room elifs levels nest tokens tree

-- another part is allowed after any number of them, and after fewer than a list may have
abbrev pub AnyCount : ℕ → Type 0
AnyCount count = Unit {0}

abbrev pub PartFits : ℕ → Type 0
PartFits count = count < MOST_PARTS

-- the tokens make this tree, limits aside
abbrev pub Derives : Form PlainTree
Derives tokens tree = (elifs : ℕ) × (levels : ℕ) × Bounded AnyCount elifs levels tokens tree

-- the same with no more levels than the language has
abbrev pub WithinLevels : Form PlainTree
WithinLevels tokens tree = (elifs : ℕ) × Bounded AnyCount elifs MOST_EXPRESSION_LEVELS tokens tree

-- with no more levels, parts of a list and `elif`s of a chain than the language has
abbrev pub WithinLimits : Form PlainTree
WithinLimits = Bounded PartFits MOST_ELIFS MOST_EXPRESSION_LEVELS

-- how many tokens of its line have come, after one token more
abbrev pub count_after : ℕ → Lexeme → ℕ
count_after n lexeme.NewLine = 0
count_after n lexeme.Indent = n
count_after n lexeme.Dedent = n
count_after n _ = suc n

-- how many tokens of the last line some tokens have, where n came before them
abbrev pub count_on : ℕ → List Token → ℕ
count_on n [] = n
count_on n (t ∷ ts) = count_on (count_after n t.lexeme) ts

abbrev pub last_count : List Token → ℕ
last_count tokens = count_on 0 tokens

-- no line has too many tokens
abbrev pub LinesFit : List Token → Type 0
LinesFit tokens = (before after : List Token) → tokens ≡ before ++ after → last_count before ≤ MOST_LINE_TOKENS

-- the tokens make this tree, within the limits
abbrev pub IsTree : List Token → PlainTree → Type 0
IsTree tokens tree = WithinLimits tokens tree × LinesFit tokens

-- the tokens, up to the refused one, that begin no script
abbrev pub Why : RefusalKind → List Token → Type 0
Why Unexpected tokens = ¬ HasPrefix Derives tokens
Why TooDeepExpr tokens = HasPrefix Derives tokens × ¬ HasPrefix WithinLevels tokens
Why TooManyParts tokens = HasPrefix WithinLevels tokens × ¬ (HasPrefix WithinLimits tokens × LinesFit tokens)
Why _ tokens = ⊥

-- the first token with which the tokens begin no script within the limits, and why
pub record IsRefusal (tokens : List Token) (refusal : Refusal) : Type 0 where
  pub before : List Token
  pub token : Token
  pub after : List Token
  pub split : tokens ≡ before ++ token ∷ after
  pub place_is : refusal.place ≡ token.place
  pub begins : HasPrefix WithinLimits before × LinesFit before
  pub why : Why refusal.kind (before ++ token ∷ [])

-- the last token is the end, and no other one is
abbrev pub EndsOnce : List Token → Type 0
EndsOnce [] = ⊥
EndsOnce (t ∷ []) = kind (Some t) ≡ END
EndsOnce (t ∷ ts) = (END < kind (Some t)) × EndsOnce ts

-- what a refusal by the grammar says of the tokens, up to the refused one
abbrev pub WhyCause : Cause → List Token → Type 0
WhyCause cause.Unexpected tokens = ¬ HasPrefix Derives tokens
WhyCause cause.TooDeep tokens = HasPrefix Derives tokens × ¬ HasPrefix WithinLevels tokens
WhyCause cause.TooMany tokens = HasPrefix WithinLevels tokens × ¬ HasPrefix WithinLimits tokens

-- the kind of a refusal by the grammar
abbrev pub kind_of : Cause → RefusalKind
kind_of cause.Unexpected = Unexpected
kind_of cause.TooDeep = TooDeepExpr
kind_of cause.TooMany = TooManyParts

-- the grammar's refusal, at the first of the tokens left
pub record GrammarRefuses (tokens : List Token) (c : Cause) (left : List Token) : Type 0 where
  pub before : List Token
  pub token : Token
  pub after : List Token
  pub left_is : left ≡ token ∷ after
  pub split : tokens ≡ before ++ left
  pub begins : HasPrefix WithinLimits before
  pub why : WhyCause c (before ++ token ∷ [])

-- the token of this number is the first that is one too many on its line
pub record IsFirstPast (tokens : List Token) (index : ℕ) : Type 0 where
  pub there : index < length tokens
  pub fits : LinesFit (take index tokens)
  pub past : MOST_LINE_TOKENS < last_count (take (index + 1) tokens)

-- what `parse` needs of the tokens
pub record Readable (tokens : List Token) : Type 0 where
  pub ends : EndsOnce tokens
  pub few : length tokens < 2 ^ 32

-- what failing says of these tokens: want of memory may come at any
abbrev pub ParseFailsAs : List Token → ReadFail → Type 0
ParseFailsAs tokens (fail.Refused refusal) = IsRefusal tokens refusal
ParseFailsAs tokens fail.OutOfMemory = Unit {0}

-- the grammar's refusal of a token
abbrev pub stopped : Cause → Token → Refusal
stopped c token = record { kind = kind_of c; place = token.place }

-- the refusal of a token that is one too many
abbrev pub too_many : Token → Refusal
too_many token = record { kind = TooManyParts; place = token.place }
