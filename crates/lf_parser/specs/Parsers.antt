-- Reading functions, and how they are put together.
use Rattle.std.specs.Prelude.{◌≡◌, ℕ, zero, suc, List, [], ◌∷◌, length, Option, Some, None, Bool, true, false, if◌then◌else◌, Result}
use Rattle.std.specs.Prelude as std
use Rattle.lf_lexer.specs.declared.tokens.Token.{Token}
use Rattle.lf_parser.specs.declared.halt.Cause.{Cause}
use Rattle.lf_parser.specs.declared.halt.Cause.TheVariants.{Unexpected}
use Rattle.lf_parser.specs.declared.halt.Halt.{Halt}
use Rattle.lf_parser.specs.declared.halt.Halt.TheVariants.{Refused, OutOfMemory}
use Rattle.lf_parser.specs.Kinds.{head}

-- what was read and the tokens after it, or a refusal and the tokens from the refused one on
pub data ReadOutcome (A : Type 0) : Type 0 where
  Ok : A → List Token → ReadOutcome A
  Err : Cause → List Token → ReadOutcome A

abbrev pub Parser : Type 0 → Type 0
Parser A = List Token → ReadOutcome A

abbrev pub then_read : {A B : Type 0} → ReadOutcome A → (A → Parser B) → ReadOutcome B
then_read (Ok a ts) f = f a ts
then_read (Err c ts) f = Err c ts

-- one after the other
infixl 10 ◌>>=◌
abbrev pub ◌>>=◌ : {A B : Type 0} → Parser A → (A → Parser B) → Parser B
p >>= f = λ ts. then_read (p ts) f

abbrev pub pure : {A : Type 0} → A → Parser A
pure a = λ ts. Ok a ts

abbrev pub fail : {A : Type 0} → Cause → Parser A
fail c = λ ts. Err c ts

-- with a look at the next token
abbrev pub seeing : {A : Type 0} → (Option Token → Parser A) → Parser A
seeing f = λ ts. f (head ts) ts

abbrev pub taken_if : {A : Type 0} → Bool → Cause → Option A → Token → List Token → ReadOutcome A
taken_if b c (Some a) t ts = if b then Ok a ts else Err c (t ∷ ts)
taken_if b c None t ts = Err Unexpected (t ∷ ts)

-- takes a token of which f makes a value, where b allows it, and else refuses it
abbrev pub allow : {A : Type 0} → Bool → Cause → (Token → Option A) → Parser A
allow b c f [] = Err Unexpected []
allow b c f (t ∷ ts) = taken_if b c (f t) t ts

abbrev pub take : {A : Type 0} → (Token → Option A) → Parser A
take f = allow true Unexpected f

abbrev pub loop_at : {S : Type 0} → (S → Parser S) → (S → Parser S) → S → Bool → Parser S
loop_at step go s b = if b then step s >>= go else pure s

abbrev pub loop : {S : Type 0} → (Option Token → Bool) → (S → Parser S) → ℕ → S → Parser S
loop goes step zero s = fail Unexpected
loop goes step (suc n) s = λ ts. loop_at step (loop goes step n) s (goes (head ts)) ts

-- steps while the next token is one that goes on; each takes a token
unfoldable pub many : {S : Type 0} → (Option Token → Bool) → (S → Parser S) → S → Parser S
many goes step s ts = loop goes step (suc (length ts)) s ts

-- what a function that reads ensures: its value, seen through view, and the tokens left are those read
abbrev pub HaltsAs : {A : Type 0} → ReadOutcome A → Halt → List Token → Type 0
HaltsAs o OutOfMemory new = Unit {0}
HaltsAs o (Refused c) new = o ≡ Err c new

abbrev pub Reads : {A B : Type 0} → (B → A) → ReadOutcome A → Result B Halt → List Token → Type 0
Reads view o (std.Ok b) new = o ≡ Ok (view b) new
Reads view o (std.Err h) new = HaltsAs o h new
