-- What it means that names stand among tokens in this order, and that a rule adds its names so.
use Rattle.std.proofs.Common.{List, Some, [], refl, subst, sym, ◌++◌, ◌∷◌, ◌≡◌}
use Rattle.lf_lexer.specs.declared.tokens.Token.{Token}
use Rattle.lf_parser.specs.declared.name.Name.{Name}
use Rattle.lf_parser.specs.Forms.{Form}
use Rattle.lf_parser.specs.Words.{name_of}
use Rattle.lf_parser.specs.Grammar.{AName}
use Rattle.lf_parser.proofs.Order.AddedItems.{Among, AddsInOrder}

pub data Stand : List Name → List Token → Type 0 where
  nowhere : Stand [] []
  past : {names : List Name} {t : Token} {tokens : List Token} → Stand names tokens → Stand names (t ∷ tokens)
  here : {name : Name} {names : List Name} {t : Token} {tokens : List Token} → name_of t ≡ Some name → Stand names tokens → Stand (name ∷ names) (t ∷ tokens)

pub none_stand : (tokens : List Token) → Stand [] tokens
none_stand [] = nowhere
none_stand (t ∷ tokens) = past (none_stand tokens)

pub stand_after : {ns ms : List Name} {xs ys : List Token} → Stand ns xs → Stand ms ys → Stand (ns ++ ms) (xs ++ ys)
stand_after nowhere q = q
stand_after (past p) q = past (stand_after p q)
stand_after (here e p) q = here e (stand_after p q)

abbrev pub names_among : Among (Unit {0}) Name
names_among = record { Stand = λ i j names tokens. Stand names tokens; none = λ i tokens. none_stand tokens; join = λ p q. stand_after p q }

-- a form whose values have these names and those of its tokens
abbrev pub AddsNames : {A : Type 0} → List Name → (A → List Name) → Form A → Type 0
AddsNames before f P = AddsInOrder names_among tt tt before f P

pub takes_name : {before : List Name} → AddsNames before (λ x. before ++ x ∷ []) AName
takes_name {before} = record {
  each = λ ts x h. record { items = x ∷ []; is = refl; stand = subst (Stand (x ∷ [])) (sym h.1) (here h.2 nowhere) };
}
