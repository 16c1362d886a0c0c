-- The laws of trees and refusals.
use Rattle.std.specs.Prelude.{◌≡◌, ◌⊎◌, ℕ, suc, List, [], ◌∷◌, ◌++◌, Some}
use Rattle.lf_base.specs.declared.ids.TextId.{TextId}
use Rattle.lf_base.specs.declared.refusals.Refusal.{Refusal}
use Rattle.lf_base.specs.Texts.{Text}
use Rattle.lf_lexer.specs.declared.tokens.Token.{Token}
use Rattle.lf_lexer.specs.declared.tokens.Lexeme.TheVariants as lexeme
use Rattle.lf_lexer.specs.declared.tokens.Mark.TheVariants as mark
use Rattle.lf_lexer.specs.Reading.{AreSpelled}
use Rattle.lf_parser.specs.Words.{mark_of}
use Rattle.lf_parser.specs.Plain.{PlainExpr, PlainArm, PlainStmt, PlainTree, block_of}
use Rattle.lf_parser.specs.Plain as plain
use Rattle.lf_parser.specs.Forms.{Form}
use Rattle.lf_parser.specs.Grammar.{Suffix, within, AnArm, Rest, blocks}
use Rattle.lf_parser.specs.Refusals.{AnyCount, Derives, IsTree, IsRefusal}

-- at most one tree is derived from some tokens, limits aside
abbrev pub OneTree : Type 0
OneTree = (tokens : List Token) (a b : PlainTree) → Derives tokens a → Derives tokens b → a ≡ b

-- the tokens make a tree within the limits, or have a refusal
abbrev pub HasTreeOrRefusal : List Token → Type 0
HasTreeOrRefusal tokens = ((tree : PlainTree) × IsTree tokens tree) ⊎ ((refusal : Refusal) × IsRefusal tokens refusal)

-- no tokens make a tree within the limits and are refused too
abbrev pub TreeOrRefusal : Type 0
TreeOrRefusal = (tokens : List Token) (tree : PlainTree) (refusal : Refusal) → IsTree tokens tree → IsRefusal tokens refusal → ⊥

-- some tokens have at most one refusal
abbrev pub OneRefusal : Type 0
OneRefusal = (tokens : List Token) (a b : Refusal) → IsRefusal tokens a → IsRefusal tokens b → a ≡ b

-- it holds of each tree that is read from a script
abbrev pub HoldsOfReadTrees : (PlainTree → Type 0) → Type 0
HoldsOfReadTrees P = (tokens : List Token) (texts : List Text) (tree : PlainTree) → AreSpelled tokens texts → IsTree tokens tree → P tree

-- `x.f` and `x["f"]` are one form: a field by the text `f`
pub record FieldsByText (levels : ℕ) (target : PlainExpr) (id : TextId) : Type 0 where
  pub by_name : (dot name : Token) → mark_of mark.Dot dot ≡ Some dot → name.lexeme ≡ lexeme.Name id
      → Suffix AnyCount (within AnyCount (suc levels)) target (dot ∷ name ∷ []) (plain.Field target (plain.Text id))
  pub by_text : (opening text close : Token) → mark_of mark.OpenSquare opening ≡ Some opening
      → text.lexeme ≡ lexeme.Text id → mark_of mark.CloseSquare close ≡ Some close
      → Suffix AnyCount (within AnyCount (suc levels)) target (opening ∷ text ∷ close ∷ []) (plain.Field target (plain.Text id))

-- an `elif` with its test and block, and what follows one in its chain
abbrev pub ElifArm : (elifs levels nest : ℕ) → Form PlainArm
ElifArm elifs levels nest = AnArm AnyCount elifs levels (blocks AnyCount elifs levels nest) mark.Elif

abbrev pub ChainRest : (elifs levels nest more : ℕ) → Form (List PlainStmt)
ChainRest elifs levels nest more = Rest AnyCount elifs levels (blocks AnyCount elifs levels nest) more

-- an `elif` is an `if` that stands alone in the else block, with its own line
pub record ElifAlone (elifs levels nest : ℕ) : Type 0 where
  pub alone : (more : ℕ) (arm rest : List Token) (a : PlainArm) (other : List PlainStmt)
      → ElifArm elifs levels nest arm a → ChainRest elifs levels nest more rest other
      → ChainRest elifs levels nest (suc more) (arm ++ rest) (plain.If a.line a.test a.body (block_of other) ∷ [])
  pub own_line : (arm : List Token) (a : PlainArm) → ElifArm elifs levels nest arm a
      → (word : Token) × (rest : List Token) × (arm ≡ word ∷ rest) × (a.line ≡ word.place.line)
