-- Which script some bytes spell, and which refusal is their first.
use Rattle.std.specs.Prelude.{◌⊎◌, ℕ, List}
use Rattle.lf_base.specs.declared.refusals.Refusal.{Refusal}
use Rattle.lf_base.specs.declared.refusals.ReadFail.{ReadFail}
use Rattle.lf_base.specs.declared.refusals.ReadFail.TheVariants as fail
use Rattle.lf_base.specs.Texts.{Text}
use Rattle.lf_lexer.specs.declared.tokens.Token.{Token}
use Rattle.lf_lexer.specs.Reading.{Spells}
use Rattle.lf_lexer.specs.Refusals as lexer
use Rattle.lf_parser.specs.Plain.{PlainTree}
use Rattle.lf_parser.specs.Refusals as parser
use Rattle.lf_codegen.specs.NameRefusals.{Resolves, IsFirstOf, refusals}

-- the bytes spell these tokens and texts, and the tokens make this tree
pub record IsParsed (bytes : List ℕ) (texts : List Text) (tree : PlainTree) : Type 0 where
  pub tokens : List Token
  pub spelled : Spells bytes tokens texts
  pub derived : parser.IsTree tokens tree

-- the bytes spell these texts and this tree, and its names and calls are right
pub record IsRead (bytes : List ℕ) (texts : List Text) (tree : PlainTree) : Type 0 where
  pub parsed : IsParsed bytes texts tree
  pub resolves : Resolves texts tree

-- the first refusal of the tokens that the bytes spell
pub record TokensRefused (bytes : List ℕ) (refusal : Refusal) : Type 0 where
  pub tokens : List Token
  pub texts : List Text
  pub spelled : Spells bytes tokens texts
  pub refused : parser.IsRefusal tokens refusal

-- the first refusal of names and calls of the tree that the bytes spell
pub record NamesRefused (bytes : List ℕ) (refusal : Refusal) : Type 0 where
  pub texts : List Text
  pub tree : PlainTree
  pub parsed : IsParsed bytes texts tree
  pub refused : IsFirstOf (refusals texts tree) refusal

-- the first refusal of a script: of its bytes, else of its tokens, else of its names
abbrev pub IsFirstRefusal : List ℕ → Refusal → Type 0
IsFirstRefusal bytes refusal = lexer.IsFirstLexRefusal bytes refusal ⊎ TokensRefused bytes refusal ⊎ NamesRefused bytes refusal

-- what failing says of these bytes: want of memory may come at any
abbrev pub ReadFailsAs : List ℕ → ReadFail → Type 0
ReadFailsAs bytes (fail.Refused refusal) = IsFirstRefusal bytes refusal
ReadFailsAs bytes fail.OutOfMemory = Unit {0}
