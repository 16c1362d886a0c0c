-- The grammar. A form stands for each rule; `⨟` is one after the other, `∣` is a choice, `Many` is any number.
-- What stands a level deeper, or in a block, is a parameter.
use Rattle.std.specs.Prelude.{ℕ, zero, suc, List, [], ◌∷◌, ◌++◌, length, Option, Some, None}
use Rattle.lf_lexer.specs.declared.tokens.Token.{Token}
use Rattle.lf_lexer.specs.declared.tokens.Mark.{Mark}
use Rattle.lf_lexer.specs.declared.tokens.Mark.TheVariants as mark
use Rattle.lf_parser.specs.declared.name.Name.{Name}
use Rattle.lf_parser.specs.declared.expressions.Level.{Level}
use Rattle.lf_parser.specs.declared.expressions.Level.TheVariants as level
use Rattle.lf_parser.specs.Forms.{Form, Yields, Takes, Only, ◌⨟◌, ◌∣◌, Many, Located}
use Rattle.lf_parser.specs.Words.{mark_of, new_line, indent, dedent, the_end, name_of, literal_of, operator_of}
use Rattle.lf_parser.specs.Plain.{PlainExpr, PlainArm, PlainStmt, PlainBlock, PlainFunction, PlainTree, args_of, block_of}
use Rattle.lf_parser.specs.Plain as plain

-- a word or a sign
abbrev pub Sign : Mark → Form Token
Sign m = Takes (mark_of m)

abbrev pub NewLine : Form Token
NewLine = Takes new_line

abbrev pub Indent : Form Token
Indent = Takes indent

abbrev pub Dedent : Form Token
Dedent = Takes dedent

abbrev pub End : Form Token
End = Takes the_end

abbrev pub AName : Form Name
AName = Takes name_of

-- what `move` takes a place as
abbrev pub moved_place : PlainExpr → PlainExpr
moved_place (plain.Var x) = plain.Move x
moved_place (plain.Field t k) = plain.Remove t k
moved_place e = e

-- the statement that gives a place a value
abbrev pub assigned : ℕ → PlainExpr → PlainExpr → PlainStmt
assigned line (plain.Var x) value = plain.Assign line x value
assigned line (plain.Field t k) value = plain.Store line t k value
assigned line e value = plain.Eval line value

-- the `if` with that test and block, and with what is done otherwise
abbrev pub if_arm : PlainArm → List PlainStmt → PlainStmt
if_arm a other = plain.If a.line a.test a.body (block_of other)

-- what a script has so far
pub record Items : Type 0 where
  pub functions : List PlainFunction
  pub main : List PlainStmt

abbrev pub no_items : Items
no_items = record { functions = []; main = [] }

abbrev pub with_function : Items → PlainFunction → Items
with_function items f = record { functions = items.functions ++ f ∷ []; main = items.main }

abbrev pub with_stmt : Items → PlainStmt → Items
with_stmt items s = record { functions = items.functions; main = items.main ++ s ∷ [] }

abbrev pub tree_of : Items → PlainTree
tree_of items = record { functions = items.functions; main = block_of items.main }

-- what stands one level deeper, where a level may be opened at all
pub record Deeper : Type 1 where
  pub opens : Type 0
  pub expr : Form PlainExpr
  pub unary : Form PlainExpr
  pub neg : Form PlainExpr

-- Room count says whether a list of so many parts may get another one
module _ (Room : ℕ → Type 0) where
  -- a comma after so many parts of a list
  abbrev pub Separator : ℕ → Form Token
  Separator count = Only (Room count) (Sign mark.Comma)

  abbrev pub MoreName : List Name → Form (List Name)
  MoreName xs = Separator (length xs) ⨟ (λ _. AName ⨟ (λ x. Yields (xs ++ x ∷ [])))

  -- names = name { "," name }
  abbrev pub NameList : Form (List Name)
  NameList = AName ⨟ (λ x. Many MoreName (x ∷ []))

  -- [ names ]
  abbrev pub SomeNames : Form (List Name)
  SomeNames = NameList ∣ Yields []

  module _ (D : Deeper) where
    -- a token that opens a level
    abbrev pub Opening : Mark → Form Token
    Opening m = Only D.opens (Sign m)

    -- suffix = "." name | "[" expr "]"
    abbrev pub Suffix : PlainExpr → Form PlainExpr
    Suffix e = (Sign mark.Dot ⨟ (λ _. AName ⨟ (λ x. Yields (plain.Field e (plain.Text x.id)))))
        ∣ (Opening mark.OpenSquare ⨟ (λ _. D.expr ⨟ (λ k. Sign mark.CloseSquare ⨟ (λ _. Yields (plain.Field e k)))))

    abbrev pub Suffixes : PlainExpr → Form PlainExpr
    Suffixes = Many Suffix

    -- place = name { suffix }
    abbrev pub APlace : Form PlainExpr
    APlace = AName ⨟ (λ x. Suffixes (plain.Var x))

    abbrev pub MoreArg : List PlainExpr → Form (List PlainExpr)
    MoreArg es = Separator (length es) ⨟ (λ _. D.expr ⨟ (λ e. Yields (es ++ e ∷ [])))

    -- [ expr { "," expr } ]
    abbrev pub SomeArgs : Form (List PlainExpr)
    SomeArgs = Yields [] ∣ (D.expr ⨟ (λ e. Many MoreArg (e ∷ [])))

    -- "(" [ expr { "," expr } ] ")"
    abbrev pub Arguments : Form (List PlainExpr)
    Arguments = Opening mark.OpenParen ⨟ (λ _. SomeArgs ⨟ (λ es. Sign mark.CloseParen ⨟ (λ _. Yields es)))

    abbrev pub CallOf : Name → Form PlainExpr
    CallOf x = Arguments ⨟ (λ es. Yields (plain.Call x (args_of es)))

    -- name | call, where call = name "(" [ expr { "," expr } ] ")"
    abbrev pub Named : Form PlainExpr
    Named = AName ⨟ (λ x. CallOf x ∣ Yields (plain.Var x))

    -- "(" expr ")"
    abbrev pub Group : Form PlainExpr
    Group = Opening mark.OpenParen ⨟ (λ _. D.expr ⨟ (λ e. Sign mark.CloseParen ⨟ (λ _. Yields e)))

    -- "{" "}"
    abbrev pub Empty : Form PlainExpr
    Empty = Sign mark.OpenBrace ⨟ (λ _. Sign mark.CloseBrace ⨟ (λ _. Yields plain.Object))

    -- atom = number | text | "None" | "True" | "False" | "{" "}" | name | call | "(" expr ")"
    abbrev pub Atom : Form PlainExpr
    Atom = Named ∣ Group ∣ Empty ∣ Takes literal_of

    -- post = atom { suffix }
    abbrev pub Post : Form PlainExpr
    Post = Atom ⨟ Suffixes

    -- unary = "-" unary | "move" place | post
    abbrev pub Unary : Form PlainExpr
    Unary = (Opening mark.Minus ⨟ (λ _. D.unary ⨟ (λ e. Yields (plain.Neg e))))
        ∣ (Sign mark.Move ⨟ (λ _. APlace ⨟ (λ e. Yields (moved_place e))))
        ∣ Post

    -- an operator and its right operand
    abbrev pub Operand : Level → Form PlainExpr → PlainExpr → Form PlainExpr
    Operand level One l = Takes (operator_of level) ⨟ (λ op. One ⨟ (λ r. Yields (plain.Binary op l r)))

    -- term = unary { ( "*" | "/" | "%" ) unary }
    abbrev pub Term : Form PlainExpr
    Term = Unary ⨟ Many (Operand level.Term Unary)

    -- sum = term { ( "+" | "-" ) term }
    abbrev pub Sum : Form PlainExpr
    Sum = Term ⨟ Many (Operand level.Sum Term)

    -- cmp = sum [ ( "==" | "!=" | "<" | "<=" | ">" | ">=" ) sum ]
    abbrev pub Cmp : Form PlainExpr
    Cmp = Sum ⨟ (λ l. Operand level.Compare Sum l ∣ Yields l)

    -- neg = "not" neg | cmp
    abbrev pub Neg : Form PlainExpr
    Neg = (Opening mark.Not ⨟ (λ _. D.neg ⨟ (λ e. Yields (plain.Not e)))) ∣ Cmp

    abbrev pub AndNeg : PlainExpr → Form PlainExpr
    AndNeg l = Sign mark.And ⨟ (λ _. Neg ⨟ (λ r. Yields (plain.And l r)))

    -- both = neg { "and" neg }
    abbrev pub Both : Form PlainExpr
    Both = Neg ⨟ Many AndNeg

    abbrev pub OrBoth : PlainExpr → Form PlainExpr
    OrBoth l = Sign mark.Or ⨟ (λ _. Both ⨟ (λ r. Yields (plain.Or l r)))

    -- expr = both { "or" both }
    abbrev pub Expr : Form PlainExpr
    Expr = Both ⨟ Many OrBoth

  -- with at most so many levels
  unfoldable pub within : ℕ → Deeper
  within zero = record { opens = ⊥; expr = λ ts e. ⊥; unary = λ ts e. ⊥; neg = λ ts e. ⊥ }
  within (suc levels) = record { opens = Unit {0}; expr = Expr (within levels); unary = Unary (within levels); neg = Neg (within levels) }

  -- expressions, and the blocks that a statement may hold
  module _ (elifs levels : ℕ) (Block : Form (List PlainStmt)) where
    abbrev pub AnExpr : Form PlainExpr
    AnExpr = Expr (within levels)

    -- ":" block
    abbrev pub Body : Form (List PlainStmt)
    Body = Sign mark.Colon ⨟ (λ _. Block)

    abbrev pub Otherwise : Form (List PlainStmt)
    Otherwise = (Sign mark.Else ⨟ (λ _. Body)) ∣ Yields []

    -- a word, then expr ":" block
    abbrev pub AnArm : Mark → Form PlainArm
    AnArm m = Sign m ⨟ (λ t. AnExpr ⨟ (λ test. Body ⨟ (λ body. Yields (record { line = t.place.line; test = test; body = block_of body }))))

    -- the same and the rest of its chain
    abbrev pub ArmAndRest : Mark → Form (List PlainStmt) → Form PlainStmt
    ArmAndRest m More = AnArm m ⨟ (λ a. More ⨟ (λ other. Yields (if_arm a other)))

    -- rest = "elif" expr ":" block rest | [ "else" ":" block ], with at most so many `elif`s
    abbrev pub Rest : ℕ → Form (List PlainStmt)
    Rest zero = Otherwise
    Rest (suc more) = (ArmAndRest mark.Elif (Rest more) ⨟ (λ s. Yields (s ∷ []))) ∣ Otherwise

    -- if = "if" expr ":" block rest
    abbrev pub If : Form PlainStmt
    If = ArmAndRest mark.If (Rest elifs)

    -- while = "while" expr ":" block
    abbrev pub While : Form PlainStmt
    While = AnArm mark.While ⨟ (λ a. Yields (plain.While a.line a.test a.body))

    abbrev pub Captures : Form (List Name)
    Captures = (Sign mark.With ⨟ (λ _. NameList)) ∣ Yields []

    -- when = "when" [ names ] [ "with" names ] ":" block
    abbrev pub When : Form PlainStmt
    When = Sign mark.When ⨟ (λ t. SomeNames ⨟ (λ cowns. Captures ⨟ (λ captures. Body ⨟ (λ body.
        Yields (plain.When t.place.line cowns captures (block_of body))))))

    -- place "=" expr
    abbrev pub Assignment : ℕ → Form PlainStmt
    Assignment line = APlace (within levels) ⨟ (λ e. Sign mark.Assign ⨟ (λ _. AnExpr ⨟ (λ value. Yields (assigned line e value))))

    -- "drop" name
    abbrev pub DropOf : ℕ → Form PlainStmt
    DropOf line = Sign mark.Drop ⨟ (λ _. AName ⨟ (λ x. Yields (plain.Drop line x)))

    abbrev pub Result : Form (Option PlainExpr)
    Result = Yields None ∣ (AnExpr ⨟ (λ e. Yields (Some e)))

    -- "return" [ expr ]
    abbrev pub ReturnOf : ℕ → Form PlainStmt
    ReturnOf line = Sign mark.Return ⨟ (λ _. Result ⨟ (λ value. Yields (plain.Return line value)))

    abbrev pub PassOf : ℕ → Form PlainStmt
    PassOf line = Sign mark.Pass ⨟ (λ _. Yields (plain.Pass line))

    abbrev pub EvalOf : ℕ → Form PlainStmt
    EvalOf line = AnExpr ⨟ (λ e. Yields (plain.Eval line e))

    -- simple = place "=" expr | "drop" name | "return" [ expr ] | "pass" | expr
    abbrev pub Simple : ℕ → Form PlainStmt
    Simple line = DropOf line ∣ ReturnOf line ∣ PassOf line ∣ Assignment line ∣ EvalOf line

    -- stmt = simple NewLine | if | while | when
    abbrev pub Stmt : Form PlainStmt
    Stmt = If ∣ While ∣ When ∣ (Located Simple ⨟ (λ s. NewLine ⨟ (λ _. Yields s)))

    abbrev pub MoreStmt : List PlainStmt → Form (List PlainStmt)
    MoreStmt ss = Stmt ⨟ (λ s. Yields (ss ++ s ∷ []))

    -- NewLine Indent stmt { stmt } Dedent
    abbrev pub BlockOf : Form (List PlainStmt)
    BlockOf = NewLine ⨟ (λ _. Indent ⨟ (λ _. Stmt ⨟ (λ s. Many MoreStmt (s ∷ []) ⨟ (λ ss. Dedent ⨟ (λ _. Yields ss)))))

  module _ (elifs levels : ℕ) where
    -- block, where at most so many stand one in another
    unfoldable pub blocks : ℕ → Form (List PlainStmt)
    blocks zero = λ ts ss. ⊥
    blocks (suc nest) = BlockOf elifs levels (blocks nest)

    module _ (nest : ℕ) where
      -- def = "def" name "(" [ name { "," name } ] ")" ":" block
      abbrev pub Def : Form PlainFunction
      Def = Sign mark.Def ⨟ (λ _. AName ⨟ (λ x. Sign mark.OpenParen ⨟ (λ _. SomeNames ⨟ (λ params. Sign mark.CloseParen ⨟ (λ _.
          Body elifs levels (blocks nest) ⨟ (λ body. Yields (record { name = x; params = params; body = block_of body })))))))

      -- def | stmt
      abbrev pub Item : Items → Form Items
      Item items = (Def ⨟ (λ f. Yields (with_function items f))) ∣ (Stmt elifs levels (blocks nest) ⨟ (λ s. Yields (with_stmt items s)))

      -- script = { def | stmt } End
      abbrev pub Script : Form PlainTree
      Script = Many Item no_items ⨟ (λ items. End ⨟ (λ _. Yields (tree_of items)))
