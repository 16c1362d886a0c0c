-- The grammar as reading functions that look one token ahead.
use Rattle.std.specs.Prelude.{ℕ, zero, suc, List, [], ◌∷◌, ◌++◌, length, Option, Some, None, Bool, true, false, if◌then◌else◌, ◌||◌}
use Rattle.lf_lexer.specs.declared.tokens.Token.{Token}
use Rattle.lf_lexer.specs.declared.tokens.Mark.{Mark}
use Rattle.lf_lexer.specs.declared.tokens.Mark.TheVariants as mark
use Rattle.lf_parser.specs.declared.name.Name.{Name}
use Rattle.lf_parser.specs.declared.halt.Cause.TheVariants.{Unexpected, TooDeep, TooMany}
use Rattle.lf_parser.specs.declared.expressions.Level.{Level}
use Rattle.lf_parser.specs.declared.expressions.Level.TheVariants as level
use Rattle.lf_parser.specs.Kinds.{is, mark_kind, DEDENT, END, NAME, NEW_LINE}
use Rattle.lf_parser.specs.Words.{mark_of, new_line, indent, dedent, the_end, name_of, literal_of, operator_of, is_operator}
use Rattle.lf_parser.specs.Plain.{PlainExpr, PlainArm, PlainStmt, PlainBlock, PlainFunction, PlainTree, args_of, block_of}
use Rattle.lf_parser.specs.Plain as plain
use Rattle.lf_parser.specs.Grammar.{if_arm, moved_place, assigned, Items, no_items, with_function, with_stmt, tree_of}
use Rattle.lf_parser.specs.Parsers.{Parser, ◌>>=◌, pure, fail, seeing, allow, take, many}

abbrev pub sign : Mark → Parser Token
sign m = take (mark_of m)

abbrev pub a_name : Parser Name
a_name = take name_of

unfoldable pub a_literal : Parser PlainExpr
a_literal = take literal_of

-- whether the next token is a mark, a name, a line end or the end of a block
abbrev pub at_mark : Mark → Option Token → Bool
at_mark m o = is (mark_kind m) o

abbrev pub at_name : Option Token → Bool
at_name o = is NAME o

abbrev pub at_line_end : Option Token → Bool
at_line_end o = is NEW_LINE o

abbrev pub in_block : Option Token → Bool
in_block o = if is DEDENT o then false else true

abbrev pub before_end : Option Token → Bool
before_end o = if is END o then false else true

-- the line of the next token
abbrev pub line_at : Option Token → ℕ
line_at None = 0
line_at (Some t) = t.place.line

-- what may be read one level deeper, where a level may be opened at all
pub record Inner : Type 0 where
  pub opens : Bool
  pub expr : Parser PlainExpr
  pub unary : Parser PlainExpr
  pub neg : Parser PlainExpr

abbrev pub at_suffix : Option Token → Bool
at_suffix o = at_mark mark.Dot o || at_mark mark.OpenSquare o

-- room count is whether a list of so many parts may get another one
module _ (room : ℕ → Bool) where
  unfoldable pub separator : ℕ → Parser Token
  separator count = allow (room count) TooMany (mark_of mark.Comma)

  unfoldable pub more_name : List Name → Parser (List Name)
  more_name xs = separator (length xs) >>= (λ _. a_name >>= (λ x. pure (xs ++ x ∷ [])))

  unfoldable pub names_from : List Name → Parser (List Name)
  names_from xs = many (at_mark mark.Comma) more_name xs

  unfoldable pub name_list : Parser (List Name)
  name_list = a_name >>= (λ x. names_from (x ∷ []))

  abbrev pub some_names_at : Bool → Parser (List Name)
  some_names_at b = if b then name_list else pure []

  unfoldable pub some_names : Parser (List Name)
  some_names = seeing (λ o. some_names_at (at_name o))

  module _ (i : Inner) where
    unfoldable pub opening : Mark → Parser Token
    opening m = allow i.opens TooDeep (mark_of m)

    unfoldable pub a_field : PlainExpr → Parser PlainExpr
    a_field e = sign mark.Dot >>= (λ _. a_name >>= (λ x. pure (plain.Field e (plain.Text x.id))))

    unfoldable pub entry : PlainExpr → Parser PlainExpr
    entry e = opening mark.OpenSquare >>= (λ _. i.expr >>= (λ k. sign mark.CloseSquare >>= (λ _. pure (plain.Field e k))))

    abbrev pub suffix_at : PlainExpr → Bool → Parser PlainExpr
    suffix_at e b = if b then a_field e else entry e

    unfoldable pub suffix : PlainExpr → Parser PlainExpr
    suffix e = seeing (λ o. suffix_at e (at_mark mark.Dot o))

    unfoldable pub suffixes : PlainExpr → Parser PlainExpr
    suffixes e = many at_suffix suffix e

    unfoldable pub a_place : Parser PlainExpr
    a_place = a_name >>= (λ x. suffixes (plain.Var x))

    unfoldable pub more_arg : List PlainExpr → Parser (List PlainExpr)
    more_arg es = separator (length es) >>= (λ _. i.expr >>= (λ e. pure (es ++ e ∷ [])))

    unfoldable pub args_from : List PlainExpr → Parser (List PlainExpr)
    args_from es = many (at_mark mark.Comma) more_arg es

    unfoldable pub first_args : Parser (List PlainExpr)
    first_args = i.expr >>= (λ e. args_from (e ∷ []))

    abbrev pub some_args_at : Bool → Parser (List PlainExpr)
    some_args_at b = if b then pure [] else first_args

    unfoldable pub some_args : Parser (List PlainExpr)
    some_args = seeing (λ o. some_args_at (at_mark mark.CloseParen o))

    unfoldable pub arguments : Parser (List PlainExpr)
    arguments = opening mark.OpenParen >>= (λ _. some_args >>= (λ es. sign mark.CloseParen >>= (λ _. pure es)))

    unfoldable pub call : Name → Parser PlainExpr
    call x = arguments >>= (λ es. pure (plain.Call x (args_of es)))

    abbrev pub named_at : Name → Bool → Parser PlainExpr
    named_at x b = if b then call x else pure (plain.Var x)

    unfoldable pub after_name : Name → Parser PlainExpr
    after_name x = seeing (λ o. named_at x (at_mark mark.OpenParen o))

    unfoldable pub name_or_call : Parser PlainExpr
    name_or_call = a_name >>= after_name

    unfoldable pub group : Parser PlainExpr
    group = opening mark.OpenParen >>= (λ _. i.expr >>= (λ e. sign mark.CloseParen >>= (λ _. pure e)))

    unfoldable pub empty : Parser PlainExpr
    empty = sign mark.OpenBrace >>= (λ _. sign mark.CloseBrace >>= (λ _. pure plain.Object))

    abbrev pub atom_at : Bool → Bool → Bool → Parser PlainExpr
    atom_at a b c = if a then name_or_call else (if b then group else (if c then empty else a_literal))

    unfoldable pub atom : Parser PlainExpr
    atom = seeing (λ o. atom_at (at_name o) (at_mark mark.OpenParen o) (at_mark mark.OpenBrace o))

    unfoldable pub post : Parser PlainExpr
    post = atom >>= suffixes

    unfoldable pub negated : Parser PlainExpr
    negated = opening mark.Minus >>= (λ _. i.unary >>= (λ e. pure (plain.Neg e)))

    unfoldable pub move_of : Parser PlainExpr
    move_of = sign mark.Move >>= (λ _. a_place >>= (λ e. pure (moved_place e)))

    abbrev pub unary_at : Bool → Bool → Parser PlainExpr
    unary_at a b = if a then negated else (if b then move_of else post)

    unfoldable pub unary : Parser PlainExpr
    unary = seeing (λ o. unary_at (at_mark mark.Minus o) (at_mark mark.Move o))

    abbrev pub operand : Level → Parser PlainExpr → PlainExpr → Parser PlainExpr
    operand level one_token l = take (operator_of level) >>= (λ op. one_token >>= (λ r. pure (plain.Binary op l r)))

    unfoldable pub times_operand : PlainExpr → Parser PlainExpr
    times_operand l = operand level.Term unary l

    unfoldable pub term_rest : PlainExpr → Parser PlainExpr
    term_rest l = many (is_operator level.Term) times_operand l

    unfoldable pub term : Parser PlainExpr
    term = unary >>= term_rest

    unfoldable pub plus : PlainExpr → Parser PlainExpr
    plus l = operand level.Sum term l

    unfoldable pub sum_rest : PlainExpr → Parser PlainExpr
    sum_rest l = many (is_operator level.Sum) plus l

    unfoldable pub a_sum : Parser PlainExpr
    a_sum = term >>= sum_rest

    unfoldable pub compared : PlainExpr → Parser PlainExpr
    compared l = operand level.Compare a_sum l

    abbrev pub cmp_rest_at : PlainExpr → Bool → Parser PlainExpr
    cmp_rest_at l b = if b then compared l else pure l

    unfoldable pub cmp_rest : PlainExpr → Parser PlainExpr
    cmp_rest l = seeing (λ o. cmp_rest_at l (is_operator level.Compare o))

    unfoldable pub cmp : Parser PlainExpr
    cmp = a_sum >>= cmp_rest

    unfoldable pub denied : Parser PlainExpr
    denied = opening mark.Not >>= (λ _. i.neg >>= (λ e. pure (plain.Not e)))

    abbrev pub neg_at : Bool → Parser PlainExpr
    neg_at b = if b then denied else cmp

    unfoldable pub neg : Parser PlainExpr
    neg = seeing (λ o. neg_at (at_mark mark.Not o))

    unfoldable pub and_neg : PlainExpr → Parser PlainExpr
    and_neg l = sign mark.And >>= (λ _. neg >>= (λ r. pure (plain.And l r)))

    unfoldable pub both_rest : PlainExpr → Parser PlainExpr
    both_rest l = many (at_mark mark.And) and_neg l

    unfoldable pub a_both : Parser PlainExpr
    a_both = neg >>= both_rest

    unfoldable pub or_both : PlainExpr → Parser PlainExpr
    or_both l = sign mark.Or >>= (λ _. a_both >>= (λ r. pure (plain.Or l r)))

    unfoldable pub expr_rest : PlainExpr → Parser PlainExpr
    expr_rest l = many (at_mark mark.Or) or_both l

    unfoldable pub expr : Parser PlainExpr
    expr = a_both >>= expr_rest

    -- the rest of an expression after its first operand
    unfoldable pub rest_of : PlainExpr → Parser PlainExpr
    rest_of e = term_rest e >>= sum_rest >>= cmp_rest >>= both_rest >>= expr_rest

  -- where so many levels may be opened
  unfoldable pub levels_left : ℕ → Inner
  levels_left zero = record { opens = false; expr = fail TooDeep; unary = fail TooDeep; neg = fail TooDeep }
  levels_left (suc levels) = record {
    opens = true;
    expr = expr (levels_left levels);
    unary = unary (levels_left levels);
    neg = neg (levels_left levels);
  }

  module _ (elifs levels : ℕ) (block : Parser (List PlainStmt)) where
    unfoldable pub an_expr : Parser PlainExpr
    an_expr = expr (levels_left levels)

    unfoldable pub body : Parser (List PlainStmt)
    body = sign mark.Colon >>= (λ _. block)

    unfoldable pub else_body : Parser (List PlainStmt)
    else_body = sign mark.Else >>= (λ _. body)

    abbrev pub otherwise_at : Bool → Parser (List PlainStmt)
    otherwise_at b = if b then else_body else pure []

    unfoldable pub otherwise : Parser (List PlainStmt)
    otherwise = seeing (λ o. otherwise_at (at_mark mark.Else o))

    -- a word, a test and a block
    unfoldable pub arm : Mark → Parser PlainArm
    arm m = sign m >>= (λ t. an_expr >>= (λ test. body >>= (λ ss. pure (record { line = t.place.line; test = test; body = block_of ss }))))

    abbrev pub arm_and_rest : Mark → Parser (List PlainStmt) → Parser PlainStmt
    arm_and_rest m more = arm m >>= (λ a. more >>= (λ other. pure (if_arm a other)))

    abbrev pub rest_at : Parser PlainStmt → Bool → Parser (List PlainStmt)
    rest_at elif b = if b then elif >>= (λ s. pure (s ∷ [])) else otherwise

    unfoldable pub chain_rest : ℕ → Parser (List PlainStmt)
    chain_rest zero = seeing (λ o. if at_mark mark.Elif o then fail TooMany else otherwise)
    chain_rest (suc more) = seeing (λ o. rest_at (arm_and_rest mark.Elif (chain_rest more)) (at_mark mark.Elif o))

    unfoldable pub if_of : Parser PlainStmt
    if_of = arm_and_rest mark.If (chain_rest elifs)

    unfoldable pub while_of : Parser PlainStmt
    while_of = arm mark.While >>= (λ a. pure (plain.While a.line a.test a.body))

    unfoldable pub with_names : Parser (List Name)
    with_names = sign mark.With >>= (λ _. name_list)

    abbrev pub captures_at : Bool → Parser (List Name)
    captures_at b = if b then with_names else pure []

    unfoldable pub captures : Parser (List Name)
    captures = seeing (λ o. captures_at (at_mark mark.With o))

    unfoldable pub when_of : Parser PlainStmt
    when_of = sign mark.When >>= (λ t. some_names >>= (λ cowns. captures >>= (λ kept. body >>= (λ ss.
        pure (plain.When t.place.line cowns kept (block_of ss))))))

    unfoldable pub drop_of : ℕ → Parser PlainStmt
    drop_of line = sign mark.Drop >>= (λ _. a_name >>= (λ x. pure (plain.Drop line x)))

    abbrev pub result_at : Bool → Parser (Option PlainExpr)
    result_at b = if b then pure None else an_expr >>= (λ e. pure (Some e))

    unfoldable pub result : Parser (Option PlainExpr)
    result = seeing (λ o. result_at (at_line_end o))

    unfoldable pub return_of : ℕ → Parser PlainStmt
    return_of line = sign mark.Return >>= (λ _. result >>= (λ value. pure (plain.Return line value)))

    unfoldable pub pass_of : ℕ → Parser PlainStmt
    pass_of line = sign mark.Pass >>= (λ _. pure (plain.Pass line))

    -- an expression alone, whose first operand was read
    unfoldable pub eval_rest : ℕ → PlainExpr → Parser PlainStmt
    eval_rest line e = rest_of (levels_left levels) e >>= (λ value. pure (plain.Eval line value))

    unfoldable pub eval_of : ℕ → Parser PlainStmt
    eval_of line = an_expr >>= (λ e. pure (plain.Eval line e))

    unfoldable pub assign_to : ℕ → PlainExpr → Parser PlainStmt
    assign_to line e = sign mark.Assign >>= (λ _. an_expr >>= (λ value. pure (assigned line e value)))

    abbrev pub placed_at : ℕ → PlainExpr → Bool → Parser PlainStmt
    placed_at line e b = if b then assign_to line e else eval_rest line e

    -- after a place that begins a statement
    unfoldable pub after_place : ℕ → PlainExpr → Parser PlainStmt
    after_place line e = seeing (λ o. placed_at line e (at_mark mark.Assign o))

    unfoldable pub call_first : ℕ → Name → Parser PlainStmt
    call_first line x = call (levels_left levels) x >>= suffixes (levels_left levels) >>= eval_rest line

    unfoldable pub place_first : ℕ → Name → Parser PlainStmt
    place_first line x = suffixes (levels_left levels) (plain.Var x) >>= after_place line

    abbrev pub name_first_at : ℕ → Name → Bool → Parser PlainStmt
    name_first_at line x b = if b then call_first line x else place_first line x

    -- a statement that begins with a name
    unfoldable pub name_first : ℕ → Parser PlainStmt
    name_first line = a_name >>= (λ x. seeing (λ o. name_first_at line x (at_mark mark.OpenParen o)))

    abbrev pub name_or_eval_at : ℕ → Bool → Parser PlainStmt
    name_or_eval_at line b = if b then name_first line else eval_of line

    abbrev pub simple_at : ℕ → Bool → Bool → Bool → Bool → Parser PlainStmt
    simple_at line a b c d =
        if a then drop_of line else (if b then return_of line else (if c then pass_of line else name_or_eval_at line d))

    unfoldable pub simple : ℕ → Parser PlainStmt
    simple line = seeing (λ o. simple_at line (at_mark mark.Drop o) (at_mark mark.Return o) (at_mark mark.Pass o) (at_name o))

    unfoldable pub simple_line : Parser PlainStmt
    simple_line = seeing (λ o. simple (line_at o)) >>= (λ s. take new_line >>= (λ _. pure s))

    abbrev pub stmt_at : Bool → Bool → Bool → Parser PlainStmt
    stmt_at a b c = if a then if_of else (if b then while_of else (if c then when_of else simple_line))

    unfoldable pub stmt : Parser PlainStmt
    stmt = seeing (λ o. stmt_at (at_mark mark.If o) (at_mark mark.While o) (at_mark mark.When o))

    unfoldable pub more_stmt : List PlainStmt → Parser (List PlainStmt)
    more_stmt ss = stmt >>= (λ s. pure (ss ++ s ∷ []))

    unfoldable pub stmts : List PlainStmt → Parser (List PlainStmt)
    stmts ss = many in_block more_stmt ss

    unfoldable pub block_from : Parser (List PlainStmt)
    block_from = take new_line >>= (λ _. take indent >>= (λ _. stmt >>= (λ s. stmts (s ∷ []) >>= (λ ss. take dedent >>= (λ _. pure ss)))))

  module _ (elifs levels : ℕ) where
    unfoldable pub blocks : ℕ → Parser (List PlainStmt)
    blocks zero = fail Unexpected
    blocks (suc nest) = block_from elifs levels (blocks nest)

    module _ (nest : ℕ) where
      unfoldable pub def : Parser PlainFunction
      def = sign mark.Def >>= (λ _. a_name >>= (λ x. sign mark.OpenParen >>= (λ _. some_names >>= (λ params. sign mark.CloseParen >>= (λ _.
          body elifs levels (blocks nest) >>= (λ ss. pure (record { name = x; params = params; body = block_of ss })))))))

      unfoldable pub def_item : Items → Parser Items
      def_item items = def >>= (λ f. pure (with_function items f))

      unfoldable pub stmt_item : Items → Parser Items
      stmt_item items = stmt elifs levels (blocks nest) >>= (λ s. pure (with_stmt items s))

      abbrev pub item_at : Items → Bool → Parser Items
      item_at items b = if b then def_item items else stmt_item items

      unfoldable pub item : Items → Parser Items
      item items = seeing (λ o. item_at items (at_mark mark.Def o))

      unfoldable pub items_from : Items → Parser Items
      items_from items = many before_end item items

      unfoldable pub a_script : Parser PlainTree
      a_script = items_from no_items >>= (λ items. take the_end >>= (λ _. pure (tree_of items)))
