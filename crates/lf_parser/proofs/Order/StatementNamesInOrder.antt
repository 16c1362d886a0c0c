-- Each rule of a statement adds the names among its tokens, in their order.
use Rattle.std.proofs.Common.{◌≡◌, ℕ, zero, suc, List, [], ◌∷◌, ◌++◌, None, refl, sym, ap, ◌∙◌, subst, append-nil, append_assoc, ◌⊎◌, inl, inr}
use Rattle.lf_lexer.specs.declared.tokens.Mark.{Mark}
use Rattle.lf_lexer.specs.declared.tokens.Mark.TheVariants as mark
use Rattle.lf_parser.specs.declared.name.Name.{Name}
use Rattle.lf_parser.specs.Forms.{Form, Yields, ◌⨟◌, Many}
use Rattle.lf_parser.specs.Plain.{PlainExpr, PlainArm, PlainStmt, block_of}
use Rattle.lf_parser.specs.Plain as plain
use Rattle.lf_parser.specs.Grammar.{Sign, assigned, within}
use Rattle.lf_parser.specs.Grammar as form
use Rattle.lf_parser.specs.TreeNames.{expr_names, value_names, stmt_names, block_names, function_names}
use Rattle.lf_parser.proofs.Order.AddedItems.{yields_adds, takes_none, then_adds, then_some_add, either_adds, located_adds, adds_after, many_adds}
use Rattle.lf_parser.proofs.Order.NamesInTokenOrder.{AddsNames, takes_name}
use Rattle.lf_parser.proofs.Order.ExpressionNamesInOrder.{names_add, some_names_add, spot_adds, expr_adds, deep_names}

abbrev pub stmts_names : List PlainStmt → List Name
stmts_names ss = block_names (block_of ss)

pub stmts_names_last : (ss : List PlainStmt) (s : PlainStmt) → stmts_names (ss ++ s ∷ []) ≡ stmts_names ss ++ stmt_names s
stmts_names_last [] s = append-nil (stmt_names s)
stmts_names_last (r ∷ ss) s = ap (λ ns. stmt_names r ++ ns) (stmts_names_last ss s) ∙ sym (append_assoc (stmt_names r) (stmts_names ss) (stmt_names s))

abbrev arm_names : PlainArm → List Name
arm_names a = expr_names a.test ++ block_names a.body

module _ (Room : ℕ → Type 0) (elifs levels : ℕ) where
  module _ (Block : Form (List PlainStmt)) (block : AddsNames [] stmts_names Block) where
    an_expr : AddsNames [] expr_names (form.AnExpr Room elifs levels Block)
    an_expr = expr_adds Room (within Room levels) (deep_names Room levels)

    pub body : AddsNames [] stmts_names (form.Body Room elifs levels Block)
    body = then_adds takes_none (λ _. block)

    otherwise : AddsNames [] stmts_names (form.Otherwise Room elifs levels Block)
    otherwise = either_adds (then_adds takes_none (λ _. body)) (yields_adds [] refl)

    arm : (m : Mark) → AddsNames [] arm_names (form.AnArm Room elifs levels Block m)
    arm m = then_adds takes_none (λ t. then_adds an_expr (λ test. then_adds (adds_after (expr_names test) body) (λ ss. yields_adds _ refl)))

    arm_and_rest : (m : Mark) (More : Form (List PlainStmt)) → AddsNames [] stmts_names More → AddsNames [] stmt_names (form.ArmAndRest Room elifs levels Block m More)
    arm_and_rest m More others =
        then_adds (arm m) (λ a. then_adds (adds_after (arm_names a) others) (λ other. yields_adds _ (sym (append_assoc (expr_names a.test) (block_names a.body) (stmts_names other)))))

    rest : (n : ℕ) → AddsNames [] stmts_names (form.Rest Room elifs levels Block n)
    rest zero = otherwise
    rest (suc n) = either_adds (then_adds (arm_and_rest mark.Elif (form.Rest Room elifs levels Block n) (rest n)) (λ s. yields_adds _ (append-nil (stmt_names s)))) otherwise

    while_of : AddsNames [] stmt_names (form.While Room elifs levels Block)
    while_of = then_adds (arm mark.While) (λ a. yields_adds _ refl)

    captures : AddsNames [] (λ ns. ns) (form.Captures Room elifs levels Block)
    captures = either_adds (then_adds takes_none (λ _. names_add Room)) (yields_adds [] refl)

    when_of : AddsNames [] stmt_names (form.When Room elifs levels Block)
    when_of =
        then_adds takes_none
        (λ t. then_adds (some_names_add Room)
        (λ cowns. then_adds (adds_after cowns captures)
        (λ names. then_adds (adds_after (cowns ++ names) body) (λ ss. yields_adds _ (sym (append_assoc cowns names (stmts_names ss)))))))

    -- what stands after a place that is given a value
    given : (line : ℕ) (e : PlainExpr) → AddsNames (expr_names e) stmt_names (Sign mark.Assign ⨟ (λ _. form.AnExpr Room elifs levels Block ⨟ (λ value. Yields (assigned line e value))))
        ⊎ AddsNames [] stmt_names (Sign mark.Assign ⨟ (λ _. form.AnExpr Room elifs levels Block ⨟ (λ value. Yields (assigned line e value))))
    given line (plain.Var x) = inl (then_adds takes_none (λ _. then_adds (adds_after (x ∷ []) an_expr) (λ value. yields_adds _ refl)))
    given line (plain.Field target key) =
        inl (then_adds takes_none (λ _. then_adds (adds_after (expr_names target ++ expr_names key) an_expr) (λ value. yields_adds _ (sym (append_assoc (expr_names target) (expr_names key) (expr_names value))))))
    given line _ = inr (then_adds takes_none (λ _. then_adds an_expr (λ value. yields_adds _ refl)))

    assignment : (line : ℕ) → AddsNames [] stmt_names (form.Assignment Room elifs levels Block line)
    assignment line = then_some_add (spot_adds Room (within Room levels) (deep_names Room levels)) (given line)

    drop_of : (line : ℕ) → AddsNames [] stmt_names (form.DropOf Room elifs levels Block line)
    drop_of line = then_adds takes_none (λ _. then_adds takes_name (λ x. yields_adds _ refl))

    result : AddsNames [] value_names (form.Result Room elifs levels Block)
    result = either_adds (yields_adds None refl) (then_adds an_expr (λ e. yields_adds _ refl))

    return_of : (line : ℕ) → AddsNames [] stmt_names (form.ReturnOf Room elifs levels Block line)
    return_of line = then_adds takes_none (λ _. then_adds result (λ value. yields_adds _ refl))

    pass_of : (line : ℕ) → AddsNames [] stmt_names (form.PassOf Room elifs levels Block line)
    pass_of line = then_adds takes_none (λ _. yields_adds _ refl)

    eval_of : (line : ℕ) → AddsNames [] stmt_names (form.EvalOf Room elifs levels Block line)
    eval_of line = then_adds an_expr (λ e. yields_adds _ refl)

    simple : (line : ℕ) → AddsNames [] stmt_names (form.Simple Room elifs levels Block line)
    simple line = either_adds (drop_of line) (either_adds (return_of line) (either_adds (pass_of line) (either_adds (assignment line) (eval_of line))))

    pub stmt_adds : AddsNames [] stmt_names (form.Stmt Room elifs levels Block)
    stmt_adds =
        either_adds (arm_and_rest mark.If (form.Rest Room elifs levels Block elifs) (rest elifs))
        (either_adds while_of (either_adds when_of (then_adds (located_adds simple) (λ s. then_adds takes_none (λ _. yields_adds s refl)))))

    more_stmt : (ss : List PlainStmt) → AddsNames (stmts_names ss) stmts_names (form.MoreStmt Room elifs levels Block ss)
    more_stmt ss = then_adds (adds_after (stmts_names ss) stmt_adds) (λ s. yields_adds _ (stmts_names_last ss s))

    behind_first : (s : PlainStmt) → AddsNames (stmt_names s) stmts_names (Many (form.MoreStmt Room elifs levels Block) (s ∷ []))
    behind_first s = subst (λ ns. AddsNames ns stmts_names (Many (form.MoreStmt Room elifs levels Block) (s ∷ []))) (append-nil (stmt_names s)) (many_adds more_stmt (s ∷ []))

    block_adds : AddsNames [] stmts_names (form.BlockOf Room elifs levels Block)
    block_adds = then_adds takes_none (λ _. then_adds takes_none (λ _. then_adds stmt_adds (λ s. then_adds (behind_first s) (λ ss. then_adds takes_none (λ _. yields_adds ss refl)))))

  pub blocks_add : (nest : ℕ) → AddsNames [] stmts_names (form.blocks Room elifs levels nest)
  unfolding form.blocks
  blocks_add zero = record { each = λ ts ss h. absurd h }
  blocks_add (suc nest) = block_adds (form.blocks Room elifs levels nest) (blocks_add nest)

  pub def_adds : (nest : ℕ) → AddsNames [] function_names (form.Def Room elifs levels nest)
  def_adds nest =
      then_adds takes_none
      (λ _. then_adds takes_name
      (λ x. then_adds takes_none
      (λ _. then_adds (adds_after (x ∷ []) (some_names_add Room))
      (λ params. then_adds takes_none (λ _. then_adds (adds_after (x ∷ params) (body (form.blocks Room elifs levels nest) (blocks_add nest))) (λ ss. yields_adds _ refl))))))
