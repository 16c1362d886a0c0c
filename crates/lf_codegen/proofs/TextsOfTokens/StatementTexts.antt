-- Each rule of a statement adds the texts among its tokens.
use Rattle.std.proofs.Common.{◌≡◌, ℕ, zero, suc, List, [], ◌∷◌, ◌++◌, None, refl, sym, ap, ◌∙◌, subst, append-nil, append_assoc, ◌⊎◌, inl}
use Rattle.std.proofs.Common.{inr}
use Rattle.lf_base.specs.declared.ids.TextId.{TextId}
use Rattle.lf_lexer.specs.declared.tokens.Mark.{Mark}
use Rattle.lf_lexer.specs.declared.tokens.Mark.TheVariants as mark
use Rattle.lf_parser.specs.Forms.{Form, Yields, ◌⨟◌, Many}
use Rattle.lf_parser.specs.Plain.{PlainExpr, PlainArm, PlainStmt, block_of}
use Rattle.lf_parser.specs.Plain as plain
use Rattle.lf_parser.specs.Grammar.{Sign, assigned, within}
use Rattle.lf_parser.specs.Grammar as form
use Rattle.lf_parser.proofs.Order.AddedItems.{yields_adds, takes_none, then_adds, then_some_add, either_adds, located_adds, adds_after}
use Rattle.lf_parser.proofs.Order.AddedItems.{many_adds}
use Rattle.lf_codegen.specs.TextsNamed.{expr_texts, value_texts, stmt_texts, block_texts, function_texts}
use Rattle.lf_codegen.proofs.TextsOfTokens.TextsAmongTokens.{AddsTexts}
use Rattle.lf_codegen.proofs.TextsOfTokens.ExpressionTexts.{names_add, some_names_add, spot_adds, expr_adds, deep_texts}

module _ (count : ℕ) where
  abbrev pub stmts_texts : List PlainStmt → List TextId
  stmts_texts ss = block_texts (block_of ss)

  pub stmts_texts_last : (ss : List PlainStmt) (s : PlainStmt) → stmts_texts (ss ++ s ∷ []) ≡ stmts_texts ss ++ stmt_texts s
  stmts_texts_last [] s = append-nil (stmt_texts s)
  stmts_texts_last (r ∷ ss) s = ap (λ ns. stmt_texts r ++ ns) (stmts_texts_last ss s) ∙ sym (append_assoc (stmt_texts r) (stmts_texts ss)
      (stmt_texts s))

  abbrev arm_texts : PlainArm → List TextId
  arm_texts a = expr_texts a.test ++ block_texts a.body

  module _ (Room : ℕ → Type 0) (elifs levels : ℕ) where
    module _ (Block : Form (List PlainStmt)) (block : AddsTexts count [] stmts_texts Block) where
      an_expr : AddsTexts count [] expr_texts (form.AnExpr Room elifs levels Block)
      an_expr = expr_adds count Room (within Room levels) (deep_texts count Room levels)

      pub body : AddsTexts count [] stmts_texts (form.Body Room elifs levels Block)
      body = then_adds takes_none (λ _. block)

      otherwise : AddsTexts count [] stmts_texts (form.Otherwise Room elifs levels Block)
      otherwise = either_adds (then_adds takes_none (λ _. body)) (yields_adds [] refl)

      arm : (m : Mark) → AddsTexts count [] arm_texts (form.AnArm Room elifs levels Block m)
      arm m = then_adds takes_none (λ t. then_adds an_expr (λ test. then_adds (adds_after (expr_texts test) body)
          (λ ss. yields_adds _ refl)))

      arm_and_rest : (m : Mark) (More : Form (List PlainStmt)) → AddsTexts count [] stmts_texts More → AddsTexts count [] stmt_texts
          (form.ArmAndRest Room elifs levels Block m More)
      arm_and_rest m More others =
          then_adds (arm m) (λ a. then_adds (adds_after (arm_texts a) others) (λ other. yields_adds _ (sym (append_assoc
          (expr_texts a.test) (block_texts a.body) (stmts_texts other)))))

      rest : (n : ℕ) → AddsTexts count [] stmts_texts (form.Rest Room elifs levels Block n)
      rest zero = otherwise
      rest (suc n) = either_adds (then_adds (arm_and_rest mark.Elif (form.Rest Room elifs levels Block n) (rest n)) (λ s. yields_adds _
          (append-nil (stmt_texts s)))) otherwise

      while_of : AddsTexts count [] stmt_texts (form.While Room elifs levels Block)
      while_of = then_adds (arm mark.While) (λ a. yields_adds _ refl)

      captures : AddsTexts count [] (λ _. []) (form.Captures Room elifs levels Block)
      captures = either_adds (then_adds takes_none (λ _. names_add count Room)) (yields_adds [] refl)

      when_of : AddsTexts count [] stmt_texts (form.When Room elifs levels Block)
      when_of =
          then_adds takes_none
          (λ t. then_adds (some_names_add count Room) (λ cowns. then_adds captures (λ names. then_adds body (λ ss. yields_adds _ refl))))

      -- what stands after a place that is given a value
      given : (line : ℕ) (e : PlainExpr) → AddsTexts count (expr_texts e) stmt_texts (Sign mark.Assign ⨟
          (λ _. form.AnExpr Room elifs levels Block ⨟ (λ value. Yields (assigned line e value))))
          ⊎ AddsTexts count [] stmt_texts (Sign mark.Assign ⨟ (λ _. form.AnExpr Room elifs levels Block ⨟ (λ value. Yields
          (assigned line e value))))
      given line (plain.Var x) = inl (then_adds takes_none (λ _. then_adds an_expr (λ value. yields_adds _ refl)))
      given line (plain.Field target key) =
          inl (then_adds takes_none (λ _. then_adds (adds_after (expr_texts target ++ expr_texts key) an_expr) (λ value. yields_adds _ (sym
          (append_assoc (expr_texts target) (expr_texts key) (expr_texts value))))))
      given line _ = inr (then_adds takes_none (λ _. then_adds an_expr (λ value. yields_adds _ refl)))

      assignment : (line : ℕ) → AddsTexts count [] stmt_texts (form.Assignment Room elifs levels Block line)
      assignment line = then_some_add (spot_adds count Room (within Room levels) (deep_texts count Room levels)) (given line)

      drop_of : (line : ℕ) → AddsTexts count [] stmt_texts (form.DropOf Room elifs levels Block line)
      drop_of line = then_adds takes_none (λ _. then_adds takes_none (λ x. yields_adds _ refl))

      result : AddsTexts count [] value_texts (form.Result Room elifs levels Block)
      result = either_adds (yields_adds None refl) (then_adds an_expr (λ e. yields_adds _ refl))

      return_of : (line : ℕ) → AddsTexts count [] stmt_texts (form.ReturnOf Room elifs levels Block line)
      return_of line = then_adds takes_none (λ _. then_adds result (λ value. yields_adds _ refl))

      pass_of : (line : ℕ) → AddsTexts count [] stmt_texts (form.PassOf Room elifs levels Block line)
      pass_of line = then_adds takes_none (λ _. yields_adds _ refl)

      eval_of : (line : ℕ) → AddsTexts count [] stmt_texts (form.EvalOf Room elifs levels Block line)
      eval_of line = then_adds an_expr (λ e. yields_adds _ refl)

      simple : (line : ℕ) → AddsTexts count [] stmt_texts (form.Simple Room elifs levels Block line)
      simple line = either_adds (drop_of line) (either_adds (return_of line) (either_adds (pass_of line) (either_adds (assignment line)
          (eval_of line))))

      pub stmt_adds : AddsTexts count [] stmt_texts (form.Stmt Room elifs levels Block)
      stmt_adds =
          either_adds (arm_and_rest mark.If (form.Rest Room elifs levels Block elifs) (rest elifs))
          (either_adds while_of (either_adds when_of (then_adds (located_adds simple) (λ s. then_adds takes_none
          (λ _. yields_adds s refl)))))

      more_stmt : (ss : List PlainStmt) → AddsTexts count (stmts_texts ss) stmts_texts (form.MoreStmt Room elifs levels Block ss)
      more_stmt ss = then_adds (adds_after (stmts_texts ss) stmt_adds) (λ s. yields_adds _ (stmts_texts_last ss s))

      behind_first : (s : PlainStmt) → AddsTexts count (stmt_texts s) stmts_texts (Many (form.MoreStmt Room elifs levels Block) (s ∷ []))
      behind_first s = subst (λ ns. AddsTexts count ns stmts_texts (Many (form.MoreStmt Room elifs levels Block) (s ∷ []))) (append-nil
          (stmt_texts s)) (many_adds more_stmt (s ∷ []))

      block_adds : AddsTexts count [] stmts_texts (form.BlockOf Room elifs levels Block)
      block_adds = then_adds takes_none (λ _. then_adds takes_none (λ _. then_adds stmt_adds (λ s. then_adds (behind_first s)
          (λ ss. then_adds takes_none (λ _. yields_adds ss refl)))))

    pub blocks_add : (nest : ℕ) → AddsTexts count [] stmts_texts (form.blocks Room elifs levels nest)
    unfolding form.blocks
    blocks_add zero = record { each = λ ts ss h. absurd h }
    blocks_add (suc nest) = block_adds (form.blocks Room elifs levels nest) (blocks_add nest)

    pub def_adds : (nest : ℕ) → AddsTexts count [] function_texts (form.Def Room elifs levels nest)
    def_adds nest =
        then_adds takes_none
        (λ _. then_adds takes_none
        (λ x. then_adds takes_none
        (λ _. then_adds (some_names_add count Room)
        (λ params. then_adds takes_none (λ _. then_adds (body (form.blocks Room elifs levels nest) (blocks_add nest))
        (λ ss. yields_adds _ refl))))))
