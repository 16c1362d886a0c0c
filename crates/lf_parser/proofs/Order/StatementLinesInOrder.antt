-- Each rule of a statement adds the lines of the statements among its tokens, in their order.
use Rattle.std.proofs.Common.{List, [], ap, append-nil, append_assoc, refl, subst, sym, zero, suc, inl, inr, ℕ, ◌++◌, ◌∙◌, ◌∷◌, ◌≡◌}
use Rattle.lf_lexer.specs.declared.tokens.Mark.{Mark}
use Rattle.lf_lexer.specs.declared.tokens.Mark.TheVariants as mark
use Rattle.lf_lexer.specs.declared.tokens.Token.{Token}
use Rattle.lf_parser.specs.Forms.{Form, Yields, ◌⨟◌, ◌∣◌, Located, Many}
use Rattle.lf_parser.specs.Plain.{PlainArm, PlainExpr, PlainStmt, block_of}
use Rattle.lf_parser.specs.Plain as plain
use Rattle.lf_parser.specs.Grammar.{NewLine, assigned}
use Rattle.lf_parser.specs.Grammar as form
use Rattle.lf_parser.specs.TreeLines.{stmt_lines, block_lines, function_lines}
use Rattle.lf_parser.proofs.Order.AddedItems.{nothing, yields_adds, takes_none, then_adds, either_adds, adds_after, many_adds}
use Rattle.lf_parser.proofs.Order.LinesInTokenOrder.{at_line, in_line, AddsLines, takes_line, takes_word, takes_end, located_line}

abbrev pub stmts_lines : List PlainStmt → List ℕ
stmts_lines ss = block_lines (block_of ss)

pub stmts_lines_last : (ss : List PlainStmt) (s : PlainStmt) → stmts_lines (ss ++ s ∷ []) ≡ stmts_lines ss ++ stmt_lines s
stmts_lines_last [] s = append-nil (stmt_lines s)
stmts_lines_last (r ∷ ss) s = ap (λ ns. stmt_lines r ++ ns) (stmts_lines_last ss s) ∙ sym (append_assoc (stmt_lines r) (stmts_lines ss) (stmt_lines s))

abbrev arm_lines : PlainArm → List ℕ
arm_lines a = a.line ∷ block_lines a.body

-- a form all of whose values have this
record AllValues {A : Type 0} (C : A → Type 0) (P : Form A) : Type 0 where
  each : (ts : List Token) (a : A) → P ts a → C a

gives_one : {A : Type 0} {C : A → Type 0} (a : A) → C a → AllValues C (Yields a)
gives_one {C = C} a c = record { each = λ ts b h. subst C (sym h.1) c }

then_one : {A B : Type 0} {C : B → Type 0} {P : Form A} {Q : A → Form B} → ((a : A) → AllValues C (Q a)) → AllValues C (P ⨟ Q)
then_one q = record { each = λ ts b h. (q h.2).each h.1 b h.5 }

either_one : {A : Type 0} {C : A → Type 0} {P Q : Form A} → AllValues C P → AllValues C Q → AllValues C (P ∣ Q)
either_one {A} {C} {P} {Q} p q = record { each = λ ts a h. by_case ts a h }
  where
    by_case : (ts : List Token) (a : A) → (P ∣ Q) ts a → C a
    by_case ts a (inl h) = p.each ts a h
    by_case ts a (inr h) = q.each ts a h

-- a statement that holds no other one
abbrev OnLine : ℕ → PlainStmt → Type 0
OnLine line s = stmt_lines s ≡ line ∷ []

assigned_line : (line : ℕ) (e value : PlainExpr) → OnLine line (assigned line e value)
assigned_line line (plain.Var x) value = refl
assigned_line line (plain.Field target key) value = refl
assigned_line line _ value = refl

module _ (Room : ℕ → Type 0) (elifs levels : ℕ) where
  module _ (Block : Form (List PlainStmt)) (block : AddsLines in_line at_line [] stmts_lines Block) where
    body : AddsLines in_line at_line [] stmts_lines (form.Body Room elifs levels Block)
    body = then_adds takes_none (λ _. block)

    otherwise : AddsLines at_line at_line [] stmts_lines (form.Otherwise Room elifs levels Block)
    otherwise = either_adds (then_adds takes_word (λ _. body)) (yields_adds [] refl)

    arm : (m : Mark) → AddsLines at_line at_line [] arm_lines (form.AnArm Room elifs levels Block m)
    arm m = then_adds (takes_line m) (λ t. then_adds nothing (λ test. then_adds (adds_after (t.place.line ∷ []) body) (λ ss. yields_adds _ refl)))

    arm_and_rest : (m : Mark) (More : Form (List PlainStmt)) → AddsLines at_line at_line [] stmts_lines More → AddsLines at_line at_line [] stmt_lines (form.ArmAndRest Room elifs levels Block m More)
    arm_and_rest m More others = then_adds (arm m) (λ a. then_adds (adds_after (arm_lines a) others) (λ other. yields_adds _ refl))

    rest : (n : ℕ) → AddsLines at_line at_line [] stmts_lines (form.Rest Room elifs levels Block n)
    rest zero = otherwise
    rest (suc n) = either_adds (then_adds (arm_and_rest mark.Elif (form.Rest Room elifs levels Block n) (rest n)) (λ s. yields_adds _ (append-nil (stmt_lines s)))) otherwise

    while_of : AddsLines at_line at_line [] stmt_lines (form.While Room elifs levels Block)
    while_of = then_adds (arm mark.While) (λ a. yields_adds _ refl)

    when_of : AddsLines at_line at_line [] stmt_lines (form.When Room elifs levels Block)
    when_of = then_adds (takes_line mark.When) (λ t. then_adds nothing (λ cowns. then_adds nothing (λ names. then_adds (adds_after (t.place.line ∷ []) body) (λ ss. yields_adds _ refl))))

    simple : (line : ℕ) → AllValues (OnLine line) (form.Simple Room elifs levels Block line)
    simple line =
        either_one (then_one (λ _. then_one (λ x. gives_one _ refl)))
        (either_one (then_one (λ _. then_one (λ value. gives_one _ refl)))
        (either_one (then_one (λ _. gives_one _ refl))
        (either_one (then_one (λ e. then_one (λ _. then_one (λ value. gives_one _ (assigned_line line e value))))) (then_one (λ e. gives_one _ refl)))))

    simple_line : AddsLines at_line at_line [] stmt_lines (Located (form.Simple Room elifs levels Block) ⨟ (λ s. NewLine ⨟ (λ _. Yields s)))
    simple_line = then_adds (located_line (λ line ts s h. (simple line).each ts s h)) (λ s. then_adds takes_end (λ _. yields_adds s refl))

    stmt_adds : AddsLines at_line at_line [] stmt_lines (form.Stmt Room elifs levels Block)
    stmt_adds = either_adds (arm_and_rest mark.If (form.Rest Room elifs levels Block elifs) (rest elifs)) (either_adds while_of (either_adds when_of simple_line))

    more_stmt : (ss : List PlainStmt) → AddsLines at_line at_line (stmts_lines ss) stmts_lines (form.MoreStmt Room elifs levels Block ss)
    more_stmt ss = then_adds (adds_after (stmts_lines ss) stmt_adds) (λ s. yields_adds _ (stmts_lines_last ss s))

    behind_first : (s : PlainStmt) → AddsLines at_line at_line (stmt_lines s) stmts_lines (Many (form.MoreStmt Room elifs levels Block) (s ∷ []))
    behind_first s = subst (λ ns. AddsLines at_line at_line ns stmts_lines (Many (form.MoreStmt Room elifs levels Block) (s ∷ []))) (append-nil (stmt_lines s)) (many_adds more_stmt (s ∷ []))

    block_adds : AddsLines in_line at_line [] stmts_lines (form.BlockOf Room elifs levels Block)
    block_adds = then_adds takes_end (λ _. then_adds takes_none (λ _. then_adds stmt_adds (λ s. then_adds (behind_first s) (λ ss. then_adds takes_none (λ _. yields_adds ss refl)))))

  blocks_add : (nest : ℕ) → AddsLines in_line at_line [] stmts_lines (form.blocks Room elifs levels nest)
  unfolding form.blocks
  blocks_add zero = record { each = λ ts ss h. absurd h }
  blocks_add (suc nest) = block_adds (form.blocks Room elifs levels nest) (blocks_add nest)

  module _ (nest : ℕ) where
    pub stmt_lined : AddsLines at_line at_line [] stmt_lines (form.Stmt Room elifs levels (form.blocks Room elifs levels nest))
    stmt_lined = stmt_adds (form.blocks Room elifs levels nest) (blocks_add nest)

    pub def_lined : AddsLines at_line at_line [] function_lines (form.Def Room elifs levels nest)
    def_lined =
        then_adds takes_word
        (λ _. then_adds takes_none
        (λ x. then_adds takes_none
        (λ _. then_adds nothing (λ params. then_adds takes_none (λ _. then_adds (body (form.blocks Room elifs levels nest) (blocks_add nest)) (λ ss. yields_adds _ refl))))))
