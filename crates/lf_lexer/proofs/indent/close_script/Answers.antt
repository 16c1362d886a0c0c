use Rattle.std.proofs.Common.{◌∙◌, ◌+◌, ℕ, List, sym, ap, subst, refl, arith}
use Rattle.lf_lexer.specs.declared.tokens.Token.{Token}
use Rattle.lf_lexer.specs.Lexed.{with_token}
use Rattle.lf_lexer.proofs.LexSteps.LevelSteps.{ClosingSoFar, closing_more}
use Rattle.lf_lexer.proofs.indent.close_script.Goals as goal

pub loop-levels-preserved : goal.loop-levels-preserved
loop-levels-preserved c =
    subst (λ (left : List ℕ). ClosingSoFar c.args.size c.args.last c.args.levels.now left c.args.lexed.now c.push.new.self) (sym c.close.ensures)
    (closing_more c.args.size c.args.last (record { number = c.args.last + 1; start = c.args.size }) c.args.levels.now c.loop-levels.levels c.args.lexed.now c.loop-levels.lexed c.push.new.self
    refl (let some = c.loop-levels-test.true in let is = c.len.ensures in omega arith)
    (c.in_ok-push.ensures ∙ ap (λ (token : Token). with_token c.loop-levels.lexed token) c.token.ensures) c.loop-levels.invariant)
