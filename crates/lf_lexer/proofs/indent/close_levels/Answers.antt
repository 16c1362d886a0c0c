use Rattle.std.proofs.Common.{◌∙◌, ℕ, List, sym, ap, subst, arith}
use Rattle.lf_lexer.specs.declared.tokens.Token.{Token}
use Rattle.lf_lexer.specs.Lexed.{with_token}
use Rattle.lf_lexer.proofs.LexSteps.LevelSteps.{ClosedSoFar, closed_more}
use Rattle.lf_lexer.proofs.indent.close_levels.Goals as goal

pub loop-line-preserved : goal.loop-line-preserved
loop-line-preserved c =
    subst (λ (left : List ℕ). ClosedSoFar c.args.line c.args.indent c.args.levels.now left c.args.lexed.now c.push.new.self) (sym c.close.ensures)
    (closed_more c.args.line c.args.indent c.args.levels.now c.loop-line.levels c.args.lexed.now c.loop-line.lexed c.push.new.self
    (let deeper = c.loop-line-test.true in let is = c.innermost.ensures in omega arith)
    (c.in_ok-push.ensures ∙ ap (λ (token : Token). with_token c.loop-line.lexed token) c.token.ensures) c.loop-line.invariant)
