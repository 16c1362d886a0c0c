use Rattle.std.proofs.Common.{◌∙◌, sym, arith}
use Rattle.lf_lexer.proofs.LexSteps.LevelSteps.{indent_met, indent_missed}
use Rattle.lf_lexer.proofs.indent.lex_indent.Goals as goal

pub returns-then-innermost-indent-2-clause-refused : goal.returns-then-innermost-indent-2-clause-refused
returns-then-innermost-indent-2-clause-refused c =
    indent_missed c.args.line c.args.indent c.args.levels.now c.close_levels.new.levels c.args.lexed.now c.close_levels.new.lexed c.refusal.result c.in_ok-close_levels.ensures
    (λ deeper. let is = c.innermost.ensures in let no = c.if-innermost-indent.false in omega arith)
    (λ met. c.if-innermost-indent-2.true (c.innermost-2.ensures ∙ met)) c.refusal.ensures

pub returns-clause-lexed : goal.returns-clause-lexed
returns-clause-lexed c =
    indent_met c.args.line c.args.indent c.args.levels.now c.close_levels.new.levels c.args.lexed.now c.close_levels.new.lexed c.in_ok-close_levels.ensures
    (sym c.innermost-2.ensures ∙ c.if-innermost-indent-2.false)
