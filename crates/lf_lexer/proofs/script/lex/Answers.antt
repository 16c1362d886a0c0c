use Rattle.lf_lexer.proofs.LexSteps.LineSteps.{script_spelled}
use Rattle.lf_lexer.proofs.script.lex.Goals as goal

pub returns-clause-spelled : goal.returns-clause-spelled
returns-clause-spelled c =
    script_spelled c.args.bytes.now _ c.lex_lines.new.lexed c.close_script.new.lexed c.lex_lines.new.levels c.in_ok-last.last
    (record { tokens = c.new.ensures; texts = c.in_ok-new.ensures }) c.in_ok-last.ensures.lexed c.in_ok-close_script.ensures
