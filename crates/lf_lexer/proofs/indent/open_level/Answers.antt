use Rattle.std.proofs.Common.{◌∙◌, ap, arith}
use Rattle.lf_lexer.specs.declared.tokens.Token.{Token}
use Rattle.lf_lexer.specs.Lexed.{with_token}
use Rattle.lf_lexer.proofs.LexSteps.LevelSteps.{level_opened, too_many_levels}
use Rattle.lf_lexer.proofs.indent.open_level.Goals as goal

pub returns-then-len-ge-MOST_INDENT_LEVELS-clause-refused : goal.returns-then-len-ge-MOST_INDENT_LEVELS-clause-refused
returns-then-len-ge-MOST_INDENT_LEVELS-clause-refused c =
    too_many_levels c.args.line c.args.indent c.args.levels.now c.refusal.result c.requires.deeper (let many = c.if-len-ge-MOST_INDENT_LEVELS.true in omega arith) c.refusal.ensures

pub returns-clause-lexed : goal.returns-clause-lexed
returns-clause-lexed c =
    level_opened c.args.line c.args.indent c.args.levels.now _ c.args.lexed.now _ c.requires.descend c.requires.deeper
    (let few = c.if-len-ge-MOST_INDENT_LEVELS.false in omega arith) c.in_ok-push.ensures.ok
    (c.in_ok-push-2.ensures ∙ ap (λ (token : Token). with_token c.args.lexed.now token) c.token.ensures)
