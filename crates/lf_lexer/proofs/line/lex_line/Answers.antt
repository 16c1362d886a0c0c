use Rattle.std.proofs.Common.{◌∙◌, ◌+◌, ℕ, List, sym, ap, subst, refl, arith}
use Rattle.std.proofs.lemmas.Result.{err_from_is_err_and}
use Rattle.lf_lexer.specs.declared.tokens.Token.{Token}
use Rattle.lf_lexer.specs.Lexed.{with_token}
use Rattle.lf_lexer.specs.LineRest.{line_rest}
use Rattle.lf_lexer.specs.SourceLines.{full_line_len, indentation}
use Rattle.lf_lexer.specs.Lexing.{LexesIndent, RefusesIndent, LexesPieces, RefusesPieces}
use Rattle.lf_lexer.proofs.LexSteps.FilledLines.{line_filled, refused_at_indent, refused_in_rest}
use Rattle.lf_lexer.proofs.LineBytes.LineRests.{rest_short, full_len_after}
use Rattle.lf_lexer.proofs.line.lex_line.Goals as goal

pub returns-then-ends_tokens-clause-lexed : goal.returns-then-ends_tokens-clause-lexed
returns-then-ends_tokens-clause-lexed c =
    record { blank = c.split_indent-indent.ensures.blank ∙ sym c.ends_tokens.ensures ∙ c.if-ends_tokens.true; levels_stay = refl; lexed_stays = refl }

pub returns-in_err-lex_indent-clause-refused : goal.returns-in_err-lex_indent-clause-refused
returns-in_err-lex_indent-clause-refused c =
    let p = err_from_is_err_and c.from_residual.result c.from_residual.ensures.1 in
    rw (p.1, p.2)
    (refused_at_indent c.args.line (line_rest c.args.bytes.now) c.args.levels.now c.in_err-lex_indent.field-0.0 (c.split_indent-indent.ensures.blank ∙ sym c.ends_tokens.ensures ∙ c.if-ends_tokens.false)
    (subst (λ (n : ℕ). RefusesIndent c.args.line n c.args.levels.now c.in_err-lex_indent.field-0.0) c.split_indent-indent.ensures.len c.in_err-lex_indent.ensures.refused))

pub returns-in_err-tokens-clause-refused : goal.returns-in_err-tokens-clause-refused
returns-in_err-tokens-clause-refused c =
    let p = err_from_is_err_and c.from_residual-in_err-tokens.result c.from_residual-in_err-tokens.ensures.1 in
    let f = c.in_err-tokens.field-0.0 in
    rw (p.1, p.2)
    (refused_in_rest c.args.line (line_rest c.args.bytes.now) c.args.levels.now c.lex_indent.new.levels c.args.lexed.now c.lex_indent.new.lexed f
    (c.split_indent-indent.ensures.blank ∙ sym c.ends_tokens.ensures ∙ c.if-ends_tokens.false)
    (subst (λ (n : ℕ). LexesIndent c.args.line n c.args.levels.now c.lex_indent.new.levels c.args.lexed.now c.lex_indent.new.lexed) c.split_indent-indent.ensures.len c.in_ok-lex_indent.ensures.lexed)
    (subst (λ (left : List ℕ). RefusesPieces c.args.line (indentation (line_rest c.args.bytes.now)) left f) c.split_indent-indent.ensures.after
    (subst (λ (n : ℕ). RefusesPieces c.args.line n (line_rest c.split_indent-indent.result.1.now) f) c.split_indent-indent.ensures.len c.in_err-tokens.ensures.refused)))

pub token-requires : goal.token-requires
token-requires c =
    let whole = c.split_indent-indent.ensures.whole in
    let short = rest_short c.args.bytes.now in
    let end = c.in_ok-tokens.ensures.end in
    let stop = c.in_ok-tokens.ensures.within in
    let room = c.requires.short in
    omega arith

pub split_at-requires : goal.split_at-requires
split_at-requires c =
    let whole = c.split_indent-indent.ensures.whole in
    let short = rest_short c.args.bytes.now in
    let stop = c.in_ok-tokens.ensures.within in
    omega arith

pub returns-clause-lexed : goal.returns-clause-lexed
returns-clause-lexed c =
    let end = c.in_ok-tokens.tokens.end in
    line_filled c.args.line (line_rest c.args.bytes.now) c.args.levels.now c.lex_indent.new.levels c.args.lexed.now c.lex_indent.new.lexed c.lex_pieces.new.lexed c.push.new.self end
    (c.split_indent-indent.ensures.blank ∙ sym c.ends_tokens.ensures ∙ c.if-ends_tokens.false)
    (subst (λ (n : ℕ). LexesIndent c.args.line n c.args.levels.now c.lex_indent.new.levels c.args.lexed.now c.lex_indent.new.lexed) c.split_indent-indent.ensures.len c.in_ok-lex_indent.ensures.lexed)
    (subst (λ (left : List ℕ). LexesPieces c.args.line (indentation (line_rest c.args.bytes.now)) left c.lex_indent.new.lexed c.lex_pieces.new.lexed end) c.split_indent-indent.ensures.after
    (subst (λ (n : ℕ). LexesPieces c.args.line n (line_rest c.split_indent-indent.result.1.now) c.lex_indent.new.lexed c.lex_pieces.new.lexed end) c.split_indent-indent.ensures.len c.in_ok-tokens.ensures.lexed))
    (c.in_ok-push.ensures ∙ ap (λ (token : Token). with_token c.lex_pieces.new.lexed token) c.token.ensures)

pub returns-clause-len : goal.returns-clause-len
returns-clause-len c =
    let whole = c.split_indent-indent.ensures.whole in
    let stop = c.in_ok-tokens.ensures.within in
    ap (λ (n : ℕ). c.in_ok-tokens.tokens.stop + n) (c.full_line_len-2.ensures.len ∙ ap full_line_len c.split_at.ensures.back)
    ∙ full_len_after c.in_ok-tokens.tokens.stop c.args.bytes.now (omega arith)
