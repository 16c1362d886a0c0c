use Rattle.std.proofs.Common.{◌∙◌, ℕ, List, sym, ap, subst}
use Rattle.lf_base.specs.Texts.{Text}
use Rattle.lf_lexer.specs.declared.front.Front.{Front}
use Rattle.lf_lexer.specs.Lexed.{with_name, with_quoted}
use Rattle.lf_lexer.specs.LineRest.{line_rest}
use Rattle.lf_lexer.specs.Lexing.{with_front}
use Rattle.lf_lexer.specs.Meaning.{meaning, FrontMeans}
use Rattle.lf_lexer.proofs.NextPiece.LineFronts.{name_taken, text_taken}
use Rattle.lf_lexer.proofs.line.lex_step.Goals as goal

pub returns-in_ok-push_name-in-Name-clause-lexed : goal.returns-in_ok-push_name-in-Name-clause-lexed
unfolding with_front
returns-in_ok-push_name-in-Name-clause-lexed c =
    let is = sym c.in-Name.is ∙ c.in_ok-front_of.ensures.front in
    c.in_ok-push_name-in-Name.ensures
    ∙ ap (λ (bytes : List ℕ). with_name c.args.line c.args.lexed.now c.args.at bytes) (name_taken c.args.rest.now c.in-Name.len is)
    ∙ ap (λ (x : Front). with_front c.args.line c.args.lexed.now c.args.at (line_rest c.args.rest.now) x) is

pub returns-in_ok-push_quoted-in-Text-clause-lexed : goal.returns-in_ok-push_quoted-in-Text-clause-lexed
unfolding with_front
returns-in_ok-push_quoted-in-Text-clause-lexed c =
    let is = sym c.in-Text.is ∙ c.in_ok-front_of.ensures.front in
    c.in_ok-push_quoted-in-Text.ensures
    ∙ ap (λ (text : Text). with_quoted c.args.line c.args.lexed.now c.args.at text c.in-Text.len) (c.as_slice.ensures.value ∙ subst (FrontMeans c.front_of.new.text.items c.args.rest.now) c.in-Text.is c.in_ok-front_of.ensures.text ∙ ap meaning (text_taken c.args.rest.now c.in-Text.len is))
    ∙ ap (λ (x : Front). with_front c.args.line c.args.lexed.now c.args.at (line_rest c.args.rest.now) x) is
