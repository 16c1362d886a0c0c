use Rattle.std.proofs.Common.{rules, ◌∙◌, sym, arith}
use Rattle.std.proofs.lemmas.Bool.Decides.{nat_tests}
use Rattle.lf_lexer.specs.Front.{front}
use Rattle.lf_lexer.proofs.NextPiece.LineFronts.{front_on_line, name_no_text, number_no_text}
use Rattle.lf_lexer.proofs.front.front_of.Goals as goal

pub returns-in_default-byte-clause-front : goal.returns-in_default-byte-clause-front
unfolding front
returns-in_default-byte-clause-front c =
    rw (front_on_line c.args.bytes.now (sym c.ends_line.ensures ∙ c.if-ends_line.false) (let l = sym c.is_letter.ensures ∙ c.if-is_letter.true in grind (arith, nat_tests))) (search rules)

pub returns-in_default-2-clause-front : goal.returns-in_default-2-clause-front
unfolding front
returns-in_default-2-clause-front c =
    rw (front_on_line c.args.bytes.now (sym c.ends_line.ensures ∙ c.if-ends_line.false) (let d = sym c.is_digit.ensures ∙ c.if-is_digit.true in grind (arith, nat_tests))) (search rules)

pub returns-in_default-3-clause-front : goal.returns-in_default-3-clause-front
unfolding front
returns-in_default-3-clause-front c = rw (front_on_line c.args.bytes.now (sym c.ends_line.ensures ∙ c.if-ends_line.false) (search rules)) (search rules)

pub returns-in_default-byte-clause-text : goal.returns-in_default-byte-clause-text
returns-in_default-byte-clause-text c = name_no_text c.args.text.now.items c.args.bytes.now c.args.bytes.now c.name_front.result c.name_front.ensures.front

pub returns-in_default-2-clause-text : goal.returns-in_default-2-clause-text
returns-in_default-2-clause-text c = number_no_text c.args.text.now.items c.args.bytes.now c.args.bytes.now c.number_front.result c.number_front.ensures.front
