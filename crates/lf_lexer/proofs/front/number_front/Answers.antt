use Rattle.std.proofs.Common.{◌+◌, ◌∙◌, sym, arith}
use Rattle.lf_lexer.proofs.NextPiece.Digits.{digits_more, value_more, number_wide}
use Rattle.lf_lexer.proofs.front.number_front.Goals as goal

pub returns-then-value-gt9223372036854775807-clause-front : goal.returns-then-value-gt9223372036854775807-clause-front
returns-then-value-gt9223372036854775807-clause-front c =
    let digit = sym c.is_digit.ensures ∙ c.if-not-is_digit.false in
    number_wide c.args.bytes.now (c.loop-i.i + 1) _ (digits_more c.args.bytes.now c.loop-i.i c.loop-i-test.true digit c.loop-i.invariant.count)
    (value_more c.args.bytes.now c.loop-i.i c.loop-i.value c.from.result c.loop-i-test.true digit c.loop-i.invariant.value_is c.from.ensures) (omega arith)

pub loop-i-preserved : goal.loop-i-preserved
loop-i-preserved c =
    let digit = sym c.is_digit.ensures ∙ c.if-not-is_digit.false in
    record {
      count = digits_more c.args.bytes.now c.loop-i.i c.loop-i-test.true digit c.loop-i.invariant.count;
      value_is = value_more c.args.bytes.now c.loop-i.i c.loop-i.value c.from.result c.loop-i-test.true digit c.loop-i.invariant.value_is c.from.ensures;
      small = omega arith;
    }
