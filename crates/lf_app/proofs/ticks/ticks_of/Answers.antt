use Rattle.std.proofs.Common.{◌+◌, ◌∙◌, sym, arith}
use Rattle.lf_app.proofs.TicksSoFar.{digits_more, too_many, value_more}
use Rattle.lf_app.proofs.ticks.ticks_of.Goals as goal

pub returns-then-ticks-gt-MOST_TICKS : goal.returns-then-ticks-gt-MOST_TICKS
returns-then-ticks-gt-MOST_TICKS c =
    let digit = sym c.is_digit.ensures ∙ c.if-not-is_digit.false in
    too_many c.args.number.now (c.loop-byte.byte-index + 1) _
    (value_more c.args.number.now c.loop-byte.byte-index c.loop-byte.ticks c.from.result c.loop-byte-test.true digit
    c.loop-byte.invariant.value_is c.from.ensures) (omega arith)

pub loop-byte-preserved : goal.loop-byte-preserved
loop-byte-preserved c =
    let digit = sym c.is_digit.ensures ∙ c.if-not-is_digit.false in
    record {
      digits = digits_more c.args.number.now c.loop-byte.byte-index c.loop-byte-test.true digit c.loop-byte.invariant.digits;
      value_is = value_more c.args.number.now c.loop-byte.byte-index c.loop-byte.ticks c.from.result c.loop-byte-test.true digit
          c.loop-byte.invariant.value_is c.from.ensures;
      small = omega arith;
    }
