use Rattle.std.proofs.Common.{refl, arith}
use Rattle.lf_parser.proofs.Refusals.LongLines.{none_fit, count_one_more, fits_one_more, is_first_past}
use Rattle.lf_parser.proofs.lines.first_past.Goals as goal

pub loop-index-init : goal.loop-index-init
loop-index-init c = record { few = omega arith; count_is = refl; fits = none_fit }

pub returns-then-count-gt-MOST_LINE_TOKENS : goal.returns-then-count-gt-MOST_LINE_TOKENS
returns-then-count-gt-MOST_LINE_TOKENS c =
    let before = c.loop-index.invariant in
    is_first_past c.args.tokens.now c.loop-index.index _ c.loop-index-test.true c.loop-index.count c.count_after-count.result before.count_is c.count_after-count.ensures before.fits c.if-count-gt-MOST_LINE_TOKENS.true

pub loop-index-preserved : goal.loop-index-preserved
loop-index-preserved c =
    let before = c.loop-index.invariant in
    record {
      few = c.if-count-gt-MOST_LINE_TOKENS.false;
      count_is = count_one_more c.args.tokens.now c.loop-index.index _ c.loop-index-test.true c.loop-index.count c.count_after-count.result before.count_is c.count_after-count.ensures before.fits;
      fits = fits_one_more c.args.tokens.now c.loop-index.index _ c.loop-index-test.true c.loop-index.count c.count_after-count.result before.count_is c.count_after-count.ensures before.fits c.if-count-gt-MOST_LINE_TOKENS.false;
    }
