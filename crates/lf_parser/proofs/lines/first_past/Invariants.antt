use Rattle.std.proofs.Common.{◌≡◌, ◌≤◌, take}
use Rattle.lf_base.specs.declared.limits.TheConstants.{MOST_LINE_TOKENS}
use Rattle.lf_parser.specs.Refusals.{last_count, LinesFit}
use Rattle.lf_parser.proofs.lines.first_past.Given as goal

abbrev pub invariant-loop-index : goal.invariant-loop-index
invariant-loop-index l = record {
  few : l.count ≤ MOST_LINE_TOKENS;
  count_is : l.count ≡ last_count (take l.index l.tokens);
  fits : LinesFit (take l.index l.tokens);
}
