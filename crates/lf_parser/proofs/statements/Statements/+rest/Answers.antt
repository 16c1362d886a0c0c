use Rattle.std.proofs.Common.{rules, ◌<◌, arith, map, subst, sym}
use Rattle.lf_base.specs.declared.limits.TheConstants.{MOST_ELIFS, MOST_EXPRESSION_LEVELS}
use Rattle.lf_parser.specs.Plain.{plain_stmt}
use Rattle.lf_parser.specs.Parsers.{Reads}
use Rattle.lf_parser.specs.ReadingFunctions.{blocks}
use Rattle.lf_parser.specs.Limits.{within_limits}
use Rattle.lf_parser.proofs.Rules.OneLevelLess.{rest_plain, rest_elif}
use Rattle.lf_parser.proofs.statements.Statements.+rest.Goals as goal

pub returns-then-not-is_mark : goal.returns-then-not-is_mark
returns-then-not-is_mark g t c =
    let e = rest_plain MOST_ELIFS MOST_EXPRESSION_LEVELS (within_limits blocks c.args.self.now.nest) c.args.more c.args.cursor.now (search rules) in
    subst (λ o. Reads (map plain_stmt) o c.otherwise.result c.otherwise.new.cursor) (sym e) c.otherwise.ensures

pub returns-in_err-arm : goal.returns-in_err-arm
returns-in_err-arm g t c =
    let some : 0 < c.args.more = omega arith in
    let e = rest_elif MOST_ELIFS MOST_EXPRESSION_LEVELS (within_limits blocks c.args.self.now.nest) c.args.more c.args.cursor.now some (search rules) in
    rw e (search rules)

pub returns-in_err-other : goal.returns-in_err-other
returns-in_err-other g t c =
    let some : 0 < c.args.more = omega arith in
    let e = rest_elif MOST_ELIFS MOST_EXPRESSION_LEVELS (within_limits blocks c.args.self.now.nest) c.args.more c.args.cursor.now some (search rules) in
    rw e (search rules)

pub returns : goal.returns
returns g t c =
    let some : 0 < c.args.more = omega arith in
    let e = rest_elif MOST_ELIFS MOST_EXPRESSION_LEVELS (within_limits blocks c.args.self.now.nest) c.args.more c.args.cursor.now some (search rules) in
    rw e (search rules)
