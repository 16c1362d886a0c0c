use Rattle.std.proofs.Common.{◌≡◌, ◌++◌, map, OnOk, rules}
use Rattle.std.proofs.lemmas.Iterator.Adapters.{YieldsList-from_rev_slice, fact_from_extend}
use Rattle.lf_parser.specs.Plain.{args_of, plain_expr}
use Rattle.lf_codegen.specs.Parts.{args_back, plain_lent}
use Rattle.lf_codegen.proofs.Mentioning.Visiting.{args_left}
use Rattle.lf_codegen.proofs.mentions.leave_args.Goals as goal

pub returns : goal.returns
returns c =
    let h : OnOk c.extend.result (plain_lent c.extend.new.self.items ≡ plain_lent c.args.unvisited.now.items ++ args_back
    (args_of (map plain_expr c.args.args.now))) =
    fact_from_extend (λ y. y.now) c.extend.result c.extend.ensures.ran
    (λ it b. YieldsList-from_rev_slice c.args.args.now (search rules))
    (λ xs e g. args_left c.args.unvisited.now.items xs c.extend.new.self.items c.args.args.now g.0 e)
    in search rules
