use Rattle.std.proofs.Common.{subst, sym}
use Rattle.std.proofs.lemmas.Result.{IfOk-weaker}
use Rattle.lf_parser.specs.Plain.{plain_tree}
use Rattle.lf_app.proofs.Judging.{of_script}
use Rattle.lf_app.proofs.script.judge.Goals as goal

pub returns : goal.returns
returns g c =
    let script = c.in-Ok.script in
    let tree = plain_tree script.resolved in
    IfOk-weaker c.script_outcome.result _ _
    (λ outcome of. of_script c.args.command c.args.bytes.now script.texts tree outcome c.in-Ok.ensures.read of) c.script_outcome.ensures
