use Rattle.lf_emit.specs.Scopes.{plain_script}
use Rattle.lf_app.proofs.MainRuns.{outcome_is}
use Rattle.lf_app.proofs.script.run_script.Goals as goal

pub returns : goal.returns
returns g c =
    outcome_is _ (plain_script c.args.script.texts c.args.script.resolved) c.args.ticks _ c.in_ok-code.ensures.code
    c.in_ok-code.ensures.means c.code_outcome.ensures
