use Rattle.lf_emit.proofs.Asking.{asked_more}
use Rattle.lf_emit.proofs.scope.ScopeNumbering.asked.Goals as goal

pub returns-in_default-3 : goal.returns-in_default-3
returns-in_default-3 c = asked_more c.args.self.now.names.now c.args.args.now c.in_default.len_at_least
