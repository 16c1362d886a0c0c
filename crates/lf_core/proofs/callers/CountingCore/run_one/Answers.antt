use Rattle.std.proofs.Common.{ap, sym, ◌∙◌}
use Rattle.lf_core.specs.Cores.{CoreState}
use Rattle.lf_core.proofs.Counting.{runs_job}
use Rattle.lf_core.proofs.Followed.{may_take}
use Rattle.lf_queue.specs.Queues.{is_running}
use Rattle.lf_core.proofs.callers.CountingCore.run_one.Goals as goal

pub take-requires-clause-ready : goal.take-requires-clause-ready
take-requires-clause-ready c = let r = may_take c.args.self.now.core c.args.at c.in-Some.id (sym c.in-Some.ensures) in (r.0, r.1.0)

pub end-requires-clause-running : goal.end-requires-clause-running
end-requires-clause-running c =
    ap (λ (s : CoreState). is_running s.world.running c.in_ok-task.task.job.id) c.in_ok-task.ensures.started
    ∙ runs_job c.args.self.now.core c.in_ok-task.task.job
