use Rattle.std.proofs.Common.{subst, sym, true, ◌≡◌}
use Rattle.lf_queue.specs.Queues.{IsAboveAll, QueueState, is_running}
use Rattle.lf_queue.proofs.RisingNumbers.{above_ended, above_started, runs_started}
use Rattle.lf_queue.proofs.ReadyLaws.{may_start}
use Rattle.lf_queue.proofs.callers.JobLine.run_one.Goals as goal

pub start-job-requires : goal.start-job-requires
start-job-requires c = record { ready = may_start c.self.inside.queue.waiting c.self.inside.queue.running c.args.at c.in_ok-id.id (sym c.in_ok-id.ensures) }

pub ended-requires : goal.ended-requires
ended-requires c = subst (λ (q : QueueState). is_running q.running c.start-job.result.id ≡ true) (sym c.start-job.ensures.started) (runs_started c.start-job.result c.self.inside.queue)

pub invariant_of-self : goal.invariant_of-self
invariant_of-self c =
    subst (IsAboveAll c.self.inside.next) (sym c.ended.ensures) (
    above_ended c.self.inside.next c.start-job.result.id c.start-job.new.self (
    subst (IsAboveAll c.self.inside.next) (sym c.start-job.ensures.started) (
    above_started c.self.inside.next c.start-job.result c.self.inside.queue c.in_ok-id.id c.start-job.ensures.job c.self.invariant)))
