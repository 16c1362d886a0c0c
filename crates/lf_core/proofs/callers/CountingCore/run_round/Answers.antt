use Rattle.std.proofs.Common.{ap, sym, true, ◌∙◌, ◌≡◌}
use Rattle.lf_core.specs.Cores.{CoreState}
use Rattle.lf_core.proofs.Counting.{apart, runs_after, runs_job, runs_now, runs_on}
use Rattle.lf_core.proofs.Followed.{may_take}
use Rattle.lf_queue.specs.Queues.{is_running}
use Rattle.lf_core.proofs.callers.CountingCore.run_round.Goals as goal

pub take-requires-clause-ready : goal.take-requires-clause-ready
take-requires-clause-ready c = let r = may_take c.args.self.now.core 0 c.in-Some.first (sym c.in-Some.ensures) in (r.0, r.1.0)

pub end-requires-clause-running : goal.end-requires-clause-running
end-requires-clause-running c =
    ap (λ (s : CoreState). is_running s.world.running c.in_ok-one.one.job.id) c.in_ok-one.ensures.started
    ∙ runs_job c.args.self.now.core c.in_ok-one.one.job

pub take-requires-2-clause-ready : goal.take-requires-2-clause-ready
take-requires-2-clause-ready c = let r = may_take c.take.new.self 0 c.in-Some-ready.second (sym c.in-Some-ready.ensures) in (r.0, r.1.0)

pub abandon-requires-clause-running : goal.abandon-requires-clause-running
abandon-requires-clause-running c =
    ap (λ (s : CoreState). is_running s.world.running c.in-Some.first) (c.in-Err.ensures.unchanged ∙ c.in_ok-one.ensures.started)
    ∙ runs_now c.args.self.now.core c.in-Some.first c.in_ok-one.one.job c.in_ok-one.ensures.job

pub end-requires-2-clause-running : goal.end-requires-2-clause-running
end-requires-2-clause-running c =
    let one : is_running c.take.new.self.world.running c.in_ok-one.one.job.id ≡ true = ap (λ (s : CoreState). is_running s.world.running c.in_ok-one.one.job.id) c.in_ok-one.ensures.started ∙ runs_job c.args.self.now.core c.in_ok-one.one.job in
    ap (λ (s : CoreState). is_running s.world.running c.in_ok-one.one.job.id) c.in-Ok.ensures.started ∙ runs_on c.take.new.self c.in-Ok.other.job c.in_ok-one.one.job.id one

pub end-requires-3-clause-running : goal.end-requires-3-clause-running
end-requires-3-clause-running c =
    let one : is_running c.take.new.self.world.running c.in_ok-one.one.job.id ≡ true = ap (λ (s : CoreState). is_running s.world.running c.in_ok-one.one.job.id) c.in_ok-one.ensures.started ∙ runs_job c.args.self.now.core c.in_ok-one.one.job in
    let other : is_running c.take-2.new.self.world.running c.in-Ok.other.job.id ≡ true = ap (λ (s : CoreState). is_running s.world.running c.in-Ok.other.job.id) c.in-Ok.ensures.started ∙ runs_job c.take.new.self c.in-Ok.other.job in
    let ended = c.in_ok-end-2.ensures in
    ap (λ (s : CoreState). is_running s.world.running c.in-Ok.other.job.id) ended.1
    ∙ runs_after c.take-2.new.self ended.0 c.in_ok-one.one.job.id c.in-Ok.other.job.id other (apart c.take.new.self c.in_ok-one.one.job.id c.in-Ok.other.job.id one c.in-Ok.ensures.fresh)
