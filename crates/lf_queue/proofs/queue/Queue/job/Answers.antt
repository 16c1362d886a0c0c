use Rattle.std.proofs.Common.{Some, ap, length, subst, sym, ◌<◌, ◌∙◌, ◌≡◌}
use Rattle.lf_queue.specs.Lines.{last_of, place_of, row_at}
use Rattle.lf_queue.specs.Queues.{QueueState}
use Rattle.lf_queue.specs.Ready.{ready_job}
use Rattle.lf_queue.proofs.Starts.{not_missing, ready_row, same_waiting}
use Rattle.lf_queue.proofs.queue.Queue.job.Goals as goal

pub unreachable-requires : goal.unreachable-requires
unreachable-requires c =
    let ready = subst (λ (q : QueueState). ready_job q.waiting q.running c.args.id ≡ Some c.requires.0) (sym c.self.view_is) c.requires.1 in
    not_missing c.self.inside.rows.items c.self.inside.spots.items (last_of c.self.inside.lasts) (place_of c.self.inside.places) c.self.inside.ready c.self.invariant.0 c.args.id c.requires.0 ready c.in_default.ensures.value

pub waiting_job-requires-clause-within : goal.waiting_job-requires-clause-within
waiting_job-requires-clause-within c =
    let ready = subst (λ (q : QueueState). ready_job q.waiting q.running c.args.id ≡ Some c.requires.0) (sym c.self.view_is) c.requires.1 in
    let at = ready_row c.self.inside.rows.items c.self.inside.spots.items (last_of c.self.inside.lasts) (place_of c.self.inside.places) c.self.inside.ready c.self.invariant.0 c.args.id c.requires.0 ready c.in-Some.field-0.now c.in-Some.ensures.value in
    subst (λ rows. c.in-Some.field-0.now < length rows) (sym c.deref.ensures.value) at.0

pub waiting_job-requires-clause-waits : goal.waiting_job-requires-clause-waits
waiting_job-requires-clause-waits c =
    let ready = subst (λ (q : QueueState). ready_job q.waiting q.running c.args.id ≡ Some c.requires.0) (sym c.self.view_is) c.requires.1 in
    let at = ready_row c.self.inside.rows.items c.self.inside.spots.items (last_of c.self.inside.lasts) (place_of c.self.inside.places) c.self.inside.ready c.self.invariant.0 c.args.id c.requires.0 ready c.in-Some.field-0.now c.in-Some.ensures.value in
    (c.requires.0, ap (λ rows. (row_at rows c.in-Some.field-0.now).stage) c.deref.ensures.value ∙ at.1.0)

pub returns : goal.returns
returns c =
    let ready = subst (λ (q : QueueState). ready_job q.waiting q.running c.args.id ≡ Some c.requires.0) (sym c.self.view_is) c.requires.1 in
    let at = ready_row c.self.inside.rows.items c.self.inside.spots.items (last_of c.self.inside.lasts) (place_of c.self.inside.places) c.self.inside.ready c.self.invariant.0 c.args.id c.requires.0 ready c.in-Some.field-0.now c.in-Some.ensures.value in
    c.requires.1 ∙ ap (λ job. Some job) (same_waiting _ _ (sym at.1.0 ∙ ap (λ rows. (row_at rows c.in-Some.field-0.now).stage) (sym c.deref.ensures.value) ∙ c.waiting_job.ensures))
