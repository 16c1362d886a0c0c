use Rattle.std.proofs.Common.{Some, ap, arith, length, subst, sym, ◌∙◌, ◌≡◌}
use Rattle.std.proofs.lemmas.List.{length-set}
use Rattle.lf_queue.specs.declared.row.Stage.TheVariants.{Running}
use Rattle.lf_queue.specs.Lines.{KeepsJobs, holders_from, last_of, place_of, restaged, waiting_jobs}
use Rattle.lf_queue.specs.Queues.{QueueState, started}
use Rattle.lf_queue.specs.Ready.{ready_job}
use Rattle.lf_queue.proofs.Starts.{marked_one, not_missing, ready_row, same_waiting, started_keeps, started_running, started_waiting}
use Rattle.lf_queue.proofs.States.{same_state}
use Rattle.lf_queue.proofs.queue.Queue.start.Goals as goal

pub unreachable-requires : goal.unreachable-requires
unreachable-requires c =
    let ready = subst (λ (q : QueueState). ready_job q.waiting q.running c.args.id ≡ Some c.requires.ready.0) (sym c.self.view_is) c.requires.ready.1 in
    not_missing c.self.inside.rows.items c.self.inside.spots.items (last_of c.self.inside.lasts) (place_of c.self.inside.places) c.self.inside.ready c.self.invariant.0 c.args.id c.requires.ready.0 ready c.in_default.ensures.value

pub take-requires : goal.take-requires
take-requires c =
    let ready = subst (λ (q : QueueState). ready_job q.waiting q.running c.args.id ≡ Some c.requires.ready.0) (sym c.self.view_is) c.requires.ready.1 in
    let at = ready_row c.self.inside.rows.items c.self.inside.spots.items (last_of c.self.inside.lasts) (place_of c.self.inside.places) c.self.inside.ready c.self.invariant.0 c.args.id c.requires.ready.0 ready c.in-Some.field-0.now c.in-Some.ensures.value in
    marked_one c.self.inside.rows.items c.self.inside.spots.items (last_of c.self.inside.lasts) (place_of c.self.inside.places) c.self.inside.ready c.self.invariant.0 c.in-Some.field-0.now c.requires.ready.0 at.0 at.1.0 at.1.1

pub start_row-requires-clause-within : goal.start_row-requires-clause-within
start_row-requires-clause-within c =
    let ready = subst (λ (q : QueueState). ready_job q.waiting q.running c.args.id ≡ Some c.requires.ready.0) (sym c.self.view_is) c.requires.ready.1 in
    let at = ready_row c.self.inside.rows.items c.self.inside.spots.items (last_of c.self.inside.lasts) (place_of c.self.inside.places) c.self.inside.ready c.self.invariant.0 c.args.id c.requires.ready.0 ready c.in-Some.field-0.now c.in-Some.ensures.value in
    at.0

pub start_row-requires-clause-waits : goal.start_row-requires-clause-waits
start_row-requires-clause-waits c =
    let ready = subst (λ (q : QueueState). ready_job q.waiting q.running c.args.id ≡ Some c.requires.ready.0) (sym c.self.view_is) c.requires.ready.1 in
    let at = ready_row c.self.inside.rows.items c.self.inside.spots.items (last_of c.self.inside.lasts) (place_of c.self.inside.places) c.self.inside.ready c.self.invariant.0 c.args.id c.requires.ready.0 ready c.in-Some.field-0.now c.in-Some.ensures.value in
    (c.requires.ready.0, at.1.0)

pub invariant_of-self : goal.invariant_of-self
invariant_of-self c =
    let ready = subst (λ (q : QueueState). ready_job q.waiting q.running c.args.id ≡ Some c.requires.ready.0) (sym c.self.view_is) c.requires.ready.1 in
    let at = ready_row c.self.inside.rows.items c.self.inside.spots.items (last_of c.self.inside.lasts) (place_of c.self.inside.places) c.self.inside.ready c.self.invariant.0 c.args.id c.requires.ready.0 ready c.in-Some.field-0.now c.in-Some.ensures.value in
    let kept = c.start_row.ensures.kept in
    let len = ap length c.take.ensures ∙ length-set c.self.inside.ready c.in-Some.field-0.now 0 in
    let inv = c.self.invariant in (
      subst (λ rows. KeepsJobs rows c.self.inside.spots.items (last_of c.self.inside.lasts) (place_of c.self.inside.places) c.take.new.self) (sym c.start_row.ensures.rows) (
          subst (λ marks. KeepsJobs (restaged c.self.inside.rows.items c.in-Some.field-0.now Running) c.self.inside.spots.items (last_of c.self.inside.lasts) (place_of c.self.inside.places) marks) (sym c.take.ensures) (
          started_keeps c.self.inside.rows.items c.self.inside.spots.items (last_of c.self.inside.lasts) (place_of c.self.inside.places) c.self.inside.ready c.self.invariant.0 c.in-Some.field-0.now c.requires.ready.0 at.0 at.1.0 at.1.1)),
      (omega (arith, kept.0, kept.1, inv.1.0), (inv.1.1.0, (inv.1.1.1.0, (inv.1.1.1.1.0, omega (arith, kept.0, len, inv.1.1.1.1.1))))),
    )

pub returns-clause-job : goal.returns-clause-job
returns-clause-job c =
    let ready = subst (λ (q : QueueState). ready_job q.waiting q.running c.args.id ≡ Some c.requires.ready.0) (sym c.self.view_is) c.requires.ready.1 in
    let at = ready_row c.self.inside.rows.items c.self.inside.spots.items (last_of c.self.inside.lasts) (place_of c.self.inside.places) c.self.inside.ready c.self.invariant.0 c.args.id c.requires.ready.0 ready c.in-Some.field-0.now c.in-Some.ensures.value in
    c.requires.ready.1 ∙ ap (λ job. Some job) (same_waiting _ _ (sym at.1.0 ∙ c.start_row.ensures.job))

pub returns-clause-started : goal.returns-clause-started
returns-clause-started c =
    let ready = subst (λ (q : QueueState). ready_job q.waiting q.running c.args.id ≡ Some c.requires.ready.0) (sym c.self.view_is) c.requires.ready.1 in
    let at = ready_row c.self.inside.rows.items c.self.inside.spots.items (last_of c.self.inside.lasts) (place_of c.self.inside.places) c.self.inside.ready c.self.invariant.0 c.args.id c.requires.ready.0 ready c.in-Some.field-0.now c.in-Some.ensures.value in
    let same = same_waiting _ _ (sym at.1.0 ∙ c.start_row.ensures.job) in
    same_state _ _
    (ap waiting_jobs c.start_row.ensures.rows ∙ started_waiting c.self.inside.rows.items c.self.inside.spots.items (last_of c.self.inside.lasts) (place_of c.self.inside.places) c.self.inside.ready c.self.invariant.0 c.in-Some.field-0.now c.requires.ready.0 at.0 at.1.0 at.1.1
    ∙ ap (λ (q : QueueState). (started c.requires.ready.0 q).waiting) c.self.view_is ∙ ap (λ job. (started job c.args.self.now).waiting) same)
    (ap (holders_from c.self.inside.spots.items 0) c.start_row.ensures.rows ∙ started_running c.self.inside.rows.items c.self.inside.spots.items (last_of c.self.inside.lasts) (place_of c.self.inside.places) c.self.inside.ready c.self.invariant.0 c.in-Some.field-0.now c.requires.ready.0 at.0 at.1.0 at.1.1
    ∙ ap (λ (q : QueueState). (started c.requires.ready.0 q).running) c.self.view_is ∙ ap (λ job. (started job c.args.self.now).running) same)
    (ap (λ (q : QueueState). q.job_room) c.self.view_is)
    (ap (λ (q : QueueState). q.cown_room) c.self.view_is)
