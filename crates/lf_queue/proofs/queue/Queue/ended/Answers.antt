use Rattle.std.proofs.Common.{ap, arith, length, subst, sym, true, ◌∙◌, ◌≡◌, ◌<◌}
use Rattle.std.specs.HashMap.{spare}
use Rattle.lf_queue.specs.declared.row.Stage.TheVariants.{Ended}
use Rattle.lf_queue.specs.Lines.{KeepsJobs, holders_from, last_of, place_of, restaged, row_at, waiting_jobs}
use Rattle.lf_queue.specs.Queues.{QueueState, ended, is_running}
use Rattle.lf_queue.proofs.Ends.{Leaving, can_lessen, ended_keeps, ended_running, ended_waiting, freed_length, leaving_on, not_missing, running_at}
use Rattle.lf_queue.proofs.States.{same_state}
use Rattle.lf_queue.proofs.queue.Queue.ended.Goals as goal

pub unreachable-requires : goal.unreachable-requires
unreachable-requires c =
    let runs = subst (λ (q : QueueState). is_running q.running c.args.id ≡ true) (sym c.self.view_is) c.requires in
    not_missing c.self.inside.rows.items c.self.inside.spots.items (last_of c.self.inside.lasts) (place_of c.self.inside.places) c.self.inside.ready c.self.invariant.0 c.args.id runs (sym c.in_default.is ∙ c.remove.ensures.value)

pub range-first-requires : goal.range-first-requires
range-first-requires c =
    let runs = subst (λ (q : QueueState). is_running q.running c.args.id ≡ true) (sym c.self.view_is) c.requires in
    let at = running_at c.self.inside.rows.items c.self.inside.spots.items (last_of c.self.inside.lasts) (place_of c.self.inside.places) c.self.inside.ready c.self.invariant.0 c.args.id runs c.in-Some.row c.in-Some.ensures.value in
    subst (λ l. c.in-Some.row < length l) (sym c.deref.ensures.value) at.0

pub leave_line-requires-clause-next : goal.leave_line-requires-clause-next
leave_line-requires-clause-next c =
    let runs = subst (λ (q : QueueState). is_running q.running c.args.id ≡ true) (sym c.self.view_is) c.requires in
    let at = running_at c.self.inside.rows.items c.self.inside.spots.items (last_of c.self.inside.lasts) (place_of c.self.inside.places) c.self.inside.ready c.self.invariant.0 c.args.id runs c.in-Some.row c.in-Some.ensures.value in
    let first = c.range-first.ensures.first ∙ ap (λ l. (row_at l c.in-Some.row).first) c.deref.ensures.value in
    let last = c.range-first.ensures.end ∙ ap (λ l. (row_at l c.in-Some.row).end) c.deref.ensures.value in
    let leaving = subst (λ n. Leaving c.self.inside.rows.items c.self.inside.spots.items n c.loop-spot.spot c.loop-spot.self-inside.rows.items c.loop-spot.self-inside.spots.items c.loop-spot.self-inside.ready) first c.loop-spot.invariant.leaving in
    can_lessen c.self.inside.rows.items c.self.inside.spots.items (last_of c.self.inside.lasts) (place_of c.self.inside.places) c.self.inside.ready c.self.invariant.0 c.in-Some.row at.0 at.1.0 c.loop-spot.spot c.loop-spot.self-inside.rows.items c.loop-spot.self-inside.spots.items c.loop-spot.self-inside.ready leaving (omega (arith, first, c.loop-spot.auto.spot)) (omega (arith, last, c.loop-spot-test.true))

pub loop-spot-preserved : goal.loop-spot-preserved
loop-spot-preserved c =
    let runs = subst (λ (q : QueueState). is_running q.running c.args.id ≡ true) (sym c.self.view_is) c.requires in
    let at = running_at c.self.inside.rows.items c.self.inside.spots.items (last_of c.self.inside.lasts) (place_of c.self.inside.places) c.self.inside.ready c.self.invariant.0 c.args.id runs c.in-Some.row c.in-Some.ensures.value in
    let first = c.range-first.ensures.first ∙ ap (λ l. (row_at l c.in-Some.row).first) c.deref.ensures.value in
    let last = c.range-first.ensures.end ∙ ap (λ l. (row_at l c.in-Some.row).end) c.deref.ensures.value in
    let leaving = subst (λ n. Leaving c.self.inside.rows.items c.self.inside.spots.items n c.loop-spot.spot c.loop-spot.self-inside.rows.items c.loop-spot.self-inside.spots.items c.loop-spot.self-inside.ready) first c.loop-spot.invariant.leaving in
    let inv = c.loop-spot.invariant in
    let e = c.leave_line.ensures in
    record {
      leaving = leaving_on c.self.inside.rows.items c.self.inside.spots.items (last_of c.self.inside.lasts) (place_of c.self.inside.places) c.self.inside.ready c.self.invariant.0 c.in-Some.row at.0 at.1.0 c.loop-spot.spot c.loop-spot.self-inside.rows.items c.loop-spot.self-inside.spots.items c.loop-spot.self-inside.ready leaving (omega (arith, first, c.loop-spot.auto.spot)) (omega (arith, last, c.loop-spot-test.true)) c.range-first.result.0 c.leave_line.new.rows.items c.leave_line.new.spots.items c.leave_line.new.ready first e.rows e.spots e.ready;
      places = inv.places;
      lasts = inv.lasts;
      job_room = inv.job_room;
      cown_room = inv.cown_room;
      rows_len = e.rows_kept.0 ∙ inv.rows_len;
      rows_cap = e.rows_kept.1 ∙ inv.rows_cap;
      spots_len = e.spots_kept.0 ∙ inv.spots_len;
      spots_cap = e.spots_kept.1 ∙ inv.spots_cap;
      marks_len = ap length e.ready ∙ freed_length c.loop-spot.self-inside.rows.items _ c.loop-spot.self-inside.ready ∙ inv.marks_len;
    }

pub invariant_of-self : goal.invariant_of-self
invariant_of-self c =
    let runs = subst (λ (q : QueueState). is_running q.running c.args.id ≡ true) (sym c.self.view_is) c.requires in
    let at = running_at c.self.inside.rows.items c.self.inside.spots.items (last_of c.self.inside.lasts) (place_of c.self.inside.places) c.self.inside.ready c.self.invariant.0 c.args.id runs c.in-Some.row c.in-Some.ensures.value in
    let first = c.range-first.ensures.first ∙ ap (λ l. (row_at l c.in-Some.row).first) c.deref.ensures.value in
    let last = c.range-first.ensures.end ∙ ap (λ l. (row_at l c.in-Some.row).end) c.deref.ensures.value in
    let leaving = subst (λ n. Leaving c.self.inside.rows.items c.self.inside.spots.items n c.loop-spot.spot c.loop-spot.self-inside.rows.items c.loop-spot.self-inside.spots.items c.loop-spot.self-inside.ready) first c.loop-spot.invariant.leaving in
    let inv = c.loop-spot.invariant in
    let was = c.self.invariant in
    let kept = c.end_row.ensures.kept in (
      subst (λ rows. KeepsJobs rows c.loop-spot.self-inside.spots.items (last_of c.loop-spot.self-inside.lasts) (place_of c.loop-spot.self-inside.places) c.loop-spot.self-inside.ready) (sym c.end_row.ensures.rows) (
          subst (λ lasts. KeepsJobs (restaged c.loop-spot.self-inside.rows.items c.in-Some.row Ended) c.loop-spot.self-inside.spots.items (last_of lasts) (place_of c.loop-spot.self-inside.places) c.loop-spot.self-inside.ready) (sym inv.lasts) (
          ended_keeps c.self.inside.rows.items c.self.inside.spots.items (last_of c.self.inside.lasts) (place_of c.self.inside.places) (place_of c.loop-spot.self-inside.places) c.self.inside.ready c.self.invariant.0 c.in-Some.row c.args.id at.0 at.1.0 at.1.1
          (λ n. ap (λ places. place_of places n) c.loop-spot.invariant.places ∙ c.in-Some.ensures.updates.0 n)
          c.loop-spot.spot c.loop-spot.self-inside.rows.items c.loop-spot.self-inside.spots.items c.loop-spot.self-inside.ready
          leaving (omega (arith, last, c.loop-spot-test.false, c.loop-spot.auto.spot-end, c.loop-spot.auto.spot, first, c.self.invariant.0.together.begins c.in-Some.row at.0)))),
      (
        omega (arith, kept.0, kept.1, inv.rows_len, inv.rows_cap, inv.job_room, was.1.0),
        (
          omega (arith, inv.spots_len, inv.spots_cap, inv.cown_room, was.1.1.0),
          (
            omega (arith, inv.job_room, ap (λ places. spare places) inv.places, c.remove.ensures.spare, was.1.1.1.0),
            (
              omega (arith, inv.cown_room, ap (λ lasts. spare lasts) inv.lasts, was.1.1.1.1.0),
              omega (arith, kept.0, inv.rows_len, inv.job_room, inv.marks_len, was.1.1.1.1.1),
            ),
          ),
        ),
      ),
    )

pub returns : goal.returns
returns c =
    let runs = subst (λ (q : QueueState). is_running q.running c.args.id ≡ true) (sym c.self.view_is) c.requires in
    let at = running_at c.self.inside.rows.items c.self.inside.spots.items (last_of c.self.inside.lasts) (place_of c.self.inside.places) c.self.inside.ready c.self.invariant.0 c.args.id runs c.in-Some.row c.in-Some.ensures.value in
    let first = c.range-first.ensures.first ∙ ap (λ l. (row_at l c.in-Some.row).first) c.deref.ensures.value in
    let last = c.range-first.ensures.end ∙ ap (λ l. (row_at l c.in-Some.row).end) c.deref.ensures.value in
    let leaving = subst (λ n. Leaving c.self.inside.rows.items c.self.inside.spots.items n c.loop-spot.spot c.loop-spot.self-inside.rows.items c.loop-spot.self-inside.spots.items c.loop-spot.self-inside.ready) first c.loop-spot.invariant.leaving in
    let inv = c.loop-spot.invariant in
    same_state _ _
    (ap waiting_jobs c.end_row.ensures.rows ∙ ended_waiting c.self.inside.rows.items c.self.inside.spots.items (last_of c.self.inside.lasts) (place_of c.self.inside.places) (place_of c.loop-spot.self-inside.places) c.self.inside.ready c.self.invariant.0 c.in-Some.row c.args.id at.0 at.1.0 at.1.1
    (λ n. ap (λ places. place_of places n) c.loop-spot.invariant.places ∙ c.in-Some.ensures.updates.0 n)
    c.loop-spot.spot c.loop-spot.self-inside.rows.items c.loop-spot.self-inside.spots.items c.loop-spot.self-inside.ready
    leaving (omega (arith, last, c.loop-spot-test.false, c.loop-spot.auto.spot-end, c.loop-spot.auto.spot, first, c.self.invariant.0.together.begins c.in-Some.row at.0)) ∙ ap (λ (q : QueueState). q.waiting) c.self.view_is)
    (ap (holders_from c.loop-spot.self-inside.spots.items 0) c.end_row.ensures.rows ∙ ended_running c.self.inside.rows.items c.self.inside.spots.items (last_of c.self.inside.lasts) (place_of c.self.inside.places) (place_of c.loop-spot.self-inside.places) c.self.inside.ready c.self.invariant.0 c.in-Some.row c.args.id at.0 at.1.0 at.1.1
    (λ n. ap (λ places. place_of places n) c.loop-spot.invariant.places ∙ c.in-Some.ensures.updates.0 n)
    c.loop-spot.spot c.loop-spot.self-inside.rows.items c.loop-spot.self-inside.spots.items c.loop-spot.self-inside.ready
    leaving (omega (arith, last, c.loop-spot-test.false, c.loop-spot.auto.spot-end, c.loop-spot.auto.spot, first, c.self.invariant.0.together.begins c.in-Some.row at.0)) ∙ ap (λ (q : QueueState). (ended c.args.id q).running) c.self.view_is)
    (inv.job_room ∙ ap (λ (q : QueueState). q.job_room) c.self.view_is)
    (inv.cown_room ∙ ap (λ (q : QueueState). q.cown_room) c.self.view_is)
