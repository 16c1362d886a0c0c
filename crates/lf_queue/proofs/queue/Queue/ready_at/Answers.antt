use Rattle.std.proofs.Common.{Some, ap, arith, sym, ◌∙◌}
use Rattle.std.specs.List.{slice_get}
use Rattle.std.proofs.lemmas.List.{get_or_read}
use Rattle.lf_queue.specs.declared.row.Row.{Row}
use Rattle.lf_queue.specs.Lines.{holders_from, last_of, next_row, place_of, row_at, waiting_jobs}
use Rattle.lf_queue.specs.Queues.{QueueState}
use Rattle.lf_queue.specs.Ready.{is_ready, ready_ids}
use Rattle.lf_queue.proofs.Readiness.{finds, ready_from_rows, ready_is_free}
use Rattle.lf_queue.proofs.queue.Queue.ready_at.Goals as goal

pub index-requires : goal.index-requires
index-requires c =
    let f = finds c.self.inside.rows.items c.self.inside.ready c.args.at c.self.invariant.0.marked.marks c.self.invariant.0.marked.beyond in
    let w = f.within c.in-Some.ensures.0 in
    let e = c.in-Some.ensures.1 in
    let l = c.self.inside.rows.ok.0 in
    omega (arith, w, e, l)

pub returns-in-Some : goal.returns-in-Some
returns-in-Some c =
    let f = finds c.self.inside.rows.items c.self.inside.ready c.args.at c.self.invariant.0.marked.marks c.self.invariant.0.marked.beyond in
    let w = f.within c.in-Some.ensures.0 in
    let e = c.in-Some.ensures.1 in
    ap (λ (r : Row). Some r.id) (get_or_read c.self.inside.rows.items c.in-Some.row c.index.result.now (omega (arith, w, e)) c.index.ensures next_row)
    ∙ ap (λ n. Some (row_at c.self.inside.rows.items n).id) (sym e)
    ∙ sym (f.some c.in-Some.ensures.0)
    ∙ ap (λ ids. slice_get ids c.args.at) (sym (ready_from_rows c.self.inside.rows.items (is_ready (waiting_jobs c.self.inside.rows.items) (holders_from c.self.inside.spots.items 0 c.self.inside.rows.items))
    (λ p j l s. (ready_is_free c.self.inside.rows.items c.self.inside.spots.items (last_of c.self.inside.lasts) (place_of c.self.inside.places) c.self.inside.ready c.self.invariant.0 p j l s, c.self.invariant.0.jobs.number p j l s))))
    ∙ ap (λ (q : QueueState). slice_get (ready_ids q.waiting q.running) c.args.at) c.self.view_is

pub returns-in-None : goal.returns-in-None
returns-in-None c =
    let f = finds c.self.inside.rows.items c.self.inside.ready c.args.at c.self.invariant.0.marked.marks c.self.invariant.0.marked.beyond in
    sym (f.none c.in-None.ensures)
    ∙ ap (λ ids. slice_get ids c.args.at) (sym (ready_from_rows c.self.inside.rows.items (is_ready (waiting_jobs c.self.inside.rows.items) (holders_from c.self.inside.spots.items 0 c.self.inside.rows.items))
    (λ p j l s. (ready_is_free c.self.inside.rows.items c.self.inside.spots.items (last_of c.self.inside.lasts) (place_of c.self.inside.places) c.self.inside.ready c.self.invariant.0 p j l s, c.self.invariant.0.jobs.number p j l s))))
    ∙ ap (λ (q : QueueState). slice_get (ready_ids q.waiting q.running) c.args.at) c.self.view_is
