use Rattle.std.proofs.Common.{ap, arith, subst, sym, ◌++◌, ◌<◌, ◌∙◌}
use Rattle.std.specs.Vec.{vec_capacity}
use Rattle.lf_base.specs.Names.{same_cown}
use Rattle.lf_base.specs.Sets.{Differ}
use Rattle.lf_core.specs.Contents.{kept, left_in}
use Rattle.lf_core.specs.CoreViews.{core_state}
use Rattle.lf_core.specs.Cores.{CoreState, KeepsCore, with_started}
use Rattle.lf_core.specs.Keyed.{pick}
use Rattle.lf_core.specs.Reading.{seen}
use Rattle.lf_core.proofs.CoreStates.{taken_state}
use Rattle.lf_core.proofs.KeptCores.{started_keeps, waits_of}
use Rattle.lf_core.proofs.Seen.{pick_seen}
use Rattle.lf_queue.specs.Queues.{is_running}
use Rattle.lf_core.proofs.run_core.Core.take.Goals as goal

pub take_all-requires-clause-differ : goal.take_all-requires-clause-differ
take_all-requires-clause-differ g c =
    let w = (core_state c.self.inside.queue (left_in g.C.Stored.content g.C.Stored.rows c.self.inside.contents) c.self.inside.frozen c.self.inside.log c.self.inside.next c.self.inside.started c.self.inside.abandoned.items c.self.inside.budget).world in
    subst (Differ same_cown) (sym c.as_slice.ensures) (c.self.invariant.cowns_differ c.start-job.result (waits_of w c.args.id c.start-job.result c.start-job.ensures.job))

pub invariant_of-self-2 : goal.invariant_of-self-2
invariant_of-self-2 g c =
    let before = core_state c.self.inside.queue (left_in g.C.Stored.content g.C.Stored.rows c.self.inside.contents) c.self.inside.frozen c.self.inside.log c.self.inside.next c.self.inside.started c.self.inside.abandoned.items c.self.inside.budget in
    let same = taken_state g.C.Stored.content g.C.Stored.rows c.self.inside.queue c.start-job.new.self (kept c.self.inside.contents.places.entries) (kept c.take_all.new.self.places.entries) c.as_slice.result.now c.self.inside.frozen c.self.inside.log c.self.inside.next c.self.inside.started c.self.inside.abandoned.items c.reserve.new.self.items c.self.inside.budget c.start-job.result c.start-job.ensures.started c.take_all.ensures.kept c.as_slice.ensures c.reserve.ensures.items in
    let below = subst (λ (s : CoreState). s.world.started < s.budget) (sym c.self.view_is) c.requires.below in
    subst (λ (s : CoreState). KeepsCore s (vec_capacity c.reserve.new.self)) (sym same)
    (started_keeps before (vec_capacity c.self.inside.abandoned) (vec_capacity c.reserve.new.self) c.args.id c.start-job.result c.self.invariant c.start-job.ensures.job below (omega (arith, c.in_ok-reserve.ensures.ok, c.len.ensures, c.self.invariant.running_count)))

pub returns-clause-started : goal.returns-clause-started
returns-clause-started g c =
    taken_state g.C.Stored.content g.C.Stored.rows c.self.inside.queue c.start-job.new.self (kept c.self.inside.contents.places.entries) (kept c.take_all.new.self.places.entries) c.as_slice.result.now c.self.inside.frozen c.self.inside.log c.self.inside.next c.self.inside.started c.self.inside.abandoned.items c.reserve.new.self.items c.self.inside.budget c.start-job.result c.start-job.ensures.started c.take_all.ensures.kept c.as_slice.ensures c.reserve.ensures.items
    ∙ ap (with_started c.start-job.result) c.self.view_is

pub returns-clause-held : goal.returns-clause-held
returns-clause-held g c =
    ap (seen g.C.Stored.content g.C.Stored.rows) (c.from_vec.ensures ∙ c.take_all.ensures.held ∙ ap (λ xs. xs ++ pick c.as_slice.result.now (kept c.self.inside.contents.places.entries)) c.in_ok-held.ensures.items)
    ∙ sym (pick_seen g.C.Stored.content g.C.Stored.rows c.as_slice.result.now (kept c.self.inside.contents.places.entries))
    ∙ ap (λ cs. pick cs (seen g.C.Stored.content g.C.Stored.rows (kept c.self.inside.contents.places.entries))) c.as_slice.ensures
    ∙ ap (λ (s : CoreState). pick c.start-job.result.cowns s.world.parked) c.self.view_is

pub returns-clause-cowns : goal.returns-clause-cowns
returns-clause-cowns g c =
    let w = (core_state c.self.inside.queue (left_in g.C.Stored.content g.C.Stored.rows c.self.inside.contents) c.self.inside.frozen c.self.inside.log c.self.inside.next c.self.inside.started c.self.inside.abandoned.items c.self.inside.budget).world in
    c.self.invariant.cowns_differ c.start-job.result (waits_of w c.args.id c.start-job.result c.start-job.ensures.job)

pub returns-clause-fresh : goal.returns-clause-fresh
returns-clause-fresh g c =
    let w = (core_state c.self.inside.queue (left_in g.C.Stored.content g.C.Stored.rows c.self.inside.contents) c.self.inside.frozen c.self.inside.log c.self.inside.next c.self.inside.started c.self.inside.abandoned.items c.self.inside.budget).world in
    ap (λ (s : CoreState). is_running s.world.running c.start-job.result.id) (sym c.self.view_is) ∙ c.self.invariant.fresh c.start-job.result (waits_of w c.args.id c.start-job.result c.start-job.ensures.job)
