use Rattle.std.proofs.Common.{ap, false, refl, subst, sym, true, ◌++◌, ◌+◌, ◌∙◌, ◌≡◌, length}
use Rattle.std.specs.Vec.{vec_capacity}
use Rattle.lf_base.specs.Names.{same_name}
use Rattle.lf_base.specs.Owners.{has_row}
use Rattle.lf_base.specs.Sets.{Differ, Member}
use Rattle.lf_core.specs.declared.ending.Rest.{Rest}
use Rattle.lf_core.specs.Contents.{kept}
use Rattle.lf_core.specs.Cores.{CoreState, KeepsCore, is_abandoned, with_ended}
use Rattle.lf_core.specs.Keyed.{put_all}
use Rattle.lf_core.specs.Tasks.{outcome_of}
use Rattle.lf_core.specs.World.{numbered}
use Rattle.lf_core.proofs.CoreStates.{ended_state, names_seen, row_of, row_seen}
use Rattle.lf_core.proofs.Holders.{left_is}
use Rattle.lf_core.proofs.KeptCores.{ended_keeps}
use Rattle.lf_queue.specs.Queues.{QueueState, is_running, without_holder}
use Rattle.lf_core.proofs.run_core.Core.commit.Goals as goal

pub keep-requires-clause-new : goal.keep-requires-clause-new
keep-requires-clause-new g c = λ row m.
    sym (row_seen c.self.inside.frozen row.id) ∙ ap (λ (s : CoreState). has_row s.world.frozen row.id) c.self.view_is ∙ c.requires.fits.new_rows row.id (row_of c.args.done.rows row m)

pub keep-requires-clause-apart : goal.keep-requires-clause-apart
keep-requires-clause-apart g c = subst (Differ same_name) (names_seen c.args.done.rows) c.requires.fits.row_names

pub spawn_all-self-inside-requires-clause-above : goal.spawn_all-self-inside-requires-clause-above
spawn_all-self-inside-requires-clause-above g c =
    let waiting = ap (λ (q : QueueState). q.waiting) c.ended.ensures ∙ c.reserve_end.ensures.waiting in
    let running = ap (λ (q : QueueState). q.running) c.ended.ensures ∙ ap (λ hs. without_holder hs c.in-Ok-keep.rest.id) c.reserve_end.ensures.running in (
      λ j m. c.self.invariant.waiting_below j (subst (Member j) waiting m),
      λ h m. c.self.invariant.running_below h (left_is c.self.inside.queue.running c.in-Ok-keep.rest.id h (subst (Member h) running m)).0,
    )

pub put_all-requires-2 : goal.put_all-requires-2
put_all-requires-2 g c = λ x m.
    c.put_all.ensures.places x.0 ∙ c.in-Ok.ensures.held x (subst (λ (r : Rest g.row.C.Denot). Member x r.held) c.in-Ok-keep.ensures.rest m)

pub returns-clause-ended : goal.returns-clause-ended
returns-clause-ended g c =
    let rest = c.in-Ok-keep.ensures.rest in
    let waiting = ap (λ (q : QueueState). q.waiting) c.ended.ensures ∙ c.reserve_end.ensures.waiting in
    let running = ap (λ (q : QueueState). q.running) c.ended.ensures ∙ (λ i. without_holder (c.reserve_end.ensures.running i) (rest i).id) in
    ended_state g.C.Stored.content g.C.Stored.rows c.self.inside.queue c.spawn_all-self-inside.new.queue (kept c.self.inside.contents.places.entries) (kept c.put_all-2.new.self.places.entries) c.self.inside.frozen c.keep.new.frozen c.self.inside.log c.keep.new.log c.self.inside.next c.spawn_all-self-inside.result c.self.inside.started c.self.inside.abandoned.items c.self.inside.budget c.args.done.id c.args.done.held c.args.done.made c.args.done.rows (outcome_of g.C.Stored.content g.C.Stored.rows c.args.done)
    (c.spawn_all-self-inside.ensures.waiting ∙ (λ i. waiting i ++ numbered c.self.inside.next (rest i).spawns))
    (c.spawn_all-self-inside.ensures.running ∙ running)
    (c.put_all-2.ensures.kept ∙ ap (put_all c.in-Ok-keep.rest.held) (c.put_all.ensures.kept ∙ ap (put_all c.in-Ok-keep.rest.made) c.reserve_end.ensures.kept) ∙ (λ i. put_all (rest i).held (put_all (rest i).made (kept c.self.inside.contents.places.entries))))
    c.in-Ok-keep.ensures.frozen
    c.in-Ok-keep.ensures.entered
    (c.spawn_all-self-inside.ensures.next ∙ (λ i. c.self.inside.next + length (rest i).spawns))
    refl refl refl
    ∙ ap (with_ended c.args.done.id (outcome_of g.C.Stored.content g.C.Stored.rows c.args.done)) c.self.view_is

pub invariant_of-self-2 : goal.invariant_of-self-2
invariant_of-self-2 g c =
    let runs = subst (λ (s : CoreState). is_running s.world.running c.args.done.id ≡ true) (sym c.self.view_is) c.requires.fits.runs in
    let on = subst (λ (s : CoreState). is_abandoned s c.args.done.id ≡ false) (sym c.self.view_is) c.requires.not_abandoned in
    subst (λ (s : CoreState). KeepsCore s (vec_capacity c.self.inside.abandoned)) (sym (returns-clause-ended g c ∙ ap (with_ended c.args.done.id (outcome_of g.C.Stored.content g.C.Stored.rows c.args.done)) (sym c.self.view_is)))
    (ended_keeps _ (vec_capacity c.self.inside.abandoned) c.args.done.id (outcome_of g.C.Stored.content g.C.Stored.rows c.args.done) c.self.invariant runs on c.requires.fits.few_spawns c.requires.fits.spawn_cowns)
