use Rattle.std.proofs.Common.{ap, arith, drop, sym, ◌++◌, ◌+◌, ◌∙◌}
use Rattle.std.proofs.lemmas.List.{drop_all}
use Rattle.lf_core.specs.Contents.{kept}
use Rattle.lf_core.specs.Keyed.{pick, without}
use Rattle.lf_core.proofs.Places.{none_without, step_differ, step_length, step_none, step_some, step_without}
use Rattle.lf_core.proofs.contents.Contents.take_all.Goals as goal
use Rattle.lf_core.proofs.contents.Contents.take_all.Goals.{in-Some, in_default}

pub loop-cown-preserved : goal.loop-cown-preserved
loop-cown-preserved g c =
    let cowns = c.args.cowns.now in
    let i = c.loop-cown.cown-index in
    let less = c.loop-cown-test.true in
    let inv = c.loop-cown.invariant in
    let old = kept c.loop-cown.self.places.entries in
    let new = kept c.take.new.self.places.entries in
    let left = step_without _ cowns i less inv.1.1.1 old new c.take.ensures.kept ∙ inv.1.0 in
    let differ = step_differ _ cowns i less inv.1.1.1 old new c.take.ensures.kept in
    let fewer = step_length _ cowns i less inv.1.1.1 old new c.take.ensures.kept in
    elim c.match-take.branch [
      | in-Some w ↦ (
        step_some _ cowns i less inv.1.1.1 old new c.take.ensures.kept c.loop-cown.held.items c.match-take.held.items w.in-Some.content c.take.result c.take.ensures.content w.in-Some.is (ap (λ v. v.items) w.held-is ∙ w.push_reserved.ensures.items) ∙ inv.0,
        (left, (rw w.held-is (omega (arith, w.push_reserved.ensures.len, w.push_reserved.ensures.capacity, inv.1.1.0, fewer)), differ)),
      )
      | in_default w ↦ (
        ap (λ v. v.items ++ pick (drop (i + 1) cowns) new) w.held-is ∙ step_none _ cowns i less inv.1.1.1 old new c.take.ensures.kept c.loop-cown.held.items c.take.result c.take.ensures.content w.in_default.is ∙ inv.0,
        (left, (rw w.held-is (omega (arith, inv.1.1.0, fewer)), differ)),
      )
    ]

pub returns-clause-kept : goal.returns-clause-kept
returns-clause-kept g c =
    let old = kept c.loop-cown.self.places.entries in
    sym (none_without old) ∙ ap (λ cowns. without cowns old) (sym (drop_all c.loop-cown.cown-index c.args.cowns.now c.loop-cown-test.false)) ∙ c.loop-cown.invariant.1.0
