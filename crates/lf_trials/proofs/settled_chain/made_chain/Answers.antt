use Rattle.std.proofs.Common.{[], ap, arith, refl, subst, ◌∙◌, ◌∷◌, ◌≡◌}
use Rattle.lf_base.specs.PlainChanges.{first_state}
use Rattle.lf_base.specs.Suspects.{Object}
use Rattle.lf_settle.specs.SettledStates.{CanSettle}
use Rattle.lf_settle.specs.WorkLists.{WorkList}
use Rattle.lf_trials.specs.LocalChains.{chain, numbered}
use Rattle.lf_trials.proofs.LocalChains.{chain_may_settle, more_suspects}
use Rattle.lf_trials.proofs.TwoRegions.{none_yet, well_none}
use Rattle.lf_trials.proofs.settled_chain.made_chain.Goals as goal

pub add_object-requires-clause-next : goal.add_object-requires-clause-next
add_object-requires-clause-next g c κs within = (first_state 1 [], (well_none, (none_yet (g.S.Store.rows c.in_ok-store.store) c.in_ok-regions.regions c.in_ok-store.ensures c.in_ok-regions.ensures, refl)))

pub loop-made-init : goal.loop-made-init
loop-made-init g c = record {
  counts = c.in_ok-add_object.ensures.made (first_state 1 []) well_none (none_yet (g.S.Store.rows c.in_ok-store.store) c.in_ok-regions.regions c.in_ok-store.ensures c.in_ok-regions.ensures) refl;
  suspects = c.push.ensures.suspects ∙ ap (λ l. Object (numbered 1) ∷ l) (c.reserve.ensures.suspects ∙ ap (λ (w : WorkList). w.suspects) c.new-work.ensures);
  room = omega (arith, c.push.ensures.room, c.in_ok-reserve.ensures.enough);
}

pub loop-made-preserved : goal.loop-made-preserved
loop-made-preserved g c = record {
  counts = c.in_ok-add_link.ensures.longer;
  suspects = c.push-in-loop-made.ensures.suspects ∙ more_suspects c.loop-made.made c.loop-made.work.suspects c.loop-made.invariant.suspects;
  room = omega (arith, c.push-in-loop-made.ensures.room, c.loop-made.invariant.room);
}

pub returns : goal.returns
returns g c =
    let all : c.loop-made.made ≡ c.args.links = omega (arith, c.loop-made-test.false, c.loop-made.auto.made-end) in
    subst (λ n. CanSettle (g.S.Store.rows c.loop-made.store) c.loop-made.regions c.loop-made.work (chain n)) all
    (chain_may_settle c.loop-made.made (g.S.Store.rows c.loop-made.store) c.loop-made.regions c.loop-made.work c.loop-made.invariant.counts c.loop-made.invariant.suspects
    (omega (arith, all, c.loop-made.invariant.room)))
