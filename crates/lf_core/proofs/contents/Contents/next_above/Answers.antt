use Rattle.std.proofs.Common.{ap, sym, ◌∙◌, ◌∷◌}
use Rattle.lf_core.specs.Contents.{kept}
use Rattle.lf_core.proofs.NextContents.{first_above, first_of}
use Rattle.lf_core.proofs.contents.Contents.next_above.Goals as goal

pub loop-cown-init : goal.loop-cown-init
loop-cown-init g c = (
  tt,
  (
    tt,
    ap (λ ps. first_of (kept ps)) (c.into_iter-cown-iterator.ensures.into_iter_gives ∙ rw c.first_above.ensures at (c.range-cown-items.ensures.between tt))
        ∙ first_above c.args.after c.args.self.now.places.entries,
  ),
)

pub returns-in-Some-place : goal.returns-in-Some-place
returns-in-Some-place g c =
    sym c.loop-cown.invariant.1.1
    ∙ ap (λ ps. first_of (kept ps)) c.in-Some.ensures.steps
    ∙ ap (λ o. first_of (kept ((c.in-Some.cown.now, o) ∷ c.next.new.self))) c.in-Some-place.is

pub loop-cown-preserved : goal.loop-cown-preserved
loop-cown-preserved g c = (
  tt,
  (
    tt,
    sym (ap (λ ps. first_of (kept ps)) c.in-Some.ensures.steps ∙ ap (λ o. first_of (kept ((c.in-Some.cown.now, o) ∷ c.next.new.self))) c.in_default.is)
        ∙ c.loop-cown.invariant.1.1,
  ),
)

pub returns : goal.returns
returns g c = sym c.loop-cown.invariant.1.1 ∙ ap (λ ps. first_of (kept ps)) c.in-None.ensures.steps.0
