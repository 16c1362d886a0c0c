use Rattle.std.proofs.Common.{ap, inl, refl, subst, sym, ◌∙◌}
use Rattle.lf_base.proofs.ListLemmas.Members.{Member_left, Member_right}
use Rattle.lf_base.specs.Sets.{Member}
use Rattle.lf_core.specs.Contents.{kept}
use Rattle.lf_core.specs.Keyed.{put_all}
use Rattle.lf_core.proofs.Places.{put_all_last}
use Rattle.lf_core.proofs.contents.Contents.put_all.Goals as goal

pub put-requires : goal.put-requires
put-requires g c = c.loop-cown.invariant.1.0 (c.in-Some.cown, c.in-Some.content) (subst (λ xs. Member (c.in-Some.cown, c.in-Some.content) xs) (sym c.in-Some.ensures) (Member_right _ c.pop.new.self _ (inl refl)))

pub loop-cown-preserved : goal.loop-cown-preserved
loop-cown-preserved g c = (
  ap (put_all c.pop.new.self) c.put.ensures.kept
      ∙ sym (put_all_last c.pop.new.self (c.in-Some.cown, c.in-Some.content) (kept c.loop-cown.self.places.entries))
      ∙ ap (λ xs. put_all xs (kept c.loop-cown.self.places.entries)) (sym c.in-Some.ensures)
      ∙ c.loop-cown.invariant.0,
  (
    λ x m. c.put.ensures.places x.0 ∙ c.loop-cown.invariant.1.0 x (subst (λ xs. Member x xs) (sym c.in-Some.ensures) (Member_left x c.pop.new.self _ m)),
    λ d. c.put.ensures.places d ∙ c.loop-cown.invariant.1.1 d,
  ),
)
