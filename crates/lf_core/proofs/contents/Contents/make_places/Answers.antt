use Rattle.std.proofs.Common.{inl, inr, subst, true, ◌∙◌, ◌≡◌}
use Rattle.std.proofs.lemmas.List.{take_more}
use Rattle.lf_base.proofs.ListLemmas.Members.{Member_of_append}
use Rattle.lf_base.specs.declared.ids.CownId.{CownId}
use Rattle.lf_base.specs.Sets.{Member}
use Rattle.lf_core.specs.Contents.{has_place}
use Rattle.lf_core.proofs.contents.Contents.make_places.Goals as goal

pub loop-pair-preserved : goal.loop-pair-preserved
loop-pair-preserved g c = (
  c.make_place.ensures.kept ∙ c.loop-pair.invariant.0,
  (
    λ x m. elim (Member_of_append x _ _ (subst (λ xs. Member x xs) (take_more c.args.more.now c.loop-pair.pair-index c.pair-item.result c.loop-pair-test.true) m)) [
      | inl n ↦ c.make_place.ensures.others x.0 (c.loop-pair.invariant.1.0 x n)
      | inr n ↦ elim n [
        | inl e ↦ subst (λ (y : CownId × g.row.C.Denot). has_place c.make_place.new.self.places.entries y.0 ≡ true) (c.pair-item.is ∙ e) c.in_ok-make_place.ensures.place
        | inr z ↦ absurd z
      ]
    ],
    λ d e. c.make_place.ensures.others d (c.loop-pair.invariant.1.1 d e),
  ),
)
