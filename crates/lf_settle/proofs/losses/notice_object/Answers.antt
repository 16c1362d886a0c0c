use Rattle.std.proofs.Common.{inl, refl, subst, sym, ◌∙◌, ◌∷◌, []}
use Rattle.lf_base.specs.Edges.{Source}
use Rattle.lf_base.specs.Losses.{LostLast}
use Rattle.lf_base.specs.PlainState.{State}
use Rattle.lf_settle.specs.LostEdges.{HasLost, NoticesLoss}
use Rattle.lf_settle.proofs.Counting.EdgeNoticed.{elsewhere_noticed, last_noticed, last_shown, left_shown, no_owner_told, owned_by, still_noticed, still_shown, table_has}
use Rattle.lf_settle.proofs.losses.notice_object.Given.{Over}
use Rattle.lf_settle.proofs.losses.notice_object.Goals as goal
use Rattle.lf_settle.proofs.losses.notice_object.Goals.{then-unnamed-via-else-unnamed+then-is_left_bare, then-unnamed-via-then-unnamed}

pub returns-in_default-clause-noticed : goal.returns-in_default-clause-noticed
returns-in_default-clause-noticed g c s t from h =
    elsewhere_noticed s t c.args.o c.args.work.now.suspects (no_owner_told (g.S.Store.rows c.args.store.now) c.args.regions.now c.args.work.now s t from c.args.o c.args.home h (sym c.in_default.is ∙ c.owner.ensures.owner))

pub is_left_bare-requires : goal.is_left_bare-requires
is_left_bare-requires g c r e =
    let w = c.requires.lost in
    table_has (g.S.Store.rows c.args.store.now) c.args.regions.now c.args.work.now w.0 w.1.0 w.1.1.0 c.args.o c.args.home w.1.1.1 c.in-Some.owner c.in-Some.ensures.owner r e

lost : (g : Over) (c : goal.After-push-arg-1 g) (s t : State) (from : Source) → HasLost (g.S.Store.rows c.args.store.now) c.args.regions.now c.args.work.now s t from (c.args.o ∷ []) c.args.home → LostLast s t c.args.o
lost g c s t from h = elim c.then-unnamed.branch [
  | then-unnamed-via-then-unnamed w ↦ last_shown (g.S.Store.rows c.args.store.now) c.args.regions.now c.args.work.now s t from c.args.o c.args.home h c.in-Some.owner c.in-Some.ensures.owner
      (sym c.refs-unnamed.ensures.refs ∙ w.if-unnamed.true)
  | then-unnamed-via-else-unnamed+then-is_left_bare w ↦ left_shown (g.S.Store.rows c.args.store.now) c.args.regions.now c.args.work.now s t from c.args.o c.args.home h c.in-Some.owner c.in-Some.ensures.owner
      (sym w.is_left_bare.ensures ∙ w.if-is_left_bare.true)
]

pub push-requires : goal.push-requires
push-requires g c =
    let w = c.requires.lost in
    w.1.1.1.room c.args.o c.in-Some.owner (inl refl) (owned_by (g.S.Store.rows c.args.store.now) c.args.regions.now c.args.work.now w.0 w.1.0 w.1.1.0 c.args.o c.args.home w.1.1.1 c.in-Some.owner c.in-Some.ensures.owner) (lost g c w.0 w.1.0 w.1.1.0 w.1.1.1)

lost_too : (g : Over) (c : goal.After-push g) (s t : State) (from : Source) → HasLost (g.S.Store.rows c.args.store.now) c.args.regions.now c.args.work.now s t from (c.args.o ∷ []) c.args.home → LostLast s t c.args.o
lost_too g c s t from h = elim c.then-unnamed.branch [
  | then-unnamed-via-then-unnamed w ↦ last_shown (g.S.Store.rows c.args.store.now) c.args.regions.now c.args.work.now s t from c.args.o c.args.home h c.in-Some.owner c.in-Some.ensures.owner
      (sym c.refs-unnamed.ensures.refs ∙ w.if-unnamed.true)
  | then-unnamed-via-else-unnamed+then-is_left_bare w ↦ left_shown (g.S.Store.rows c.args.store.now) c.args.regions.now c.args.work.now s t from c.args.o c.args.home h c.in-Some.owner c.in-Some.ensures.owner
      (sym w.is_left_bare.ensures ∙ w.if-is_left_bare.true)
]

pub returns-then-unnamed-clause-noticed : goal.returns-then-unnamed-clause-noticed
returns-then-unnamed-clause-noticed g c s t from h =
    subst (NoticesLoss s t (c.args.o ∷ []) c.args.work.now.suspects) (sym c.push.ensures.suspects)
    (last_noticed s t c.args.o c.args.work.now.suspects c.in-Some.owner (owned_by (g.S.Store.rows c.args.store.now) c.args.regions.now c.args.work.now s t from c.args.o c.args.home h c.in-Some.owner c.in-Some.ensures.owner) (lost_too g c s t from h))

pub returns-else-is_left_bare-clause-noticed : goal.returns-else-is_left_bare-clause-noticed
returns-else-is_left_bare-clause-noticed g c s t from h =
    still_noticed s t c.args.o c.args.work.now.suspects (still_shown (g.S.Store.rows c.args.store.now) c.args.regions.now c.args.work.now s t from c.args.o c.args.home h c.in-Some.owner c.in-Some.ensures.owner (λ z. c.if-unnamed.false (c.refs-unnamed.ensures.refs ∙ z)) (sym c.is_left_bare.ensures ∙ c.if-is_left_bare.false))
