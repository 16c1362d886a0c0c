use Rattle.std.proofs.Common.{subst, sym, ◌∙◌}
use Rattle.lf_barrier.specs.Descents.{Looked, region_targets}
use Rattle.lf_barrier.proofs.Descents.OwnedBelow.{descending_begins, descending_on, home_found, home_not_found, not_below}
use Rattle.lf_barrier.proofs.descent.is_below.Goals as goal

pub returns-then-not-is_owned : goal.returns-then-not-is_owned
returns-then-not-is_owned g c s d b h above =
    not_below (g.S.Store.rows c.args.store.now) c.args.regions.now s d c.args.home c.requires.home (sym c.is_owned.ensures.flag ∙ c.if-not-is_owned.true) b above

pub loop-at-init : goal.loop-at-init
loop-at-init g c = descending_begins (g.S.Store.rows c.args.store.now) c.args.regions.now c.args.home c.args.bridges.keys c.requires.bridges

pub loop-at-preserved : goal.loop-at-preserved
loop-at-preserved g c =
    let rows = g.S.Store.rows c.args.store.now in
    descending_on rows c.args.regions.now c.args.home c.args.bridges.keys c.loop-at.at c.loop-at.visited.keys c.loop-at.invariant c.in-Some.r (sym c.in-Some.is ∙ c.name_at.ensures) c.look_into_region.new.visited.keys
    (subst (Looked rows c.in-Some.r c.args.home (region_targets rows c.in-Some.r) c.loop-at.visited.keys c.look_into_region.new.visited.keys) c.if-branch.false c.in_ok-look_into_region.ensures)

pub returns-then-branch : goal.returns-then-branch
returns-then-branch g c s d =
    let rows = g.S.Store.rows c.args.store.now in
    home_found rows c.args.regions.now c.args.home c.args.bridges.keys c.loop-at.at c.loop-at.visited.keys c.loop-at.invariant c.in-Some.r (sym c.in-Some.is ∙ c.name_at.ensures)
    (subst (Looked rows c.in-Some.r c.args.home (region_targets rows c.in-Some.r) c.loop-at.visited.keys c.look_into_region.new.visited.keys) c.if-branch.true c.in_ok-look_into_region.ensures) s d

pub returns-in_default : goal.returns-in_default
returns-in_default g c s d =
    home_not_found (g.S.Store.rows c.args.store.now) c.args.regions.now c.args.home c.args.bridges.keys c.loop-at.at c.loop-at.visited.keys c.loop-at.invariant (sym c.in_default.is ∙ c.name_at.ensures) s d
