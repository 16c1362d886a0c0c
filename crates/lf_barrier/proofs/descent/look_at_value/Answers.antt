use Rattle.std.proofs.Common.{subst}
use Rattle.lf_barrier.specs.Descents.{Looked, Passed}
use Rattle.lf_barrier.proofs.Descents.OwnedRegions.{looked_one, passed_none}
use Rattle.lf_barrier.proofs.descent.look_at_value.Goals as goal

pub returns-in_ok-found-in-Some : goal.returns-in_ok-found-in-Some
returns-in_ok-found-in-Some g c =
    let rows = g.S.Store.rows c.args.store.now in
    subst (λ l. Looked rows c.args.r c.args.home l c.args.visited.now.keys c.look_at.new.visited.keys c.in_ok-found-in-Some.found) c.in-Some.ensures
    (looked_one rows c.args.r c.args.home c.in-Some.o c.args.visited.now.keys c.look_at.new.visited.keys c.in_ok-found-in-Some.found c.in_ok-found-in-Some.ensures.found c.in_ok-found-in-Some.ensures.visited)

pub returns-in-None : goal.returns-in-None
returns-in-None g c =
    subst (λ l. Passed (g.S.Store.rows c.args.store.now) c.args.r c.args.home l c.args.visited.now.keys c.args.visited.now.keys) c.in-None.ensures
    (passed_none (g.S.Store.rows c.args.store.now) c.args.r c.args.home c.args.visited.now.keys)
