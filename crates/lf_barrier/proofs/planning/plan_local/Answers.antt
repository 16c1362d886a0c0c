use Rattle.std.proofs.Common.{◌∙◌}
use Rattle.lf_domain.proofs.StoreEdges.{owner_told}
use Rattle.lf_laws.proofs.Judging.LocalWrites.{local_allowed}
use Rattle.lf_barrier.proofs.planning.plan_local.Goals as goal

pub returns-clause-answer : goal.returns-clause-answer
returns-clause-answer g c s a =
    let here = owner_told (g.S.Store.rows c.args.store.now) s.rows c.args.target (((a.domain).counts).store).rows ∙ c.requires.here in
    local_allowed s (a.domain).well_formed c.args.target c.args.key c.args.value here

pub returns-clause-plan : goal.returns-clause-plan
returns-clause-plan g c s a =
    let here = owner_told (g.S.Store.rows c.args.store.now) s.rows c.args.target (((a.domain).counts).store).rows ∙ c.requires.here in
    record { moves = (here, c.no_names.ensures); allowed = local_allowed s (a.domain).well_formed c.args.target c.args.key c.args.value here }
