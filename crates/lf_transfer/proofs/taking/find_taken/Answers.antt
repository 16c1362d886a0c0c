use Rattle.std.proofs.Common.{sym, ◌∙◌}
use Rattle.lf_transfer.proofs.Taken.TakenRows.{finding_begins, finding_on, found, row_is_there}
use Rattle.lf_transfer.proofs.taking.find_taken.Goals as goal

pub loop-at-init : goal.loop-at-init
loop-at-init g c =
    finding_begins (g.S.Store.rows c.args.store.now) c.args.v c.new-found.result.taken.keys c.take_value.new.taken.keys c.new-found.result.regions.keys c.new-found.result.rows
    c.new-found.ensures.taken c.new-found.ensures.regions c.new-found.ensures.rows c.in_ok-take_value.ensures

pub look_at-requires-clause-there : goal.look_at-requires-clause-there
look_at-requires-clause-there g c κs within =
    row_is_there (g.S.Store.rows c.args.store.now) c.args.v c.loop-at.at c.loop-at.found.taken.keys c.loop-at.found.regions.keys c.loop-at.found.rows c.loop-at.invariant c.in-Some.p (sym c.in-Some.is ∙ c.name_at.ensures)

pub loop-at-preserved : goal.loop-at-preserved
loop-at-preserved g c =
    finding_on (g.S.Store.rows c.args.store.now) c.args.v c.loop-at.at c.loop-at.found.taken.keys c.loop-at.found.regions.keys c.loop-at.found.rows c.loop-at.invariant c.in-Some.p (sym c.in-Some.is ∙ c.name_at.ensures)
    c.look_at.new.self.taken.keys c.look_at.new.self.regions.keys c.look_at.new.self.rows c.in_ok-look_at.ensures.taken c.in_ok-look_at.ensures.regions c.in_ok-look_at.ensures.rows

pub returns-in_default-clause-all : goal.returns-in_default-clause-all
returns-in_default-clause-all g c = found (g.S.Store.rows c.args.store.now) c.args.v c.loop-at.at c.loop-at.found c.loop-at.invariant (sym c.in_default.is ∙ c.name_at.ensures)
