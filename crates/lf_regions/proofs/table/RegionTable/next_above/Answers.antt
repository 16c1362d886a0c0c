use Rattle.std.proofs.Common.{◌∙◌, ap, sym}
use Rattle.lf_regions.proofs.KeptRegions.{kept_order}
use Rattle.lf_regions.proofs.NextNames.{first_entry_name, next_kept}
use Rattle.lf_regions.proofs.table.RegionTable.next_above.Goals as goal

pub returns-in-Some-clause-next : goal.returns-in-Some-clause-next
returns-in-Some-clause-next c =
    ap first_entry_name (sym c.in-Some.ensures.steps)
    ∙ next_kept c.self.inside.regions c.self.inside.index.entries c.self.invariant.kept c.args.self.now c.self.view_is c.args.after c.range.result
    (rw c.first_above.ensures at (c.range.ensures.between tt))

pub returns-in-Some-clause-rising : goal.returns-in-Some-clause-rising
returns-in-Some-clause-rising c = rw (← c.self.view_is) (kept_order c.self.inside.regions c.self.inside.index.entries c.self.invariant.kept)

pub returns-in-None-clause-next : goal.returns-in-None-clause-next
returns-in-None-clause-next c =
    ap first_entry_name (sym c.in-None.ensures.steps.0)
    ∙ next_kept c.self.inside.regions c.self.inside.index.entries c.self.invariant.kept c.args.self.now c.self.view_is c.args.after c.range.result
    (rw c.first_above.ensures at (c.range.ensures.between tt))

pub returns-in-None-clause-rising : goal.returns-in-None-clause-rising
returns-in-None-clause-rising c = rw (← c.self.view_is) (kept_order c.self.inside.regions c.self.inside.index.entries c.self.invariant.kept)
