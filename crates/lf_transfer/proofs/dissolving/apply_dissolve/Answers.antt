use Rattle.std.proofs.Common.{ap, arith, subst, sym, ◌*◌, ◌+◌, ◌≤◌, ◌∙◌}
use Rattle.lf_base.specs.declared.values.Owner.TheVariants.{In}
use Rattle.lf_base.specs.DissolveResult.{dissolve_result}
use Rattle.lf_base.specs.Edges.{edges}
use Rattle.lf_domain.specs.Counts.{CountsOf}
use Rattle.lf_domain.proofs.NearCounts.{from_near}
use Rattle.lf_graph.specs.StoredRows.{rows_of}
use Rattle.lf_regions.specs.RegionChanges.{without_region}
use Rattle.lf_regions.specs.Regions.{borrowed_of, has_region, owned_of}
use Rattle.lf_transfer.specs.Dissolving.{Dissolving, IsDissolveOf}
use Rattle.lf_transfer.specs.RegionRows.{region_cells}
use Rattle.lf_transfer.proofs.GivenRegions.RegionCells.{rows_fit}
use Rattle.lf_transfer.proofs.States.DissolvedCounts.{dissolved_counts, may_all_borrow, none_borrow, none_owns, there_still}
use Rattle.lf_transfer.proofs.dissolving.apply_dissolve.Goals as goal

pub localize_region-requires-clause-fits : goal.localize_region-requires-clause-fits
localize_region-requires-clause-fits g c κs within =
    let h = c.requires.planned in
    may_all_borrow (g.S.Store.rows c.args.store.now) c.args.regions.now h.0 h.1.0 c.plan.inside.region

pub end-requires-clause-there : goal.end-requires-clause-there
end-requires-clause-there g c =
    let h = c.requires.planned in
    let m = subst (IsDissolveOf h.0) (sym c.plan.view_is) h.1.1 in
    let r = c.plan.inside.region in
    ap (λ l. has_region l r) c.unborrow.ensures.subtracted
    ∙ there_still (g.S.Store.rows c.args.store.now) c.args.regions.now h.0 h.1.0 r m.bridge m.unowned c.localize_region.new.regions c.localize_region.ensures.turns c.borrowed-borrows.result c.borrowed-borrows.ensures.number

pub end-requires-clause-not_borrowed : goal.end-requires-clause-not_borrowed
end-requires-clause-not_borrowed g c =
    let h = c.requires.planned in
    let m = subst (IsDissolveOf h.0) (sym c.plan.view_is) h.1.1 in
    let r = c.plan.inside.region in
    ap (λ l. borrowed_of l r) c.unborrow.ensures.subtracted
    ∙ none_borrow (g.S.Store.rows c.args.store.now) c.args.regions.now h.0 h.1.0 r m.bridge m.unowned c.localize_region.new.regions c.localize_region.ensures.turns c.borrowed-borrows.result c.borrowed-borrows.ensures.number

pub end-requires-clause-not_owned : goal.end-requires-clause-not_owned
end-requires-clause-not_owned g c =
    let h = c.requires.planned in
    let m = subst (IsDissolveOf h.0) (sym c.plan.view_is) h.1.1 in
    let r = c.plan.inside.region in
    ap (λ l. owned_of l r) c.unborrow.ensures.subtracted
    ∙ none_owns (g.S.Store.rows c.args.store.now) c.args.regions.now h.0 h.1.0 r m.bridge m.unowned c.localize_region.new.regions c.localize_region.ensures.turns c.borrowed-borrows.result c.borrowed-borrows.ensures.number

pub returns-clause-counts : goal.returns-clause-counts
returns-clause-counts g c s d m =
    let rows = g.S.Store.rows c.args.store.now in
    let inside = subst (IsDissolveOf s) (sym c.plan.view_is) m in
    let r = c.plan.inside.region in
    let new = g.S.Store.rows c.give_region.new.store in
    subst (λ (p : Dissolving). CountsOf new c.end.new.self (dissolve_result s p.region)) c.plan.view_is
    (subst (λ l. CountsOf new l (dissolve_result s r)) (sym (c.end.ensures.ended ∙ ap (λ l. without_region l r) c.unborrow.ensures.subtracted))
    (dissolved_counts rows c.args.regions.now s d r inside.bridge inside.unowned c.localize_region.new.regions c.localize_region.ensures.turns c.borrowed-borrows.result c.borrowed-borrows.ensures.number new
    (c.give_region.ensures.given s.rows (edges s) (from_near s d.well_formed rows c.args.regions.now d.counts).store)))

pub returns-clause-steps : goal.returns-clause-steps
returns-clause-steps g c =
    let rows = g.S.Store.rows c.args.store.now in
    let r = c.plan.inside.region in
    subst (λ (p : Dissolving). c.give_region.new.steps ≤ c.args.steps.now + (2 + 4 * region_cells rows p.region)) c.plan.view_is
    (omega (arith, c.localize_region.ensures.steps, c.give_region.ensures.steps, rows_fit (rows_of (In r) rows)))
