use Rattle.std.proofs.Common.{ap, filter, reverse, subst, sym, ◌++◌, ◌∙◌}
use Rattle.lf_base.specs.FreezeResult.{freeze_result}
use Rattle.lf_base.specs.Owners.{has_name}
use Rattle.lf_graph.specs.RowChanges.{without_rows}
use Rattle.lf_graph.specs.StoredRows.{SameByOwner}
use Rattle.lf_transfer.specs.Freezing.{Freezing, IsFreezeOf, MayLoseAll, TurnsTo, is_bare_region}
use Rattle.lf_transfer.proofs.Freezes.FrozenCounts.{frozen_counts, may_lose_all, taken_there}
use Rattle.lf_transfer.proofs.freezing.apply_freeze.Goals as goal

pub lose_rows-requires-clause-may : goal.lose_rows-requires-clause-may
lose_rows-requires-clause-may g c κs within =
    let rows = g.S.Store.rows c.args.store.now in
    let h = c.requires.planned in
    let inside = subst (IsFreezeOf h.0 c.args.frozen.now h.1.0) (sym c.plan.view_is) h.1.1.1 in (
      h.0,
      (
        h.1.0,
        subst (MayLoseAll rows c.args.regions.now h.0 h.1.0 c.plan.inside.taken.keys) (sym c.as_slice.ensures.keys)
            (may_lose_all rows c.args.regions.now h.0 h.1.1.0 c.args.frozen.now h.1.0 _ inside),
      ),
    )

pub remove_rows-requires-clause-there : goal.remove_rows-requires-clause-there
remove_rows-requires-clause-there g c κs within o n =
    let rows = g.S.Store.rows c.args.store.now in
    let h = c.requires.planned in
    let inside = subst (IsFreezeOf h.0 c.args.frozen.now h.1.0) (sym c.plan.view_is) h.1.1.1 in
    taken_there rows c.args.regions.now h.0 h.1.1.0 c.args.frozen.now h.1.0 _ inside o (ap (λ l. has_name l o) (sym c.as_slice-2.ensures.keys) ∙ n)

pub returns-clause-counts : goal.returns-clause-counts
returns-clause-counts g c s v d p =
    let rows = g.S.Store.rows c.args.store.now in
    let new = g.S.Store.rows c.remove_rows.new.store in
    let inside = subst (IsFreezeOf s c.args.frozen.now v) (sym c.plan.view_is) p in
    let may = subst (MayLoseAll rows c.args.regions.now s v c.plan.inside.taken.keys) (sym c.as_slice.ensures.keys) (may_lose_all rows c.args.regions.now s d c.args.frozen.now v _ inside) in
    frozen_counts rows c.args.regions.now s d c.args.frozen.now v _ inside c.lose_rows.new.regions
    (subst (λ l. TurnsTo (freeze_result s v) l c.args.regions.now c.lose_rows.new.regions) c.as_slice.ensures.keys (c.lose_rows.ensures.turned s v may)) new
    (subst (λ l. SameByOwner new (without_rows rows l)) c.as_slice-2.ensures.keys c.remove_rows.ensures.rows)

pub returns-clause-named : goal.returns-clause-named
returns-clause-named g c s v d p =
    let rows = g.S.Store.rows c.args.store.now in
    let inside = subst (IsFreezeOf s c.args.frozen.now v) (sym c.plan.view_is) p in
    let may = subst (MayLoseAll rows c.args.regions.now s v c.plan.inside.taken.keys) (sym c.as_slice.ensures.keys) (may_lose_all rows c.args.regions.now s d c.args.frozen.now v _ inside) in
    c.lose_rows.ensures.named s v may
    ∙ ap (λ l. reverse (filter (is_bare_region (freeze_result s v)) l) ++ c.args.work.now.names) (c.as_slice.ensures.keys ∙ ap (λ (q : Freezing). q.regions) c.plan.view_is)
