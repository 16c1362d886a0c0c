use Rattle.std.proofs.Common.{false, subst, sym, ◌≡◌}
use Rattle.lf_frozen.specs.FrozenRows.{FrozenNamesDiffer, has_frozen_row}
use Rattle.lf_base.specs.Sets.{Member}
use Rattle.lf_frozen.specs.declared.row.FrozenRow.{FrozenRow}
use Rattle.lf_transfer.proofs.Freezes.FrozenRows.{batch_differs, batch_is_new, is_planned}
use Rattle.lf_transfer.proofs.freezing.plan_freeze.Goals as goal

pub with-requires-clause-apart : goal.with-requires-clause-apart
with-requires-clause-apart g c =
    let t = c.in_ok-found.ensures.all in
    subst FrozenNamesDiffer (sym t.copied) (batch_differs (g.S.Store.rows c.args.store.now) c.in_ok-found.found.taken.keys t.differ)

pub with-requires-clause-new : goal.with-requires-clause-new
with-requires-clause-new g c =
    let t = c.in_ok-found.ensures.all in
    let h = c.requires.domain in
    subst (λ l. (row : FrozenRow) → Member row l → has_frozen_row c.args.frozen.now row.id ≡ false) (sym t.copied)
    (batch_is_new (g.S.Store.rows c.args.store.now) c.args.regions.now h.0 h.1.0 c.args.frozen.now h.1.1 c.in_ok-found.found.taken.keys t.there)

pub returns : goal.returns
returns g c = record {
  plan = λ s d known.
      is_planned (g.S.Store.rows c.args.store.now) c.args.regions.now s d c.args.frozen.now known c.with.ensures.rising c.args.value c.in_ok-found.found c.in_ok-found.ensures.all
      (c.in_ok-found.ensures.within c.args.regions.now s d) c.in-Ok.map c.in-Ok.ensures.added;
}
