use Rattle.std.proofs.Common.{None, Some, arith, subst, sym, ◌∙◌, ◌≡◌}
use Rattle.lf_poolstore.specs.RowLists.{ListView, entry_at}
use Rattle.lf_poolstore.proofs.RowLists.{far_found, gone_found, live_found}
use Rattle.lf_poolstore.proofs.row_list.RowList.get.Goals as goal

pub returns-then-at-cells : goal.returns-then-at-cells
returns-then-at-cells c =
    subst (λ (v : ListView). None ≡ entry_at v.entries c.args.at) c.self.view_is
    (sym (far_found c.self.inside.first c.self.inside.pool c.self.invariant c.args.at (λ l. omega (arith, l, c.if-at-cells.true, c.cells.ensures.number))))

pub returns-then-is_live : goal.returns-then-is_live
returns-then-is_live c =
    subst (λ (v : ListView). Some c.item-row.result ≡ entry_at v.entries c.args.at) c.self.view_is
    (sym (live_found c.self.inside.first c.self.inside.pool c.self.invariant c.args.at c.item-row.result c.item-row.ensures.item (sym c.is_live.ensures ∙ c.if-is_live.true)))

pub returns-else-is_live : goal.returns-else-is_live
returns-else-is_live c =
    subst (λ (v : ListView). None ≡ entry_at v.entries c.args.at) c.self.view_is
    (sym (gone_found c.self.inside.first c.self.inside.pool c.self.invariant c.args.at c.item-row.result c.item-row.ensures.item (sym c.is_live.ensures ∙ c.if-is_live.false)))
