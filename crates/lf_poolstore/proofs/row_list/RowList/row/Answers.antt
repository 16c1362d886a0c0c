use Rattle.std.proofs.Common.{Some, ap, ◌∙◌, subst, sym, ◌≡◌}
use Rattle.std.specs.Option.{IsSome}
use Rattle.lf_poolstore.specs.RowLists.{ListView, entry_at}
use Rattle.lf_poolstore.specs.UnitRows.{is_live, row_or}
use Rattle.lf_poolstore.proofs.RowLists.{entry_found, has_number, there}
use Rattle.lf_poolstore.proofs.row_list.RowList.row.Goals as goal

pub item-requires : goal.item-requires
item-requires c = there c.self.inside.first c.self.inside.pool c.self.invariant c.args.at (subst (λ (v : ListView). IsSome (entry_at v.entries c.args.at)) (sym c.self.view_is) c.requires)

pub returns-clause-row : goal.returns-clause-row
returns-clause-row c =
    let h = has_number c.self.inside.first c.self.inside.pool c.self.invariant c.args.at (subst (λ (v : ListView). IsSome (entry_at v.entries c.args.at)) (sym c.self.view_is) c.requires) in
    subst (λ (v : ListView). entry_at v.entries c.args.at ≡ Some c.item.result) c.self.view_is (entry_found c.self.inside.first c.self.inside.pool c.self.invariant c.args.at c.item.result h c.item.ensures.item)

pub returns-clause-live : goal.returns-clause-live
returns-clause-live c =
    let h = has_number c.self.inside.first c.self.inside.pool c.self.invariant c.args.at (subst (λ (v : ListView). IsSome (entry_at v.entries c.args.at)) (sym c.self.view_is) c.requires) in
    sym (ap (λ t. is_live (row_or t)) c.item.ensures.item) ∙ c.self.invariant.live c.args.at h
