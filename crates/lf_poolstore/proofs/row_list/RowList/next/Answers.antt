use Rattle.std.proofs.Common.{ap, map, subst, sym, ℕ, ◌∙◌, ◌≡◌}
use Rattle.std.specs.Prelude.{eqb}
use Rattle.std.specs.Option.{IsSome}
use Rattle.lf_base.specs.Links.{after}
use Rattle.lf_pool.specs.Cells.{node}
use Rattle.lf_poolstore.specs.declared.unit_row.UnitRow.{UnitRow}
use Rattle.lf_poolstore.specs.RowLists.{ListView, entry_at, numbers, row_in}
use Rattle.lf_poolstore.proofs.RowLists.{has_number, numbers_of}
use Rattle.lf_poolstore.proofs.row_list.RowList.next.Goals as goal

pub next-requires : goal.next-requires
next-requires c =
    let h = has_number c.self.inside.first c.self.inside.pool c.self.invariant c.args.at (subst (λ (v : ListView). IsSome (entry_at v.entries c.args.at)) (sym c.self.view_is) c.requires) in
    (numbers c.self.inside.pool c.self.inside.first, c.self.invariant.chain.chain, h)

pub returns : goal.returns
returns c =
    let h = has_number c.self.inside.first c.self.inside.pool c.self.invariant c.args.at (subst (λ (v : ListView). IsSome (entry_at v.entries c.args.at)) (sym c.self.view_is) c.requires) in
    let xs = numbers c.self.inside.pool c.self.inside.first in
    subst (λ (v : ListView). node c.next.result ≡ after eqb c.args.at (map (λ (e : ℕ × UnitRow). e.0) v.entries)) c.self.view_is
    (c.next.ensures xs c.self.invariant.chain.chain h ∙ ap (after eqb c.args.at) (sym (numbers_of (row_in c.self.inside.pool) xs)))
