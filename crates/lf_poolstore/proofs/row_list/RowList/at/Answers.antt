use Rattle.std.proofs.Common.{ap, map, slice_get, subst, sym, ℕ, ◌∙◌, ◌≡◌}
use Rattle.lf_pool.specs.Cells.{node}
use Rattle.lf_poolstore.specs.declared.unit_row.UnitRow.{UnitRow}
use Rattle.lf_poolstore.specs.RowLists.{ListView, numbers, row_in}
use Rattle.lf_poolstore.proofs.RowLists.{numbers_of}
use Rattle.lf_poolstore.proofs.row_list.RowList.at.Goals as goal

pub cell_at-requires : goal.cell_at-requires
cell_at-requires c = (numbers c.self.inside.pool c.self.inside.first, c.self.invariant.chain)

pub returns : goal.returns
returns c =
    let p = c.self.inside.pool in
    subst (λ (v : ListView). node c.cell_at.result ≡ slice_get (map (λ (e : ℕ × UnitRow). e.0) v.entries) c.args.place) c.self.view_is
    (c.cell_at.ensures (numbers p c.self.inside.first) c.self.invariant.chain ∙ ap (λ ns. slice_get ns c.args.place) (sym (numbers_of (row_in p) (numbers p c.self.inside.first))))
