use Rattle.std.proofs.Common.{ap, slice_get, sym, ◌∙◌}
use Rattle.lf_graph.specs.StoredRows.{fields_by}
use Rattle.lf_pool.proofs.Joins.{chain_in_range}
use Rattle.lf_poolstore.specs.RowLists.{numbers}
use Rattle.lf_poolstore.specs.Units.{pair_by}
use Rattle.lf_poolstore.proofs.FieldPlaces.{pair_at, place_in_range}
use Rattle.lf_poolstore.proofs.SeenUnits.{is_there, row_seen}
use Rattle.lf_poolstore.proofs.unit.Unit.field_at.Goals as goal

pub row-requires : goal.row-requires
row-requires c = is_there c.self.inside.owner c.self.inside.rows c.self.inside.cells c.args.self.now (record { unit = c.self.invariant; is = c.self.view_is }) c.args.at c.requires.0 c.requires.1

pub cell_at-cell-requires : goal.cell_at-cell-requires
cell_at-cell-requires c = (numbers c.self.inside.cells c.row.result.fields, (c.self.invariant.fields c.args.at c.row.result c.row.ensures.row).chain)

pub pair_of-requires : goal.pair_of-requires
pair_of-requires c x e =
    let first = c.row.result.fields in
    place_in_range c.self.inside.cells first (numbers c.self.inside.cells first) c.args.place x (c.self.invariant.fields c.args.at c.row.result c.row.ensures.row).chain (sym (c.cell_at-cell.ensures (numbers c.self.inside.cells first) (c.self.invariant.fields c.args.at c.row.result c.row.ensures.row).chain) ∙ e)

pub returns : goal.returns
returns c o here =
    let m = c.self.inside.cells in
    let xs = numbers m c.row.result.fields in
    let k = c.self.invariant.fields c.args.at c.row.result c.row.ensures.row in
    c.pair_of.ensures ∙ ap (pair_by m) (c.cell_at-cell.ensures xs k.chain) ∙ pair_at m xs c.args.place (λ q h. chain_in_range m.cells xs q k.chain.chain h)
    ∙ ap (λ t. slice_get (fields_by t) c.args.place) (sym (row_seen c.self.inside.owner c.self.inside.rows c.self.inside.cells c.args.self.now (record { unit = c.self.invariant; is = c.self.view_is }) c.args.at o here c.row.result c.row.ensures.row))
