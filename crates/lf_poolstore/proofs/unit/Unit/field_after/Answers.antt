use Rattle.std.proofs.Common.{ap, sym, ◌∙◌}
use Rattle.lf_base.specs.FieldOrder.{field_after}
use Rattle.lf_graph.specs.StoredRows.{fields_by}
use Rattle.lf_poolstore.proofs.SeenUnits.{is_there, row_seen}
use Rattle.lf_poolstore.proofs.unit.Unit.field_after.Goals as goal

pub row-requires : goal.row-requires
row-requires c = is_there c.self.inside.owner c.self.inside.rows c.self.inside.cells c.args.self.now (record { unit = c.self.invariant; is = c.self.view_is }) c.args.at c.requires.0 c.requires.1

pub cell_after-cell-requires : goal.cell_after-cell-requires
cell_after-cell-requires c = (c.self.invariant.fields c.args.at c.row.result c.row.ensures.row).chain

pub returns : goal.returns
returns c o here =
    c.pair_of.ensures ∙ c.cell_after-cell.ensures.field
    ∙ ap (λ t. field_after (fields_by t) c.args.after) (sym (row_seen c.self.inside.owner c.self.inside.rows c.self.inside.cells c.args.self.now (record { unit = c.self.invariant; is = c.self.view_is }) c.args.at o here c.row.result c.row.ensures.row))
