use Rattle.std.proofs.Common.{ap, option_map, refl, subst, sym, ◌∙◌}
use Rattle.lf_base.specs.declared.values.Key.{Key}
use Rattle.lf_base.specs.declared.values.Value.{Value}
use Rattle.lf_base.specs.TakeResult.{drop_field, field_at}
use Rattle.lf_graph.specs.RowChanges.{without_field_of}
use Rattle.lf_graph.specs.StoredRows.{fields_by}
use Rattle.lf_pool.proofs.Beheads.{node_other}
use Rattle.lf_poolstore.specs.RowLists.{numbers}
use Rattle.lf_poolstore.specs.Units.{IsUnit, IsWhole, UnitView, places_in, rows_in}
use Rattle.lf_pool.proofs.Places.{no_number}
use Rattle.lf_poolstore.proofs.CellFields.{drop_absent, found_in_range, value_found, value_in}
use Rattle.lf_poolstore.proofs.SeenUnits.{is_there, row_seen, same_row, standing}
use Rattle.lf_poolstore.proofs.WrittenUnits.{same_entry, written_places, written_rows, written_unit}
use Rattle.lf_poolstore.proofs.WholeUnits.{whole_view}
use Rattle.lf_poolstore.proofs.unit.Unit.take_field.Goals as goal

pub row-row-requires : goal.row-row-requires
row-row-requires c = is_there c.self.inside.owner c.self.inside.rows c.self.inside.cells c.args.self.now (record { unit = c.self.invariant; is = c.self.view_is }) c.args.at c.requires.there.0 c.requires.there.1

pub cell_of-cell-requires : goal.cell_of-cell-requires
cell_of-cell-requires c = (c.self.invariant.fields c.args.at c.row-row.result c.row-row.ensures.row).chain

pub invariant_of-self : goal.invariant_of-self
invariant_of-self c =
    subst (λ t. IsUnit t c.dropped-now.new.cells) (sym c.set.ensures.entries)
    (written_unit c.self.inside.cells c.dropped-now.new.cells c.self.inside.rows.entries c.self.invariant c.args.at c.row-row.result c.dropped-now.result c.row-row.ensures.row c.dropped-now.ensures.row _ c.dropped-now.ensures.written)

pub returns-clause-rows : goal.returns-clause-rows
returns-clause-rows c o here =
    let s = standing c.self.inside.owner c.self.inside.rows c.self.inside.cells c.args.self.now (record { unit = c.self.invariant; is = c.self.view_is }) c.args.at o here in
    let es = c.self.inside.rows.entries in
    ap (rows_in c.self.inside.owner c.dropped-now.new.cells) c.set.ensures.entries
    ∙ written_rows c.self.inside.cells c.dropped-now.new.cells es c.self.invariant c.args.at c.row-row.result c.dropped-now.result c.row-row.ensures.row c.dropped-now.ensures.row _ c.dropped-now.ensures.written
    c.self.inside.owner o (λ fs. drop_field fs c.args.key) refl es s.agree c.self.invariant.numbers_differ (λ x r f. f)
    ∙ ap (λ (v : UnitView). without_field_of v.rows o c.args.key) c.self.view_is

pub returns-clause-places : goal.returns-clause-places
returns-clause-places c =
    ap places_in c.set.ensures.entries
    ∙ written_places c.self.inside.cells c.dropped-now.new.cells c.self.inside.rows.entries c.self.invariant c.args.at c.row-row.result c.dropped-now.result c.row-row.ensures.row c.dropped-now.ensures.row _ c.dropped-now.ensures.written
    ∙ ap (λ (v : UnitView). v.places) c.self.view_is

pub returns-then-cell-clause-value : goal.returns-then-cell-clause-value
returns-then-cell-clause-value c o here =
    let cells = c.self.inside.cells in
    let xs = numbers cells c.row-row.result.fields in
    let seen = row_seen c.self.inside.owner c.self.inside.rows cells c.args.self.now (record { unit = c.self.invariant; is = c.self.view_is }) c.args.at o here c.row-row.result c.row-row.ensures.row in
    sym (ap (λ t. field_at (fields_by t) c.args.key) seen ∙ value_found cells c.args.key xs ∙ ap (value_in cells) (sym c.cell_of-cell.ensures ∙ no_number c.cell_of-cell.result c.if-cell.true))

pub pair-value-requires : goal.pair-value-requires
pair-value-requires c =
    let k = c.self.invariant.fields c.args.at c.row-row.result c.row-row.ensures.row in
    found_in_range c.self.inside.cells c.args.key c.row-row.result.fields (numbers c.self.inside.cells c.row-row.result.fields) c.cell_of-cell.result k.chain (sym c.cell_of-cell.ensures ∙ node_other c.cell_of-cell.result c.if-cell.false)

pub dropped-now-requires-clause-keeps : goal.dropped-now-requires-clause-keeps
dropped-now-requires-clause-keeps c = c.self.invariant.fields c.args.at c.row-row.result c.row-row.ensures.row

pub returns-clause-value : goal.returns-clause-value
returns-clause-value c o here =
    let cells = c.self.inside.cells in
    let xs = numbers cells c.row-row.result.fields in
    let seen = row_seen c.self.inside.owner c.self.inside.rows cells c.args.self.now (record { unit = c.self.invariant; is = c.self.view_is }) c.args.at o here c.row-row.result c.row-row.ensures.row in
    sym (ap (λ t. field_at (fields_by t) c.args.key) seen ∙ value_found cells c.args.key xs ∙ ap (value_in cells) (sym c.cell_of-cell.ensures ∙ node_other c.cell_of-cell.result c.if-cell.false)
    ∙ ap (option_map (λ (p : Key × Value). p.1)) c.pair-value.ensures)

pub returns-then-cell-clause-rows : goal.returns-then-cell-clause-rows
returns-then-cell-clause-rows c o here =
    let s = standing c.self.inside.owner c.self.inside.rows c.self.inside.cells c.args.self.now (record { unit = c.self.invariant; is = c.self.view_is }) c.args.at o here in
    let m = c.self.inside.cells in
    let es = c.self.inside.rows.entries in
    let r = c.row-row.result in
    let u = c.self.invariant in
    let none = drop_absent m c.args.key (numbers m r.fields) (sym c.cell_of-cell.ensures ∙ no_number c.cell_of-cell.result c.if-cell.true) in
    ap (λ (v : UnitView). v.rows) (sym c.self.view_is)
    ∙ sym (ap (rows_in c.self.inside.owner m) (same_entry c.args.at r es u.numbers_differ (λ x f. same_row (sym f ∙ c.row-row.ensures.row))))
    ∙ written_rows m m es u c.args.at r r c.row-row.ensures.row (record { name = refl; refs = refl }) _ (record { keeps = u.fields c.args.at r c.row-row.ensures.row; here = sym none; others = λ t l a. (l, refl, a) })
    c.self.inside.owner o (λ fs. drop_field fs c.args.key) refl es s.agree u.numbers_differ (λ x t f. f)
    ∙ ap (λ (v : UnitView). without_field_of v.rows o c.args.key) c.self.view_is

pub returns-then-cell-clause-whole : goal.returns-then-cell-clause-whole
returns-then-cell-clause-whole c = subst IsWhole c.self.view_is (whole_view c.self.inside.owner c.self.inside.rows c.self.inside.cells)

pub returns-clause-whole : goal.returns-clause-whole
returns-clause-whole c = whole_view c.self.inside.owner c.set.new.self c.dropped-now.new.cells
