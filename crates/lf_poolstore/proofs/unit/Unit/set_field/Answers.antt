use Rattle.std.proofs.Common.{ℕ, None, ap, arith, cond, is_some, refl, subst, sym, ◌∙◌, ◌≡◌}
use Rattle.lf_base.specs.TakeResult.{field_at}
use Rattle.lf_base.specs.WriteResult.{put_field}
use Rattle.lf_graph.specs.RowChanges.{with_field_of}
use Rattle.lf_graph.specs.StoredRows.{field_value_at, fields_by}
use Rattle.lf_poolstore.specs.RowLists.{numbers}
use Rattle.lf_poolstore.specs.Units.{IsUnit, UnitView, places_in, rows_in}
use Rattle.lf_pool.proofs.Places.{no_number}
use Rattle.lf_poolstore.proofs.CellFields.{put_absent, value_found, value_in}
use Rattle.lf_poolstore.proofs.SeenUnits.{is_there, row_seen, same_row, standing}
use Rattle.lf_poolstore.proofs.WrittenUnits.{same_entry, written_places, written_rows, written_unit}
use Rattle.lf_poolstore.proofs.WholeUnits.{whole_view}
use Rattle.lf_poolstore.proofs.unit.Unit.set_field.Goals as goal

pub row-row-requires : goal.row-row-requires
row-row-requires c = is_there c.self.inside.owner c.self.inside.rows c.self.inside.cells c.args.self.now (record { unit = c.self.invariant; is = c.self.view_is }) c.args.at c.requires.there.0 c.requires.there.1

pub cell_of-cell-requires : goal.cell_of-cell-requires
cell_of-cell-requires c = (c.self.invariant.fields c.args.at c.row-row.result c.row-row.ensures.row).chain

pub added-now-requires-clause-keeps : goal.added-now-requires-clause-keeps
added-now-requires-clause-keeps c = c.self.invariant.fields c.args.at c.row-row.result c.row-row.ensures.row

pub added-now-requires-clause-room : goal.added-now-requires-clause-room
added-now-requires-clause-room c =
    let cells = c.self.inside.cells in
    let xs = numbers cells c.row-row.result.fields in
    let seen = row_seen c.self.inside.owner c.self.inside.rows cells c.args.self.now (record { unit = c.self.invariant; is = c.self.view_is }) c.args.at c.requires.there.0 c.requires.there.1 c.row-row.result c.row-row.ensures.row in
    let none : field_value_at c.args.self.now.rows c.requires.there.0 c.args.key ≡ None =
    ap (λ t. field_at (fields_by t) c.args.key) seen ∙ value_found cells c.args.key xs ∙ ap (value_in cells) (sym c.cell_of-cell.ensures ∙ no_number c.cell_of-cell.result c.if-cell.true) in
    let need = ap {B = ℕ} (λ t. cond (is_some t) 0 1) none in
    let spare = ap (λ (v : UnitView). v.spare) c.self.view_is in
    omega (arith, need, spare, c.requires.there.2)

pub invariant_of-self : goal.invariant_of-self
invariant_of-self c =
    subst (λ t. IsUnit t c.added-now.new.cells) (sym c.set.ensures.entries)
    (written_unit c.self.inside.cells c.added-now.new.cells c.self.inside.rows.entries c.self.invariant c.args.at c.row-row.result c.added-now.result c.row-row.ensures.row c.added-now.ensures.row _ c.added-now.ensures.written)

pub returns-then-cell-clause-value : goal.returns-then-cell-clause-value
returns-then-cell-clause-value c o here =
    let cells = c.self.inside.cells in
    let xs = numbers cells c.row-row.result.fields in
    let seen = row_seen c.self.inside.owner c.self.inside.rows cells c.args.self.now (record { unit = c.self.invariant; is = c.self.view_is }) c.args.at o here c.row-row.result c.row-row.ensures.row in
    sym (ap (λ t. field_at (fields_by t) c.args.key) seen ∙ value_found cells c.args.key xs ∙ ap (value_in cells) (sym c.cell_of-cell.ensures ∙ no_number c.cell_of-cell.result c.if-cell.true))

pub returns-then-cell-clause-rows : goal.returns-then-cell-clause-rows
returns-then-cell-clause-rows c o here =
    let s = standing c.self.inside.owner c.self.inside.rows c.self.inside.cells c.args.self.now (record { unit = c.self.invariant; is = c.self.view_is }) c.args.at o here in
    let es = c.self.inside.rows.entries in
    let m = c.self.inside.cells in
    ap (rows_in c.self.inside.owner c.added-now.new.cells) c.set.ensures.entries
    ∙ written_rows c.self.inside.cells c.added-now.new.cells es c.self.invariant c.args.at c.row-row.result c.added-now.result c.row-row.ensures.row c.added-now.ensures.row _ c.added-now.ensures.written
    c.self.inside.owner o (λ fs. put_field fs c.args.key c.args.v) (sym (put_absent m c.args.key c.args.v (numbers m c.row-row.result.fields) (sym c.cell_of-cell.ensures ∙ no_number c.cell_of-cell.result c.if-cell.true))) es s.agree c.self.invariant.numbers_differ (λ x r f. f)
    ∙ ap (λ (v : UnitView). with_field_of v.rows o c.args.key c.args.v) c.self.view_is

pub returns-then-cell-clause-places : goal.returns-then-cell-clause-places
returns-then-cell-clause-places c =
    ap places_in c.set.ensures.entries
    ∙ written_places c.self.inside.cells c.added-now.new.cells c.self.inside.rows.entries c.self.invariant c.args.at c.row-row.result c.added-now.result c.row-row.ensures.row c.added-now.ensures.row _ c.added-now.ensures.written
    ∙ ap (λ (v : UnitView). v.places) c.self.view_is

pub returns-then-cell-clause-room : goal.returns-then-cell-clause-room
returns-then-cell-clause-room c o here =
    let cells = c.self.inside.cells in
    let xs = numbers cells c.row-row.result.fields in
    let seen = row_seen c.self.inside.owner c.self.inside.rows cells c.args.self.now (record { unit = c.self.invariant; is = c.self.view_is }) c.args.at o here c.row-row.result c.row-row.ensures.row in
    let none : field_value_at c.args.self.now.rows o c.args.key ≡ None =
    ap (λ t. field_at (fields_by t) c.args.key) seen ∙ value_found cells c.args.key xs ∙ ap (value_in cells) (sym c.cell_of-cell.ensures ∙ no_number c.cell_of-cell.result c.if-cell.true) in
    let need = ap {B = ℕ} (λ t. cond (is_some t) 0 1) none in
    let spare = ap (λ (v : UnitView). v.spare) c.self.view_is in
    omega (arith, need, spare, c.set.ensures.room, c.added-now.ensures.room)

pub replaced-requires-clause-keeps : goal.replaced-requires-clause-keeps
replaced-requires-clause-keeps c = c.self.invariant.fields c.args.at c.row-row.result c.row-row.ensures.row

pub invariant_of-self-2 : goal.invariant_of-self-2
invariant_of-self-2 c =
    let es = c.self.inside.rows.entries in
    let r = c.row-row.result in
    subst (λ t. IsUnit t c.replaced.new.cells) (same_entry c.args.at r es c.self.invariant.numbers_differ (λ x f. same_row (sym f ∙ c.row-row.ensures.row)))
    (written_unit c.self.inside.cells c.replaced.new.cells es c.self.invariant c.args.at r r c.row-row.ensures.row (record { name = refl; refs = refl }) _ c.replaced.ensures.written)

pub returns-clause-value : goal.returns-clause-value
returns-clause-value c o here =
    c.replaced.ensures.value
    ∙ sym (ap (λ t. field_at (fields_by t) c.args.key)
    (row_seen c.self.inside.owner c.self.inside.rows c.self.inside.cells c.args.self.now (record { unit = c.self.invariant; is = c.self.view_is }) c.args.at o here c.row-row.result c.row-row.ensures.row))

pub returns-clause-rows : goal.returns-clause-rows
returns-clause-rows c o here =
    let s = standing c.self.inside.owner c.self.inside.rows c.self.inside.cells c.args.self.now (record { unit = c.self.invariant; is = c.self.view_is }) c.args.at o here in
    let es = c.self.inside.rows.entries in
    let r = c.row-row.result in
    sym (ap (rows_in c.self.inside.owner c.replaced.new.cells) (same_entry c.args.at r es c.self.invariant.numbers_differ (λ x f. same_row (sym f ∙ c.row-row.ensures.row))))
    ∙ written_rows c.self.inside.cells c.replaced.new.cells es c.self.invariant c.args.at r r c.row-row.ensures.row (record { name = refl; refs = refl }) _ c.replaced.ensures.written
    c.self.inside.owner o (λ fs. put_field fs c.args.key c.args.v) refl es s.agree c.self.invariant.numbers_differ (λ x t f. f)
    ∙ ap (λ (v : UnitView). with_field_of v.rows o c.args.key c.args.v) c.self.view_is

pub returns-then-cell-clause-whole : goal.returns-then-cell-clause-whole
returns-then-cell-clause-whole c = whole_view c.self.inside.owner c.set.new.self c.added-now.new.cells

pub returns-clause-whole : goal.returns-clause-whole
returns-clause-whole c = whole_view c.self.inside.owner c.self.inside.rows c.replaced.new.cells
