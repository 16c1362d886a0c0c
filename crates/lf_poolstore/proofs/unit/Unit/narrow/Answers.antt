use Rattle.std.proofs.Common.{Some, ap, arith, sym, ◌∙◌, ◌≤◌}
use Rattle.std.specs.Prelude.{option_to_list}
use Rattle.lf_poolstore.specs.NarrowRows.{narrow_row}
use Rattle.lf_poolstore.specs.Units.{UnitView}
use Rattle.lf_poolstore.proofs.NarrowRows.{first_there, narrow_fields}
use Rattle.lf_poolstore.proofs.SeenUnits.{is_there, name_seen, row_seen}
use Rattle.lf_poolstore.proofs.unit.Unit.narrow.Goals as goal

pub row-row-requires : goal.row-row-requires
row-row-requires c = is_there c.self.inside.owner c.self.inside.rows c.self.inside.cells c.args.self.now (record { unit = c.self.invariant; is = c.self.view_is }) c.args.at c.requires.there.0 c.requires.there.1

pub pair_of-requires : goal.pair_of-requires
pair_of-requires c = first_there c.self.inside.cells c.row-row.result (c.self.invariant.fields c.args.at c.row-row.result c.row-row.ensures.row)

pub returns-clause-name : goal.returns-clause-name
returns-clause-name c o here = name_seen c.self.inside.owner c.self.inside.rows c.self.inside.cells c.args.self.now (record { unit = c.self.invariant; is = c.self.view_is }) c.args.at o here c.row-row.result c.row-row.ensures.row

pub returns-clause-row : goal.returns-clause-row
returns-clause-row c o here =
    let r = c.row-row.result in
    let few : r.width ≤ 1 = let f = c.if-row-gt1.false in omega (arith, f) in
    let fields = narrow_fields c.self.inside.cells r (c.self.invariant.fields c.args.at r c.row-row.ensures.row) few ∙ ap option_to_list (sym c.pair_of.ensures) in
    row_seen c.self.inside.owner c.self.inside.rows c.self.inside.cells c.args.self.now (record { unit = c.self.invariant; is = c.self.view_is }) c.args.at o here r c.row-row.ensures.row
    ∙ (λ i. Some (record { row = record { name = r.name; owner = c.self.inside.owner; fields = fields i }; refs = r.refs }))
    ∙ ap (λ (v : UnitView). Some (narrow_row v.owner (record { name = r.name; refs = r.refs; field = c.pair_of.result }))) c.self.view_is
