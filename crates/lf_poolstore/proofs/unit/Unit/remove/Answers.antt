use Rattle.std.proofs.Common.{None, ap, cond, subst, sym, ◌∙◌}
use Rattle.std.specs.Map.{lookup}
use Rattle.lf_base.specs.Names.{same_name}
use Rattle.lf_graph.specs.RowChanges.{without_row}
use Rattle.lf_poolstore.specs.RowLists.{numbers}
use Rattle.lf_poolstore.specs.Units.{IsUnit, UnitView, place_in, places_in, rows_in}
use Rattle.lf_poolstore.proofs.EntryLists.{left_rows, left_unit, without_places}
use Rattle.lf_poolstore.proofs.SeenUnits.{is_there, standing}
use Rattle.lf_poolstore.proofs.WholeUnits.{whole_view}
use Rattle.lf_poolstore.proofs.unit.Unit.remove.Goals as goal

pub row-row-requires : goal.row-row-requires
row-row-requires c = is_there c.self.inside.owner c.self.inside.rows c.self.inside.cells c.args.self.now (record { unit = c.self.invariant; is = c.self.view_is }) c.args.at c.requires.there.0 c.requires.there.1

pub give_fields-requires : goal.give_fields-requires
give_fields-requires c =
    let k = c.self.invariant.fields c.args.at c.row-row.result c.row-row.ensures.row in
    (numbers c.self.inside.cells c.row-row.result.fields, k.chain, k.count)

pub invariant_of-self : goal.invariant_of-self
invariant_of-self c =
    subst (λ es. IsUnit es c.give_fields.new.cells) (sym c.remove.ensures.entries)
    (left_unit c.self.inside.cells c.give_fields.new.cells c.give_fields.ensures.items c.self.inside.rows.entries c.self.invariant c.args.at c.row-row.result c.row-row.ensures.row c.give_fields.ensures.others)

pub returns-clause-rows : goal.returns-clause-rows
returns-clause-rows c o here =
    let s = standing c.self.inside.owner c.self.inside.rows c.self.inside.cells c.args.self.now (record { unit = c.self.invariant; is = c.self.view_is }) c.args.at o here in
    let es = c.self.inside.rows.entries in
    ap (rows_in c.self.inside.owner c.give_fields.new.cells) c.remove.ensures.entries
    ∙ left_rows c.self.inside.cells c.give_fields.new.cells c.give_fields.ensures.items es c.self.invariant c.args.at c.row-row.result c.row-row.ensures.row c.give_fields.ensures.others
    c.self.inside.owner o es s.agree c.self.invariant.numbers_differ (λ x r f. f)
    ∙ ap (λ (v : UnitView). without_row v.rows o) c.self.view_is

pub returns-clause-places : goal.returns-clause-places
returns-clause-places c o here q =
    let s = standing c.self.inside.owner c.self.inside.rows c.self.inside.cells c.args.self.now (record { unit = c.self.invariant; is = c.self.view_is }) c.args.at o here in
    ap (λ es. lookup (same_name q) (places_in es)) c.remove.ensures.entries
    ∙ without_places c.args.at o c.self.inside.rows.entries s.agree q
    ∙ ap (λ (v : UnitView). cond (same_name o q) None (place_in v q)) c.self.view_is

pub returns-clause-whole : goal.returns-clause-whole
returns-clause-whole c = whole_view c.self.inside.owner c.remove.new.self c.give_fields.new.cells
