use Rattle.std.proofs.Common.{ap, subst, sym, ◌∙◌}
use Rattle.lf_graph.specs.RowChanges.{with_new_row}
use Rattle.lf_graph.specs.StoredRows.{IsNewName}
use Rattle.lf_base.specs.Names.{same_name}
use Rattle.std.specs.Map.{lookup}
use Rattle.std.proofs.Common.{cond, Some}
use Rattle.lf_poolstore.specs.Units.{IsUnit, UnitView, place_in, places_in, rows_in}
use Rattle.lf_poolstore.proofs.EntryLists.{push_places, push_rows, push_unit}
use Rattle.lf_poolstore.proofs.WholeUnits.{whole_view}
use Rattle.lf_poolstore.proofs.unit.Unit.push.Goals as goal

pub invariant_of-self : goal.invariant_of-self
invariant_of-self c =
    subst (λ es. IsUnit es c.self.inside.cells) (sym c.push.ensures.entries)
    (push_unit c.self.inside.owner c.self.inside.cells c.self.inside.rows.entries c.self.invariant c.args.o c.push.result c.new.result c.new.ensures.row c.push.ensures.new
    (subst (λ (v : UnitView). IsNewName v.rows c.args.o) (sym c.self.view_is) c.requires.new))

pub returns-clause-rows : goal.returns-clause-rows
returns-clause-rows c =
    ap (rows_in c.self.inside.owner c.self.inside.cells) c.push.ensures.entries
    ∙ push_rows c.self.inside.owner c.self.inside.cells c.self.inside.rows.entries c.self.invariant c.args.o c.push.result c.new.result c.new.ensures.row c.push.ensures.new
    (subst (λ (v : UnitView). IsNewName v.rows c.args.o) (sym c.self.view_is) c.requires.new)
    ∙ ap (λ (v : UnitView). with_new_row v.rows c.args.o v.owner) c.self.view_is

pub returns-clause-places : goal.returns-clause-places
returns-clause-places c q =
    ap (λ es. lookup (same_name q) (places_in es)) c.push.ensures.entries
    ∙ push_places c.self.inside.owner c.self.inside.cells c.self.inside.rows.entries c.self.invariant c.args.o c.push.result c.new.result c.new.ensures.row c.push.ensures.new
    (subst (λ (v : UnitView). IsNewName v.rows c.args.o) (sym c.self.view_is) c.requires.new) q
    ∙ ap (λ (v : UnitView). cond (same_name c.args.o q) (Some c.push.result) (place_in v q)) c.self.view_is

pub returns-clause-whole : goal.returns-clause-whole
returns-clause-whole c = whole_view c.self.inside.owner c.push.new.self c.self.inside.cells
