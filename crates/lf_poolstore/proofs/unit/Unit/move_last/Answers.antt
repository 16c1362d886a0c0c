use Rattle.std.proofs.Common.{ap, subst, sym, ◌∙◌}
use Rattle.std.specs.Map.{lookup}
use Rattle.lf_base.specs.Names.{same_name}
use Rattle.lf_graph.specs.RowChanges.{moved_last}
use Rattle.lf_poolstore.specs.Units.{IsUnit, UnitView, place_in, places_in, rows_in}
use Rattle.lf_poolstore.proofs.MovedRows.{moved_places, moved_rows, moved_unit}
use Rattle.lf_poolstore.proofs.SeenUnits.{is_there, standing}
use Rattle.lf_poolstore.proofs.WholeUnits.{whole_view}
use Rattle.lf_poolstore.proofs.unit.Unit.move_last.Goals as goal

pub move_last-requires : goal.move_last-requires
move_last-requires c = record { there = is_there c.self.inside.owner c.self.inside.rows c.self.inside.cells c.args.self.now (record { unit = c.self.invariant; is = c.self.view_is }) c.args.at c.requires.there.0 c.requires.there.1 }

pub invariant_of-self : goal.invariant_of-self
invariant_of-self c =
    let s = standing c.self.inside.owner c.self.inside.rows c.self.inside.cells c.args.self.now (record { unit = c.self.invariant; is = c.self.view_is }) c.args.at c.requires.there.0 c.requires.there.1 in
    subst (λ t. IsUnit t c.self.inside.cells) (sym c.move_last.ensures.entries) (moved_unit c.self.inside.rows.entries c.self.inside.cells c.self.invariant c.args.at s.row s.found)

pub returns-clause-rows : goal.returns-clause-rows
returns-clause-rows c o here =
    let s = standing c.self.inside.owner c.self.inside.rows c.self.inside.cells c.args.self.now (record { unit = c.self.invariant; is = c.self.view_is }) c.args.at o here in
    ap (rows_in c.self.inside.owner c.self.inside.cells) c.move_last.ensures.entries
    ∙ moved_rows c.self.inside.rows.entries c.self.inside.cells c.self.invariant c.args.at s.row s.found c.self.inside.owner o s.agree
    ∙ ap (λ (v : UnitView). moved_last v.rows o v.owner) c.self.view_is

pub returns-clause-places : goal.returns-clause-places
returns-clause-places c q =
    let o = c.requires.there.0 in
    let s = standing c.self.inside.owner c.self.inside.rows c.self.inside.cells c.args.self.now (record { unit = c.self.invariant; is = c.self.view_is }) c.args.at o c.requires.there.1 in
    ap (λ es. lookup (same_name q) (places_in es)) c.move_last.ensures.entries
    ∙ moved_places c.self.inside.rows.entries c.self.inside.cells c.self.invariant c.args.at s.row s.found o s.agree s.named (ap (λ (v : UnitView). place_in v o) c.self.view_is ∙ c.requires.there.1) q
    ∙ ap (λ (v : UnitView). place_in v q) c.self.view_is

pub returns-clause-whole : goal.returns-clause-whole
returns-clause-whole c = whole_view c.self.inside.owner c.move_last.new.self c.self.inside.cells
