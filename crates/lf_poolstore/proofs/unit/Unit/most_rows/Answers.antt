use Rattle.std.proofs.Common.{arith, length, subst, ℕ, ◌≤◌}
use Rattle.std.proofs.lemmas.List.{length-map}
use Rattle.lf_poolstore.specs.declared.unit_row.UnitRow.{UnitRow}
use Rattle.lf_poolstore.specs.Units.{IsWhole, UnitView, whole}
use Rattle.lf_poolstore.proofs.WholeUnits.{whole_view}
use Rattle.lf_poolstore.proofs.unit.Unit.most_rows.Goals as goal

pub returns-clause-most : goal.returns-clause-most
returns-clause-most c =
    let size = length-map c.self.inside.rows.entries (λ (e : ℕ × UnitRow). whole c.self.inside.owner c.self.inside.cells e.1) in
    let most = c.most_rows.ensures in
    subst (λ (v : UnitView). length v.rows ≤ c.most_rows.result) c.self.view_is (omega (arith, size, most))

pub returns-clause-whole : goal.returns-clause-whole
returns-clause-whole c = subst IsWhole c.self.view_is (whole_view c.self.inside.owner c.self.inside.rows c.self.inside.cells)
