use Rattle.std.proofs.Common.{ap, subst, sym, ◌∙◌}
use Rattle.lf_poolstore.specs.Units.{IsUnit, UnitView, rows_in}
use Rattle.lf_poolstore.proofs.SeenUnits.{kept_rows, kept_unit}
use Rattle.lf_poolstore.proofs.WholeUnits.{whole_view}
use Rattle.lf_poolstore.proofs.unit.Unit.reserve.Goals as goal

pub invariant_of-self-2 : goal.invariant_of-self-2
invariant_of-self-2 c =
    kept_unit c.self.inside.cells c.reserve-2.new.self c.reserve-2.ensures.items c.reserve-2.ensures.chains c.reserve.new.self.entries (subst (λ es. IsUnit es c.self.inside.cells) (sym c.reserve.ensures.entries) c.self.invariant)

pub returns-clause-rows : goal.returns-clause-rows
returns-clause-rows c =
    let u = c.self.invariant in
    ap (rows_in c.self.inside.owner c.reserve-2.new.self) c.reserve.ensures.entries
    ∙ kept_rows c.self.inside.cells c.reserve-2.new.self c.reserve-2.ensures.items c.reserve-2.ensures.chains c.self.inside.owner c.self.inside.rows.entries u.numbers_differ u.fields
    ∙ ap (λ (v : UnitView). v.rows) c.self.view_is

pub returns-in_err-reserve-clause-whole : goal.returns-in_err-reserve-clause-whole
returns-in_err-reserve-clause-whole c = whole_view c.self.inside.owner c.reserve.new.self c.self.inside.cells

pub returns-clause-whole : goal.returns-clause-whole
returns-clause-whole c = whole_view c.self.inside.owner c.reserve.new.self c.reserve-2.new.self
