use Rattle.std.proofs.Common.{ap, sym, ◌∙◌}
use Rattle.lf_poolstore.specs.Units.{UnitView}
use Rattle.lf_poolstore.proofs.SeenUnits.{none_there, there_none}
use Rattle.lf_poolstore.proofs.unit.Unit.is_empty.Goals as goal

pub returns : goal.returns
returns c = (
  λ t. ap (λ (v : UnitView). v.rows) (sym c.self.view_is) ∙ none_there c.self.inside.owner c.self.inside.cells c.self.inside.rows.entries c.first.result c.first.ensures t,
  λ e. there_none c.self.inside.owner c.self.inside.cells c.self.inside.rows.entries c.first.result c.first.ensures (ap (λ (v : UnitView). v.rows) c.self.view_is ∙ e),
)
