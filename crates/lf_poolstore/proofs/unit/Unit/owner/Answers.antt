use Rattle.std.proofs.Common.{subst}
use Rattle.lf_poolstore.specs.Units.{IsWhole}
use Rattle.lf_poolstore.proofs.WholeUnits.{whole_view}
use Rattle.lf_poolstore.proofs.unit.Unit.owner.Goals as goal

pub returns-clause-whole : goal.returns-clause-whole
returns-clause-whole c = subst IsWhole c.self.view_is (whole_view c.self.inside.owner c.self.inside.rows c.self.inside.cells)
