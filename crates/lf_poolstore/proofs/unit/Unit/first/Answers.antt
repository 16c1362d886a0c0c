use Rattle.std.proofs.Common.{ap, sym, ◌∙◌}
use Rattle.lf_graph.specs.StoredRows.{first_name}
use Rattle.lf_poolstore.specs.RowLists.{name_by}
use Rattle.lf_poolstore.specs.Units.{UnitView}
use Rattle.lf_poolstore.proofs.SeenUnits.{first_by, first_there}
use Rattle.lf_poolstore.proofs.unit.Unit.first.Goals as goal

pub name-requires : goal.name-requires
name-requires c x e = first_there c.self.inside.rows.entries x (sym c.first.ensures ∙ e)

pub returns : goal.returns
returns c =
    c.name.ensures ∙ ap (name_by c.self.inside.rows.entries) c.first.ensures ∙ first_by c.self.inside.owner c.self.inside.cells c.self.inside.rows.entries
    ∙ ap (λ (v : UnitView). first_name v.rows) c.self.view_is
