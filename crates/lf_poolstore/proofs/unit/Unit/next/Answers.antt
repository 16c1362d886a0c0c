use Rattle.std.proofs.Common.{ap, sym, ◌∙◌}
use Rattle.lf_graph.specs.StoredRows.{name_after}
use Rattle.lf_poolstore.specs.RowLists.{name_by}
use Rattle.lf_poolstore.specs.Units.{UnitView}
use Rattle.lf_poolstore.proofs.SeenUnits.{after_there, is_there, next_by, standing}
use Rattle.lf_poolstore.proofs.unit.Unit.next.Goals as goal

pub next-requires : goal.next-requires
next-requires c = is_there c.self.inside.owner c.self.inside.rows c.self.inside.cells c.args.self.now (record { unit = c.self.invariant; is = c.self.view_is }) c.args.at c.requires.0 c.requires.1

pub name-requires : goal.name-requires
name-requires c x e = after_there c.self.inside.owner c.self.inside.cells c.self.inside.rows.entries c.args.at x c.self.invariant.numbers_differ (sym c.next.ensures ∙ e)

pub returns : goal.returns
returns c o here =
    let s = standing c.self.inside.owner c.self.inside.rows c.self.inside.cells c.args.self.now (record { unit = c.self.invariant; is = c.self.view_is }) c.args.at o here in
    c.name.ensures ∙ ap (name_by c.self.inside.rows.entries) c.next.ensures
    ∙ next_by c.self.inside.owner c.self.inside.cells c.self.inside.rows.entries c.args.at o c.self.invariant.numbers_differ s.agree
    ∙ ap (λ (v : UnitView). name_after v.rows o) c.self.view_is
