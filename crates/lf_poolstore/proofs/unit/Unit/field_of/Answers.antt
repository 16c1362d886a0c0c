use Rattle.std.proofs.Common.{ap, slice_get, sym, ◌∙◌}
use Rattle.lf_graph.specs.StoredRows.{fields_by}
use Rattle.lf_poolstore.proofs.UnitPlaces.{named_at, none_seen_at, stands_at}
use Rattle.lf_poolstore.proofs.unit.Unit.field_of.Goals as goal

pub returns-then-at : goal.returns-then-at
returns-then-at c =
    sym (ap (λ t. slice_get (fields_by t) c.args.field) (none_seen_at c.self.inside.owner c.self.inside.rows c.self.inside.cells c.args.self.now (record { unit = c.self.invariant; is = c.self.view_is }) c.args.place c.at-at.result c.at-at.ensures c.if-at.true))

pub field_at-requires : goal.field_at-requires
field_at-requires c = stands_at c.self.inside.owner c.self.inside.rows c.self.inside.cells c.args.self.now (record { unit = c.self.invariant; is = c.self.view_is }) c.args.place c.at-at.result c.at-at.ensures c.if-at.false

pub returns : goal.returns
returns c =
    let s = stands_at c.self.inside.owner c.self.inside.rows c.self.inside.cells c.args.self.now (record { unit = c.self.invariant; is = c.self.view_is }) c.args.place c.at-at.result c.at-at.ensures c.if-at.false in
    c.field_at.ensures s.0 s.1
    ∙ ap (λ t. slice_get (fields_by t) c.args.field) (named_at c.self.inside.owner c.self.inside.rows c.self.inside.cells c.args.self.now (record { unit = c.self.invariant; is = c.self.view_is }) c.args.place c.at-at.result c.at-at.ensures c.if-at.false s.0 s.1)
