use Rattle.std.proofs.Common.{ap, arith, refl, subst, sym, ◌+◌, ◌∙◌}
use Rattle.lf_graph.specs.RowChanges.{changed, with_refs}
use Rattle.lf_graph.specs.StoredRows.{CountedRow}
use Rattle.lf_poolstore.specs.Units.{IsUnit, UnitView, places_in, rows_in}
use Rattle.lf_poolstore.proofs.SeenUnits.{is_there, refs_seen, set_places, set_rows, set_unit, standing}
use Rattle.lf_poolstore.proofs.WholeUnits.{whole_view}
use Rattle.lf_poolstore.proofs.unit.Unit.add_ref.Goals as goal

pub row-row-requires : goal.row-row-requires
row-row-requires c = is_there c.self.inside.owner c.self.inside.rows c.self.inside.cells c.args.self.now (record { unit = c.self.invariant; is = c.self.view_is }) c.args.at c.requires.there.0 c.requires.there.1

pub overflow_add-refs : goal.overflow_add-refs
overflow_add-refs c =
    let e = refs_seen c.self.inside.owner c.self.inside.rows c.self.inside.cells c.args.self.now (record { unit = c.self.invariant; is = c.self.view_is }) c.args.at c.requires.there.0 c.requires.there.1 c.row-row.result c.row-row.ensures.row in
    omega (arith, e, c.requires.there.2)

pub invariant_of-self : goal.invariant_of-self
invariant_of-self c =
    let r = c.row-row.result in
    subst (λ es. IsUnit es c.self.inside.cells) (sym c.set.ensures.entries)
    (set_unit c.self.inside.rows.entries c.self.inside.cells c.self.invariant c.args.at r (record r { refs = r.refs + 1 }) c.row-row.ensures.row refl refl refl)

pub returns-clause-rows : goal.returns-clause-rows
returns-clause-rows c o here =
    let r = c.row-row.result in
    let s = standing c.self.inside.owner c.self.inside.rows c.self.inside.cells c.args.self.now (record { unit = c.self.invariant; is = c.self.view_is }) c.args.at o here in
    ap (rows_in c.self.inside.owner c.self.inside.cells) c.set.ensures.entries
    ∙ set_rows c.self.inside.rows.entries c.self.inside.cells c.self.invariant c.args.at r (record r { refs = r.refs + 1 }) c.row-row.ensures.row refl refl refl c.self.inside.owner o (λ (c : CountedRow). with_refs (c.refs + 1) c) s.agree refl
    ∙ ap (λ (v : UnitView). changed v.rows o (λ (c : CountedRow). with_refs (c.refs + 1) c)) c.self.view_is

pub returns-clause-places : goal.returns-clause-places
returns-clause-places c =
    let r = c.row-row.result in
    ap places_in c.set.ensures.entries ∙ set_places c.self.inside.rows.entries c.self.inside.cells c.self.invariant c.args.at r (record r { refs = r.refs + 1 }) c.row-row.ensures.row refl
    ∙ ap (λ (v : UnitView). v.places) c.self.view_is

pub returns-clause-whole : goal.returns-clause-whole
returns-clause-whole c = whole_view c.self.inside.owner c.set.new.self c.self.inside.cells
