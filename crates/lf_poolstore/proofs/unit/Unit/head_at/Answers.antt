use Rattle.std.proofs.Common.{Some, ap, length, option_map, sym, ◌∙◌, ◌≡◌}
use Rattle.lf_graph.specs.Parts.{row_head}
use Rattle.lf_poolstore.specs.RowLists.{numbers}
use Rattle.lf_poolstore.specs.Units.{fields_of}
use Rattle.lf_poolstore.proofs.CellFields.{items_length}
use Rattle.lf_poolstore.proofs.UnitPlaces.{entry_there, none_seen_at, seen_at}
use Rattle.lf_poolstore.proofs.unit.Unit.head_at.Goals as goal

pub returns-then-at : goal.returns-then-at
returns-then-at c =
    sym (ap (option_map row_head) (none_seen_at c.self.inside.owner c.self.inside.rows c.self.inside.cells c.args.self.now (record { unit = c.self.invariant; is = c.self.view_is }) c.args.place c.at-at.result c.at-at.ensures c.if-at.true))

pub row-row-requires : goal.row-row-requires
row-row-requires c = entry_there c.self.inside.owner c.self.inside.rows c.self.inside.cells c.args.self.now (record { unit = c.self.invariant; is = c.self.view_is }) c.args.place c.at-at.result c.at-at.ensures c.if-at.false

pub returns : goal.returns
returns c =
    let m = c.self.inside.cells in
    let row = c.row-row.result in
    let keeps = c.self.invariant.fields c.at-at.result row c.row-row.ensures.row in
    let width : length (fields_of m row) ≡ row.width = items_length m (numbers m row.fields) keeps.chain.chain ∙ keeps.count in
    ap (λ w. Some (record { name = row.name; width = w; refs = row.refs })) (sym width)
    ∙ sym (ap (option_map row_head) (seen_at c.self.inside.owner c.self.inside.rows m c.args.self.now (record { unit = c.self.invariant; is = c.self.view_is }) c.args.place c.at-at.result c.at-at.ensures c.if-at.false row c.row-row.ensures.row))
