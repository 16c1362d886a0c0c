use Rattle.std.proofs.Common.{arith, ◌≡◌}
use Rattle.std.specs.Prelude.{eqb}
use Rattle.std.proofs.lemmas.Bool.Decides.{Decides-eqb}
use Rattle.lf_base.proofs.ListLemmas.LinkedLists.{has-at}
use Rattle.lf_poolstore.specs.RowLists.{numbers}
use Rattle.lf_poolstore.proofs.FieldPlaces.{place_in_range}
use Rattle.lf_poolstore.proofs.MovedRows.{copy_cell, copy_end, copy_start, copy_step}
use Rattle.lf_poolstore.proofs.unit.moves.copied.Goals as goal

pub loop-step-init : goal.loop-step-init
loop-step-init c = copy_start c.args.cells.now c.args.from.now c.args.row c.new-now.result c.requires.keeps c.new-now.ensures.row

pub pair-key-requires : goal.pair-key-requires
pair-key-requires c =
    let from = c.args.from.now in
    let l = c.loop-step in
    let there = copy_cell c.args.cells.now from c.args.row c.requires.keeps l.cells l.now l.cell l._step l.invariant c.loop-step-test.true in
    place_in_range from c.args.row.fields (numbers from c.args.row.fields) l._step l.cell c.requires.keeps.chain there

pub behind-cell-requires : goal.behind-cell-requires
behind-cell-requires c =
    let from = c.args.from.now in
    let l = c.loop-step in
    let there = copy_cell c.args.cells.now from c.args.row c.requires.keeps l.cells l.now l.cell l._step l.invariant c.loop-step-test.true in
    let xs = numbers from c.args.row.fields in
    (xs, c.requires.keeps.chain.chain, has-at eqb Decides-eqb xs l._step l.cell there)

pub loop-step-preserved : goal.loop-step-preserved
loop-step-preserved c =
    let from = c.args.from.now in
    let l = c.loop-step in
    let there = copy_cell c.args.cells.now from c.args.row c.requires.keeps l.cells l.now l.cell l._step l.invariant c.loop-step-test.true in
    let xs = numbers from c.args.row.fields in
    copy_step c.args.cells.now from c.args.row c.requires.keeps l.cells l.now l.cell l._step l.invariant c.loop-step-test.true c.pair-key.result c.added-now.new.cells c.added-now.result c.behind-cell.result c.pair-key.ensures
    c.added-now.ensures.row c.added-now.ensures.written c.added-now.ensures.room (c.behind-cell.ensures xs c.requires.keeps.chain.chain (has-at eqb Decides-eqb xs l._step l.cell there))

pub returns-clause-written : goal.returns-clause-written
returns-clause-written c =
    let l = c.loop-step in
    let e : l._step ≡ c.args.row.width = grind arith in
    copy_end c.args.cells.now c.args.from.now c.args.row c.requires.keeps l.cells l.now l.cell l._step l.invariant e

pub returns-clause-room : goal.returns-clause-room
returns-clause-room c =
    let r = c.loop-step.invariant.room in
    let e : c.loop-step._step ≡ c.args.row.width = grind arith in
    omega (arith, r, e)
