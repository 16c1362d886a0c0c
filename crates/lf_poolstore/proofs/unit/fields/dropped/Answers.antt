use Rattle.std.proofs.Common.{arith, refl, ◌-◌, ◌∙◌}
use Rattle.lf_poolstore.specs.RowLists.{numbers}
use Rattle.lf_poolstore.proofs.CellFields.{first_with_member}
use Rattle.lf_poolstore.proofs.Written.{dropped_writes, row_chain, some_width}
use Rattle.lf_poolstore.proofs.unit.fields.dropped.Goals as goal

pub part-fields-requires : goal.part-fields-requires
part-fields-requires c =
    let xs = numbers c.args.cells.now c.args.row.fields in
    record { there = (xs, row_chain c.args.cells.now c.args.cells.now c.args.cells.now c.args.row c.requires.keeps c.args.key c.args.cell c.requires.found, first_with_member c.args.cells.now c.args.key xs c.args.cell c.requires.found) }

pub overflow_sub-result : goal.overflow_sub-result
overflow_sub-result c =
    let l = some_width c.args.cells.now c.args.cells.now c.args.cells.now c.args.row c.requires.keeps c.args.key c.args.cell c.requires.found in omega (arith, l)

pub returns-clause-written : goal.returns-clause-written
returns-clause-written c =
    let m = c.args.cells.now in
    let r = c.args.row in
    let xs = numbers m r.fields in
    let now = record r { fields = c.part-fields.result; width = r.width - 1 } in
    dropped_writes m c.part-fields.new.self c.give.new.self r c.requires.keeps c.args.key c.args.cell c.requires.found now
    (c.part-fields.ensures.rest xs (row_chain m m m r c.requires.keeps c.args.key c.args.cell c.requires.found)) refl c.part-fields.ensures.others c.give.ensures.others (λ q. c.give.ensures.items q ∙ c.part-fields.ensures.items q)
