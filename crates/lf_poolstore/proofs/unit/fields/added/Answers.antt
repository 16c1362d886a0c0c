use Rattle.std.proofs.Common.{arith, refl, ◌+◌}
use Rattle.lf_poolstore.proofs.Written.{added_writes, fits, list_before}
use Rattle.lf_poolstore.proofs.unit.fields.added.Goals as goal

pub chained-fields-requires-clause-list : goal.chained-fields-requires-clause-list
chained-fields-requires-clause-list c =
    list_before c.args.cells.now c.take-cell.new.self c.take-cell.new.self c.args.row c.requires.keeps c.args.key c.args.v c.take-cell.result c.take-cell.ensures.others c.take-cell.ensures.item c.take-cell.ensures.items

pub overflow_add-result : goal.overflow_add-result
overflow_add-result c =
    let r = c.args.row in
    let now = record r { fields = c.chained-fields.result; width = r.width + 1 } in
    let l = fits c.args.cells.now c.take-cell.new.self c.chained-fields.new.cells r c.requires.keeps c.args.key c.args.v c.take-cell.result c.take-cell.ensures.others c.take-cell.ensures.item c.take-cell.ensures.items
    now c.chained-fields.ensures.list refl c.chained-fields.ensures.others c.chained-fields.ensures.begins c.chained-fields.ensures.items in
    omega (arith, l, c.chained-fields.ensures.size, c.take-cell.ensures.few)

pub returns-clause-written : goal.returns-clause-written
returns-clause-written c =
    let r = c.args.row in
    let now = record r { fields = c.chained-fields.result; width = r.width + 1 } in
    added_writes c.args.cells.now c.take-cell.new.self c.chained-fields.new.cells r c.requires.keeps c.args.key c.args.v c.take-cell.result c.take-cell.ensures.others c.take-cell.ensures.item c.take-cell.ensures.items
    now c.chained-fields.ensures.list refl c.chained-fields.ensures.others c.chained-fields.ensures.begins c.chained-fields.ensures.items
