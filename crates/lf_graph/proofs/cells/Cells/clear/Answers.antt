use Rattle.std.proofs.Common.{arith, length, subst, sym, ◌∙◌, ◌<◌}
use Rattle.lf_graph.specs.Cells.{cells_of}
use Rattle.lf_graph.proofs.FieldTable.CellLists.{FieldsLeft, drops_others, one_field_dropped}
use Rattle.lf_graph.proofs.cells.Cells.clear.Goals as goal

pub loop-turn-preserved : goal.loop-turn-preserved
loop-turn-preserved c =
    let before = cells_of c.loop-turn.self in
    let now = cells_of c.drop_first-first.new.self in
    let more = c.drop_first-first.ensures.room in
    let so_far = c.loop-turn.invariant.1 in (
      λ q k apart. drops_others before now c.args.o c.loop-turn.first c.drop_first-first.ensures.cells q k apart ∙ c.loop-turn.invariant.0 q k apart,
      grind arith,
      λ keys old.
          let left = c.loop-turn.invariant.2 keys old in
          let count = left.1 in
          let some : 0 < length left.0 = grind arith in
          let s = one_field_dropped before now c.args.o c.loop-turn.first left.0 some c.drop_first-first.ensures.cells left.2 in
          let fewer = s.fewer in
          (s.rest, grind arith, subst (λ t. FieldsLeft now c.args.o t s.rest) (sym c.drop_first-first.ensures.next) s.left),
    )
