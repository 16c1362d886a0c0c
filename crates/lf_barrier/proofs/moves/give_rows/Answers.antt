use Rattle.std.proofs.Common.{ap, arith, drop, length, refl, slice_index_or, ◌+◌, ◌∙◌, ◌∷◌, []}
use Rattle.std.proofs.lemmas.List.{drop_more}
use Rattle.std.proofs.lemmas.List.Sums.{sum_by-drop_more}
use Rattle.lf_base.specs.declared.values.Owner.TheVariants.{In}
use Rattle.lf_graph.specs.Room.{room_for_row}
use Rattle.lf_barrier.proofs.MovingEdges.RowLoops.{all_given, drop_none, fields_then, no_name, rest_given, row_may_be_given}
use Rattle.lf_barrier.proofs.moves.give_rows.Goals as goal

pub loop-o-init : goal.loop-o-init
loop-o-init g c = record {
  given = λ of es m. record { of_now = of; may = m; then_of = refl };
  room = c.requires.room;
  fields = λ o. refl;
  steps = omega arith;
}

pub give_row-requires-clause-may : goal.give_row-requires-clause-may
give_row-requires-clause-may g c κs within =
    let os = c.args.moved.now in
    let i = c.loop-o.o-index in
    let h = c.requires.may in
    let gv = c.loop-o.invariant.given h.0 h.1.0 h.1.1 in (
      gv.of_now,
      (
        h.1.0,
        row_may_be_given (g.S.Store.rows c.args.store.now) (g.S.Store.rows c.loop-o.store) c.loop-o.regions h.0 h.1.0 (drop i os) os (slice_index_or os i no_name) (drop (i + 1) os) c.args.home
            (drop_more os i no_name c.loop-o-test.true) gv,
      ),
    )

pub give_row-requires-clause-room : goal.give_row-requires-clause-room
give_row-requires-clause-room g c κs within =
    let os = c.args.moved.now in
    let i = c.loop-o.o-index in
    omega (
      arith,
      c.loop-o.invariant.room,
      sum_by-drop_more (room_for_row (g.S.Store.rows c.args.store.now)) os i no_name c.loop-o-test.true,
      ap length (c.loop-o.invariant.fields (slice_index_or os i no_name)),
    )

pub loop-o-preserved : goal.loop-o-preserved
loop-o-preserved g c =
    let rows = g.S.Store.rows c.args.store.now in
    let now = g.S.Store.rows c.loop-o.store in
    let next = g.S.Store.rows c.give_row.new.store in
    let os = c.args.moved.now in
    let i = c.loop-o.o-index in
    let o = slice_index_or os i no_name in
    let rest = drop (i + 1) os in
    let is = drop_more os i no_name c.loop-o-test.true in
    let h = c.requires.may in
    let gv = c.loop-o.invariant.given h.0 h.1.0 h.1.1 in
    let counted = c.give_row.ensures.counted gv.of_now h.1.0 (row_may_be_given rows now c.loop-o.regions h.0 h.1.0 (drop i os) os o rest c.args.home is gv) in
    record {
      given = λ of es m. let each = c.loop-o.invariant.given of es m in
          rest_given rows now c.loop-o.regions of es (drop i os) os o rest c.args.home is each next c.give_row.new.regions
          (c.give_row.ensures.counted each.of_now es (row_may_be_given rows now c.loop-o.regions of es (drop i os) os o rest c.args.home is each));
      room = omega (
        arith,
        c.loop-o.invariant.room,
        sum_by-drop_more (room_for_row rows) os i no_name c.loop-o-test.true,
        ap length (c.loop-o.invariant.fields o),
        c.give_row.ensures.room (In c.args.home),
      );
      fields = λ q. fields_then now next gv.of_now (o ∷ []) (In c.args.home) q (((gv.may).counts).store).rows (counted.store).rows ∙ c.loop-o.invariant.fields q;
      steps = omega (arith, c.loop-o.invariant.steps, c.give_row.ensures.steps);
    }

pub returns-clause-counted : goal.returns-clause-counted
returns-clause-counted g c of es m =
    all_given (g.S.Store.rows c.args.store.now) (g.S.Store.rows c.loop-o.store) c.loop-o.regions of es (drop c.loop-o.o-index c.args.moved.now) c.args.moved.now c.args.home
    (drop_none c.args.moved.now c.loop-o.o-index c.loop-o-test.false) (c.loop-o.invariant.given of es m)

pub returns-clause-steps : goal.returns-clause-steps
returns-clause-steps g c = omega (arith, c.loop-o.invariant.steps, c.loop-o.auto.o-index-end)
