use Rattle.std.proofs.Common.{arith, drop, length, refl, slice_index_or, ◌+◌}
use Rattle.std.proofs.lemmas.List.{drop_more}
use Rattle.std.proofs.lemmas.List.Sums.{sum_by-drop_more}
use Rattle.lf_barrier.specs.MovingEdges.{fields_in}
use Rattle.lf_barrier.proofs.MovingEdges.RowLoops.{drop_none, name_at_is_there, no_name, rest_counted, row_may_come, rows_counted}
use Rattle.lf_barrier.proofs.moves.count_rows.Goals as goal

pub loop-o-init : goal.loop-o-init
loop-o-init g c = record {
  so_far = λ of es m. record { edges = es; counts = m.counts; same = λ q. refl };
  steps = λ of es m. omega arith;
}

pub count_row-requires-clause-may : goal.count_row-requires-clause-may
count_row-requires-clause-may g c κs within =
    let os = c.args.moved.now in
    let i = c.loop-o.o-index in
    let h = c.requires.may in
    let so = c.loop-o.invariant.so_far h.0 h.1.0 h.1.1 in (
      h.0,
      (
        so.edges,
        row_may_come (g.S.Store.rows c.args.store.now) (g.S.Store.rows c.loop-o.store) c.args.regions.now c.loop-o.regions h.0 h.1.0 (drop i os) os (slice_index_or os i no_name) (drop (i + 1) os) c.args.home
            (drop_more os i no_name c.loop-o-test.true) h.1.1 so (name_at_is_there os i no_name c.loop-o-test.true),
      ),
    )

pub loop-o-preserved : goal.loop-o-preserved
loop-o-preserved g c =
    let rows = g.S.Store.rows c.args.store.now in
    let now = g.S.Store.rows c.loop-o.store in
    let os = c.args.moved.now in
    let i = c.loop-o.o-index in
    let o = slice_index_or os i no_name in
    let rest = drop (i + 1) os in
    let is = drop_more os i no_name c.loop-o-test.true in
    let there = name_at_is_there os i no_name c.loop-o-test.true in
    record {
      so_far = λ of es m. let so = c.loop-o.invariant.so_far of es m in
          rest_counted rows now c.args.regions.now c.loop-o.regions of es (drop i os) os o rest c.args.home is m so (g.S.Store.rows c.count_row.new.store) c.count_row.new.regions
          (c.count_row.ensures.counted of so.edges (row_may_come rows now c.args.regions.now c.loop-o.regions of es (drop i os) os o rest c.args.home is m so there));
      steps = λ of es m. let so = c.loop-o.invariant.so_far of es m in
          omega (
            arith,
            c.loop-o.invariant.steps of es m,
            sum_by-drop_more (λ o. length (fields_in of o)) os i no_name c.loop-o-test.true,
            c.count_row.ensures.steps of so.edges (row_may_come rows now c.args.regions.now c.loop-o.regions of es (drop i os) os o rest c.args.home is m so there),
          );
    }

pub returns-clause-counted : goal.returns-clause-counted
returns-clause-counted g c of es m =
    rows_counted (g.S.Store.rows c.loop-o.store) c.loop-o.regions of es (drop c.loop-o.o-index c.args.moved.now) c.args.moved.now
    (drop_none c.args.moved.now c.loop-o.o-index c.loop-o-test.false) (c.loop-o.invariant.so_far of es m)

pub returns-clause-steps : goal.returns-clause-steps
returns-clause-steps g c of es m = omega (arith, c.loop-o.invariant.steps of es m, c.loop-o.auto.o-index-end)
