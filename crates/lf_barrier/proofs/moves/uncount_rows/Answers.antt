use Rattle.std.proofs.Common.{arith, drop, length, slice_index_or, subst, ◌+◌, ◌++◌, ◌∷◌}
use Rattle.std.proofs.lemmas.List.{drop_more}
use Rattle.std.proofs.lemmas.List.Sums.{sum_by-drop_more}
use Rattle.lf_base.specs.TouchedEdges.{edges_from}
use Rattle.lf_domain.specs.Counts.{Counts}
use Rattle.lf_domain.proofs.CountedEdges.{same_counts}
use Rattle.lf_barrier.specs.MovingEdges.{fields_in}
use Rattle.lf_barrier.proofs.MovingEdges.RowLoops.{drop_none, name_at_is_there, no_name, row_may_go}
use Rattle.lf_barrier.proofs.moves.uncount_rows.Goals as goal

pub loop-o-init : goal.loop-o-init
loop-o-init g c = record {
  left = λ of es fs m. same_counts (g.S.Store.rows c.args.store.now) c.args.regions.now of es (edges_from of c.args.moved.now ++ fs) m.edges m.counts;
  room = λ w. omega arith;
  steps = λ of es fs m. omega arith;
}

pub uncount_row-requires-clause-may : goal.uncount_row-requires-clause-may
uncount_row-requires-clause-may g c κs within =
    let rows = g.S.Store.rows c.args.store.now in
    let now = g.S.Store.rows c.loop-o.store in
    let os = c.args.moved.now in
    let i = c.loop-o.o-index in
    let o = slice_index_or os i no_name in
    let rest = drop (i + 1) os in
    let h = c.requires.may in
    let m = h.1.1.1 in
    let left = subst (λ l. Counts now c.loop-o.regions h.0 (edges_from h.0 l ++ h.1.1.0)) (drop_more os i no_name c.loop-o-test.true) (c.loop-o.invariant.left h.0 h.1.0 h.1.1.0 m) in (
      h.0,
      (
        edges_from h.0 (o ∷ rest) ++ h.1.1.0,
        (
          edges_from h.0 rest ++ h.1.1.0,
          row_may_go rows now c.args.regions.now c.loop-o.regions os rest o h.0 h.1.0 h.1.1.0 m (name_at_is_there os i no_name c.loop-o-test.true) left,
        ),
      ),
    )

pub loop-o-preserved : goal.loop-o-preserved
loop-o-preserved g c =
    let rows = g.S.Store.rows c.args.store.now in
    let now = g.S.Store.rows c.loop-o.store in
    let os = c.args.moved.now in
    let i = c.loop-o.o-index in
    let o = slice_index_or os i no_name in
    let rest = drop (i + 1) os in
    record {
      left = λ of es fs m. c.uncount_row.ensures.counted of (edges_from of (o ∷ rest) ++ fs) (edges_from of rest ++ fs) (row_may_go rows now c.args.regions.now c.loop-o.regions os rest o of es fs m (name_at_is_there os i no_name c.loop-o-test.true)
          (subst (λ l. Counts now c.loop-o.regions of (edges_from of l ++ fs)) (drop_more os i no_name c.loop-o-test.true) (c.loop-o.invariant.left of es fs m)));
      room = λ w. omega (arith, c.loop-o.invariant.room w, c.uncount_row.ensures.room w);
      steps = λ of es fs m. omega (
        arith,
        c.loop-o.invariant.steps of es fs m,
        sum_by-drop_more (λ o. length (fields_in of o)) os i no_name c.loop-o-test.true,
        c.uncount_row.ensures.steps of (edges_from of (o ∷ rest) ++ fs) (edges_from of rest ++ fs) (row_may_go rows now c.args.regions.now c.loop-o.regions os rest o of es fs m (name_at_is_there os i no_name c.loop-o-test.true)
            (subst (λ l. Counts now c.loop-o.regions of (edges_from of l ++ fs)) (drop_more os i no_name c.loop-o-test.true) (c.loop-o.invariant.left of es fs m))),
      );
    }

pub returns-clause-counted : goal.returns-clause-counted
returns-clause-counted g c of es fs m =
    subst (λ l. Counts (g.S.Store.rows c.loop-o.store) c.loop-o.regions of (edges_from of l ++ fs)) (drop_none c.args.moved.now c.loop-o.o-index c.loop-o-test.false) (c.loop-o.invariant.left of es fs m)

pub returns-clause-steps : goal.returns-clause-steps
returns-clause-steps g c of es fs m = omega (arith, c.loop-o.invariant.steps of es fs m, c.loop-o.auto.o-index-end)
