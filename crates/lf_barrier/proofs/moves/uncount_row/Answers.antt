use Rattle.std.proofs.Common.{ap, arith, length, sym, ◌++◌, ◌∙◌}
use Rattle.lf_base.specs.declared.values.Owner.TheVariants.{Local}
use Rattle.lf_base.specs.Edges.{Field, edges_by, field_targets}
use Rattle.lf_graph.specs.StoredRows.{fields_at}
use Rattle.lf_base.specs.FieldOrder.{field_after}
use Rattle.lf_barrier.proofs.MovingEdges.FieldLoops.{fields_told, has_row_by_owner, uncount_tail, uncounted, uncounting_begins, uncounting_on, value_may_go, walk_not_over}
use Rattle.lf_barrier.proofs.moves.uncount_row.Goals as goal

pub width-width-requires : goal.width-width-requires
width-width-requires g c =
    let h = c.requires.may in
    let m = h.1.1.1 in
    record { there = has_row_by_owner (g.S.Store.rows c.args.store.now) h.0 c.args.p Local ((m.counts).store).rows m.local }

pub loop-turn-init : goal.loop-turn-init
loop-turn-init g c =
    let h = c.requires.may in
    let m = h.1.1.1 in
    let rows = g.S.Store.rows c.args.store.now in
    record {
      so_far = uncounting_begins rows c.args.regions.now c.args.p (has_row_by_owner rows h.0 c.args.p Local ((m.counts).store).rows m.local);
      room = λ w. omega arith;
      steps = omega (arith, c.width-width.ensures.step);
    }

pub field_after-requires : goal.field_after-requires
field_after-requires g c = record { there = (c.loop-turn.invariant.so_far).there }

pub unreachable-requires : goal.unreachable-requires
unreachable-requires g c =
    let all = fields_at (g.S.Store.rows c.args.store.now) c.args.p in
    let u = c.loop-turn.invariant.so_far in
    walk_not_over all u.rest c.loop-turn.last c.loop-turn._turn u.walk
    (sym c.in_default.is ∙ c.field_after.ensures.field ∙ ap (λ l. field_after l c.loop-turn.last) u.same)
    (omega (arith, c.loop-turn-test.true, c.width-width.ensures.width))

pub uncount_borrow-requires-clause-may : goal.uncount_borrow-requires-clause-may
uncount_borrow-requires-clause-may g c κs within =
    let rows = g.S.Store.rows c.args.store.now in
    let now = g.S.Store.rows c.loop-turn.store in
    let u = c.loop-turn.invariant.so_far in
    let found = sym c.in-Some.is ∙ c.field_after.ensures.field in
    let tail = uncount_tail rows now c.args.regions.now c.loop-turn.regions c.args.p c.loop-turn.last c.loop-turn._turn u c.in-Some.key c.in-Some.v found in
    let h = c.requires.may in (
      h.0,
      (
        edges_by (Field c.args.p) (field_targets u.rest) ++ h.1.1.0,
        (
          edges_by (Field c.args.p) (field_targets tail.0) ++ h.1.1.0,
          (Field c.args.p, value_may_go rows now c.args.regions.now c.loop-turn.regions c.args.p c.loop-turn.last c.loop-turn._turn u c.in-Some.key c.in-Some.v found h.0 h.1.0 h.1.1.0 h.1.1.1),
        ),
      ),
    )

pub loop-turn-preserved : goal.loop-turn-preserved
loop-turn-preserved g c =
    let rows = g.S.Store.rows c.args.store.now in
    let now = g.S.Store.rows c.loop-turn.store in
    let u = c.loop-turn.invariant.so_far in
    let found = sym c.in-Some.is ∙ c.field_after.ensures.field in
    let tail = uncount_tail rows now c.args.regions.now c.loop-turn.regions c.args.p c.loop-turn.last c.loop-turn._turn u c.in-Some.key c.in-Some.v found in
    let h = c.requires.may in
    record {
      so_far = uncounting_on rows now c.args.regions.now c.loop-turn.regions c.args.p c.loop-turn.last c.loop-turn._turn u c.in-Some.key c.in-Some.v found
          (g.S.Store.rows c.uncount_borrow.new.store) c.uncount_borrow.new.regions
          (λ of es fs m. c.uncount_borrow.ensures.counted of (edges_by (Field c.args.p) (field_targets u.rest) ++ fs) (edges_by (Field c.args.p) (field_targets tail.0) ++ fs) (Field c.args.p)
          (value_may_go rows now c.args.regions.now c.loop-turn.regions c.args.p c.loop-turn.last c.loop-turn._turn u c.in-Some.key c.in-Some.v found of es fs m))
          h.0 h.1.0 h.1.1.0 h.1.1.1;
      room = λ w. omega (arith, c.loop-turn.invariant.room w, c.uncount_borrow.ensures.room w);
      steps = omega (arith, c.loop-turn.invariant.steps, c.field_after.ensures.step, c.uncount_borrow.ensures.steps);
    }

pub returns-clause-counted : goal.returns-clause-counted
returns-clause-counted g c of es fs m =
    uncounted (g.S.Store.rows c.args.store.now) (g.S.Store.rows c.loop-turn.store) c.args.regions.now c.loop-turn.regions c.args.p c.loop-turn.last c.loop-turn._turn
    c.loop-turn.invariant.so_far (omega (arith, c.loop-turn-test.false, c.width-width.ensures.width)) of es fs m

pub returns-clause-steps : goal.returns-clause-steps
returns-clause-steps g c of es fs m =
    omega (
      arith,
      c.loop-turn.invariant.steps,
      c.loop-turn.auto._turn-end,
      c.width-width.ensures.width,
      ap length (fields_told (g.S.Store.rows c.args.store.now) of c.args.p ((m.counts).store).rows),
    )
