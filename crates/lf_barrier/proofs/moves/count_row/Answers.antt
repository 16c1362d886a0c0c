use Rattle.std.proofs.Common.{ap, arith, length, sym, ◌∙◌}
use Rattle.lf_base.specs.declared.values.Owner.TheVariants.{In}
use Rattle.lf_graph.specs.StoredRows.{fields_at}
use Rattle.lf_base.specs.FieldOrder.{field_after}
use Rattle.lf_barrier.proofs.MovingEdges.FieldLoops.{fields_told, has_row_by_owner, all_counted, counting_begins, counting_on, value_may_come, walk_not_over}
use Rattle.lf_barrier.proofs.moves.count_row.Goals as goal

pub width-width-requires : goal.width-width-requires
width-width-requires g c =
    let h = c.requires.may in
    let m = h.1.1 in
    record { there = has_row_by_owner (g.S.Store.rows c.args.store.now) h.0 c.args.p (In c.args.home) ((m.counts).store).rows m.inside }

pub loop-turn-init : goal.loop-turn-init
loop-turn-init g c =
    let h = c.requires.may in
    let m = h.1.1 in
    let rows = g.S.Store.rows c.args.store.now in
    record {
      so_far = counting_begins rows c.args.regions.now c.args.p c.args.home (has_row_by_owner rows h.0 c.args.p (In c.args.home) ((m.counts).store).rows m.inside);
      steps = omega (arith, c.width-width.ensures.step);
    }

pub field_after-requires : goal.field_after-requires
field_after-requires g c = record { there = (c.loop-turn.invariant.so_far).there }

pub unreachable-requires : goal.unreachable-requires
unreachable-requires g c =
    let all = fields_at (g.S.Store.rows c.args.store.now) c.args.p in
    let u = c.loop-turn.invariant.so_far in
    walk_not_over all u.rest c.loop-turn.last c.loop-turn._turn u.walk
    (sym c.in_default.is ∙ c.field_after.ensures.field ∙ ap (λ l. field_after l c.loop-turn.last) u.same)
    (omega (arith, c.loop-turn-test.true, c.width-width.ensures.width))

pub count_inner-requires-clause-may : goal.count_inner-requires-clause-may
count_inner-requires-clause-may g c κs within =
    let rows = g.S.Store.rows c.args.store.now in
    let now = g.S.Store.rows c.loop-turn.store in
    let u = c.loop-turn.invariant.so_far in
    let found = sym c.in-Some.is ∙ c.field_after.ensures.field in
    let h = c.requires.may in (
      h.0,
      (
        (u.so_far h.0 h.1.0 h.1.1).edges,
        (c.args.p, value_may_come rows now c.args.regions.now c.loop-turn.regions c.args.p c.args.home c.loop-turn.last c.loop-turn._turn u c.in-Some.key c.in-Some.v found h.0 h.1.0 h.1.1),
      ),
    )

pub loop-turn-preserved : goal.loop-turn-preserved
loop-turn-preserved g c =
    let rows = g.S.Store.rows c.args.store.now in
    let now = g.S.Store.rows c.loop-turn.store in
    let u = c.loop-turn.invariant.so_far in
    let found = sym c.in-Some.is ∙ c.field_after.ensures.field in
    let h = c.requires.may in
    record {
      so_far = counting_on rows now c.args.regions.now c.loop-turn.regions c.args.p c.args.home c.loop-turn.last c.loop-turn._turn u c.in-Some.key c.in-Some.v found
          (g.S.Store.rows c.count_inner.new.store) c.count_inner.new.regions
          (λ of es m. c.count_inner.ensures.counted of (u.so_far of es m).edges c.args.p
          (value_may_come rows now c.args.regions.now c.loop-turn.regions c.args.p c.args.home c.loop-turn.last c.loop-turn._turn u c.in-Some.key c.in-Some.v found of es m))
          h.0 h.1.0 h.1.1;
      steps = omega (arith, c.loop-turn.invariant.steps, c.field_after.ensures.step, c.count_inner.ensures.steps);
    }

pub returns-clause-counted : goal.returns-clause-counted
returns-clause-counted g c of es m =
    all_counted (g.S.Store.rows c.args.store.now) (g.S.Store.rows c.loop-turn.store) c.args.regions.now c.loop-turn.regions c.args.p c.args.home c.loop-turn.last c.loop-turn._turn
    c.loop-turn.invariant.so_far (omega (arith, c.loop-turn-test.false, c.width-width.ensures.width)) of es m

pub returns-clause-steps : goal.returns-clause-steps
returns-clause-steps g c of es m =
    omega (
      arith,
      c.loop-turn.invariant.steps,
      c.loop-turn.auto._turn-end,
      c.width-width.ensures.width,
      ap length (fields_told (g.S.Store.rows c.args.store.now) of c.args.p ((m.counts).store).rows),
    )
