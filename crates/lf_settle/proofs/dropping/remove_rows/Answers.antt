use Rattle.std.proofs.Common.{ap, arith, length, refl, sym, ◌∙◌}
use Rattle.lf_base.specs.declared.values.Owner.TheVariants.{In}
use Rattle.lf_graph.proofs.Stores.Walks.{first_there}
use Rattle.lf_settle.proofs.RowsDropped.RemovedRows.{all_removed, none_left, row_removed}
use Rattle.lf_settle.proofs.dropping.remove_rows.Goals as goal

pub loop-o-init : goal.loop-o-init
loop-o-init g c = record { differ = c.requires.differ; others = λ w e. refl; counted = refl }

pub remove-requires : goal.remove-requires
remove-requires g c = record { there = first_there (g.S.Store.rows c.loop-o.store) (In c.args.r) c.in-Some.o (sym c.first.ensures.first ∙ c.in-Some.is) }

pub loop-o-smaller : goal.loop-o-smaller
loop-o-smaller g c =
    let one = row_removed (g.S.Store.rows c.loop-o.store) (g.S.Store.rows c.remove.new.self) c.args.r c.in-Some.o c.loop-o.invariant.differ (sym c.first.ensures.first ∙ c.in-Some.is) c.remove.ensures.rows in
    omega (arith, one.fewer)

pub loop-o-preserved : goal.loop-o-preserved
loop-o-preserved g c =
    let one = row_removed (g.S.Store.rows c.loop-o.store) (g.S.Store.rows c.remove.new.self) c.args.r c.in-Some.o c.loop-o.invariant.differ (sym c.first.ensures.first ∙ c.in-Some.is) c.remove.ensures.rows in
    record {
      differ = one.differ;
      others = λ w e. one.others w e ∙ c.loop-o.invariant.others w e;
      counted = omega (arith, one.fewer, c.loop-o.invariant.counted, c.first.ensures.step, c.remove.ensures.step);
    }

pub returns-clause-rows : goal.returns-clause-rows
returns-clause-rows g c = all_removed (g.S.Store.rows c.args.store.now) (g.S.Store.rows c.loop-o.store) c.args.r c.loop-o.invariant.others (none_left _ (sym c.in_default.is ∙ c.first.ensures.first))

pub returns-clause-steps : goal.returns-clause-steps
returns-clause-steps g c = omega (arith, c.loop-o.invariant.counted, c.first.ensures.step, ap length (none_left _ (sym c.in_default.is ∙ c.first.ensures.first)))
