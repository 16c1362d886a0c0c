use Rattle.lf_base.specs.EdgeLists.{near_edges}
use Rattle.lf_barrier.proofs.ContentCalls.{held_counts, made_counts, may_count_new, may_uncount_old, others}
use Rattle.lf_barrier.proofs.contents.apply_content.Goals as goal

pub uncount_content-requires-clause-may : goal.uncount_content-requires-clause-may
uncount_content-requires-clause-may g c κs within =
    let h = c.requires.checked in
    let rows = g.S.Store.rows c.args.store.now in
    let regions = c.args.regions.now in
    ((h.0).rows, (near_edges h.0, ((others rows regions h.0 h.1.0 c.args.cown c.args.old c.args.value h.1.1).edges, (c.args.cown, may_uncount_old rows regions h.0 h.1.0 c.args.cown c.args.old c.args.value h.1.1))))

pub count_content-requires-clause-may : goal.count_content-requires-clause-may
count_content-requires-clause-may g c κs within =
    let h = c.requires.checked in
    let s = h.0 in
    let rows = g.S.Store.rows c.args.store.now in
    let regions = c.args.regions.now in
    let left = (others rows regions s h.1.0 c.args.cown c.args.old c.args.value h.1.1).edges in (
      s.rows,
      (
        left,
        (
          c.args.cown,
          may_count_new rows regions s h.1.0 c.args.cown c.args.old c.args.value h.1.1 (g.S.Store.rows c.uncount_content.new.store) c.uncount_content.new.regions
              (c.uncount_content.ensures.counted s.rows (near_edges s) left c.args.cown (may_uncount_old rows regions s h.1.0 c.args.cown c.args.old c.args.value h.1.1)),
        ),
      ),
    )

pub returns-clause-held : goal.returns-clause-held
returns-clause-held g c s d w at =
    let rows = g.S.Store.rows c.args.store.now in
    let regions = c.args.regions.now in
    let left = (others rows regions s d c.args.cown c.args.old c.args.value w).edges in
    held_counts rows regions s d c.args.cown c.args.old c.args.value w (g.S.Store.rows c.count_content.new.store) c.count_content.new.regions
    (c.count_content.ensures.counted s.rows left c.args.cown (may_count_new rows regions s d c.args.cown c.args.old c.args.value w (g.S.Store.rows c.uncount_content.new.store) c.uncount_content.new.regions
    (c.uncount_content.ensures.counted s.rows (near_edges s) left c.args.cown (may_uncount_old rows regions s d c.args.cown c.args.old c.args.value w)))) at

pub returns-clause-made : goal.returns-clause-made
returns-clause-made g c s d w is none =
    let rows = g.S.Store.rows c.args.store.now in
    let regions = c.args.regions.now in
    let left = (others rows regions s d c.args.cown c.args.old c.args.value w).edges in
    made_counts rows regions s d c.args.cown c.args.old c.args.value w (g.S.Store.rows c.count_content.new.store) c.count_content.new.regions
    (c.count_content.ensures.counted s.rows left c.args.cown (may_count_new rows regions s d c.args.cown c.args.old c.args.value w (g.S.Store.rows c.uncount_content.new.store) c.uncount_content.new.regions
    (c.uncount_content.ensures.counted s.rows (near_edges s) left c.args.cown (may_uncount_old rows regions s d c.args.cown c.args.old c.args.value w)))) is none
