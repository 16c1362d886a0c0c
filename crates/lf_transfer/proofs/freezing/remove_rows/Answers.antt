use Rattle.std.proofs.Common.{slice_index_or}
use Rattle.std.proofs.lemmas.List.{drop_more}
use Rattle.lf_barrier.proofs.MovingEdges.RowLoops.{drop_none, name_at_is_there, no_name}
use Rattle.lf_transfer.proofs.Freezes.FrozenCounts.{removed, removing_begins, removing_on, still_has}
use Rattle.lf_transfer.proofs.freezing.remove_rows.Goals as goal

pub loop-o-init : goal.loop-o-init
loop-o-init g c = removing_begins (g.S.Store.rows c.args.store.now) c.args.names.now

pub remove-requires : goal.remove-requires
remove-requires g c =
    let os = c.args.names.now in
    let i = c.loop-o.o-index in
    record {
      there = still_has (g.S.Store.rows c.args.store.now) (g.S.Store.rows c.loop-o.store) os i c.loop-o.invariant c.requires.differ (slice_index_or os i no_name) (drop_more os i no_name c.loop-o-test.true)
          c.requires.once (c.requires.there (slice_index_or os i no_name) (name_at_is_there os i no_name c.loop-o-test.true));
    }

pub loop-o-preserved : goal.loop-o-preserved
loop-o-preserved g c =
    let os = c.args.names.now in
    let i = c.loop-o.o-index in
    removing_on (g.S.Store.rows c.args.store.now) (g.S.Store.rows c.loop-o.store) os i c.loop-o.invariant c.requires.differ (slice_index_or os i no_name) (drop_more os i no_name c.loop-o-test.true)
    (g.S.Store.rows c.remove.new.self) c.remove.ensures.rows

pub returns : goal.returns
returns g c = record {
  rows = removed (g.S.Store.rows c.args.store.now) (g.S.Store.rows c.loop-o.store) c.args.names.now c.loop-o.o-index c.loop-o.invariant (drop_none c.args.names.now c.loop-o.o-index c.loop-o-test.false);
}
