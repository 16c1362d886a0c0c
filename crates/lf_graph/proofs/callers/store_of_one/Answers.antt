use Rattle.lf_graph.proofs.Stores.AfterCalls.{new_in_empty}
use Rattle.lf_graph.proofs.callers.store_of_one.Goals as goal

pub insert-requires-clause-new : goal.insert-requires-clause-new
insert-requires-clause-new g c = new_in_empty (g.S.Store.rows c.reserve.new.self) (g.S.Store.rows c.in_ok-store.store) c.args.o c.reserve.ensures.rows c.in_ok-store.ensures
