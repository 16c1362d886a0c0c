use Rattle.lf_graph.proofs.Stores.AfterCalls.{has_after, moved_after, room_after}
use Rattle.lf_graph.proofs.callers.give_row.Goals as goal

pub set_owner-requires-clause-there : goal.set_owner-requires-clause-there
set_owner-requires-clause-there g c = has_after (g.S.Store.rows c.reserve.new.self) (g.S.Store.rows c.args.store.now) c.args.o c.reserve.ensures.rows c.requires.differ c.requires.there

pub set_owner-requires-clause-room : goal.set_owner-requires-clause-room
set_owner-requires-clause-room g c = room_after (g.S.Store.rows c.reserve.new.self) (g.S.Store.rows c.args.store.now) c.args.o c.width-width.result _ c.reserve.ensures.rows c.requires.differ c.width-width.ensures.width c.in_ok-reserve.ensures.enough

pub returns-clause-moved : goal.returns-clause-moved
returns-clause-moved g c = moved_after _ (g.S.Store.rows c.reserve.new.self) (g.S.Store.rows c.args.store.now) c.args.o c.args.owner c.reserve.ensures.rows c.requires.differ c.set_owner.ensures.rows
