use Rattle.lf_graph.proofs.Stores.AfterCalls.{first_head, no_head}
use Rattle.lf_graph.proofs.callers.first_of_part.Goals as goal

pub returns-in-Some : goal.returns-in-Some
returns-in-Some g c = first_head (g.S.Store.part_rows c.args.part.now) c.in-Some.head c.in-Some.ensures

pub returns-in-None : goal.returns-in-None
returns-in-None g c = no_head (g.S.Store.part_rows c.args.part.now) c.in-None.ensures
