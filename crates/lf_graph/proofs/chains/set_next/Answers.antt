use Rattle.lf_base.specs.Links.{to_next}
use Rattle.lf_graph.specs.ChainMaps.{heads_of}
use Rattle.lf_graph.proofs.LinkedRows.ChainWrites.{Relinks-written}
use Rattle.lf_graph.proofs.chains.set_next.Goals as goal

pub returns-in-Some-clause-rows : goal.returns-in-Some-clause-rows
returns-in-Some-clause-rows c =
    Relinks-written (heads_of c.args.rows.now) (heads_of c.set_next.new.self) c.args.at c.in-Some.o (to_next c.args.next) c.in-Some.is c.set_next.ensures.rows
