use Rattle.std.proofs.Common.{refl}
use Rattle.lf_graph.specs.ChainMaps.{ends_of, heads_of}
use Rattle.lf_graph.proofs.LinkedRows.ChainLemmas.{AreChains-pushed, none_kept}
use Rattle.lf_graph.proofs.chains.Chains.push_last.Goals as goal

pub returns-clause-lists : goal.returns-clause-lists
returns-clause-lists c lists old =
    AreChains-pushed (heads_of c.args.self.now.rows) (heads_of c.set_next.new.rows) (heads_of c.insert.new.self) (ends_of c.args.self.now.ends) (ends_of c.push-last.new.self)
    c.args.row.name c.args.row.owner c.args.row c.push-last.result lists refl (none_kept _ c.requires.new) c.push-last.ensures.last c.set_next.ensures.rows c.insert.ensures.rows c.push-last.ensures.ends old
