use Rattle.std.proofs.Common.{refl}
use Rattle.lf_graph.specs.ChainMaps.{ends_of, heads_of}
use Rattle.lf_graph.proofs.LinkedRows.ChainLemmas.{AreChains-same}
use Rattle.lf_graph.proofs.chains.Chains.reserve.Goals as goal

pub returns-in_err-reserve-clause-lists : goal.returns-in_err-reserve-clause-lists
returns-in_err-reserve-clause-lists c lists old = AreChains-same (heads_of c.args.self.now.rows) (heads_of c.reserve.new.self) (ends_of c.args.self.now.ends) (ends_of c.args.self.now.ends) lists c.reserve.ensures.rows (λ _. refl) old

pub returns-clause-lists : goal.returns-clause-lists
returns-clause-lists c lists old = AreChains-same (heads_of c.args.self.now.rows) (heads_of c.reserve.new.self) (ends_of c.args.self.now.ends) (ends_of c.reserve-2.new.self) lists c.reserve.ensures.rows c.reserve-2.ensures.ends old
