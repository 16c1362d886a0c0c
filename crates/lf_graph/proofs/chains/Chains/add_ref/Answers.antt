use Rattle.std.proofs.Common.{refl, ◌+◌}
use Rattle.lf_graph.specs.ChainMaps.{ends_of, heads_of}
use Rattle.lf_graph.specs.Chains.{recount}
use Rattle.lf_graph.proofs.LinkedRows.ChainWrites.{chains_restored, stored_restored}
use Rattle.lf_graph.proofs.chains.Chains.add_ref.Goals as goal

pub returns-clause-lists : goal.returns-clause-lists
returns-clause-lists c lists old =
    chains_restored (heads_of c.args.self.now.rows) (heads_of c.add_ref.new.self) (ends_of c.args.self.now.ends) c.args.o (recount (λ n. n + 1)) c.add_ref.ensures.rows (λ _. refl) lists old

pub returns-clause-rows : goal.returns-clause-rows
returns-clause-rows c = stored_restored (heads_of c.args.self.now.rows) (heads_of c.add_ref.new.self) (ends_of c.args.self.now.ends) c.args.o (recount (λ n. n + 1)) c.add_ref.ensures.rows
