use Rattle.std.proofs.Common.{ap, sym, ◌∙◌}
use Rattle.std.specs.Option.{option_copied}
use Rattle.lf_graph.specs.ChainMaps.{ends_of, heads_of}
use Rattle.lf_graph.proofs.LinkedRows.ChainLemmas.{chain_next}
use Rattle.lf_graph.proofs.chains.Chains.next.Goals as goal

pub returns-in-Some : goal.returns-in-Some
returns-in-Some c lists old w own = chain_next (heads_of c.args.self.now.rows) (ends_of c.args.self.now.ends) c.args.o c.in-Some.head.now w (lists w) (old w) own (sym c.get.ensures ∙ ap option_copied c.in-Some.is)
