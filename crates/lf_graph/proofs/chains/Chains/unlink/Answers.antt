use Rattle.std.proofs.Common.{sym, ◌∙◌}
use Rattle.lf_graph.specs.ChainMaps.{ends_of, heads_of}
use Rattle.lf_graph.proofs.LinkedRows.ChainLemmas.{AreChains-unlinked}
use Rattle.lf_graph.proofs.chains.Chains.unlink.Goals as goal

pub returns-clause-lists : goal.returns-clause-lists
returns-clause-lists c lists old =
    AreChains-unlinked (heads_of c.args.self.now.rows) (heads_of c.remove.new.self) (heads_of c.set_next.new.rows) (heads_of c.set_prev.new.rows) (ends_of c.args.self.now.ends) (ends_of c.cut.new.self)
    c.args.o c.in-Some.field-0 lists (sym c.remove.ensures.head ∙ c.in-Some.is) c.remove.ensures.rows c.set_next.ensures.rows c.set_prev.ensures.rows c.cut.ensures.ends old
