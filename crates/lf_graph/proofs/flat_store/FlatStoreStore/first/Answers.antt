use Rattle.std.proofs.Common.{◌∙◌}
use Rattle.lf_graph.specs.FlatRows.{chain_of}
use Rattle.lf_graph.proofs.FlatStores.FlatFound.{first_found, seen_as}
use Rattle.lf_graph.proofs.flat_store.FlatStoreStore.first.Goals as goal

pub returns-clause-first : goal.returns-clause-first
returns-clause-first g c = c.first.ensures (chain_of c.self.inside.chains) c.self.invariant.chains ∙ first_found (seen_as c.self.invariant c.self.view_is) c.args.owner
