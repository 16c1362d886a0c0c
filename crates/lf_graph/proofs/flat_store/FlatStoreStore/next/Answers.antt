use Rattle.std.proofs.Common.{◌∙◌}
use Rattle.lf_graph.specs.FlatRows.{chain_of}
use Rattle.lf_graph.proofs.FlatStores.FlatFound.{has_owner, next_found, seen_as}
use Rattle.lf_graph.proofs.flat_store.FlatStoreStore.next.Goals as goal

pub returns-clause-next : goal.returns-clause-next
returns-clause-next g c =
    let own = has_owner (seen_as c.self.invariant c.self.view_is) c.args.o c.requires.there in
    c.next.ensures (chain_of c.self.inside.chains) c.self.invariant.chains own.owner own.owner_is ∙ next_found (seen_as c.self.invariant c.self.view_is) c.args.o own.owner own.owner_is
