use Rattle.std.proofs.Common.{sym}
use Rattle.lf_graph.proofs.FlatStores.FlatFound.{refs_found, row_is_there, seen_as}
use Rattle.lf_graph.proofs.flat_store.FlatStoreStore.refs.Goals as goal

pub row-requires : goal.row-requires
row-requires g c = row_is_there (seen_as c.self.invariant c.self.view_is) c.args.o c.requires.there

pub returns-clause-refs : goal.returns-clause-refs
returns-clause-refs g c = sym (refs_found (seen_as c.self.invariant c.self.view_is) c.args.o c.row.result.now c.row.ensures)
