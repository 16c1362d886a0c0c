use Rattle.std.proofs.Common.{sym}
use Rattle.lf_graph.proofs.FlatStores.FlatFound.{row_is_there, seen_as, width_found}
use Rattle.lf_graph.proofs.flat_store.FlatStoreStore.width.Goals as goal

pub row-requires : goal.row-requires
row-requires g c = row_is_there (seen_as c.self.invariant c.self.view_is) c.args.o c.requires.there

pub returns-clause-width : goal.returns-clause-width
returns-clause-width g c = sym (width_found (seen_as c.self.invariant c.self.view_is) c.args.o c.row.result.now c.row.ensures)
