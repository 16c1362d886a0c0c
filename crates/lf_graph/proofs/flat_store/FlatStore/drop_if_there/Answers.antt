use Rattle.std.proofs.Common.{ap, is_some, sym}
use Rattle.lf_graph.proofs.FlatStores.FlatFound.{kept_has_row, seen_as}
use Rattle.lf_graph.proofs.FlatStores.FlatSteps.{rows_unmissed}
use Rattle.lf_graph.proofs.flat_store.FlatStore.drop_if_there.Goals as goal

pub drop_row-requires : goal.drop_row-requires
drop_row-requires c = record { there = kept_has_row (seen_as c.self.invariant c.self.view_is) c.args.o (ap is_some (sym c.in-Some.ensures)) }

pub returns-in_default-clause-rows : goal.returns-in_default-clause-rows
returns-in_default-clause-rows c = rows_unmissed (seen_as c.self.invariant c.self.view_is) c.args.o (sym c.in_default.ensures)
