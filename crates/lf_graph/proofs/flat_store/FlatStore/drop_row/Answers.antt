use Rattle.std.proofs.Common.{sym}
use Rattle.lf_graph.specs.Cells.{cells_of, walked_keys}
use Rattle.lf_graph.specs.FlatRows.{chain_of}
use Rattle.lf_graph.proofs.FlatStores.FlatFound.{list_here, row_is_there, seen_as}
use Rattle.lf_graph.proofs.FlatStores.FlatSteps.{flat_left, rows_left}
use Rattle.lf_graph.proofs.flat_store.FlatStore.drop_row.Goals as goal

pub unlink-row-requires : goal.unlink-row-requires
unlink-row-requires c = record { there = row_is_there (seen_as c.self.invariant c.self.view_is) c.args.o c.requires.there }

pub invariant_of-self : goal.invariant_of-self
invariant_of-self c = flat_left c.unlink-row.new.self c.clear.new.self (seen_as c.self.invariant c.self.view_is) c.args.o (record {
  lists_are = c.unlink-row.ensures.lists (chain_of c.self.inside.chains) c.self.invariant.chains;
  stored = c.unlink-row.ensures.rows;
  others = c.clear.ensures.others;
  here = c.clear.ensures.cells (walked_keys (cells_of c.self.inside.cells) c.args.o c.unlink-row.result.fields) (list_here (seen_as c.self.invariant c.self.view_is) c.args.o c.unlink-row.result (sym c.unlink-row.ensures.row));
})

pub returns-clause-rows : goal.returns-clause-rows
returns-clause-rows c = rows_left c.unlink-row.new.self c.clear.new.self (seen_as c.self.invariant c.self.view_is) c.args.o (record {
  lists_are = c.unlink-row.ensures.lists (chain_of c.self.inside.chains) c.self.invariant.chains;
  stored = c.unlink-row.ensures.rows;
  others = c.clear.ensures.others;
  here = c.clear.ensures.cells (walked_keys (cells_of c.self.inside.cells) c.args.o c.unlink-row.result.fields) (list_here (seen_as c.self.invariant c.self.view_is) c.args.o c.unlink-row.result (sym c.unlink-row.ensures.row));
})
