use Rattle.lf_graph.specs.FlatRows.{chain_of}
use Rattle.lf_graph.proofs.FlatStores.FlatSteps.{flat_moved, rows_moved}
use Rattle.lf_graph.proofs.FlatStores.FlatFound.{row_is_there, seen_as, there}
use Rattle.lf_graph.proofs.flat_store.FlatStoreStore.set_owner.Goals as goal

pub move_last-requires-clause-there : goal.move_last-requires-clause-there
move_last-requires-clause-there g c = row_is_there (seen_as c.self.invariant c.self.view_is) c.args.o c.requires.there

pub invariant_of-self : goal.invariant_of-self
invariant_of-self g c =
    let before = seen_as c.self.invariant c.self.view_is in
    let r = there before c.args.o c.requires.there in
    flat_moved c.move_last.new.self before c.args.o r.row r.kept_is c.args.owner (c.move_last.ensures.lists (chain_of c.self.inside.chains) c.self.invariant.chains) c.move_last.ensures.rows

pub returns-clause-rows : goal.returns-clause-rows
returns-clause-rows g c =
    let before = seen_as c.self.invariant c.self.view_is in
    let r = there before c.args.o c.requires.there in
    rows_moved c.move_last.new.self before c.args.o r.row r.kept_is c.args.owner (c.move_last.ensures.lists (chain_of c.self.inside.chains) c.self.invariant.chains) c.move_last.ensures.rows
