use Rattle.std.proofs.Common.{refl}
use Rattle.lf_graph.specs.FlatRows.{chain_of}
use Rattle.lf_graph.proofs.FlatStores.FlatFound.{seen_as}
use Rattle.lf_graph.proofs.FlatStores.FlatSteps.{flat_kept, rows_kept}
use Rattle.lf_graph.proofs.flat_store.FlatStore.make_room.Goals as goal

pub invariant_of-self : goal.invariant_of-self
invariant_of-self c = flat_kept c.reserve.new.self c.self.inside.cells (seen_as c.self.invariant c.self.view_is) (c.reserve.ensures.lists (chain_of c.self.inside.chains) c.self.invariant.chains) c.reserve.ensures.rows (λ o k. refl)

pub returns-in_err-reserve-clause-rows : goal.returns-in_err-reserve-clause-rows
returns-in_err-reserve-clause-rows c = rows_kept c.reserve.new.self c.self.inside.cells (seen_as c.self.invariant c.self.view_is) (c.reserve.ensures.lists (chain_of c.self.inside.chains) c.self.invariant.chains) c.reserve.ensures.rows (λ o k. refl)

pub invariant_of-self-2 : goal.invariant_of-self-2
invariant_of-self-2 c = flat_kept c.reserve.new.self c.reserve-2.new.self (seen_as c.self.invariant c.self.view_is) (c.reserve.ensures.lists (chain_of c.self.inside.chains) c.self.invariant.chains) c.reserve.ensures.rows c.reserve-2.ensures.cells

pub returns-clause-rows : goal.returns-clause-rows
returns-clause-rows c = rows_kept c.reserve.new.self c.reserve-2.new.self (seen_as c.self.invariant c.self.view_is) (c.reserve.ensures.lists (chain_of c.self.inside.chains) c.self.invariant.chains) c.reserve.ensures.rows c.reserve-2.ensures.cells
