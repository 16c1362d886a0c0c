use Rattle.std.proofs.Common.{ap, option_map, sym, ◌∙◌}
use Rattle.lf_graph.specs.declared.stored_row.StoredRow.{StoredRow}
use Rattle.lf_graph.proofs.FlatStores.FlatFound.{owner_found, seen_as}
use Rattle.lf_graph.proofs.flat_store.FlatStoreStore.owner.Goals as goal

pub returns-in_default-clause-owner : goal.returns-in_default-clause-owner
returns-in_default-clause-owner g c = sym (owner_found (seen_as c.self.invariant c.self.view_is) c.args.o ∙ ap (option_map (λ (r : StoredRow). r.owner)) (sym c.in_default.ensures))

pub returns-clause-owner : goal.returns-clause-owner
returns-clause-owner g c = sym (owner_found (seen_as c.self.invariant c.self.view_is) c.args.o ∙ ap (option_map (λ (r : StoredRow). r.owner)) (sym c.in-Some.ensures))
