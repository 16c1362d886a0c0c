use Rattle.std.proofs.Common.{refl, ◌+◌, ◌-◌, ◌<◌, ◌^◌}
use Rattle.lf_graph.specs.ChainMaps.{heads_of}
use Rattle.lf_graph.specs.Chains.{recount}
use Rattle.lf_graph.specs.FlatRows.{chain_of}
use Rattle.lf_graph.proofs.FlatStores.FlatFound.{count_kept_is, seen_as, there}
use Rattle.lf_graph.proofs.FlatStores.FlatSteps.{flat_recounted, rows_recounted, stored_changed}
use Rattle.lf_graph.proofs.flat_store.FlatStoreStore.add_ref.Goals as goal

pub add_ref-requires : goal.add_ref-requires
add_ref-requires g c = count_kept_is (seen_as c.self.invariant c.self.view_is) (λ n. n < 2 ^ 64 - 1) c.args.o c.requires.there c.requires.below

pub invariant_of-self : goal.invariant_of-self
invariant_of-self g c =
    let before = seen_as c.self.invariant c.self.view_is in
    let r = there before c.args.o c.requires.there in
    flat_recounted c.add_ref.new.self before c.args.o r.row r.kept_is (c.add_ref.ensures.lists (chain_of c.self.inside.chains) c.self.invariant.chains) (r.row.refs + 1)
    (stored_changed (heads_of c.self.inside.chains.rows) (heads_of c.add_ref.new.self.rows) c.args.o r.row (recount (λ n. n + 1)) r.kept_is c.add_ref.ensures.rows)

pub returns-clause-rows : goal.returns-clause-rows
returns-clause-rows g c =
    let before = seen_as c.self.invariant c.self.view_is in
    let r = there before c.args.o c.requires.there in
    rows_recounted c.add_ref.new.self before c.args.o r.row r.kept_is (c.add_ref.ensures.lists (chain_of c.self.inside.chains) c.self.invariant.chains) (r.row.refs + 1)
    (stored_changed (heads_of c.self.inside.chains.rows) (heads_of c.add_ref.new.self.rows) c.args.o r.row (recount (λ n. n + 1)) r.kept_is c.add_ref.ensures.rows) (λ n. n + 1) refl
