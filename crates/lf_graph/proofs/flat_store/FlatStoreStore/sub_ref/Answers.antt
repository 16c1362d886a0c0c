use Rattle.std.proofs.Common.{refl, ◌-◌, ◌<◌}
use Rattle.lf_graph.specs.ChainMaps.{heads_of}
use Rattle.lf_graph.specs.Chains.{recount}
use Rattle.lf_graph.specs.FlatRows.{chain_of}
use Rattle.lf_graph.proofs.FlatStores.FlatFound.{count_kept_is, seen_as, there}
use Rattle.lf_graph.proofs.FlatStores.FlatSteps.{flat_recounted, rows_recounted, stored_changed}
use Rattle.lf_graph.proofs.flat_store.FlatStoreStore.sub_ref.Goals as goal

pub sub_ref-requires : goal.sub_ref-requires
sub_ref-requires g c = count_kept_is (seen_as c.self.invariant c.self.view_is) (λ n. 0 < n) c.args.o c.requires.there c.requires.above

pub invariant_of-self : goal.invariant_of-self
invariant_of-self g c =
    let before = seen_as c.self.invariant c.self.view_is in
    let r = there before c.args.o c.requires.there in
    flat_recounted c.sub_ref.new.self before c.args.o r.row r.kept_is (c.sub_ref.ensures.lists (chain_of c.self.inside.chains) c.self.invariant.chains) (r.row.refs - 1)
    (stored_changed (heads_of c.self.inside.chains.rows) (heads_of c.sub_ref.new.self.rows) c.args.o r.row (recount (λ n. n - 1)) r.kept_is c.sub_ref.ensures.rows)

pub returns-clause-rows : goal.returns-clause-rows
returns-clause-rows g c =
    let before = seen_as c.self.invariant c.self.view_is in
    let r = there before c.args.o c.requires.there in
    rows_recounted c.sub_ref.new.self before c.args.o r.row r.kept_is (c.sub_ref.ensures.lists (chain_of c.self.inside.chains) c.self.invariant.chains) (r.row.refs - 1)
    (stored_changed (heads_of c.self.inside.chains.rows) (heads_of c.sub_ref.new.self.rows) c.args.o r.row (recount (λ n. n - 1)) r.kept_is c.sub_ref.ensures.rows) (λ n. n - 1) refl
