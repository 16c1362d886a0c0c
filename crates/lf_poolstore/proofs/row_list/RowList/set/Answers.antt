use Rattle.std.proofs.Common.{ap, subst, sym, ◌∙◌}
use Rattle.std.specs.Option.{IsSome}
use Rattle.lf_pool.specs.Cells.{node}
use Rattle.lf_poolstore.specs.RowLists.{ListView, entry_at, numbers, with_entry}
use Rattle.lf_poolstore.proofs.RowLists.{has_number, left_kept, set_entries, set_list, there}
use Rattle.lf_poolstore.proofs.row_list.RowList.set.Goals as goal

pub set-requires : goal.set-requires
set-requires c = record { there = there c.self.inside.first c.self.inside.pool c.self.invariant c.args.at (subst (λ (v : ListView). IsSome (entry_at v.entries c.args.at)) (sym c.self.view_is) c.requires.there) }

pub invariant_of-self : goal.invariant_of-self
invariant_of-self c =
    let p = c.self.inside.pool in
    let q = c.set.new.self in
    let first = c.self.inside.first in
    let xs = numbers p first in
    let member = has_number first p c.self.invariant c.args.at (subst (λ (v : ListView). IsSome (entry_at v.entries c.args.at)) (sym c.self.view_is) c.requires.there) in
    set_list first p c.self.invariant q c.args.at c.args.row c.set.ensures.item c.set.ensures.items c.requires.live member (left_kept p q (node first) xs c.self.invariant.chain (λ d. c.set.ensures.chains d xs))

pub returns-clause-entries : goal.returns-clause-entries
returns-clause-entries c =
    let p = c.self.inside.pool in
    let q = c.set.new.self in
    let first = c.self.inside.first in
    let xs = numbers p first in
    let member = has_number first p c.self.invariant c.args.at (subst (λ (v : ListView). IsSome (entry_at v.entries c.args.at)) (sym c.self.view_is) c.requires.there) in
    set_entries first p c.self.invariant q c.args.at c.args.row c.set.ensures.item c.set.ensures.items c.requires.live member (left_kept p q (node first) xs c.self.invariant.chain (λ d. c.set.ensures.chains d xs))
    ∙ ap (λ (v : ListView). with_entry c.args.at c.args.row v.entries) c.self.view_is
