use Rattle.std.proofs.Common.{ap, subst, sym, ◌∙◌}
use Rattle.std.specs.Prelude.{eqb}
use Rattle.std.specs.Option.{IsSome}
use Rattle.lf_base.specs.Links.{without}
use Rattle.lf_poolstore.specs.RowLists.{ListView, entry_at, moved_entry, numbers}
use Rattle.lf_poolstore.proofs.RowLists.{first_chain, has_number, has_without, moved_entries, moved_list}
use Rattle.lf_poolstore.proofs.row_list.RowList.move_last.Goals as goal

pub unlink-rest-requires : goal.unlink-rest-requires
unlink-rest-requires c =
    let p = c.self.inside.pool in
    let first = c.self.inside.first in
    let xs = numbers p first in
    let member = has_number first p c.self.invariant c.args.at (subst (λ (v : ListView). IsSome (entry_at v.entries c.args.at)) (sym c.self.view_is) c.requires.there) in
    record { there = (xs, first_chain p first xs c.args.at c.self.invariant.chain member, member) }

pub joined-self-inside-requires-clause-list : goal.joined-self-inside-requires-clause-list
joined-self-inside-requires-clause-list c =
    let p = c.self.inside.pool in
    let first = c.self.inside.first in
    let xs = numbers p first in
    let member = has_number first p c.self.invariant c.args.at (subst (λ (v : ListView). IsSome (entry_at v.entries c.args.at)) (sym c.self.view_is) c.requires.there) in
    (without eqb c.args.at xs, c.unlink-rest.ensures.rest xs (first_chain p first xs c.args.at c.self.invariant.chain member), has_without c.args.at xs)

pub invariant_of-self : goal.invariant_of-self
invariant_of-self c =
    let p = c.self.inside.pool in
    let first = c.self.inside.first in
    let at = c.args.at in
    let xs = numbers p first in
    let member = has_number first p c.self.invariant at (subst (λ (v : ListView). IsSome (entry_at v.entries at)) (sym c.self.view_is) c.requires.there) in
    let left = c.joined-self-inside.ensures.list (without eqb at xs) (c.unlink-rest.ensures.rest xs (first_chain p first xs at c.self.invariant.chain member)) in
    moved_list first p c.self.invariant c.joined-self-inside.new.pool (λ x. c.joined-self-inside.ensures.items x ∙ c.unlink-rest.ensures.items x) at member c.joined-self-inside.result left

pub returns-clause-entries : goal.returns-clause-entries
returns-clause-entries c =
    let p = c.self.inside.pool in
    let first = c.self.inside.first in
    let at = c.args.at in
    let xs = numbers p first in
    let member = has_number first p c.self.invariant at (subst (λ (v : ListView). IsSome (entry_at v.entries at)) (sym c.self.view_is) c.requires.there) in
    let left = c.joined-self-inside.ensures.list (without eqb at xs) (c.unlink-rest.ensures.rest xs (first_chain p first xs at c.self.invariant.chain member)) in
    moved_entries first p c.self.invariant c.joined-self-inside.new.pool (λ x. c.joined-self-inside.ensures.items x ∙ c.unlink-rest.ensures.items x) at member c.joined-self-inside.result left
    ∙ ap (λ (v : ListView). moved_entry at v.entries) c.self.view_is
