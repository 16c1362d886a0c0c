use Rattle.std.proofs.Common.{[], ap, refl, subst, sym, ◌||◌, ◌∙◌, ◌∷◌}
use Rattle.std.specs.Prelude.{eqb}
use Rattle.std.specs.Option.{IsSome}
use Rattle.std.proofs.lemmas.Bool.Decides.{Decides-eqb}
use Rattle.lf_base.specs.Links.{has, without}
use Rattle.lf_pool.specs.Cells.{node}
use Rattle.lf_pool.proofs.Joins.{chain_in_range}
use Rattle.lf_poolstore.specs.RowLists.{ListView, entry_at, numbers, without_entry}
use Rattle.lf_poolstore.proofs.RowLists.{begins_elsewhere, first_chain, has_number, has_without, left_kept, removed_entries, removed_list}
use Rattle.lf_poolstore.proofs.row_list.RowList.remove.Goals as goal

pub unlink-self-inside-requires : goal.unlink-self-inside-requires
unlink-self-inside-requires c =
    let p = c.self.inside.pool in
    let first = c.self.inside.first in
    let xs = numbers p first in
    let member = has_number first p c.self.invariant c.args.at (subst (λ (v : ListView). IsSome (entry_at v.entries c.args.at)) (sym c.self.view_is) c.requires.there) in
    record { there = (xs, first_chain p first xs c.args.at c.self.invariant.chain member, member) }

pub set-requires : goal.set-requires
set-requires c =
    let at = c.args.at in
    record { there = chain_in_range c.unlink-self-inside.new.self.cells (at ∷ []) at c.unlink-self-inside.ensures.alone.0.0 (ap (λ t. t || has eqb at []) ((Decides-eqb at at).1 refl)) }

pub give_all-requires : goal.give_all-requires
give_all-requires c =
    let at = c.args.at in
    record { chain = (at ∷ [], c.set.ensures.chains at (at ∷ []) c.unlink-self-inside.ensures.alone, refl) }

pub invariant_of-self : goal.invariant_of-self
invariant_of-self c =
    let p = c.self.inside.pool in
    let first = c.self.inside.first in
    let at = c.args.at in
    let xs = numbers p first in
    let one = c.unlink-self-inside.new.self in
    let two = c.set.new.self in
    let q = c.give_all.new.self in
    let now = c.unlink-self-inside.result in
    let ys = without eqb at xs in
    let member = has_number first p c.self.invariant at (subst (λ (v : ListView). IsSome (entry_at v.entries at)) (sym c.self.view_is) c.requires.there) in
    let left_one = c.unlink-self-inside.ensures.rest xs (first_chain p first xs at c.self.invariant.chain member) in
    let left_two = left_kept one two (node now) ys left_one (λ d. c.set.ensures.chains d ys) in
    let left = left_kept two q (node now) ys left_two (λ d z. c.give_all.ensures.others d ys z (begins_elsewhere two at d ys (has_without at xs) z)) in
    removed_list first p c.self.invariant q at c.gone.result (c.give_all.ensures.items at ∙ c.set.ensures.item)
    (λ x n. c.give_all.ensures.items x ∙ c.set.ensures.items x n ∙ c.unlink-self-inside.ensures.items x) c.gone.ensures now left

pub returns-clause-entries : goal.returns-clause-entries
returns-clause-entries c =
    let p = c.self.inside.pool in
    let first = c.self.inside.first in
    let at = c.args.at in
    let xs = numbers p first in
    let one = c.unlink-self-inside.new.self in
    let two = c.set.new.self in
    let q = c.give_all.new.self in
    let now = c.unlink-self-inside.result in
    let ys = without eqb at xs in
    let member = has_number first p c.self.invariant at (subst (λ (v : ListView). IsSome (entry_at v.entries at)) (sym c.self.view_is) c.requires.there) in
    let left_one = c.unlink-self-inside.ensures.rest xs (first_chain p first xs at c.self.invariant.chain member) in
    let left_two = left_kept one two (node now) ys left_one (λ d. c.set.ensures.chains d ys) in
    let left = left_kept two q (node now) ys left_two (λ d z. c.give_all.ensures.others d ys z (begins_elsewhere two at d ys (has_without at xs) z)) in
    removed_entries first p c.self.invariant q at c.gone.result (c.give_all.ensures.items at ∙ c.set.ensures.item)
    (λ x n. c.give_all.ensures.items x ∙ c.set.ensures.items x n ∙ c.unlink-self-inside.ensures.items x) c.gone.ensures now left
    ∙ ap (λ (v : ListView). without_entry at v.entries) c.self.view_is
