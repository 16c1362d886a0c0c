use Rattle.std.proofs.Common.{None, [], ap, subst, ◌++◌, ◌∙◌, ◌∷◌, ◌≡◌}
use Rattle.lf_pool.specs.Cells.{node}
use Rattle.lf_poolstore.specs.RowLists.{ListView, entry_at, numbers}
use Rattle.lf_poolstore.proofs.RowLists.{entry, entry_none, lacked, left_kept, pushed_entries, pushed_list}
use Rattle.lf_poolstore.proofs.row_list.RowList.push.Goals as goal

pub joined-self-inside-requires-clause-list : goal.joined-self-inside-requires-clause-list
joined-self-inside-requires-clause-list c =
    let p = c.self.inside.pool in
    let first = c.self.inside.first in
    let xs = numbers p first in (
      xs,
      left_kept p c.take-at.new.self (node first) xs c.self.invariant.chain (λ d z. (c.take-at.ensures.others d xs z).0),
      lacked p first c.take-at.result xs c.self.invariant.chain (λ d z. (c.take-at.ensures.others d xs z).1),
    )

pub invariant_of-self : goal.invariant_of-self
invariant_of-self c =
    let p = c.self.inside.pool in
    let one = c.take-at.new.self in
    let q = c.joined-self-inside.new.pool in
    let first = c.self.inside.first in
    let at = c.take-at.result in
    let xs = numbers p first in
    let lacks = lacked p first at xs c.self.invariant.chain (λ d z. (c.take-at.ensures.others d xs z).1) in
    let left = c.joined-self-inside.ensures.list xs (left_kept p one (node first) xs c.self.invariant.chain (λ d z. (c.take-at.ensures.others d xs z).0)) in
    pushed_list first p c.self.invariant q at c.args.row (c.joined-self-inside.ensures.items at ∙ c.take-at.ensures.item) (λ x n. c.joined-self-inside.ensures.items x ∙ c.take-at.ensures.items x n) c.requires.live lacks c.joined-self-inside.result left

pub returns-clause-entries : goal.returns-clause-entries
returns-clause-entries c =
    let p = c.self.inside.pool in
    let one = c.take-at.new.self in
    let q = c.joined-self-inside.new.pool in
    let first = c.self.inside.first in
    let at = c.take-at.result in
    let xs = numbers p first in
    let lacks = lacked p first at xs c.self.invariant.chain (λ d z. (c.take-at.ensures.others d xs z).1) in
    let left = c.joined-self-inside.ensures.list xs (left_kept p one (node first) xs c.self.invariant.chain (λ d z. (c.take-at.ensures.others d xs z).0)) in
    pushed_entries first p c.self.invariant q at c.args.row (c.joined-self-inside.ensures.items at ∙ c.take-at.ensures.item) (λ x n. c.joined-self-inside.ensures.items x ∙ c.take-at.ensures.items x n) c.requires.live lacks c.joined-self-inside.result left
    ∙ ap (λ (v : ListView). v.entries ++ entry at c.args.row ∷ []) c.self.view_is

pub returns-clause-new : goal.returns-clause-new
returns-clause-new c =
    let p = c.self.inside.pool in
    let first = c.self.inside.first in
    let at = c.take-at.result in
    let xs = numbers p first in
    subst (λ (v : ListView). entry_at v.entries at ≡ None) c.self.view_is (entry_none first p c.self.invariant at (lacked p first at xs c.self.invariant.chain (λ d z. (c.take-at.ensures.others d xs z).1)))
