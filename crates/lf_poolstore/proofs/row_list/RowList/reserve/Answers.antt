use Rattle.std.proofs.Common.{ap, refl, ◌∙◌}
use Rattle.lf_poolstore.specs.RowLists.{ListView, numbers}
use Rattle.lf_pool.specs.Cells.{node}
use Rattle.lf_poolstore.proofs.RowLists.{left_kept, now_entries, same_list, same_rows}
use Rattle.lf_poolstore.proofs.row_list.RowList.reserve.Goals as goal

pub invariant_of-self : goal.invariant_of-self
invariant_of-self c =
    let p = c.self.inside.pool in
    let q = c.reserve.new.self in
    let first = c.self.inside.first in
    let xs = numbers p first in
    same_list first p c.self.invariant q c.reserve.ensures.items first xs (left_kept p q (node first) xs c.self.invariant.chain (λ d. c.reserve.ensures.chains d xs)) (λ x. refl)

pub returns-clause-entries : goal.returns-clause-entries
returns-clause-entries c =
    let p = c.self.inside.pool in
    let q = c.reserve.new.self in
    let first = c.self.inside.first in
    let xs = numbers p first in
    now_entries first q xs (left_kept p q (node first) xs c.self.invariant.chain (λ d. c.reserve.ensures.chains d xs))
    ∙ same_rows first p c.self.invariant q c.reserve.ensures.items xs ∙ ap (λ (v : ListView). v.entries) c.self.view_is
