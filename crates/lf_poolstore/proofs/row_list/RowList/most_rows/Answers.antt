use Rattle.std.proofs.Common.{arith, length, subst, ◌≤◌}
use Rattle.std.proofs.lemmas.List.{length-map}
use Rattle.lf_pool.proofs.Counted.{chain_fits}
use Rattle.lf_poolstore.specs.RowLists.{ListView, numbers, row_in}
use Rattle.lf_poolstore.proofs.RowLists.{entry}
use Rattle.lf_poolstore.proofs.row_list.RowList.most_rows.Goals as goal

pub returns : goal.returns
returns c =
    let p = c.self.inside.pool in
    let xs = numbers p c.self.inside.first in
    let fits = chain_fits p.cells xs c.self.invariant.chain.chain in
    let size = length-map xs (λ x. entry x (row_in p x)) in
    let n = c.cells.ensures.number in
    subst (λ (v : ListView). length v.entries ≤ c.cells.result) c.self.view_is (omega (arith, fits, size, n))
