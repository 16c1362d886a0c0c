use Rattle.std.proofs.Common.{subst, sym, List}
use Rattle.lf_pool.specs.declared.cell.TheConstants.{NONE}
use Rattle.lf_pool.specs.declared.cell.Cell.{Cell}
use Rattle.lf_pool.specs.Cells.{IsParted}
use Rattle.lf_pool.proofs.Parts.{empty_parted}
use Rattle.lf_pool.proofs.pool.Pool.new.Goals as goal

pub invariant_of-result : goal.invariant_of-result
invariant_of-result g c = subst (λ (t : List (Cell _)). IsParted t NONE 0) (sym c.new.ensures.items) empty_parted
