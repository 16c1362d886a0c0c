use Rattle.std.proofs.Common.{take}
use Rattle.std.specs.List.{AllByRecursion}
use Rattle.lf_code.specs.Operations.{HasOperands}
use Rattle.lf_code.proofs.operand_counts.bodies_have_operands.Given as goal

abbrev pub invariant-loop-body : goal.invariant-loop-body
invariant-loop-body l = AllByRecursion (λ b. HasOperands b.list) (take l.body-index l.bodies)
