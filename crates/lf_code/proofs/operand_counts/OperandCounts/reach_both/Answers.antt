use Rattle.std.proofs.Common.{subst, ◌∷◌}
use Rattle.lf_code.specs.Operations.{way}
use Rattle.lf_code.specs.OperandWalk.{Answers}
use Rattle.lf_code.proofs.Checks.WalkSteps.{refused}
use Rattle.lf_code.proofs.operand_counts.OperandCounts.reach_both.Goals as goal

pub returns-in_ok-reach-2-clause-onward : goal.returns-in_ok-reach-2-clause-onward
returns-in_ok-reach-2-clause-onward c list pending walk =
    c.in_ok-reach-2.ensures.onward list pending
    (subst (Answers list c.reach.new.self.counts.items c.reach.new.self.left.items (way c.args.next c.args.operands_next ∷ pending))
    c.if-branch.true
    (c.in_ok-reach.ensures.onward list (way c.args.next c.args.operands_next ∷ pending) walk))

pub returns-else-branch-clause-onward : goal.returns-else-branch-clause-onward
returns-else-branch-clause-onward c list pending walk = refused _ _ _ _ _ c.in_ok-reach.field-0 c.if-branch.false
    (c.in_ok-reach.ensures.onward list (way c.args.next c.args.operands_next ∷ pending) walk)
