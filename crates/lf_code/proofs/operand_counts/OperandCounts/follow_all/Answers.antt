use Rattle.std.proofs.Common.{[], refl, rules, subst, ◌≡◌}
use Rattle.lf_code.specs.OperandWalk.{OperandWalk}
use Rattle.lf_code.proofs.Checks.WalkSteps.{all_followed}
use Rattle.lf_code.proofs.operand_counts.OperandCounts.follow_all.Goals as goal

pub returns : goal.returns
returns c =
    let none : c.loop-at.self.left.items ≡ [] = search rules in (
      λ _. all_followed c.args.list.now c.loop-at.self.counts.items
          (subst (λ l. OperandWalk c.args.list.now c.loop-at.self.counts.items l []) none c.loop-at.invariant),
      λ _. refl,
    )
