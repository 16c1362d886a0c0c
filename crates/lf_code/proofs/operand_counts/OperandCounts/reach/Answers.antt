use Rattle.std.proofs.Common.{None, Some, [], ap, rules, set, subst, sym, ◌++◌, ◌∙◌, ◌∷◌, ◌≡◌, ◌≤◌}
use Rattle.std.specs.List.{slice_get}
use Rattle.lf_code.specs.OperandWalk.{OperandWalk, left_over}
use Rattle.lf_code.proofs.Checks.WalkSteps.{no_more_left, now_seen, past_end, seen_already}
use Rattle.lf_code.proofs.operand_counts.OperandCounts.reach.Goals as goal

pub returns-in-None-clause-onward : goal.returns-in-None-clause-onward
returns-in-None-clause-onward c list pending walk =
    past_end list c.args.self.now.counts.items c.args.self.now.left.items c.args.to c.args.operands pending walk (sym c.in-None.ensures)

pub returns-in-Some-Some-clause-onward : goal.returns-in-Some-Some-clause-onward
returns-in-Some-Some-clause-onward c list pending walk =
    seen_already list c.args.self.now.counts.items c.args.self.now.left.items c.args.to c.args.operands pending walk c.in-Some-Some.found
    (sym c.in-Some-Some.ensures ∙ ap Some c.in-Some-Some.field-0-is)

pub returns-in_ok-push-in-Some-None-clause-onward : goal.returns-in_ok-push-in-Some-None-clause-onward
returns-in_ok-push-in-Some-None-clause-onward c list pending walk =
    let free : slice_get c.args.self.now.counts.items c.args.to ≡ Some None =
    sym c.in-Some-None.ensures ∙ ap Some c.in-Some-None.field-0-is in
    let left : c.push.new.self.items ≡ c.args.self.now.left.items ++ c.args.to ∷ [] = search rules in
    subst (λ l. OperandWalk list (set c.args.self.now.counts.items c.args.to (Some c.args.operands)) l pending) (sym left)
    (now_seen list c.args.self.now.counts.items c.args.self.now.left.items c.args.to c.args.operands pending walk free)

pub returns-in_ok-push-in-Some-None-clause-fewer : goal.returns-in_ok-push-in-Some-None-clause-fewer
returns-in_ok-push-in-Some-None-clause-fewer c =
    let free : slice_get c.args.self.now.counts.items c.args.to ≡ Some None =
    sym c.in-Some-None.ensures ∙ ap Some c.in-Some-None.field-0-is in
    let left : c.push.new.self.items ≡ c.args.self.now.left.items ++ c.args.to ∷ [] = search rules in
    subst (λ l. left_over (set c.args.self.now.counts.items c.args.to (Some c.args.operands)) l ≤ left_over c.args.self.now.counts.items
    c.args.self.now.left.items)
    (sym left) (no_more_left c.args.self.now.counts.items c.args.self.now.left.items c.args.to c.args.operands free)
