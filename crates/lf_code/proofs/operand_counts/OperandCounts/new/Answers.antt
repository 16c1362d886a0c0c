use Rattle.std.proofs.Common.{None, [], replicate, rules, subst, sym, ◌∷◌, ◌≡◌}
use Rattle.lf_code.specs.Operations.{way}
use Rattle.lf_code.specs.OperandWalk.{OperandWalk}
use Rattle.lf_code.proofs.Checks.WalkSteps.{walk_begins}
use Rattle.lf_code.proofs.operand_counts.OperandCounts.new.Goals as goal

pub returns : goal.returns
returns c list e =
    let all : c.in_ok-vec.field-0.items ≡ replicate c.args.addresses None = search rules in
    let none : c.new.result.items ≡ [] = search rules in
    subst (λ l. OperandWalk list l c.new.result.items (way 0 0 ∷ [])) (sym all)
    (subst (λ l. OperandWalk list (replicate c.args.addresses None) l (way 0 0 ∷ [])) (sym none) (walk_begins list c.args.addresses e))
