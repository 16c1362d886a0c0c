use Rattle.std.proofs.Common.{[], refl, subst}
use Rattle.lf_code.specs.OperandWalk.{Answers}
use Rattle.lf_code.proofs.operand_counts.has_operands.Goals as goal

pub returns-then-not-branch : goal.returns-then-not-branch
returns-then-not-branch c =
    let none = subst (Answers c.args.list.now c.reach.new.self.counts.items c.reach.new.self.left.items []) c.if-not-branch.true
    (c.in_ok-reach.ensures.onward c.args.list.now [] (c.in_ok-walk.ensures c.args.list.now refl)) in
    (λ t. cc, λ h. absurd (none h))

pub follow_all-requires : goal.follow_all-requires
follow_all-requires c =
    subst (Answers c.args.list.now c.reach.new.self.counts.items c.reach.new.self.left.items []) c.if-not-branch.false
    (c.in_ok-reach.ensures.onward c.args.list.now [] (c.in_ok-walk.ensures c.args.list.now refl))
