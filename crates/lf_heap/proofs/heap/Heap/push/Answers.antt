use Rattle.std.proofs.Common.{ap, length, subst, sym, ◌∙◌}
use Rattle.lf_base.specs.Operands.{pushed}
use Rattle.lf_base.specs.PlainState.{State}
use Rattle.lf_base.specs.WellFormed.{SlotMayHold}
use Rattle.lf_heap.specs.Heaps.{Domain, IsAtRest}
use Rattle.lf_heap.proofs.Calls.Rests.{push_rests, pushed_is}
use Rattle.lf_heap.proofs.Calls.SlotsAfter.{slots_pushed}
use Rattle.lf_heap.proofs.heap.Heap.push.Goals as goal

pub invariant_of-self : goal.invariant_of-self
invariant_of-self g c =
    subst (λ t. IsAtRest t c.self.inside.work c.self.inside.loose c.self.inside.rows) (sym c.add_slot.ensures.state)
    (push_rests c.self.inside.parts.state c.self.inside.work c.self.inside.rows c.self.invariant c.args.v (λ u e. subst (λ (d : Domain). SlotMayHold d.state u) (sym c.self.view_is) (c.requires.may u e)))

pub returns-clause-state : goal.returns-clause-state
returns-clause-state g c = c.add_slot.ensures.state ∙ pushed_is c.self.inside.parts.state c.self.inside.work c.self.inside.rows c.self.invariant c.args.v ∙ ap (λ (d : Domain). pushed c.args.v d.state) c.self.view_is

pub returns-clause-slots : goal.returns-clause-slots
returns-clause-slots g c = ap (λ (t : State). length t.slots) (returns-clause-state g c) ∙ slots_pushed c.args.self.now.state c.args.v
