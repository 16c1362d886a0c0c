use Rattle.std.proofs.Common.{ap, sym, ◌∙◌}
use Rattle.lf_base.specs.Operands.{operand}
use Rattle.lf_heap.specs.Heaps.{Domain}
use Rattle.lf_heap.proofs.Calls.OperandSlots.{operand_in_slot}
use Rattle.lf_heap.proofs.Calls.Rests.{notices}
use Rattle.lf_heap.proofs.heap.Heap.dissolve.Goals as goal

pub dissolve-requires-clause-named : goal.dissolve-requires-clause-named
dissolve-requires-clause-named g c κs within o e = operand_in_slot c.self.inside.parts.state 0 o (ap (λ (d : Domain). operand d.state 0) c.self.view_is ∙ sym c.operand-r.ensures ∙ e)

pub settle-requires-clause-noticed : goal.settle-requires-clause-noticed
settle-requires-clause-noticed g c κs within =
    (c.in_ok-dissolve.ensures.follows c.self.inside.work).noticed (notices c.self.inside.parts.state c.self.inside.work c.self.inside.rows c.self.invariant)
