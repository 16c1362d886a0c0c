use Rattle.std.proofs.Common.{ap, sym, ◌∙◌}
use Rattle.lf_base.specs.FreezeResult.{freeze_result}
use Rattle.lf_base.specs.HeapCalls.{frozen}
use Rattle.lf_base.specs.Kept.{kept}
use Rattle.lf_base.specs.Operands.{operand}
use Rattle.lf_heap.specs.Heaps.{Domain}
use Rattle.lf_heap.proofs.Calls.Rests.{notices}
use Rattle.lf_heap.proofs.heap.Heap.freeze.Goals as goal

pub settle-requires-clause-noticed : goal.settle-requires-clause-noticed
settle-requires-clause-noticed g c κs within = c.in_ok-freeze.ensures.noticed (notices c.self.inside.parts.state c.self.inside.work c.self.inside.rows c.self.invariant)

pub returns-clause-state : goal.returns-clause-state
returns-clause-state g c =
    let s = c.self.inside.parts.state in
    c.settle.ensures.state
    ∙ ap kept (c.in_ok-freeze.ensures.state ∙ ap (freeze_result s) (c.operand-v.ensures ∙ ap (λ (d : Domain). operand d.state 0) (sym c.self.view_is)))
    ∙ ap (λ (d : Domain). frozen d.state) c.self.view_is
