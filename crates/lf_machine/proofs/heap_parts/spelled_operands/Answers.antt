use Rattle.lf_machine.proofs.Operands.SpelledLines.{line_more}
use Rattle.lf_machine.proofs.heap_parts.spelled_operands.Goals as goal

pub loop-at-preserved : goal.loop-at-preserved
loop-at-preserved g c =
    line_more c.args.texts.now c.args.heap.now.state c.args.count c.loop-at.at c.operand-v.result c.loop-at.line.items c.add_operand.new.line.items c.requires
    c.loop-at-test.true c.loop-at.invariant c.operand-v.ensures c.in_ok-add_operand.ensures
