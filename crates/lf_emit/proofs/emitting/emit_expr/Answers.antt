use Rattle.std.proofs.Common.{◌∙◌}
use Rattle.lf_emit.specs.Left.{all_left}
use Rattle.lf_emit.proofs.Emitted.{emitted, emitted_smaller}
use Rattle.lf_emit.proofs.emitting.emit_expr.Goals as goal

pub loop-work-smaller : goal.loop-work-smaller
loop-work-smaller g c =
    emitted_smaller (g.N.Numbering.source c.args.names.now)
    (g.N.Numbering.vars c.args.names.now) c.args.line c.loop-work.works.items c.pop.new.self.items c.in-Some.work c.in-Some.ensures.items
    (all_left c.emit_next.new.works.items) _ c.in_ok-emit_next.ensures.parts

pub loop-work-preserved : goal.loop-work-preserved
loop-work-preserved g c =
    emitted (g.N.Numbering.source c.args.names.now)
    (g.N.Numbering.vars c.args.names.now) c.args.line c.loop-work.works.items c.pop.new.self.items c.in-Some.work c.in-Some.ensures.items
    c.loop-work.out.items c.emit_next.new.out.items
    (all_left c.emit_next.new.works.items) c.in_ok-emit_next.ensures.own c.in_ok-emit_next.ensures.parts
    ∙ c.loop-work.invariant
