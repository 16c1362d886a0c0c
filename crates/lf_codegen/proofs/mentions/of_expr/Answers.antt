use Rattle.std.proofs.Common.{◌∙◌}
use Rattle.lf_codegen.specs.Parts.{plain_lent}
use Rattle.lf_codegen.proofs.Mentioning.Visiting.{visited, visited_smaller}
use Rattle.lf_codegen.proofs.mentions.of_expr.Goals as goal

pub loop-next-smaller : goal.loop-next-smaller
loop-next-smaller c =
    visited_smaller c.loop-next.unvisited.items c.pop.new.self.items c.in-Some.next c.in-Some.ensures.items
    (plain_lent c.visit.new.unvisited.items) c.in_ok-visit.ensures.parts

pub loop-next-preserved : goal.loop-next-preserved
loop-next-preserved c =
    visited c.loop-next.unvisited.items c.pop.new.self.items c.in-Some.next c.in-Some.ensures.items c.loop-next.out.items
    c.visit.new.out.items (plain_lent c.visit.new.unvisited.items) c.in_ok-visit.ensures.own c.in_ok-visit.ensures.parts
    ∙ c.loop-next.invariant
