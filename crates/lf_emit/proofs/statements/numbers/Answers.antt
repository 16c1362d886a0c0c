use Rattle.std.proofs.Common.{◌∙◌}
use Rattle.lf_codegen.specs.Numbers.{var_number}
use Rattle.lf_emit.proofs.Counts.{mapped_next}
use Rattle.lf_emit.proofs.statements.numbers.Goals as goal

pub loop-name-preserved : goal.loop-name-preserved
loop-name-preserved g c =
    mapped_next
    (var_number
    (g.N.Numbering.vars c.args.names.now)) c.args.list.now c.loop-name.name-index _ c.loop-name.vars c.add_number.new.vars
    c.loop-name-test.true c.in_ok-add_number.ensures
    ∙ c.loop-name.invariant
