use Rattle.std.proofs.Common.{ap, sym, ◌∙◌}
use Rattle.lf_base.specs.Accesses.{or_no_field}
use Rattle.lf_heap.proofs.parts.Parts.field_of.Goals as goal

pub returns-in-Some-clause-value : goal.returns-in-Some-clause-value
returns-in-Some-clause-value g c = sym c.look_up.ensures.value ∙ c.in-Some.is

pub returns-in-Some-clause-answer : goal.returns-in-Some-clause-answer
returns-in-Some-clause-answer g c = sym (ap or_no_field (sym c.look_up.ensures.value ∙ c.in-Some.is))

pub returns-in-None-clause-answer : goal.returns-in-None-clause-answer
returns-in-None-clause-answer g c = sym (ap or_no_field (sym c.look_up.ensures.value ∙ c.in-None.is))
