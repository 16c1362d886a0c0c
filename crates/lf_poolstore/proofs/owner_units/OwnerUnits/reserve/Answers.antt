use Rattle.std.proofs.Common.{refl, ◌∙◌}
use Rattle.lf_base.specs.declared.values.Owner.TheVariants.{Frozen, In, Local}
use Rattle.lf_poolstore.proofs.owner_units.OwnerUnits.reserve.Goals as goal

pub returns-in-Ok-clause-numbers : goal.returns-in-Ok-clause-numbers
returns-in-Ok-clause-numbers c Local = refl
returns-in-Ok-clause-numbers c (In r) = c.reserve.ensures.entries.2 r
returns-in-Ok-clause-numbers c Frozen = refl

pub invariant_of-self-clause-kept : goal.invariant_of-self-clause-kept
invariant_of-self-clause-kept c = c.reserve.ensures.entries.2 c.args.self.now.last ∙ c.args.self.now.kept
