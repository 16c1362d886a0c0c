use Rattle.lf_base.specs.declared.values.Value.TheVariants.{Obj}
use Rattle.lf_laws.proofs.KeptStates.NotInParts.{closes_more, freezes_more, lone_inner, lone_owner, lone_whole, object, owner_whole}
use Rattle.lf_laws.proofs.kept_laws.not_in_parts.Goals as goal

pub returns-clause-frozen : goal.returns-clause-frozen
returns-clause-frozen c = (lone_inner, (Obj (object 1), (lone_whole, freezes_more)))

pub returns-clause-closed : goal.returns-clause-closed
returns-clause-closed c = (lone_owner, (0, (object 1, (owner_whole, closes_more))))
