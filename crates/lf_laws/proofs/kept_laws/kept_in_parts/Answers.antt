use Rattle.lf_laws.proofs.KeptStates.SlotsInParts.{end_in_parts, fewer_in_parts, slots_in_parts}
use Rattle.lf_laws.proofs.kept_laws.kept_in_parts.Goals as goal

pub returns-clause-slots : goal.returns-clause-slots
returns-clause-slots c s ws w = slots_in_parts s w ws

pub returns-clause-end : goal.returns-clause-end
returns-clause-end c = end_in_parts

pub returns-clause-fewer : goal.returns-clause-fewer
returns-clause-fewer c s ws w = fewer_in_parts s w ws
