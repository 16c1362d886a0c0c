use Rattle.lf_laws.proofs.KeptStates.ChangesInParts.{content_in_parts, dissolve_in_parts, freeze_in_parts, made_in_parts, merge_in_parts, take_in_parts}
use Rattle.lf_laws.proofs.KeptStates.CloseInParts.{close_in_parts}
use Rattle.lf_laws.proofs.KeptStates.WriteInParts.{write_in_parts}
use Rattle.lf_laws.proofs.kept_laws.changes_in_parts.Goals as goal

pub returns-clause-take : goal.returns-clause-take
returns-clause-take c s x k w = take_in_parts s w x k

pub returns-clause-write : goal.returns-clause-write
returns-clause-write c s x k v w = write_in_parts s w x k v

pub returns-clause-content : goal.returns-clause-content
returns-clause-content c s d v w = content_in_parts s w d v

pub returns-clause-made : goal.returns-clause-made
returns-clause-made c s v w = made_in_parts s w v

pub returns-clause-merged : goal.returns-clause-merged
returns-clause-merged c s a b w = merge_in_parts s w a b

pub returns-clause-dissolved : goal.returns-clause-dissolved
returns-clause-dissolved c s r w = dissolve_in_parts s w r

pub returns-clause-frozen : goal.returns-clause-frozen
returns-clause-frozen c s v w = freeze_in_parts s w v

pub returns-clause-closed : goal.returns-clause-closed
returns-clause-closed c s at r w = close_in_parts s w at r
