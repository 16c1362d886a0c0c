use Rattle.lf_laws.proofs.Changes.FurtherSlot.{slot_law}
use Rattle.lf_laws.proofs.laws.further_slot.Goals as goal

pub returns : goal.returns
returns c = slot_law
