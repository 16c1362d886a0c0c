use Rattle.std.proofs.Common.{inl, inr, refl}
use Rattle.lf_base.specs.PlainChanges.{next_object}
use Rattle.lf_base.specs.declared.values.Owner.TheVariants.{In, Local}
use Rattle.lf_laws.proofs.KeptStates.NewCownKept.{cown_drops_nothing}
use Rattle.lf_laws.proofs.KeptStates.NothingDropped.{more_slots, new_row_stays, slot_more}
use Rattle.lf_laws.proofs.kept_laws.nothing_dropped.Goals as goal

pub returns-clause-slots : goal.returns-clause-slots
returns-clause-slots c = more_slots

pub returns-clause-slot : goal.returns-clause-slot
returns-clause-slot c = slot_more

pub returns-clause-object : goal.returns-clause-object
returns-clause-object c s t = new_row_stays s Local t (inl refl)

pub returns-clause-region : goal.returns-clause-region
returns-clause-region c s t = new_row_stays s (In (next_object s)) t (inr refl)

pub returns-clause-cown : goal.returns-clause-cown
returns-clause-cown c = cown_drops_nothing

pub returns-clause-first : goal.returns-clause-first
returns-clause-first c birth given = refl
