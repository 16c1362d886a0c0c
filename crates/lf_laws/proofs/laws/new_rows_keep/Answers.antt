use Rattle.std.proofs.Common.{inl, inr, refl}
use Rattle.lf_base.specs.PlainChanges.{next_object}
use Rattle.lf_base.specs.declared.values.Owner.TheVariants.{In, Local}
use Rattle.lf_laws.proofs.Changes.NewRows.{new_row_keeps}
use Rattle.lf_laws.proofs.laws.new_rows_keep.Goals as goal

pub returns-clause-object : goal.returns-clause-object
returns-clause-object c s t = new_row_keeps s Local t (inl refl)

pub returns-clause-region : goal.returns-clause-region
returns-clause-region c s t = new_row_keeps s (In (next_object s)) t (inr refl)
