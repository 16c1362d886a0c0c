use Rattle.std.proofs.Common.{[], inl, refl, subst, sym}
use Rattle.lf_base.specs.declared.values.Owner.TheVariants.{Local}
use Rattle.lf_base.specs.PlainChanges.{first_state}
use Rattle.lf_domain.specs.Counts.{CountsOf}
use Rattle.lf_domain.proofs.NewRowCounts.{next_has_no_region, next_is_new, none_counted, object_counts, region_counts}
use Rattle.lf_domain.proofs.laws.new_rows_are_counted.Goals as goal

pub returns-clause-new : goal.returns-clause-new
returns-clause-new c rows regions s well counts = next_is_new s well rows regions counts Local (inl refl)

pub returns-clause-no_region : goal.returns-clause-no_region
returns-clause-no_region c rows regions s well counts = next_has_no_region s well rows regions counts Local (inl refl)

pub returns-clause-none : goal.returns-clause-none
returns-clause-none c rows regions birth given no_rows no_regions =
    subst (λ l. CountsOf l regions (first_state birth given)) (sym no_rows) (subst (λ l. CountsOf [] l (first_state birth given)) (sym no_regions) (none_counted birth given))

pub returns-clause-object : goal.returns-clause-object
returns-clause-object c rows next regions s well counts = object_counts s well rows regions counts next

pub returns-clause-region : goal.returns-clause-region
returns-clause-region c rows next regions s well counts = region_counts s well rows regions counts next
