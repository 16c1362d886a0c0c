use Rattle.lf_base.specs.TakeResult.{drop_field}
use Rattle.lf_base.specs.WriteResult.{put_field}
use Rattle.lf_domain.proofs.FieldCounts.{refilled_counts, table_of_owners}
use Rattle.lf_domain.proofs.laws.fields_count_nothing.Goals as goal

pub returns-clause-set : goal.returns-clause-set
returns-clause-set c rows new regions of es o k v = refilled_counts o (λ fs. put_field fs k v) rows new regions of es

pub returns-clause-taken : goal.returns-clause-taken
returns-clause-taken c rows new regions of es o k = refilled_counts o (λ fs. drop_field fs k) rows new regions of es

pub returns-clause-owners : goal.returns-clause-owners
returns-clause-owners c regions xs ys es owners = table_of_owners xs ys owners regions es
