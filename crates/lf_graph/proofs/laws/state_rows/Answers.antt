use Rattle.std.proofs.Common.{not, refl, ◌+◌, ◌-◌}
use Rattle.lf_base.specs.Names.{same_name, same_owner}
use Rattle.lf_base.specs.TakeResult.{drop_field}
use Rattle.lf_base.specs.WriteResult.{put_field}
use Rattle.lf_graph.specs.RowChanges.{with_refs}
use Rattle.lf_graph.proofs.Stores.StateRows.{counts_store, fields_store, filtered_store, inserted_store, moved_store, part_store, same_store}
use Rattle.lf_graph.proofs.laws.state_rows.Goals as goal

pub returns-clause-with_field : goal.returns-clause-with_field
returns-clause-with_field c rows new of o k v a same = same_store _ new _ (fields_store rows of o (λ fs. put_field fs k v) a) same

pub returns-clause-without_field : goal.returns-clause-without_field
returns-clause-without_field c rows new of o k a same = same_store _ new _ (fields_store rows of o (λ fs. drop_field fs k) a) same

pub returns-clause-raised : goal.returns-clause-raised
returns-clause-raised c rows new of o a same = same_store _ new _ (counts_store rows of o (λ r. with_refs (r.refs + 1) r) (λ r. refl) a) same

pub returns-clause-lowered : goal.returns-clause-lowered
returns-clause-lowered c rows new of o a same = same_store _ new _ (counts_store rows of o (λ r. with_refs (r.refs - 1) r) (λ r. refl) a) same

pub returns-clause-unchanged : goal.returns-clause-unchanged
returns-clause-unchanged c rows new of a same = same_store rows new of a same

pub returns-clause-with_row : goal.returns-clause-with_row
returns-clause-with_row c rows new of o w a fresh same = same_store _ new _ (inserted_store rows of o w a fresh) same

pub returns-clause-without_row : goal.returns-clause-without_row
returns-clause-without_row c rows new of o a same = same_store _ new _ (filtered_store rows of a (λ r. not (same_name r.name o))) same

pub returns-clause-moved_last : goal.returns-clause-moved_last
returns-clause-moved_last c rows new of o w a same = same_store _ new _ (moved_store rows of o w a) same

pub returns-clause-outside : goal.returns-clause-outside
returns-clause-outside c rows new of w a same = same_store _ new _ (filtered_store rows of a (λ r. not (same_owner r.owner w))) same

pub returns-clause-with_part : goal.returns-clause-with_part
returns-clause-with_part c rows new part of a d fresh same = same_store _ new _ (part_store part rows of a d fresh) same
