use Rattle.std.proofs.Common.{refl, ◌+◌, ◌-◌}
use Rattle.lf_base.specs.TakeResult.{drop_field}
use Rattle.lf_base.specs.WriteResult.{put_field}
use Rattle.lf_graph.specs.RowChanges.{with_fields, with_refs}
use Rattle.lf_graph.proofs.Stores.Changes.{found_changed, found_moved_last, found_with_row, found_without_row}
use Rattle.lf_graph.proofs.laws.rows_found.Goals as goal

pub returns-clause-with_field : goal.returns-clause-with_field
returns-clause-with_field c rows o k v q = found_changed o (λ r. with_fields (put_field (r.row).fields k v) r) (λ r. refl) rows q

pub returns-clause-without_field : goal.returns-clause-without_field
returns-clause-without_field c rows o k q = found_changed o (λ r. with_fields (drop_field (r.row).fields k) r) (λ r. refl) rows q

pub returns-clause-raised : goal.returns-clause-raised
returns-clause-raised c rows o q = found_changed o (λ r. with_refs (r.refs + 1) r) (λ r. refl) rows q

pub returns-clause-lowered : goal.returns-clause-lowered
returns-clause-lowered c rows o q = found_changed o (λ r. with_refs (r.refs - 1) r) (λ r. refl) rows q

pub returns-clause-with_row : goal.returns-clause-with_row
returns-clause-with_row c rows o w q new = found_with_row rows o w new q

pub returns-clause-without_row : goal.returns-clause-without_row
returns-clause-without_row c rows o q = found_without_row rows o q

pub returns-clause-moved_last : goal.returns-clause-moved_last
returns-clause-moved_last c rows o w q = found_moved_last rows o w q
