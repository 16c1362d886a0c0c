use Rattle.std.proofs.Common.{[], not, refl, ◌+◌, ◌-◌, ◌∷◌}
use Rattle.lf_base.specs.TakeResult.{drop_field}
use Rattle.lf_base.specs.WriteResult.{put_field}
use Rattle.lf_graph.specs.RowChanges.{new_row, with_fields, with_refs}
use Rattle.lf_graph.specs.StoredRows.{is_named, is_under}
use Rattle.lf_graph.proofs.Stores.Changes.{at_keeps_owner, same_append, same_filter, same_map, same_moved}
use Rattle.lf_graph.proofs.Stores.Reordered.{found_reordered, reordered_by_owner}
use Rattle.lf_graph.proofs.laws.same_changes.Goals as goal

pub returns-clause-with_field : goal.returns-clause-with_field
returns-clause-with_field c xs ys o k v same = same_map xs ys same _ (at_keeps_owner o (λ r. with_fields (put_field (r.row).fields k v) r) (λ r. refl))

pub returns-clause-without_field : goal.returns-clause-without_field
returns-clause-without_field c xs ys o k same = same_map xs ys same _ (at_keeps_owner o (λ r. with_fields (drop_field (r.row).fields k) r) (λ r. refl))

pub returns-clause-raised : goal.returns-clause-raised
returns-clause-raised c xs ys o same = same_map xs ys same _ (at_keeps_owner o (λ r. with_refs (r.refs + 1) r) (λ r. refl))

pub returns-clause-lowered : goal.returns-clause-lowered
returns-clause-lowered c xs ys o same = same_map xs ys same _ (at_keeps_owner o (λ r. with_refs (r.refs - 1) r) (λ r. refl))

pub returns-clause-with_row : goal.returns-clause-with_row
returns-clause-with_row c xs ys o w same = same_append xs ys same (new_row o w ∷ [])

pub returns-clause-without_row : goal.returns-clause-without_row
returns-clause-without_row c xs ys o same = same_filter xs ys same (λ r. not (is_named o r))

pub returns-clause-moved_last : goal.returns-clause-moved_last
returns-clause-moved_last c xs ys o w same d = same_moved xs ys o w same (found_reordered o (reordered_by_owner xs ys same) d)

pub returns-clause-outside : goal.returns-clause-outside
returns-clause-outside c xs ys w same = same_filter xs ys same (λ r. not (is_under w r))

pub returns-clause-with_part : goal.returns-clause-with_part
returns-clause-with_part c xs ys part same = same_append xs ys same part
