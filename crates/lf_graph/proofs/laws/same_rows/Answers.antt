use Rattle.lf_graph.proofs.Stores.Reordered.{differ_reordered, found_reordered, in_order_reordered, reordered_by_owner}
use Rattle.lf_graph.proofs.laws.same_rows.Goals as goal

pub returns-clause-found : goal.returns-clause-found
returns-clause-found c xs ys o same d = found_reordered o (reordered_by_owner xs ys same) d

pub returns-clause-differ : goal.returns-clause-differ
returns-clause-differ c xs ys same d = differ_reordered (reordered_by_owner xs ys same) d

pub returns-clause-in_order : goal.returns-clause-in_order
returns-clause-in_order c xs ys same d = in_order_reordered (reordered_by_owner xs ys same) d
