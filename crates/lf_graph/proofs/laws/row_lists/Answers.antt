use Rattle.lf_graph.proofs.Stores.RowLists.{dropped_at_once, same_dropped, same_moved_rows, state_dropped, state_moved}
use Rattle.lf_graph.proofs.laws.row_lists.Goals as goal

pub returns-clause-dropped : goal.returns-clause-dropped
returns-clause-dropped c rows os = dropped_at_once rows os

pub returns-clause-same_dropped : goal.returns-clause-same_dropped
returns-clause-same_dropped c xs ys os same = same_dropped xs ys os same

pub returns-clause-same_moved : goal.returns-clause-same_moved
returns-clause-same_moved c xs ys os w same d = same_moved_rows xs ys os w same d

pub returns-clause-state_dropped : goal.returns-clause-state_dropped
returns-clause-state_dropped c rows new of os a same = state_dropped rows new of os a same

pub returns-clause-state_moved : goal.returns-clause-state_moved
returns-clause-state_moved c rows new of os w a same = state_moved rows new of os w a same
