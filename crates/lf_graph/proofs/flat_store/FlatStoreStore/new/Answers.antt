use Rattle.lf_graph.proofs.FlatStores.FlatSteps.{flat_empty, rows_empty}
use Rattle.lf_graph.proofs.LinkedRows.ChainLemmas.{no_row}
use Rattle.lf_graph.proofs.flat_store.FlatStoreStore.new.Goals as goal

pub invariant_of-result : goal.invariant_of-result
invariant_of-result c = flat_empty c.new.result c.new-2.result c.new.ensures.lists (λ o. no_row _ (c.new.ensures.rows o)) c.new-2.ensures

pub returns : goal.returns
returns c = rows_empty c.new.result c.new-2.result c.new.ensures.lists (λ o. no_row _ (c.new.ensures.rows o)) c.new-2.ensures
