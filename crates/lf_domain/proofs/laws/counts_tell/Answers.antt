use Rattle.std.proofs.Common.{sym, ◌∙◌}
use Rattle.lf_base.specs.EdgeLists.{near_edges}
use Rattle.lf_domain.proofs.BridgeNames.{names_are_bridges}
use Rattle.lf_laws.proofs.Edges.FrozenEdges.{near_borrowed}
use Rattle.lf_domain.proofs.NearCounts.{from_near}
use Rattle.lf_domain.proofs.NewRowCounts.{borrowed_told}
use Rattle.lf_domain.proofs.laws.counts_tell.Goals as goal

pub returns-clause-refs : goal.returns-clause-refs
returns-clause-refs c rows regions s o well counts = ((from_near s well rows regions counts).store).refs o

pub returns-clause-borrowed : goal.returns-clause-borrowed
returns-clause-borrowed c rows regions s r well counts = borrowed_told s well rows regions counts r ∙ sym (near_borrowed s well r)

pub returns-clause-owned : goal.returns-clause-owned
returns-clause-owned c rows regions s r well counts = ((from_near s well rows regions counts).table).owned r

pub returns-clause-names : goal.returns-clause-names
returns-clause-names c rows regions s well counts order = names_are_bridges s regions (near_edges s) well.rows_rise order counts.table
