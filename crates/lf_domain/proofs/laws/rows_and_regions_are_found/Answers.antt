use Rattle.std.proofs.Common.{sym, ◌∙◌}
use Rattle.lf_graph.proofs.Stores.StateRows.{found_of}
use Rattle.lf_domain.proofs.CountedEdges.{region_there}
use Rattle.lf_domain.proofs.StoreEdges.{field_told, owner_told, row_told}
use Rattle.lf_domain.proofs.laws.rows_and_regions_are_found.Goals as goal

pub returns-clause-row : goal.returns-clause-row
returns-clause-row c rows regions of es o counts = found_of rows of o (counts.store).rows

pub returns-clause-there : goal.returns-clause-there
returns-clause-there c rows regions of es o counts = row_told rows of o (counts.store).rows

pub returns-clause-owner : goal.returns-clause-owner
returns-clause-owner c rows regions of es o counts = sym (owner_told rows of o (counts.store).rows)

pub returns-clause-region : goal.returns-clause-region
returns-clause-region c rows regions of es o r counts have k = region_there rows regions of es o counts have r (sym (owner_told rows of o (counts.store).rows) ∙ k)

pub returns-clause-field : goal.returns-clause-field
returns-clause-field c rows regions of es o k counts = field_told rows of o k (counts.store).rows
