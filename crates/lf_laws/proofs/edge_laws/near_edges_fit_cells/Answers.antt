use Rattle.lf_laws.proofs.Edges.Cells.{cells_close, cells_content, cells_freeze, cells_made, cells_region, cells_row, cells_slot, cells_take, cells_without, cells_write, near_fit}
use Rattle.lf_laws.proofs.edge_laws.near_edges_fit_cells.Goals as goal

pub returns-clause-fit : goal.returns-clause-fit
returns-clause-fit c = near_fit

pub returns-clause-slot : goal.returns-clause-slot
returns-clause-slot c = cells_slot

pub returns-clause-made : goal.returns-clause-made
returns-clause-made c = cells_made

pub returns-clause-written : goal.returns-clause-written
returns-clause-written c = cells_write

pub returns-clause-taken : goal.returns-clause-taken
returns-clause-taken c = cells_take

pub returns-clause-content : goal.returns-clause-content
returns-clause-content c = cells_content

pub returns-clause-row : goal.returns-clause-row
returns-clause-row c = cells_row

pub returns-clause-region : goal.returns-clause-region
returns-clause-region c = cells_region

pub returns-clause-closed : goal.returns-clause-closed
returns-clause-closed c = cells_close

pub returns-clause-frozen : goal.returns-clause-frozen
returns-clause-frozen c = cells_freeze

pub returns-clause-dropped : goal.returns-clause-dropped
returns-clause-dropped c = cells_without
