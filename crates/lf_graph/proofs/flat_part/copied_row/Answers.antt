use Rattle.std.proofs.Common.{refl, subst}
use Rattle.lf_graph.specs.Cells.{cells_of, walked_keys}
use Rattle.lf_graph.specs.ChainMaps.{heads_of}
use Rattle.lf_graph.specs.FlatRows.{KeepsFields}
use Rattle.lf_graph.proofs.FlatStores.PartRows.{copies_row, is_part_row}
use Rattle.lf_graph.proofs.flat_part.copied_row.Goals as goal

pub returns-clause-part : goal.returns-clause-part
returns-clause-part c =
    let cells = cells_of c.args.cells.now in
    let keys = walked_keys cells c.args.o c.row-stored.result.now.fields in
    let list = subst (KeepsFields cells c.args.o) c.row-stored.ensures (c.requires.flat.fields c.args.o) in
    is_part_row cells c.args.o c.row-stored.result.now.fields keys _ list refl (c.in_ok-fields.ensures keys list)

pub returns-clause-copy : goal.returns-clause-copy
returns-clause-copy c =
    let cells = cells_of c.args.cells.now in
    let list = subst (KeepsFields cells c.args.o) c.row-stored.ensures (c.requires.flat.fields c.args.o) in
    copies_row (heads_of c.args.chains.now.rows) cells c.args.o c.row-stored.result.now c.in_ok-fields.fields c.row-stored.ensures (c.in_ok-fields.ensures (walked_keys cells c.args.o c.row-stored.result.now.fields) list)
