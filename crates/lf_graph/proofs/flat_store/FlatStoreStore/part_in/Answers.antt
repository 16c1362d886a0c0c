use Rattle.std.proofs.Common.{ap, map, subst, sym, ◌∙◌, ◌≤◌, ◌≡◌}
use Rattle.lf_graph.specs.FlatParts.{part_cells, part_row, rows_cells}
use Rattle.lf_graph.specs.Parts.{AllNew}
use Rattle.lf_graph.proofs.FlatStores.PartMoves.{enough_room, same_all_new}
use Rattle.lf_graph.proofs.FlatStores.PartRows.{cells_of_part}
use Rattle.lf_graph.proofs.flat_store.FlatStoreStore.part_in.Goals as goal

pub put_rows-requires-clause-new : goal.put_rows-requires-clause-new
put_rows-requires-clause-new c =
    same_all_new (map (part_row c.region.result) c.rows.result.now) c.make_room.new.self.rows c.args.self.now.rows c.make_room.ensures.rows
    (subst (λ p. AllNew p c.args.self.now.rows) (c.rows.ensures.rows ∙ ap (λ r. map (part_row r) c.rows.result.now) (sym c.region.ensures)) c.requires.new)

pub put_rows-requires-clause-room : goal.put_rows-requires-clause-room
put_rows-requires-clause-room c =
    let n : part_cells c.args.part.rows ≡ rows_cells c.rows.result.now = ap part_cells c.rows.ensures.rows ∙ cells_of_part c.args.part.region c.rows.result.now in
    subst (λ x. x ≤ c.make_room.new.self.spare) n (enough_room c.cells.result (part_cells c.args.part.rows) c.make_room.new.self.spare c.cells.ensures c.in-Ok.ensures.enough c.in-Ok.ensures.some)
