use Rattle.lf_graph.specs.StoredRows.{plain, rows_by_name}
use Rattle.lf_parcel.specs.Parcels.{parts_seen, rows_of_parts}
use Rattle.lf_parcel.proofs.Orders.RowsAtSpots.{parts_lent}
use Rattle.lf_parcel.proofs.parcel.Parcel.put_in_order.Goals as goal

pub spots_by_name-requires-clause-parts : goal.spots_by_name-requires-clause-parts
spots_by_name-requires-clause-parts g c κs within = parts_lent g.S.Store.part_region g.S.Store.part_rows c.self.inside.heads c.self.inside.parts.items c.self.inside.order.items c.self.inside.root (rows_by_name (plain (rows_of_parts (parts_seen g.S.Store.part_region g.S.Store.part_rows c.self.inside.parts.items)))) c.self.invariant c.deref.result.now c.deref.ensures.value
