use Rattle.std.proofs.Common.{ap, sym, ◌∙◌}
use Rattle.std.specs.Prelude.{slice_get}
use Rattle.std.specs.Option.{option_copied, option_map}
use Rattle.lf_graph.specs.StoredRows.{plain, rows_by_name}
use Rattle.lf_parcel.specs.Parcels.{RegionTree, parts_seen, rows_of_parts}
use Rattle.lf_parcel.specs.RowsTold.{row_told}
use Rattle.lf_parcel.proofs.Orders.RowsAtSpots.{no_row, parts_lent, row_is_told, spot_lent}
use Rattle.lf_parcel.proofs.parcel.Parcel.row_at.Goals as goal

pub spot_at-requires-clause-parts : goal.spot_at-requires-clause-parts
spot_at-requires-clause-parts g c κs within = parts_lent g.S.Store.part_region g.S.Store.part_rows c.self.inside.heads c.self.inside.parts.items c.self.inside.order.items c.self.inside.root (rows_by_name (plain (rows_of_parts (parts_seen g.S.Store.part_region g.S.Store.part_rows c.self.inside.parts.items)))) c.self.invariant c.deref.result.now c.deref.ensures.value

pub returns-in_default : goal.returns-in_default
returns-in_default g c =
    let is = spot_lent g.S.Store.part_region g.S.Store.part_rows c.self.inside.heads c.self.inside.parts.items c.self.inside.order.items c.self.inside.root (rows_by_name (plain (rows_of_parts (parts_seen g.S.Store.part_region g.S.Store.part_rows c.self.inside.parts.items)))) c.self.invariant c.deref.result.now c.deref-2.result.now c.args.at c.spot_at.result c.deref.ensures.value c.deref-2.ensures.value c.spot_at.ensures in
    sym (ap (option_map (row_told (record { root = c.self.inside.root; rows = rows_by_name (plain (rows_of_parts (parts_seen g.S.Store.part_region g.S.Store.part_rows c.self.inside.parts.items))) }))) (no_row g.S.Store.part_region g.S.Store.part_rows c.self.inside.heads c.self.inside.parts.items c.self.inside.order.items c.self.inside.root (rows_by_name (plain (rows_of_parts (parts_seen g.S.Store.part_region g.S.Store.part_rows c.self.inside.parts.items)))) c.self.invariant c.args.at c.spot_at.result is c.in_default.is))
    ∙ ap (λ (t : RegionTree). option_map (row_told t) (slice_get t.rows c.args.at)) c.self.view_is

pub returns : goal.returns
returns g c =
    let is = spot_lent g.S.Store.part_region g.S.Store.part_rows c.self.inside.heads c.self.inside.parts.items c.self.inside.order.items c.self.inside.root (rows_by_name (plain (rows_of_parts (parts_seen g.S.Store.part_region g.S.Store.part_rows c.self.inside.parts.items)))) c.self.invariant c.deref.result.now c.deref-2.result.now c.args.at c.spot_at.result c.deref.ensures.value c.deref-2.ensures.value c.spot_at.ensures in
    row_is_told g.S.Store.part_region g.S.Store.part_rows c.self.inside.heads c.self.inside.parts.items c.self.inside.order.items c.self.inside.root (rows_by_name (plain (rows_of_parts (parts_seen g.S.Store.part_region g.S.Store.part_rows c.self.inside.parts.items)))) c.self.invariant c.args.at c.spot_at.result c.in-Some.spot is c.in-Some.is c.deref-in-Some-get.result.now c.in-Some-get.region.now c.head_at.result c.deref-in-Some-get.ensures.value (sym c.get.ensures ∙ ap option_copied c.in-Some-get.is) c.head_at.ensures
    ∙ ap (λ (t : RegionTree). option_map (row_told t) (slice_get t.rows c.args.at)) c.self.view_is
