use Rattle.std.proofs.Common.{ap, sym, ◌∙◌}
use Rattle.std.specs.Prelude.{slice_get}
use Rattle.lf_graph.specs.StoredRows.{plain, rows_by_name}
use Rattle.lf_parcel.specs.Parcels.{RegionTree, parts_seen, rows_of_parts}
use Rattle.lf_parcel.specs.RowsTold.{fields_told}
use Rattle.lf_parcel.proofs.Orders.RowsAtSpots.{field_is_told, no_row, parts_lent, spot_lent}
use Rattle.lf_parcel.proofs.parcel.Parcel.field_at.Goals as goal

pub spot_at-requires-clause-parts : goal.spot_at-requires-clause-parts
spot_at-requires-clause-parts g c κs within = parts_lent g.S.Store.part_region g.S.Store.part_rows c.self.inside.heads c.self.inside.parts.items c.self.inside.order.items c.self.inside.root (rows_by_name (plain (rows_of_parts (parts_seen g.S.Store.part_region g.S.Store.part_rows c.self.inside.parts.items)))) c.self.invariant c.deref.result.now c.deref.ensures.value

pub returns-in_default : goal.returns-in_default
returns-in_default g c =
    let is = spot_lent g.S.Store.part_region g.S.Store.part_rows c.self.inside.heads c.self.inside.parts.items c.self.inside.order.items c.self.inside.root (rows_by_name (plain (rows_of_parts (parts_seen g.S.Store.part_region g.S.Store.part_rows c.self.inside.parts.items)))) c.self.invariant c.deref.result.now c.deref-2.result.now c.args.at c.spot_at.result c.deref.ensures.value c.deref-2.ensures.value c.spot_at.ensures in
    sym (ap (λ x. slice_get (fields_told x) c.args.field) (no_row g.S.Store.part_region g.S.Store.part_rows c.self.inside.heads c.self.inside.parts.items c.self.inside.order.items c.self.inside.root (rows_by_name (plain (rows_of_parts (parts_seen g.S.Store.part_region g.S.Store.part_rows c.self.inside.parts.items)))) c.self.invariant c.args.at c.spot_at.result is c.in_default.is))
    ∙ ap (λ (t : RegionTree). slice_get (fields_told (slice_get t.rows c.args.at)) c.args.field) c.self.view_is

pub returns : goal.returns
returns g c =
    let is = spot_lent g.S.Store.part_region g.S.Store.part_rows c.self.inside.heads c.self.inside.parts.items c.self.inside.order.items c.self.inside.root (rows_by_name (plain (rows_of_parts (parts_seen g.S.Store.part_region g.S.Store.part_rows c.self.inside.parts.items)))) c.self.invariant c.deref.result.now c.deref-2.result.now c.args.at c.spot_at.result c.deref.ensures.value c.deref-2.ensures.value c.spot_at.ensures in
    field_is_told g.S.Store.part_region g.S.Store.part_rows c.self.inside.heads c.self.inside.parts.items c.self.inside.order.items c.self.inside.root (rows_by_name (plain (rows_of_parts (parts_seen g.S.Store.part_region g.S.Store.part_rows c.self.inside.parts.items)))) c.self.invariant c.args.at c.spot_at.result c.in-Some.spot is c.in-Some.is c.deref-3.result.now c.args.field c.field_at.result c.deref-3.ensures.value c.field_at.ensures
    ∙ ap (λ (t : RegionTree). slice_get (fields_told (slice_get t.rows c.args.at)) c.args.field) c.self.view_is
