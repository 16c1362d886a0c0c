-- The stored rows of a content's tree, region after region.
use Rattle.std.specs.Prelude.{List, flat_map, ◌≡◌}
use Rattle.lf_base.specs.declared.ids.CownId.{CownId}
use Rattle.lf_base.specs.declared.ids.ObjId.{ObjId}
use Rattle.lf_base.specs.declared.values.Owner.TheVariants.{In}
use Rattle.lf_base.specs.declared.values.Value.{Value}
use Rattle.lf_base.specs.ContentTrees.{regions_from}
use Rattle.lf_base.specs.Contents.{part}
use Rattle.lf_base.specs.Names.{same_name}
use Rattle.lf_base.specs.Owners.{bridge_of, has_name}
use Rattle.lf_base.specs.PlainState.{State}
use Rattle.lf_base.specs.Sets.{Differ}
use Rattle.lf_graph.specs.StoredRows.{CountedRow, rows_of}
use Rattle.lf_parcel.specs.Packed.{Packed}

-- the rows of these regions, as their parts have them
abbrev pub rows_in_regions : List ObjId → List CountedRow → List CountedRow
rows_in_regions qs stored = flat_map (λ q. rows_of (In q) stored) qs

-- the list has each region of the value's tree once, and no others
pub record ListsTree (s : State) (v : Value) (qs : List ObjId) : Type 0 where
  pub differ : Differ same_name qs
  pub same : (q : ObjId) → has_name qs q ≡ has_name (regions_from s (bridge_of s v)) q

-- a content of a state, with stored rows
abbrev pub packed_by : State → CownId × Value → List CountedRow → Packed
packed_by e c rows = record { cown = c.0; content = record { value = c.1; rows = part e c }; stored = rows }
