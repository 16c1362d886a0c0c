-- The regions below one, found region by region in room that was made before; and values that lead into them.
use Rattle.std.specs.Prelude.{Bool, List, length, true, ◌+◌, ◌≡◌, ◌≤◌}
use Rattle.indexmap.specs.IndexSet.{IndexSet, spare}
use Rattle.lf_base.specs.declared.ids.ObjId.{ObjId}
use Rattle.lf_base.specs.Names.{same_name}
use Rattle.lf_base.specs.Owners.{has_name}
use Rattle.lf_base.specs.Sets.{Differ}
use Rattle.lf_barrier.specs.Descents.{is_child}
use Rattle.lf_graph.specs.StoredRows.{CountedRow, HasRow, owner_at}
use Rattle.lf_transfer.specs.Taking.{Takes}

-- the object is the bridge of a region other than q
abbrev pub is_bridge_beside : List CountedRow → ObjId → ObjId → Bool
is_bridge_beside rows q o = is_child q o (owner_at rows o)

-- the set has names of rows, each once, and room for those of all others
pub record HoldsRowNames {H : Type 0} (rows : List CountedRow) (names : IndexSet ObjId H) : Type 0 where
  pub differ : Differ same_name names.keys
  pub there : (o : ObjId) → has_name names.keys o ≡ true → HasRow rows o
  pub room : length rows ≤ length names.keys + spare names

-- the bridges of regions other than q among these objects were put into the set, which can hold as many names as before
pub record FindsBridges {H : Type 0} (rows : List CountedRow) (q : ObjId) (os : List ObjId) (before after : IndexSet ObjId H) : Type 0 where
  pub takes : Takes (is_bridge_beside rows q) os before.keys after.keys
  pub capacity : length before.keys + spare before ≤ length after.keys + spare after
