-- What is told of a parcel's rows, one by one.
use Rattle.std.specs.Prelude.{List, None, Option, Some, [], length}
use Rattle.lf_base.specs.declared.ids.ObjId.{ObjId}
use Rattle.lf_base.specs.declared.values.Key.{Key}
use Rattle.lf_base.specs.declared.values.Owner.{Owner}
use Rattle.lf_base.specs.declared.values.Owner.TheVariants.{Frozen, In, Local}
use Rattle.lf_base.specs.declared.values.Value.{Value}
use Rattle.lf_base.specs.ContentTrees.{refs_in}
use Rattle.lf_base.specs.PlainState.{Row}
use Rattle.lf_graph.specs.declared.store.RowHead.{RowHead}
use Rattle.lf_parcel.specs.Parcels.{RegionTree}

-- the region of that owner; each row of a parcel lies in one, and for others o stands
abbrev pub region_or : ObjId → Owner → ObjId
region_or o (In r) = r
region_or o Local = o
region_or o Frozen = o

-- the name of the row's region, and the row's name, its number of fields, and its count in the tree
abbrev pub row_told : RegionTree → Row → ObjId × RowHead
row_told tree x = (region_or x.name x.owner, record { name = x.name; width = length x.fields; refs = refs_in tree.rows tree.root x.name })

-- the fields of a row, where there is one
abbrev pub fields_told : Option Row → List (Key × Value)
fields_told None = []
fields_told (Some x) = x.fields
