-- What the tables hold that keep the chains: each row with its links, the ends of each owner's rows, and room for more.
use Rattle.std.specs.Prelude.{List, Option, Some, ℕ, ◌≡◌}
use Rattle.std.specs.HashMap.{spare}
use Rattle.lf_base.specs.declared.ids.ObjId.{ObjId}
use Rattle.lf_base.specs.declared.values.Owner.{Owner}
use Rattle.lf_base.specs.declared.values.Owner.TheVariants.{Frozen, In, Local}
use Rattle.lf_graph.specs.declared.chains.Chains.{Chains}
use Rattle.lf_graph.specs.declared.ends.Ends.{Ends}
use Rattle.lf_graph.specs.declared.owner_ends.OwnerEnds.{OwnerEnds}
use Rattle.lf_graph.specs.declared.row_table.RowTable.{RowTable}
use Rattle.lf_graph.specs.declared.stored_row.Linked.{Linked}
use Rattle.lf_graph.specs.Chains.{AreChains}
use Rattle.lf_graph.specs.RegionEnds.{region_ends}
use Rattle.lf_graph.specs.RowTables.{heads_in, row_room, slab_key_of}

-- each row with its neighbours
abbrev pub heads_of : RowTable → ObjId → Option Linked
heads_of table o = heads_in table.rows table.index o

-- the row of that name stands at that place of the table
abbrev pub IsPlaceOf : RowTable → ObjId → ℕ → Type 0
IsPlaceOf table o place = slab_key_of table.index o ≡ Some place

-- so many more rows have room
abbrev pub room_of : RowTable → ℕ
room_of table = row_room table.rows table.index

-- the ends of an owner's rows
abbrev pub ends_of : OwnerEnds → Owner → Option Ends
ends_of t Local = t.local
ends_of t (In r) = region_ends (t.regions).ends r
ends_of t Frozen = t.frozen

-- so many more owners have room
abbrev pub ends_room : OwnerEnds → ℕ
ends_room t = spare (t.regions).ends

-- the rows of each owner are its list, in this order
abbrev pub HasLists : Chains → (Owner → List ObjId) → Type 0
HasLists t lists = AreChains (heads_of t.rows) (ends_of t.ends) lists

-- whatever the list of each owner is before a call, it is afterwards what `change` makes of it
abbrev pub ListsBecome : Chains → Chains → ((Owner → List ObjId) → Owner → List ObjId) → Type 0
ListsBecome old new change = (lists : Owner → List ObjId) → HasLists old lists → HasLists new (change lists)
