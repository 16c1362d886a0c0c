-- What contracts say of the pools.
use Rattle.std.specs.Prelude.{List, ℕ}
use Rattle.slab.specs.Slab.{get}
use Rattle.lf_base.specs.declared.values.Owner.{Owner}
use Rattle.lf_graph.specs.StoredRows.{CountedRow}
use Rattle.lf_poolstore.specs.declared.pools.Pools.{Pools}
use Rattle.lf_poolstore.specs.Index.{index_room}
use Rattle.lf_poolstore.specs.Pools.{Numbers, number_of, slot_rows, spare_by, unit_of}

-- all rows, unit by unit
abbrev pub pool_rows : Pools → List CountedRow
pool_rows p = slot_rows p.units.slots

-- the number of an owner's unit, where it has one
abbrev pub pool_number : Pools → Numbers
pool_number p = number_of p.owners.local p.owners.frozen p.owners.regions

-- so many cells have room under an owner
abbrev pub pool_spare : Pools → Owner → ℕ
pool_spare p w = spare_by (index_room p.index) (unit_of (number_of p.owners.local p.owners.frozen p.owners.regions) (get p.units) w)
