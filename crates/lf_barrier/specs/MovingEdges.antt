-- What has to hold where the edges of rows that move are taken out of the counts, the rows given to a region, and the edges counted again.
use Rattle.std.specs.Prelude.{List, Some, length, map, true, false, ◌+◌, ◌++◌, ◌<◌, ◌^◌, ◌≡◌}
use Rattle.lf_base.specs.declared.ids.ObjId.{ObjId}
use Rattle.lf_base.specs.declared.values.Key.{Key}
use Rattle.lf_base.specs.declared.values.Owner.TheVariants.{In, Local}
use Rattle.lf_base.specs.declared.values.Value.{Value}
use Rattle.lf_base.specs.EdgeLists.{SameEdges, begins_at}
use Rattle.lf_base.specs.Edges.{Edge, Field, edges_by, field_targets}
use Rattle.lf_base.specs.Names.{same_key, same_name}
use Rattle.lf_base.specs.Owners.{has_name, owner_in, row_at}
use Rattle.lf_base.specs.PlainState.{Row}
use Rattle.lf_base.specs.Sets.{Differ, Member}
use Rattle.lf_base.specs.TouchedEdges.{edges_from, row_fields}
use Rattle.lf_base.specs.WalkCounts.{is_borrower}
use Rattle.lf_domain.specs.Counts.{Counts}
use Rattle.lf_domain.specs.OneEdge.{HaveBridges, OnlyBridges}
use Rattle.lf_graph.specs.StoredRows.{CountedRow}
use Rattle.lf_regions.specs.declared.region.Region.{Region}

-- the fields of the row of that name
abbrev pub fields_in : List Row → ObjId → List (Key × Value)
fields_in of o = row_fields (row_at of o)

-- the objects that the fields of that row refer to
abbrev pub targets_in : List Row → ObjId → List ObjId
targets_in of o = field_targets (fields_in of o)

-- the keys of one row differ
abbrev pub RowKeysDiffer : List Row → Type 0
RowKeysDiffer of = (o : ObjId) → Differ same_key (map (λ f. f.0) (fields_in of o))

-- counts of edges of which those of the local row p may be taken out; `fs` are the other ones
pub record MayUncountRow (rows : List CountedRow) (regions : List Region) (of : List Row) (es fs : List Edge) (p : ObjId) : Type 0 where
  pub counts : Counts rows regions of es
  pub bridges : HaveBridges of
  pub keys : RowKeysDiffer of
  pub local : owner_in of p ≡ Some Local
  pub edges : SameEdges es (edges_by (Field p) (targets_in of p) ++ fs)

-- the same of local rows of these names
pub record MayUncountRows (rows : List CountedRow) (regions : List Region) (of : List Row) (es fs : List Edge)
    (os : List ObjId) : Type 0 where
  pub counts : Counts rows regions of es
  pub bridges : HaveBridges of
  pub keys : RowKeysDiffer of
  pub local : (o : ObjId) → has_name os o ≡ true → owner_in of o ≡ Some Local
  pub edges : SameEdges es (edges_from of os ++ fs)

-- a local row at which none of the counted edges begins, and to which slots and local rows alone lead, may be given to the region `home`
pub record MayGive (rows : List CountedRow) (regions : List Region) (of : List Row) (es : List Edge) (o home : ObjId) : Type 0 where
  pub counts : Counts rows regions of es
  pub local : owner_in of o ≡ Some Local
  pub region : owner_in of home ≡ Some (In home)
  pub none_from : (e : Edge) → Member e es → e.from ≡ Field o → ⊥
  pub near : (e : Edge) → Member e es → e.to ≡ o → is_borrower of e.from ≡ true
  pub few : length es < 2 ^ 63

-- the same of local rows of these names, which differ
pub record MayGiveRows (rows : List CountedRow) (regions : List Region) (of : List Row) (es : List Edge) (os : List ObjId)
    (home : ObjId) : Type 0 where
  pub counts : Counts rows regions of es
  pub differ : Differ same_name os
  pub local : (o : ObjId) → has_name os o ≡ true → owner_in of o ≡ Some Local
  pub region : owner_in of home ≡ Some (In home)
  pub none_from : (e : Edge) → Member e es → begins_at os e.from ≡ false
  pub near : (e : Edge) → Member e es → has_name os e.to ≡ true → is_borrower of e.from ≡ true
  pub few : length es < 2 ^ 63

-- counts that leave room for the edges of row p of the region `home`
pub record MayCountRow (rows : List CountedRow) (regions : List Region) (of : List Row) (es : List Edge) (p home : ObjId) : Type 0 where
  pub counts : Counts rows regions of es
  pub bridges : HaveBridges of
  pub keys : RowKeysDiffer of
  pub inside : owner_in of p ≡ Some (In home)
  pub leads : OnlyBridges of (targets_in of p) (Some home)
  pub few : length (targets_in of p) + length es < 2 ^ 63

-- the same of rows of these names
pub record MayCountRows (rows : List CountedRow) (regions : List Region) (of : List Row) (es : List Edge) (os : List ObjId)
    (home : ObjId) : Type 0 where
  pub counts : Counts rows regions of es
  pub bridges : HaveBridges of
  pub keys : RowKeysDiffer of
  pub inside : (o : ObjId) → has_name os o ≡ true → owner_in of o ≡ Some (In home)
  pub leads : (o : ObjId) → has_name os o ≡ true → OnlyBridges of (targets_in of o) (Some home)
  pub few : length (edges_from of os) + length es < 2 ^ 63
