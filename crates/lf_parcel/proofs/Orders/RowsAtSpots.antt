-- What is told of the row at a spot is what is told of the tree's row at that place.
use Rattle.std.proofs.Common.{List, None, Option, Some, [], ap, arith, get_or, is_some, length, map, refl, slice_get, subst, sym, ℕ, ◌<◌, ◌∙◌, ◌∷◌, ◌≡◌}
use Rattle.std.specs.Option.{option_and_then, option_map}
use Rattle.std.proofs.lemmas.List.{length-map}
use Rattle.std.proofs.lemmas.Option.{none-some, slice_get-map, slice_get_within}
use Rattle.lf_base.specs.declared.ids.ObjId.{ObjId}
use Rattle.lf_base.specs.declared.values.Key.{Key}
use Rattle.lf_base.specs.declared.values.Value.{Value}
use Rattle.lf_base.specs.ContentTrees.{refs_in}
use Rattle.lf_base.specs.Owners.{names, row_at}
use Rattle.lf_base.specs.PlainState.{Row}
use Rattle.lf_base.specs.Sets.{Member}
use Rattle.lf_base.proofs.ListLemmas.Members.{Member_flat_map}
use Rattle.lf_base.proofs.ListLemmas.Tests.{some_is}
use Rattle.lf_graph.specs.declared.store.RowHead.{RowHead}
use Rattle.lf_graph.specs.Parts.{row_head}
use Rattle.lf_graph.specs.StoredRows.{AreRowsOf, CountedRow, fields_by, refs_by, row_named}
use Rattle.lf_graph.proofs.Stores.StateRows.{found_of}
use Rattle.lf_laws.proofs.Rows.RowsByName.{at_mem}
use Rattle.lf_laws.proofs.Rows.RowsInOrder.{rise_distinct}
use Rattle.lf_parcel.specs.declared.heads.RegionHead.{RegionHead}
use Rattle.lf_parcel.specs.declared.spots.Spot.{Spot}
use Rattle.lf_parcel.specs.Heads.{bridges_in, region_head}
use Rattle.lf_parcel.specs.Parcels.{ArePartsOfRegions, IsParcel, StoredRegion, parts_seen, regions_of_parts, rows_of_parts}
use Rattle.lf_parcel.specs.RowsTold.{fields_told, region_or, row_told}
use Rattle.lf_parcel.specs.Spots.{IsSpotAt, KeepsParcel, Leads, MayHaveOrder, row_by_spot}
use Rattle.lf_parcel.proofs.Orders.PartRows.{past_end}
use Rattle.lf_parcel.proofs.Orders.PartsInTurn.{part_seen, slice_member, stored_names_rise}
use Rattle.lf_parcel.proofs.Trees.StoredRegions.{named_member}

-- ---- the part of a spot
pub record PartOf (parts : List StoredRegion) (spot : Spot) (row : CountedRow) : Type 0 where
  pub part : StoredRegion
  pub there : slice_get parts spot.part ≡ Some part
  pub here : slice_get part.rows spot.at ≡ Some row

pub part_there : (parts : List StoredRegion) (spot : Spot) (l : Leads parts spot) → PartOf parts spot l.row
part_there parts spot l = go (slice_get parts spot.part) refl where
  go : (found : Option StoredRegion) → slice_get parts spot.part ≡ found → PartOf parts spot l.row
  go (Some part) e = record { part = part; there = e; here = sym (ap (option_and_then (λ (part : StoredRegion). slice_get part.rows spot.at)) e) ∙ l.there }
  go None e = absurd (none-some l.row (sym (ap (option_and_then (λ (part : StoredRegion). slice_get part.rows spot.at)) e) ∙ l.there))

-- the same, of parts as a store has them
module _ {P : Type 0} (region_of : P → ObjId) (rows_of : P → List CountedRow) (parts : List P) (spot : Spot) where
  abbrev seen : List StoredRegion
  seen = map (λ (part : P). record { region = region_of part; rows = rows_of part }) parts

  pub part_within : Leads seen spot → spot.part < length parts
  part_within l =
      let p = part_there seen spot l in
      omega (arith, slice_get_within seen spot.part p.part p.there, length-map parts (λ (part : P). let s : StoredRegion = record { region = region_of part; rows = rows_of part } in s))

  pub row_of_part : (part : P) → spot.part < length parts → part ≡ get_or parts spot.part part → row_by_spot seen spot ≡ slice_get (rows_of part) spot.at
  row_of_part part lt is = ap (option_and_then (λ (part : StoredRegion). slice_get part.rows spot.at)) (part_seen region_of rows_of parts spot.part part lt is)

-- ---- the row of the tree
module _ (told : List RegionHead) (parts : List StoredRegion) (root : ObjId) (rows : List Row) (p : IsParcel told parts root rows) (at : ℕ) (spot : Spot) (is : IsSpotAt parts rows at (Some spot)) where
  abbrev stored : List CountedRow
  stored = rows_of_parts parts

  abbrev row : CountedRow
  row = (is.0).row

  here : PartOf parts spot row
  here = part_there parts spot is.0

  in_part : Member row (here.part).rows
  in_part = slice_member (here.part).rows spot.at row here.here

  in_stored : Member row stored
  in_stored = Member_flat_map (λ (part : StoredRegion). part.rows) here.part row parts (slice_member parts spot.part here.part here.there) in_part

  row_found : row_named stored (row.row).name ≡ Some row
  row_found = named_member stored (p.are).differ row in_stored

  -- the tree's row at the place
  pub row_here : slice_get rows at ≡ Some (row.row)
  row_here = go (slice_get rows at) refl where
    go : (x : Option Row) → slice_get rows at ≡ x → slice_get rows at ≡ Some (row.row)
    go None e = absurd (none-some spot.name (sym (ap (option_map (λ (r : Row). r.name)) e) ∙ sym (slice_get-map (λ (r : Row). r.name) rows at) ∙ is.1))
    go (Some x) e =
        let name : x.name ≡ (row.row).name = some_is x.name spot.name (sym (ap (option_map (λ (r : Row). r.name)) e) ∙ sym (slice_get-map (λ (r : Row). r.name) rows at) ∙ is.1) ∙ sym (is.0).name in
        let by_name : row_at rows x.name ≡ Some (row.row) = ap (row_at rows) name ∙ found_of stored rows (row.row).name p.are ∙ ap (option_map (λ (c : CountedRow). c.row)) row_found in
        e ∙ sym (at_mem rows (rise_distinct rows (stored_names_rise stored rows p.are)) x (slice_member rows at x e)) ∙ by_name

  pub fields_here : slice_get (fields_told (slice_get rows at)) ≡ slice_get (fields_by (row_by_spot parts spot))
  fields_here = ap (λ x. slice_get (fields_told x)) row_here ∙ ap (λ c. slice_get (fields_by c)) (sym (is.0).there)

  heads_names : map (λ (h : RegionHead). h.name) told ≡ regions_of_parts parts
  heads_names = ap (map (λ (h : RegionHead). h.name)) p.heads_are ∙ names_of_heads (bridges_in rows) ∙ sym p.regions_are
    where
      names_of_heads : (qs : List ObjId) → map (λ (h : RegionHead). h.name) (map (region_head rows) qs) ≡ qs
      names_of_heads [] = refl
      names_of_heads (q ∷ qs) = ap (λ l. q ∷ l) (names_of_heads qs)

  pub region_within : spot.part < length told
  region_within = omega (
    arith,
    slice_get_within parts spot.part here.part here.there,
    length-map told (λ (h : RegionHead). h.name),
    length-map parts (λ (part : StoredRegion). part.region),
    ap length heads_names,
  )

  module _ (head : RegionHead) (head_is : slice_get told spot.part ≡ Some head) where
    region_name : head.name ≡ (here.part).region
    region_name = some_is head.name (here.part).region
        (sym (ap (option_map (λ (h : RegionHead). h.name)) head_is) ∙ sym (slice_get-map (λ (h : RegionHead). h.name) told spot.part) ∙ ap (λ l. slice_get l spot.part) heads_names
        ∙ slice_get-map (λ (part : StoredRegion). part.region) parts spot.part ∙ ap (option_map (λ (part : StoredRegion). part.region)) here.there)

    pub told_here : (at_spot : RowHead) → option_map row_head (row_by_spot parts spot) ≡ Some at_spot → Some (head.name, at_spot) ≡ option_map (row_told (record { root = root; rows = rows })) (slice_get rows at)
    told_here at_spot e =
        let is_head : at_spot ≡ row_head row = some_is at_spot (row_head row) (sym e ∙ ap (option_map row_head) (is.0).there) in
        let region : head.name ≡ region_or (row.row).name (row.row).owner = region_name ∙ sym (ap (region_or (row.row).name) ((p.each here.part (slice_member parts spot.part here.part here.there)).inside row in_part)) in
        let refs : row.refs ≡ refs_in rows root (row.row).name = ap refs_by (sym row_found) ∙ p.refs (row.row).name (ap is_some row_found) in
        (λ i. Some (region i, is_head i)) ∙ (λ i. Some (region_or (row.row).name (row.row).owner, record { name = (row.row).name; width = length (row.row).fields; refs = refs i }))
        ∙ ap (option_map (row_told (record { root = root; rows = rows }))) (sym row_here)

-- ---- what the readers of a parcel answer
none_there : (rows : List Row) (at : ℕ) → slice_get (names rows) at ≡ None → slice_get rows at ≡ None
none_there rows at e = go (slice_get rows at) refl where
  go : (x : Option Row) → slice_get rows at ≡ x → slice_get rows at ≡ None
  go None k = k
  go (Some x) k = absurd (none-some x.name (sym e ∙ slice_get-map (λ (r : Row). r.name) rows at ∙ ap (option_map (λ (r : Row). r.name)) k))

module _ {P : Type 0} (region_of : P → ObjId) (rows_of : P → List CountedRow) (told : List RegionHead) (parts : List P) (order : List Spot) (root : ObjId) (rows : List Row)
    (k : KeepsParcel told (parts_seen region_of rows_of parts) order root rows) where
  pub parts_lent : (lent : List P) → lent ≡ parts → ArePartsOfRegions (parts_seen region_of rows_of lent)
  parts_lent lent e = subst (λ ps. ArePartsOfRegions (parts_seen region_of rows_of ps)) (sym e) (k.parcel).each

  pub spot_lent : (lent : List P) (given : List Spot) (at : ℕ) (found : Option Spot) → lent ≡ parts → given ≡ order
      → ((rows : List Row) → AreRowsOf (rows_of_parts (parts_seen region_of rows_of lent)) rows → MayHaveOrder (parts_seen region_of rows_of lent) given rows → IsSpotAt (parts_seen region_of rows_of lent) rows at found)
      → IsSpotAt (parts_seen region_of rows_of parts) rows at found
  spot_lent lent given at found e f h =
      (subst (λ (ps : List P). (rows : List Row) → AreRowsOf (rows_of_parts (parts_seen region_of rows_of ps)) rows → MayHaveOrder (parts_seen region_of rows_of ps) order rows → IsSpotAt (parts_seen region_of rows_of ps) rows at found) e
      (subst (λ (s : List Spot). (rows : List Row) → AreRowsOf (rows_of_parts (parts_seen region_of rows_of lent)) rows → MayHaveOrder (parts_seen region_of rows_of lent) s rows → IsSpotAt (parts_seen region_of rows_of lent) rows at found) f h))
      rows (k.parcel).are k.order

  pub lead_lent : (lent : List P) (at : ℕ) (found : Option Spot) (spot : Spot) → lent ≡ parts → IsSpotAt (parts_seen region_of rows_of parts) rows at found → found ≡ Some spot → Leads (parts_seen region_of rows_of lent) spot
  lead_lent lent at found spot e is s =
      subst (λ (ps : List P). Leads (parts_seen region_of rows_of ps) spot) (sym e) (subst (λ (f : Option Spot). IsSpotAt (parts_seen region_of rows_of parts) rows at f) s is).0

  pub no_row : (at : ℕ) (found : Option Spot) → IsSpotAt (parts_seen region_of rows_of parts) rows at found → found ≡ None → slice_get rows at ≡ None
  no_row at found is e = none_there rows at (subst (λ (f : Option Spot). IsSpotAt (parts_seen region_of rows_of parts) rows at f) e is)

  module _ (at : ℕ) (found : Option Spot) (spot : Spot) (is : IsSpotAt (parts_seen region_of rows_of parts) rows at found) (s : found ≡ Some spot) where
    spot_is : IsSpotAt (parts_seen region_of rows_of parts) rows at (Some spot)
    spot_is = subst (λ (f : Option Spot). IsSpotAt (parts_seen region_of rows_of parts) rows at f) s is

    pub row_is_told : (lent : List P) (head : RegionHead) (at_spot : RowHead) → lent ≡ parts → slice_get told spot.part ≡ Some head → option_map row_head (row_by_spot (parts_seen region_of rows_of lent) spot) ≡ Some at_spot
        → Some (head.name, at_spot) ≡ option_map (row_told (record { root = root; rows = rows })) (slice_get rows at)
    row_is_told lent head at_spot e h r =
        told_here told (parts_seen region_of rows_of parts) root rows k.parcel at spot spot_is head h at_spot (ap (λ ps. option_map row_head (row_by_spot (parts_seen region_of rows_of ps) spot)) (sym e) ∙ r)

    pub region_there : slice_get told spot.part ≡ None → ⊥
    region_there e = let lt = region_within told (parts_seen region_of rows_of parts) root rows k.parcel at spot spot_is in omega (arith, lt, past_end told spot.part e)

    pub field_is_told : (lent : List P) (field : ℕ) (f : Option (Key × Value)) → lent ≡ parts → f ≡ slice_get (fields_by (row_by_spot (parts_seen region_of rows_of lent) spot)) field → f ≡ slice_get (fields_told (slice_get rows at)) field
    field_is_told lent field f e is_field =
        is_field ∙ ap (λ ps. slice_get (fields_by (row_by_spot (parts_seen region_of rows_of ps) spot)) field) e
        ∙ sym (ap (λ h. h field) (fields_here told (parts_seen region_of rows_of parts) root rows k.parcel at spot spot_is))
