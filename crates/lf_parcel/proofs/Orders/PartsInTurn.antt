-- The parts of a tree, gone over one by one, and their rows put in order.
use Rattle.std.proofs.Common.{List, None, Option, Some, [], ap, arith, false, get_or, inl, inr, length, refl, slice_get, subst, suc, sym, take, zero, ℕ, ◌+◌, ◌++◌, ◌<◌, ◌∙◌, ◌∷◌, ◌≡◌, ◌≤◌, ◌⊎◌}
use Rattle.std.specs.Option.{option_and_then, option_map}
use Rattle.std.specs.List.Sorted.{IsPermutation, IsSortedByKey}
use Rattle.std.proofs.lemmas.Bool.{or_parts}
use Rattle.std.proofs.lemmas.List.{append-nil, length-map, take_all, take_more}
use Rattle.std.proofs.lemmas.List.Concat.{flat_map-append}
use Rattle.std.proofs.lemmas.List.Sorted.{IsPermutation-map}
use Rattle.std.proofs.lemmas.Option.{get_or_from_slice_get, none-some, slice_get-map, slice_get_read, slice_get_within}
use Rattle.lf_base.specs.declared.ids.ObjId.{ObjId}
use Rattle.lf_base.specs.Names.{name_below, same_name}
use Rattle.lf_base.specs.Owners.{names}
use Rattle.lf_base.specs.PlainState.{Row}
use Rattle.lf_base.specs.Sets.{Differ, InOrder, Member}
use Rattle.lf_base.proofs.ListLemmas.Members.{Member_map, Member_of_map, Within}
use Rattle.lf_base.proofs.NameLemmas.NameOrder.{other_below}
use Rattle.lf_frozen.proofs.IdOrder.{id_cmp, id_cmp_below}
use Rattle.lf_frozen.proofs.Members.{member_after, member_before}
use Rattle.lf_graph.specs.StoredRows.{AreRowsOf, CountedRow, plain}
use Rattle.lf_graph.proofs.Stores.StateRows.{by_name_rises}
use Rattle.lf_laws.proofs.Contents.JoinedRows.{into_all}
use Rattle.lf_laws.proofs.Rows.InsertedRows.{all_inserted}
use Rattle.lf_parcel.specs.declared.spots.Spot.{Spot}
use Rattle.lf_parcel.specs.Parcels.{ArePartsOfRegions, IsPart, StoredRegion, parts_seen, rows_of_parts}
use Rattle.lf_parcel.specs.Spots.{EachLeads, IsLeastAbove, IsRowOrder, LeastInPart, LeastOfParts, Leads, StandsAt, lesser_name, name_found, spot_names, stored_names}
use Rattle.lf_parcel.proofs.Orders.LeastNames.{least_joined, least_of_none}
use Rattle.lf_parcel.proofs.Orders.NamesOnce.{differ_permuted}
use Rattle.lf_parcel.proofs.Orders.RisingNames.{rising_same}
use Rattle.lf_parcel.proofs.Trees.StoredRegions.{plain_names}

pub slice_member : {X : Type 0} (xs : List X) (at : ℕ) (x : X) → slice_get xs at ≡ Some x → Member x xs
slice_member [] at x e = absurd (none-some x e)
slice_member (y ∷ ys) zero x e = inl (same_some y x e)
  where
    same_some : {X : Type 0} (y x : X) → Some y ≡ Some x → y ≡ x
    same_some y x e = cc
slice_member (y ∷ ys) (suc at) x e = inr (slice_member ys at x e)

-- ---- one part after the other
pub part_seen : {P : Type 0} (region_of : P → ObjId) (rows_of : P → List CountedRow) (parts : List P) (at : ℕ) (part : P) → at < length parts → part ≡ get_or parts at part
    → slice_get (parts_seen region_of rows_of parts) at ≡ Some (record { region = region_of part; rows = rows_of part })
part_seen region_of rows_of parts at part lt is =
    slice_get-map (λ part. record { region = region_of part; rows = rows_of part }) parts at
    ∙ ap (option_map (λ part. record { region = region_of part; rows = rows_of part })) (slice_get_read parts (length parts) at part refl lt is)

pub parts_over : {P : Type 0} (region_of : P → ObjId) (rows_of : P → List CountedRow) (parts : List P) (at : ℕ) → length parts ≤ at → take at (parts_seen region_of rows_of parts) ≡ parts_seen region_of rows_of parts
parts_over region_of rows_of parts at past =
    take_all at (parts_seen region_of rows_of parts) (omega (arith, past, length-map parts (λ part. let seen : StoredRegion = record { region = region_of part; rows = rows_of part } in seen)))

module _ (parts : List StoredRegion) (at : ℕ) (part : StoredRegion) (here : slice_get parts at ≡ Some part) where
  pub few_here : ArePartsOfRegions parts → IsPart part
  few_here each = each part (slice_member parts at part here)

  names_on : stored_names (rows_of_parts (take (at + 1) parts)) ≡ stored_names (rows_of_parts (take at parts)) ++ stored_names part.rows
  names_on =
      ap (λ ps. stored_names (rows_of_parts ps)) (take_more parts at part (slice_get_within parts at part here) ∙ ap (λ p. take at parts ++ p ∷ []) (get_or_from_slice_get parts at part part here))
      ∙ ap stored_names (flat_map-append (λ (part : StoredRegion). part.rows) (take at parts) (part ∷ []) ∙ ap (λ l. rows_of_parts (take at parts) ++ l) (append-nil part.rows))
      ∙ plain_names (rows_of_parts (take at parts)) part.rows

  leads_here : (spot : Spot) → spot.part ≡ at → StandsAt part.rows spot → Leads parts spot
  leads_here spot e stands = record {
    row = stands.row;
    there = ap (λ n. option_and_then (λ (part : StoredRegion). slice_get part.rows spot.at) (slice_get parts n)) e ∙ ap (option_and_then (λ (part : StoredRegion). slice_get part.rows spot.at)) here ∙ stands.there;
    name = stands.name;
  }

  -- the least one of a further part
  pub least_on : (after : Option ObjId) (found last new : Option Spot) → LeastOfParts parts (rows_of_parts (take at parts)) after found → LeastInPart part.rows at after last
      → name_found new ≡ lesser_name (name_found found) (name_found last) → (new ≡ found) ⊎ (new ≡ last) → LeastOfParts parts (rows_of_parts (take (at + 1) parts)) after new
  least_on after found last new before there is one = record {
    least = subst (λ l. IsLeastAbove l after (name_found new)) (sym names_on) (subst (IsLeastAbove (stored_names (rows_of_parts (take at parts)) ++ stored_names part.rows) after) (sym is)
        (least_joined (stored_names (rows_of_parts (take at parts))) (stored_names part.rows) after (name_found found) (name_found last) before.least there.least));
    there = λ s e. elim one [
      | inl k ↦ before.there s (sym k ∙ e)
      | inr k ↦ let h = there.there s (sym k ∙ e) in leads_here s h.0 h.1
    ];
  }

pub least_of_no_part : (parts : List StoredRegion) (after : Option ObjId) → LeastOfParts parts [] after None
least_of_no_part parts after = record { least = least_of_none after; there = λ s e. absurd (none-some s e) }

-- ---- all rows, listed part by part
pub record ListedParts (parts : List StoredRegion) (at : ℕ) (spots : List Spot) : Type 0 where
  pub names : spot_names spots ≡ stored_names (rows_of_parts (take at parts))
  pub leads : EachLeads parts spots

pub no_part_listed : (parts : List StoredRegion) → ListedParts parts 0 []
no_part_listed parts = record { names = refl; leads = λ s m. absurd m }

pub part_listed : (parts : List StoredRegion) (at : ℕ) (spots new : List Spot) (part : StoredRegion) → slice_get parts at ≡ Some part → ListedParts parts at spots
    → spot_names new ≡ spot_names spots ++ stored_names part.rows → ((spot : Spot) → Member spot new → Member spot spots ⊎ ((spot.part ≡ at) × StandsAt part.rows spot))
    → ListedParts parts (at + 1) new
part_listed parts at spots new part here g names there = record {
  names = names ∙ ap (λ l. l ++ stored_names part.rows) g.names ∙ sym (names_on parts at part here);
  leads = λ s m. elim (there s m) [ inl k ↦ g.leads s k | inr k ↦ leads_here parts at part here s k.0 k.1 ];
}

-- ---- all rows, put in order
-- stored rows have the names of the rows that they are
pub names_of_stored : (stored : List CountedRow) (rows : List Row) → AreRowsOf stored rows → Within (stored_names stored) (names rows)
names_of_stored stored rows are o m =
    let x = Member_of_map (λ (r : Row). r.name) o (plain stored) m in
    subst (λ n. Member n (names rows)) x.1.1 (Member_map (λ (r : Row). r.name) x.0 rows (subst (Member x.0) are.rise (into_all (plain stored) [] x.0 (inl x.1.0))))

pub stored_of_names : (stored : List CountedRow) (rows : List Row) → AreRowsOf stored rows → Within (names rows) (stored_names stored)
stored_of_names stored rows are o m =
    let x = Member_of_map (λ (r : Row). r.name) o rows m in
    elim (all_inserted (plain stored) [] x.0 (subst (Member x.0) (sym are.rise) x.1.0)) [
      | inl k ↦ subst (λ n. Member n (stored_names stored)) x.1.1 (Member_map (λ (r : Row). r.name) x.0 (plain stored) k)
      | inr k ↦ absurd k
    ]

pub stored_names_rise : (stored : List CountedRow) (rows : List Row) → AreRowsOf stored rows → InOrder name_below (names rows)
stored_names_rise stored rows are = subst (λ l. InOrder name_below (names l)) are.rise (by_name_rises (plain stored) are.differ)

rise_from : (spots : List Spot) → ((k : ℕ) (d : Spot) → suc k < length spots → name_below (get_or spots (suc k) d).name (get_or spots k d).name ≡ false)
    → Differ same_name (spot_names spots) → InOrder name_below (spot_names spots)
rise_from [] sorted d = tt
rise_from (x ∷ []) sorted d = tt
rise_from (x ∷ (y ∷ ys)) sorted d = (
  other_below y.name x.name (sorted zero x (omega arith)) (or_parts (same_name y.name x.name) _ d.0).0,
  rise_from (y ∷ ys) (λ k d lt. sorted (suc k) d (omega (arith, lt))) d.1,
)

module _ (parts : List StoredRegion) (listed sorted : List Spot) (at : ℕ) (g : ListedParts parts at listed) (all : take at parts ≡ parts) (permuted : IsPermutation listed sorted)
    (in_order : IsSortedByKey (λ (s : Spot). s.name) id_cmp sorted) (rows : List Row) (are : AreRowsOf (rows_of_parts parts) rows) where
  listed_names : spot_names listed ≡ stored_names (rows_of_parts parts)
  listed_names = g.names ∙ ap (λ ps. stored_names (rows_of_parts ps)) all

  names_permuted : IsPermutation (spot_names listed) (spot_names sorted)
  names_permuted = IsPermutation-map (λ (s : Spot). s.name) listed sorted permuted

  differ : Differ same_name (spot_names sorted)
  differ = differ_permuted (spot_names listed) (spot_names sorted) names_permuted (subst (Differ same_name) (sym listed_names) are.differ)

  rise : InOrder name_below (spot_names sorted)
  rise = rise_from sorted
      (λ k d lt. let next : k + 1 ≡ suc k = omega arith in
      ap (λ j. name_below (get_or sorted j d).name (get_or sorted k d).name) (sym next)
      ∙ sym (id_cmp_below (get_or sorted (k + 1) d).name (get_or sorted k d).name)
      ∙ in_order k d (omega arith) (omega (arith, lt))) differ

  pub rows_in_order : IsRowOrder parts sorted rows
  rows_in_order = record {
    names_are = rising_same (spot_names sorted) (names rows) rise (stored_names_rise (rows_of_parts parts) rows are)
        (λ o m. names_of_stored (rows_of_parts parts) rows are o (subst (Member o) listed_names (member_before (spot_names listed) (spot_names sorted) names_permuted o m)))
        (λ o m. member_after (spot_names listed) (spot_names sorted) names_permuted o (subst (Member o) (sym listed_names) (stored_of_names (rows_of_parts parts) rows are o m)));
    leads = λ s m. g.leads s (member_before listed sorted permuted s m);
  }
