-- A row found by its place among the rows by rising name: one name after the other, or by an order that was made.
use Rattle.std.proofs.Common.{List, None, Option, Some, [], ap, arith, inl, inr, refl, slice_get, subst, sym, ℕ, ◌+◌, ◌∙◌, ◌≡◌, ◌≤◌}
use Rattle.std.specs.Option.{option_map}
use Rattle.std.proofs.lemmas.Option.{slice_get-map, slice_get_past}
use Rattle.lf_base.specs.declared.ids.ObjId.{ObjId}
use Rattle.lf_base.specs.Names.{name_below}
use Rattle.lf_base.specs.Owners.{names}
use Rattle.lf_base.specs.PlainState.{Row}
use Rattle.lf_base.specs.Sets.{InOrder}
use Rattle.lf_graph.specs.StoredRows.{AreRowsOf}
use Rattle.lf_parcel.specs.declared.spots.Spot.{Spot}
use Rattle.lf_parcel.specs.Parcels.{StoredRegion, rows_of_parts}
use Rattle.lf_parcel.specs.Spots.{IsLeastAbove, IsRowOrder, IsSpotAt, LeastOfParts, MayHaveOrder, name_found, stored_names}
use Rattle.lf_parcel.proofs.Orders.LeastNames.{Passed, least_at_place, least_within, none_at_place, none_passed, passed_on}
use Rattle.lf_parcel.proofs.Orders.PartRows.{past_end}
use Rattle.lf_parcel.proofs.Orders.PartsInTurn.{names_of_stored, slice_member, stored_names_rise, stored_of_names}

module _ (parts : List StoredRegion) (rows : List Row) (are : AreRowsOf (rows_of_parts parts) rows) where
  rise : InOrder name_below (names rows)
  rise = stored_names_rise (rows_of_parts parts) rows are

  pub turn_begins : Passed (names rows) 0 None
  turn_begins = none_passed (names rows) rise

  among : (after found : Option ObjId) → IsLeastAbove (stored_names (rows_of_parts parts)) after found → IsLeastAbove (names rows) after found
  among after found least = least_within (stored_names (rows_of_parts parts)) (names rows) after found (names_of_stored (rows_of_parts parts) rows are) (stored_of_names (rows_of_parts parts) rows are) least

  pub turn_on : (at : ℕ) (after : Option ObjId) (found : Option Spot) (spot : Spot) → Passed (names rows) at after → LeastOfParts parts (rows_of_parts parts) after found → found ≡ Some spot
      → Passed (names rows) (at + 1) (Some (spot.name))
  turn_on at after found spot g l e =
      passed_on (names rows) at after g spot.name (among after (Some (spot.name)) (subst (λ f. IsLeastAbove (stored_names (rows_of_parts parts)) after (name_found f)) e l.least)) rise

  pub found_in_turn : (at : ℕ) (after : Option ObjId) (found : Option Spot) → Passed (names rows) at after → LeastOfParts parts (rows_of_parts parts) after found → IsSpotAt parts rows at found
  found_in_turn at after None g l = none_at_place (names rows) at after g (among after None l.least)
  found_in_turn at after (Some spot) g l = (l.there spot refl, least_at_place (names rows) at after g spot.name (among after (Some (spot.name)) l.least))

  pub none_in_turn : (at last : ℕ) (after : Option ObjId) (found : Option Spot) → Passed (names rows) at after → LeastOfParts parts (rows_of_parts parts) after found → found ≡ None → at ≤ last → IsSpotAt parts rows last None
  none_in_turn at last after found g l e le =
      let none : slice_get (names rows) at ≡ None = none_at_place (names rows) at after g (among after None (subst (λ f. IsLeastAbove (stored_names (rows_of_parts parts)) after (name_found f)) e l.least)) in
      slice_get_past (names rows) last (omega (arith, past_end (names rows) at none, le))

  pub found_by_order : (order : List Spot) (at : ℕ) (found : Option Spot) → IsRowOrder parts order rows → found ≡ slice_get order at → IsSpotAt parts rows at found
  found_by_order order at None o e = ap (λ l. slice_get l at) (sym o.names_are) ∙ slice_get-map (λ (s : Spot). s.name) order at ∙ ap (option_map (λ (s : Spot). s.name)) (sym e)
  found_by_order order at (Some spot) o e = (
    o.leads spot (slice_member order at spot (sym e)),
    ap (λ l. slice_get l at) (sym o.names_are) ∙ slice_get-map (λ (s : Spot). s.name) order at ∙ ap (option_map (λ (s : Spot). s.name)) (sym e),
  )

  pub ordered : (order : List Spot) → MayHaveOrder parts order rows → (order ≡ [] → ⊥) → IsRowOrder parts order rows
  ordered order (inl none) some = absurd (some none)
  ordered order (inr o) some = o
