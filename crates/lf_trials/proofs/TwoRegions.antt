-- Two regions of a bridge each: what may be counted there.
use Rattle.std.proofs.Common.{List, None, Option, Some, [], ap, arith, inl, inr, length, refl, subst, sym, true, ◌<◌, ◌^◌, ◌∙◌, ◌∷◌, ◌≡◌, ◌≤◌, ℕ, cond, false}
use Rattle.std.specs.Option.{is_some}
use Rattle.std.proofs.lemmas.List.Sums.{count_by-le-length}
use Rattle.lf_base.specs.declared.ids.CownId.{CownId}
use Rattle.lf_base.specs.declared.ids.ObjId.{ObjId}
use Rattle.lf_base.specs.declared.values.Key.{Key}
use Rattle.lf_base.specs.declared.values.Owner.{Owner}
use Rattle.lf_base.specs.declared.values.Owner.TheVariants.{In, Local}
use Rattle.lf_base.specs.EdgeLists.{near_edges}
use Rattle.lf_base.specs.Edges.{Content, Edge, Field, Slot, edges_by}
use Rattle.lf_base.specs.Owners.{owner_in}
use Rattle.lf_base.specs.PlainChanges.{first_state, next_object, object_result, region_result}
use Rattle.lf_base.specs.WellFormed.{WellFormed}
use Rattle.lf_base.proofs.ListLemmas.Tests.{some_is}
use Rattle.lf_graph.specs.Room.{OwnerHasRoom, room_for_field}
use Rattle.lf_graph.specs.StoredRows.{CountedRow, SameByOwner, field_value_at}
use Rattle.lf_laws.proofs.Changes.FirstState.{first_whole}
use Rattle.lf_laws.proofs.Changes.NewRows.{new_row_keeps}
use Rattle.lf_laws.proofs.Rows.OwnerTests.{in_is}
use Rattle.lf_regions.specs.declared.region.Region.{Region}
use Rattle.lf_regions.specs.TableCounts.{owns_region}
use Rattle.lf_domain.specs.Counts.{Counts, CountsOf, IsDomain}
use Rattle.lf_domain.specs.OneEdge.{MayCount, MayCountOwner, MayUncount, MayUncountOwner, OnlyBridges}
use Rattle.lf_domain.proofs.CountedEdges.{same_rows_count}
use Rattle.lf_domain.proofs.EdgeTests.{count_cons}
use Rattle.lf_domain.proofs.NewRowCounts.{none_counted}
use Rattle.lf_domain.proofs.StoreEdges.{owner_told}
use Rattle.lf_trials.specs.TwoRegions.{two_regions}

pub well_none : WellFormed (first_state 1 [])
well_none = first_whole 1 [] (record {
  rise = tt;
  keys_differ = λ x m. absurd m;
  frozen = λ x m. absurd m;
  leads = λ e m. absurd m;
  no_object = λ o m. absurd m;
  no_cown = λ c m. absurd m;
})

pub well_one : WellFormed (region_result (first_state 1 []))
well_one = new_row_keeps (first_state 1 []) (In (next_object (first_state 1 []))) well_none (inr refl)

pub well_two : WellFormed two_regions
well_two = new_row_keeps (region_result (first_state 1 [])) (In (next_object (region_result (first_state 1 [])))) well_one (inr refl)

pub none_yet : (rows : List CountedRow) (regions : List Region) → rows ≡ [] → regions ≡ [] → CountsOf rows regions (first_state 1 [])
none_yet rows regions no_rows no_regions =
    subst (λ l. CountsOf l regions (first_state 1 [])) (sym no_rows) (subst (λ l. CountsOf [] l (first_state 1 [])) (sym no_regions) (none_counted 1 []))

-- the bridges
abbrev pub home : ObjId
home = record { birth = 1; seq = 1 }

abbrev pub child : ObjId
child = record { birth = 1; seq = 2 }

pub leads_to : (bridge : ObjId) → owner_in two_regions.rows bridge ≡ Some (In bridge) → (of : Option ObjId) → OnlyBridges two_regions.rows (bridge ∷ []) of
leads_to bridge is of o r (inl e) k other = sym (in_is bridge r (some_is (In bridge) (In r) (sym is ∙ ap (owner_in two_regions.rows) e ∙ k))) ∙ e
leads_to bridge is of o r (inr m) k other = absurd m

-- one edge to a bridge more, from a slot, from a field of the row `home`, and from a content
module _ (rows : List CountedRow) (regions : List Region) (es : List Edge) (c : Counts rows regions two_regions.rows es) (few : length es < 2 ^ 63) where
  pub slot_more : MayCount rows regions two_regions.rows es
  slot_more = record { counts = c; bridges = well_two.bridge; few = few }

  pub field_more : MayCountOwner rows regions two_regions.rows es (Field home) (child ∷ []) (Some home)
  field_more = record { counts = c; bridges = well_two.bridge; lies = refl; leads = leads_to child refl (Some home); few = few }

  pub content_more : (d : CownId) → MayCountOwner rows regions two_regions.rows es (Content d) (home ∷ []) None
  content_more d = record { counts = c; bridges = well_two.bridge; lies = tt; leads = leads_to home refl None; few = few }

-- and one less; with no edge beside it, it is the only owner
module _ (rows : List CountedRow) (regions : List Region) where
  pub slot_less : (e : Edge) → Counts rows regions two_regions.rows (e ∷ edges_by Slot (child ∷ [])) → MayUncount rows regions two_regions.rows (e ∷ edges_by Slot (child ∷ [])) (e ∷ []) Slot (child ∷ [])
  slot_less e c = record {
    counts = c;
    bridges = well_two.bridge;
    near = refl;
    edges = λ p.
        let b : Edge = record { from = Slot; to = child } in
        omega (arith, count_cons p e (b ∷ []), count_cons p b [], count_cons p b (e ∷ []), count_cons p e []);
  }

  pub field_less : Counts rows regions two_regions.rows (edges_by (Field home) (child ∷ [])) → MayUncountOwner rows regions two_regions.rows (edges_by (Field home) (child ∷ [])) [] (Field home) (child ∷ []) (Some home)
  field_less c = record {
    counts = c;
    bridges = well_two.bridge;
    lies = refl;
    leads = leads_to child refl (Some home);
    edges = λ p. refl;
    one = λ r b. count_by-le-length (owns_region two_regions.rows r) (edges_by (Field home) (child ∷ []));
  }

  pub content_less : (d : CownId) → Counts rows regions two_regions.rows (edges_by (Content d) (home ∷ [])) → MayUncountOwner rows regions two_regions.rows (edges_by (Content d) (home ∷ [])) [] (Content d) (home ∷ []) None
  content_less d c = record {
    counts = c;
    bridges = well_two.bridge;
    lies = tt;
    leads = leads_to home refl None;
    edges = λ p. refl;
    one = λ r b. count_by-le-length (owns_region two_regions.rows r) (edges_by (Content d) (home ∷ []));
  }

-- ---- with a local object beside them
abbrev pub local : ObjId
local = record { birth = 1; seq = 3 }

module _ (rows new : List CountedRow) (regions : List Region) (same : SameByOwner new rows) (c : CountsOf rows regions (object_result two_regions)) where
  pub local_domain : IsDomain new regions (object_result two_regions)
  local_domain = record {
    counts = same_rows_count rows new regions (object_result two_regions).rows (near_edges (object_result two_regions)) same c;
    well_formed = new_row_keeps two_regions Local well_two (inl refl);
    few = omega arith;
  }

  pub local_room : (spare : Owner → ℕ) (k : Key) → 1 ≤ spare Local → OwnerHasRoom spare new local (room_for_field new local k)
  local_room spare k enough w e =
      let is : Local ≡ w = some_is Local w (owner_told new (object_result two_regions).rows local ((local_domain).counts.store).rows ∙ e) in
      let one : room_for_field new local k ≤ 1 = elim (is_some (field_value_at new local k)) as (λ b. cond b 0 1 ≤ 1) [ true ↦ omega arith | false ↦ omega arith ] in
      subst (λ u. room_for_field new local k ≤ spare u) is (omega (arith, one, enough))
