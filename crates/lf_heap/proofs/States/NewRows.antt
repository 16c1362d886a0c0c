-- An object or a region more.
use Rattle.std.proofs.Common.{List, [], ap, arith, false, inl, inr, refl, subst, true, ℕ, ◌≡◌, ◌||◌}
use Rattle.lf_base.specs.declared.ids.ObjId.{ObjId}
use Rattle.lf_base.specs.declared.values.Owner.{Owner}
use Rattle.lf_base.specs.declared.values.Owner.TheVariants.{In, Local}
use Rattle.lf_base.specs.declared.values.Value.TheVariants.{Obj}
use Rattle.lf_base.specs.Owners.{has_row, or_frozen, owner_in}
use Rattle.lf_base.specs.PlainChanges.{next_object, object_result, region_result, with_row, with_slots}
use Rattle.lf_base.specs.PlainState.{State}
use Rattle.lf_base.specs.WellFormed.{SlotMayHold, WellFormed, from_near}
use Rattle.lf_domain.proofs.NewRowCounts.{next_has_no_region, next_is_new, object_counts, region_counts}
use Rattle.lf_graph.specs.RowChanges.{with_new_row}
use Rattle.lf_graph.specs.StoredRows.{CountedRow, IsNewName, SameByOwner}
use Rattle.lf_laws.proofs.Changes.NewRows.{NewOwner, new_row_keeps, owner_new}
use Rattle.lf_laws.proofs.Edges.Cells.{cells_row}
use Rattle.lf_regions.specs.declared.region.Region.{Region}
use Rattle.lf_regions.specs.RegionChanges.{with_region}
use Rattle.lf_regions.specs.Regions.{has_region}
use Rattle.lf_heap.specs.Heaps.{HasParts}
use Rattle.lf_heap.proofs.States.StoredStates.{Reached, reached}

module _ (s : State) (w : Owner) (well : WellFormed s) (kind : NewOwner s w) where
  pub new_may_be_held : SlotMayHold (with_row s w) (Obj (next_object s))
  new_may_be_held =
      let new : ObjId = next_object s in
      record {
        object_there = λ o m. elim m [
          | inl e ↦ subst (λ n. from_near (or_frozen (has_row s.given n || has_row s.own n) (owner_in (with_row s w).rows n)) ≡ true) e
              (ap (λ x. from_near (or_frozen (has_row s.given new || has_row s.own new) x)) (owner_new s w well kind))
          | inr n ↦ absurd n
        ];
        cown_numbered = λ c m. absurd m;
      }

module _ (rows : List CountedRow) (regions : List Region) (most : ℕ) (s : State) (h : HasParts rows regions most s) where
  abbrev well : WellFormed s
  well = (h.counted).well_formed

  pub name_is_new : IsNewName rows (next_object s)
  name_is_new = next_is_new s well rows regions (h.counted).counts Local (inl refl)

  pub has_no_region : has_region regions (next_object s) ≡ false
  has_no_region = next_has_no_region s well rows regions (h.counted).counts Local (inl refl)

  pub object_reached : (next : List CountedRow) → SameByOwner next (with_new_row rows (next_object s) Local) → Reached next regions most (object_result s)
  object_reached next same = reached next regions most (object_result s) (record {
    counted = record { counts = object_counts s well rows regions (h.counted).counts next same; well_formed = new_row_keeps s Local well (inl refl) };
    cells = omega (arith, cells_row (with_slots s []) Local, h.cells);
    few = h.few;
    slots = h.slots;
  })

  pub region_reached : (next : List CountedRow) → SameByOwner next (with_new_row rows (next_object s) (In (next_object s)))
      → Reached next (with_region regions (next_object s)) most (region_result s)
  region_reached next same = reached next (with_region regions (next_object s)) most (region_result s) (record {
    counted = record { counts = region_counts s well rows regions (h.counted).counts next same; well_formed = new_row_keeps s (In (next_object s)) well (inr refl) };
    cells = omega (arith, cells_row (with_slots s []) (In (next_object s)), h.cells);
    few = h.few;
    slots = h.slots;
  })
