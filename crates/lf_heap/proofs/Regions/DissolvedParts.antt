-- A region that was dissolved: what the parts keep, and what is noticed.
use Rattle.std.proofs.Common.{List, None, Some, [], ap, arith, refl, sym, ℕ, ◌≡◌}
use Rattle.std.proofs.lemmas.List.{length-map}
use Rattle.lf_base.specs.declared.ids.ObjId.{ObjId}
use Rattle.lf_base.specs.declared.values.Owner.TheVariants.{Local}
use Rattle.lf_base.specs.declared.values.Value.{Value}
use Rattle.lf_base.specs.DissolveResult.{dissolve_refusal, dissolve_result}
use Rattle.lf_base.specs.HeapCalls.{on_bridge}
use Rattle.lf_base.specs.Noticing.{InSlot}
use Rattle.lf_base.specs.Owners.{bridge_of}
use Rattle.lf_base.specs.PlainChanges.{with_slots}
use Rattle.lf_base.specs.PlainState.{State}
use Rattle.lf_base.specs.WellFormed.{WellFormed}
use Rattle.lf_domain.specs.Counts.{CountsOf}
use Rattle.lf_graph.specs.StoredRows.{CountedRow}
use Rattle.lf_laws.proofs.Changes.Merging.{dissolve_values}
use Rattle.lf_laws.proofs.Edges.Cells.{cells_region}
use Rattle.lf_laws.proofs.Losses.DissolveNoticed.{dissolve_noticed}
use Rattle.lf_regions.specs.declared.region.Region.{Region}
use Rattle.lf_settle.specs.WorkLists.{WorkList}
use Rattle.lf_heap.specs.Following.{Follows}
use Rattle.lf_heap.specs.Heaps.{HasParts}
use Rattle.lf_heap.proofs.Regions.BridgeValues.{bridge_lies, slot_points}
use Rattle.lf_heap.proofs.States.StoredStates.{Reached, reached}

-- the region of a bridge
pub dissolved_is : (s : State) (v : Value) (r : ObjId) → bridge_of s v ≡ Some r
    → dissolve_result s r ≡ on_bridge (bridge_of s v) (dissolve_result s) s
dissolved_is s v r e = sym (ap (λ x. on_bridge x (dissolve_result s) s) e)

module _ (rows : List CountedRow) (regions : List Region) (most : ℕ) (s : State) (h : HasParts rows regions most s) (v : Value) (r : ObjId)
    (at : bridge_of s v ≡ Some r) (allowed : dissolve_refusal s v ≡ None) where
  abbrev t : State
  t = dissolve_result s r

  well_after : WellFormed t
  well_after = dissolve_values s v r h.counted.well_formed at allowed

  pub dissolve_reached : (next : List CountedRow) (table : List Region) → CountsOf next table t → Reached next table most t
  dissolve_reached next table counts = reached next table most t (record {
    counted = record { counts = counts; well_formed = well_after };
    cells = omega (arith, cells_region (with_slots s []) r Local, h.cells);
    few = h.few;
    slots = h.slots;
  })

  -- a slot names the bridge, so nothing more is to be noticed
  pub dissolve_follows : InSlot s r → (work : WorkList) → Follows s t work work 0
  dissolve_follows m work = record {
    well_formed = well_after;
    noticed = λ n. dissolve_noticed s r h.counted.well_formed well_after (bridge_lies s v r at) (slot_points s r m) work.suspects n;
    as_many = length-map s.rows _;
    room = omega arith;
    capacity = refl;
  }
