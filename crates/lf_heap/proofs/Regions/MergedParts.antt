-- Two regions that became one: what the parts keep, and what is noticed.
use Rattle.std.proofs.Common.{List, None, Some, [], ap, arith, length, map, subst, sym, ℕ, ◌++◌, ◌∙◌, ◌∷◌, ◌≡◌}
use Rattle.std.proofs.lemmas.List.{length-map}
use Rattle.lf_base.specs.declared.ids.ObjId.{ObjId}
use Rattle.lf_base.specs.declared.values.Owner.TheVariants.{In}
use Rattle.lf_base.specs.declared.values.Value.{Value}
use Rattle.lf_base.specs.HeapCalls.{merged_by}
use Rattle.lf_base.specs.MergeResult.{merge_refusal, merge_result}
use Rattle.lf_base.specs.Names.{targets_of_value}
use Rattle.lf_base.specs.Noticing.{Noticed}
use Rattle.lf_base.specs.Owners.{bridge_of}
use Rattle.lf_base.specs.PlainChanges.{with_slots}
use Rattle.lf_base.specs.PlainState.{State}
use Rattle.lf_base.specs.Suspects.{Object}
use Rattle.lf_base.specs.WellFormed.{WellFormed}
use Rattle.lf_domain.specs.Counts.{CountsOf}
use Rattle.lf_graph.specs.StoredRows.{CountedRow}
use Rattle.lf_laws.proofs.Changes.Merging.{merge_values}
use Rattle.lf_laws.proofs.Edges.Cells.{cells_region}
use Rattle.lf_laws.proofs.Losses.MergeNoticed.{merge_noticed}
use Rattle.lf_regions.specs.declared.region.Region.{Region}
use Rattle.lf_settle.specs.Drops.{SameCapacity}
use Rattle.lf_settle.specs.WorkLists.{WorkList}
use Rattle.lf_heap.specs.Following.{Follows}
use Rattle.lf_heap.specs.Heaps.{HasParts}
use Rattle.lf_heap.proofs.Regions.BridgeValues.{bridge_lies, bridge_value}
use Rattle.lf_heap.proofs.States.StoredStates.{Reached, reached}

-- the regions of two bridges
pub merged_is : (s : State) (v w : Value) (a b : ObjId) → bridge_of s v ≡ Some a → bridge_of s w ≡ Some b
    → merge_result s a b ≡ merged_by (bridge_of s v) (bridge_of s w) s
merged_is s v w a b ha hb = sym (ap (λ x. merged_by x (bridge_of s w) s) ha ∙ ap (λ y. merged_by (Some a) y s) hb)

module _ (rows : List CountedRow) (regions : List Region) (most : ℕ) (s : State) (h : HasParts rows regions most s) (v w : Value) (a b : ObjId)
    (ha : bridge_of s v ≡ Some a) (hb : bridge_of s w ≡ Some b) (allowed : merge_refusal s v w ≡ None) where
  abbrev t : State
  t = merge_result s a b

  well_after : WellFormed t
  well_after = merge_values s v w a b h.counted.well_formed ha hb allowed

  pub merge_reached : (next : List CountedRow) (table : List Region) → CountsOf next table t → Reached next table most t
  merge_reached next table counts = reached next table most t (record {
    counted = record { counts = counts; well_formed = well_after };
    cells = omega (arith, cells_region (with_slots s []) b (In a), h.cells);
    few = h.few;
    slots = h.slots;
  })

  -- the old bridge as a suspect
  pub merge_follows : (work new : WorkList) → new.suspects ≡ map Object (targets_of_value w) ++ work.suspects → SameCapacity work new → Follows s t work new 1
  merge_follows work new noted sum =
      let one : new.suspects ≡ Object b ∷ work.suspects = noted ∙ ap (λ u. map Object (targets_of_value u) ++ work.suspects) (bridge_value s w b hb) in
      record {
        well_formed = well_after;
        noticed = λ n. subst (Noticed t) (sym one) (merge_noticed s a b (bridge_lies s w b hb) work.suspects n);
        as_many = length-map s.rows _;
        room = omega (arith, sum, ap length one);
        capacity = sum;
      }
