-- The state with a store's rows, and what its parts keep.
use Rattle.std.proofs.Common.{Err, List, Ok, OnErr, Option, [], ap, arith, length, subst, sym, ℕ, ◌+◌, ◌^◌, ◌≡◌, ◌≤◌}
use Rattle.std.specs.declared.result.Result.{Result}
use Rattle.lf_base.specs.declared.values.Value.{Value}
use Rattle.lf_base.specs.EdgeLists.{cells, near_edges}
use Rattle.lf_base.specs.PlainChanges.{with_slots}
use Rattle.lf_base.specs.PlainState.{State}
use Rattle.lf_base.specs.WellFormed.{WellFormed}
use Rattle.lf_domain.specs.Counts.{CountsOf, IsDomain}
use Rattle.lf_graph.specs.StoredRows.{CountedRow, SameByOwner}
use Rattle.lf_domain.proofs.CountedEdges.{same_rows_count}
use Rattle.lf_laws.proofs.Edges.Cells.{near_fit}
use Rattle.lf_regions.specs.declared.region.Region.{Region}
use Rattle.lf_settle.specs.Drops.{stored_state}
use Rattle.lf_heap.specs.Heaps.{HasParts}

-- slots and other cells together
pub cells_parted : (s : State) → cells s ≡ length s.slots + cells (with_slots s [])
cells_parted s = omega arith

module _ (rows : List CountedRow) (regions : List Region) (most : ℕ) (s : State) (h : HasParts rows regions most s) where
  -- so few edges that one more may be counted
  pub domain_of : IsDomain rows regions s
  domain_of = record {
    counts = h.counted.counts;
    well_formed = h.counted.well_formed;
    few = omega (arith, near_fit s, cells_parted s, h.cells, h.few, h.slots);
  }

-- the parts of the state that is reached
pub record Reached (rows : List CountedRow) (regions : List Region) (most : ℕ) (t : State) : Type 0 where
  pub is : stored_state t rows ≡ t
  pub parts : HasParts rows regions most (stored_state t rows)

pub reached : (rows : List CountedRow) (regions : List Region) (most : ℕ) (t : State) → HasParts rows regions most t → Reached rows regions most t
reached rows regions most t h =
    let is : stored_state t rows ≡ t = ap (λ rs. record t { rows = rs }) (((h.counted.counts).store).rows).rise in
    record { is = is; parts = subst (HasParts rows regions most) (sym is) h }

-- where store and slots change
module _ (rows : List CountedRow) (regions : List Region) (most : ℕ) (s : State) (h : HasParts rows regions most s) where
  -- the slots alone: their counts go over to the store and the table
  pub slots_reached : (next : List CountedRow) (table : List Region) (slots : List (Option Value)) → CountsOf next table (with_slots s slots)
      → WellFormed (with_slots s slots) → length slots ≤ 2 ^ 62 → Reached next table most (with_slots s slots)
  slots_reached next table slots counts well few =
      reached next table most (with_slots s slots) (record { counted = record { counts = counts; well_formed = well }; cells = h.cells; few = h.few; slots = few })

  -- the order of rows of several owners, which no state tells
  pub same_reached : (next : List CountedRow) → SameByOwner next rows → Reached next regions most s
  same_reached next same =
      reached next regions most s (record { counted = record { counts = same_rows_count rows next regions s.rows (near_edges s) same (h.counted).counts; well_formed = (h.counted).well_formed }; cells = h.cells; few = h.few; slots = h.slots })

-- what holds holds where a call failed
pub on_err : {T E P : Type 0} (r : Result T E) → P → OnErr r P
on_err (Ok x) p = tt
on_err (Err e) p = p
