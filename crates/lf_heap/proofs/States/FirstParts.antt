-- The parts of a domain that begins with frozen rows alone.
use Rattle.std.proofs.Common.{List, [], arith, map, ℕ}
use Rattle.lf_base.specs.WellFormed.{MayBeGiven}
use Rattle.lf_domain.proofs.NewRowCounts.{none_counted}
use Rattle.lf_frozen.specs.declared.row.FrozenRow.{FrozenRow}
use Rattle.lf_frozen.specs.FrozenRows.{as_row}
use Rattle.lf_laws.proofs.Changes.FirstState.{first_whole}
use Rattle.lf_heap.specs.Heaps.{HasParts, heap_state}

pub first_parts : (birth : ℕ) (given : List FrozenRow) → MayBeGiven birth (map as_row given)
    → HasParts [] [] 0 (heap_state birth 0 (record { held = []; made = [] }) (record { given = given; own = [] }) [] [])
first_parts birth given may = record {
  counted = record { counts = none_counted birth (map as_row given); well_formed = first_whole birth (map as_row given) may };
  cells = omega arith;
  few = omega arith;
  slots = omega arith;
}
