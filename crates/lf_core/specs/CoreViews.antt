-- A core's state from its parts.
use Rattle.std.specs.Prelude.{List, map, ℕ}
use Rattle.lf_base.specs.declared.ids.CownId.{CownId}
use Rattle.lf_core.specs.declared.journal.Entry.{Entry}
use Rattle.lf_core.specs.Cores.{CoreState}
use Rattle.lf_core.specs.Reading.{Parked}
use Rattle.lf_frozen.specs.declared.row.FrozenRow.{FrozenRow}
use Rattle.lf_frozen.specs.FrozenRows.{as_row}
use Rattle.lf_queue.specs.Queues.{QueueState}

abbrev pub core_state : QueueState → List (CownId × Parked) → List FrozenRow → List Entry → ℕ → ℕ → List ℕ → ℕ → CoreState
core_state queue parked frozen journal next started abandoned budget = record {
  world = record { waiting = queue.waiting; running = queue.running; parked = parked; frozen = map as_row frozen; journal = journal; next = next; started = started };
  abandoned = abandoned;
  budget = budget;
}
