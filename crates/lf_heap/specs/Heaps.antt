-- What a heap is to contracts, and what it keeps.
use Rattle.std.specs.Prelude.{List, Option, [], length, map, ℕ, ◌*◌, ◌+◌, ◌<◌, ◌^◌, ◌≡◌, ◌≤◌}
use Rattle.lf_base.specs.declared.questions.Answer.{Answer}
use Rattle.lf_base.specs.declared.questions.Answer.TheVariants.{Number}
use Rattle.lf_base.specs.declared.values.Value.{Value}
use Rattle.lf_base.specs.EdgeLists.{cells}
use Rattle.lf_base.specs.PlainChanges.{with_slots}
use Rattle.lf_base.specs.PlainState.{State}
use Rattle.lf_base.specs.SettledStates.{Settled}
use Rattle.lf_frozen.specs.FrozenRows.{as_row}
use Rattle.lf_graph.specs.StoredRows.{CountedRow, plain, rows_by_name}
use Rattle.lf_heap.specs.declared.contents.CownContents.{CownContents}
use Rattle.lf_heap.specs.declared.frozen.FrozenParts.{FrozenParts}
use Rattle.lf_regions.specs.declared.region.Region.{Region}
use Rattle.lf_settle.specs.SettledStates.{IsCounted}
use Rattle.lf_settle.specs.WorkLists.{WorkList}
use Rattle.lf_transfer.specs.LooseNames.{LooseNames}

-- what contracts see of a heap: its state, and for how many more slots it has room
pub record Domain : Type 0 where
  pub state : State
  pub spare : ℕ

-- the state that a number of a behaviour, how many objects it has made, its contents, its frozen rows, a store's rows and
-- slots stand for
abbrev pub heap_state : ℕ → ℕ → CownContents → FrozenParts → List CountedRow → List (Option Value) → State
heap_state birth objects contents frozen rows slots = record {
  birth = birth;
  objects = objects;
  cowns = length contents.made;
  rows = rows_by_name (plain rows);
  slots = slots;
  held = contents.held;
  made = contents.made;
  given = map as_row frozen.given;
  own = map as_row frozen.own;
}

-- the store and the table count the edges of the state, which is well-formed, and its slots and other cells are so few that
-- each count has room for more
pub record HasParts (rows : List CountedRow) (regions : List Region) (most : ℕ) (s : State) : Type 0 where
  pub counted : IsCounted rows regions s
  pub cells : cells (with_slots s []) ≤ most
  pub few : most < 2 ^ 62
  pub slots : length s.slots ≤ 2 ^ 62

-- between two calls all rows stay, which are few, no suspect is left, and there is room for three suspects for each row and four
-- more: two of each row for settling, and one where a close lets it loose. The list that a close fills is empty, with room for each row
pub record IsAtRest (s : State) (work : WorkList) (loose : LooseNames) (most : ℕ) : Type 0 where
  pub settled : Settled s
  pub none_left : work.suspects ≡ []
  pub none_loose : loose.names ≡ []
  pub rows : length s.rows ≤ most
  pub few : most ≤ 2 ^ 61
  pub room : 3 * most + 4 ≤ work.spare
  pub listed : most ≤ loose.spare

-- slots and room for slots are as many as before
abbrev pub SameRoom : Domain → Domain → Type 0
SameRoom old new = new.spare + length new.state.slots ≡ old.spare + length old.state.slots

-- a number that fits an integer of the script
abbrev pub FitsInteger : Answer → Type 0
FitsInteger (Number n) = n < 2 ^ 63
FitsInteger _ = Unit {0}
