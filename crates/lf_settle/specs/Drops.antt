-- What dropping makes of a state, its store, its table and the suspects.
use Rattle.std.specs.Prelude.{Bool, List, Some, length, ℕ, ◌*◌, ◌+◌, ◌≡◌, ◌≤◌, ◌∷◌}
use Rattle.lf_base.specs.declared.ids.ObjId.{ObjId}
use Rattle.lf_base.specs.declared.values.Owner.{Owner}
use Rattle.lf_base.specs.Kept.{kept_rows}
use Rattle.lf_base.specs.Losses.{size}
use Rattle.lf_base.specs.Owners.{owner_in}
use Rattle.lf_base.specs.PlainState.{Row, State}
use Rattle.lf_base.specs.Settling.{Spent, Watched, without}
use Rattle.lf_base.specs.Suspects.{Suspect}
use Rattle.lf_graph.specs.StoredRows.{CountedRow, plain, rows_by_name}
use Rattle.lf_regions.specs.declared.region.Region.{Region}
use Rattle.lf_settle.specs.SettledStates.{CanDrop}
use Rattle.lf_settle.specs.Verdicts.{GoesAlone, GoesWhole}
use Rattle.lf_settle.specs.WorkLists.{WorkList}

-- the state with the rows of the store
abbrev pub stored_state : State → List CountedRow → State
stored_state s rows = record s { rows = rows_by_name (plain rows) }

-- no suspect is pushed or taken out without its room
abbrev pub SameCapacity : WorkList → WorkList → Type 0
SameCapacity old new = new.spare + length new.suspects ≡ old.spare + length old.suspects

-- steps with what is still to be paid: 8 for each suspect, 32 for each row and each field
abbrev pub owed : ℕ → WorkList → List Row → ℕ
owed steps work rows = steps + 8 * length work.suspects + 32 * size rows

-- suspects, rows and fields together
abbrev pub left_to_do : WorkList → List Row → ℕ
left_to_do work rows = length work.suspects + size rows

-- a row of that owner may lose its fields
pub record CanEmpty (rows : List CountedRow) (regions : List Region) (work : WorkList) (s : State) (o : ObjId)
    (owner : Owner) : Type 0 where
  pub can : CanDrop rows regions work s
  pub here : owner_in s.rows o ≡ Some owner

-- a row may be dropped by itself
pub record CanDropRow (rows : List CountedRow) (regions : List Region) (work : WorkList) (s : State) (o : ObjId)
    (owner : Owner) : Type 0 where
  pub can : CanDrop rows regions work s
  pub goes : GoesAlone s o owner

-- a region may be dropped whole
pub record CanDropRegion (rows : List CountedRow) (regions : List Region) (work : WorkList) (s : State) (r : ObjId) : Type 0 where
  pub can : CanDrop rows regions work s
  pub goes : GoesWhole s r

-- a set of rows was dropped
pub record Drops (s : State) (gone : ObjId → Bool) (old new : WorkList) (rows : List CountedRow) (regions : List Region) : Type 0 where
  pub can : CanDrop rows regions new (without s gone)
  pub watched : (u : Suspect) → Spent gone u → Watched s (u ∷ old.suspects) → Watched (without s gone) new.suspects
  pub less : left_to_do new (without s gone).rows ≤ left_to_do old s.rows

-- after one suspect: the same rows stay, and whatever nothing justifies is watched
pub record Settles (s t : State) (u : Suspect) (old new : WorkList) (rows : List CountedRow) (regions : List Region) : Type 0 where
  pub can : CanDrop rows regions new t
  pub same : kept_rows t ≡ kept_rows s
  pub watched : Watched s (u ∷ old.suspects) → Watched t new.suspects
  pub less : left_to_do new t.rows ≤ left_to_do old s.rows
