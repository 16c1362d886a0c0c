-- What is handed to settling: a store and a table of one well-formed state, and suspects.
use Rattle.std.specs.Prelude.{List, Option, [], length, ℕ, ◌<◌, ◌≡◌, ◌≤◌}
use Rattle.lf_base.specs.declared.values.Value.{Value}
use Rattle.lf_base.specs.Kept.{kept_rows}
use Rattle.lf_base.specs.Losses.{justified}
use Rattle.lf_base.specs.PlainChanges.{slot_at}
use Rattle.lf_base.specs.PlainState.{State}
use Rattle.lf_base.specs.Settling.{Watched}
use Rattle.lf_base.specs.WellFormed.{WellFormed}
use Rattle.lf_domain.specs.Counts.{CountsOf}
use Rattle.lf_graph.specs.StoredRows.{CountedRow}
use Rattle.lf_regions.specs.declared.region.Region.{Region}
use Rattle.lf_settle.specs.WorkLists.{WorkList}

-- the store and the table count the edges of the state, which is well-formed
pub record IsCounted (rows : List CountedRow) (regions : List Region) (s : State) : Type 0 where
  pub counts : CountsOf rows regions s
  pub well_formed : WellFormed s

-- the same, and there is room for a suspect for each row to which an edge leads and for each region with an owner or a borrow
pub record CanDrop (rows : List CountedRow) (regions : List Region) (work : WorkList) (s : State) : Type 0 where
  pub counted : IsCounted rows regions s
  pub room : justified s ≤ work.spare

-- the same, and the suspects watch whatever nothing justifies
pub record CanSettle (rows : List CountedRow) (regions : List Region) (work : WorkList) (s : State) : Type 0 where
  pub can_drop : CanDrop rows regions work s
  pub watched : Watched s work.suspects

-- a state of which all rows stay, without suspects, whose slot at a place holds this
pub record MayUnset (rows : List CountedRow) (regions : List Region) (work : WorkList) (s : State) (n : ℕ)
    (v : Option Value) : Type 0 where
  pub can_drop : CanDrop rows regions work s
  pub all_stay : kept_rows s ≡ s.rows
  pub there : n < length s.slots
  pub holds : slot_at s.slots n ≡ v
  pub none_yet : work.suspects ≡ []
