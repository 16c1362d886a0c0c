-- The loops of dropping and settling, as far as they have come.
use Rattle.std.specs.Prelude.{List, None, Option, Some, [], cond, ℕ, length, ◌*◌, ◌++◌, ◌+◌, ◌≡◌, ◌≤◌, ◌∷◌}
use Rattle.lf_base.specs.declared.ids.ObjId.{ObjId}
use Rattle.lf_base.specs.declared.values.Owner.TheVariants.{In}
use Rattle.lf_base.specs.Kept.{kept_rows}
use Rattle.lf_base.specs.Losses.{Loses, emptied, of_region}
use Rattle.lf_base.specs.Names.{same_name}
use Rattle.lf_base.specs.PlainState.{Row, State}
use Rattle.lf_base.specs.Sets.{Member}
use Rattle.lf_base.specs.Settling.{Watched}
use Rattle.lf_graph.specs.RowOrder.{names_under}
use Rattle.lf_graph.specs.StoredRows.{CountedRow}
use Rattle.lf_regions.specs.declared.region.Region.{Region}
use Rattle.lf_settle.specs.Drops.{left_to_do, owed, stored_state}
use Rattle.lf_settle.specs.SettledStates.{CanDrop, IsCounted}
use Rattle.lf_settle.specs.WorkLists.{WorkList}

-- some fields of a row are out, and else the rows are as they were
pub record Emptying (s : State) (o : ObjId) (rows : List CountedRow) (regions : List Region) (old new : WorkList)
    (before after : ℕ) : Type 0 where
  pub counted : IsCounted rows regions (stored_state s rows)
  pub same : emptied (stored_state s rows) (same_name o) ≡ emptied s (same_name o)
  pub loses : Loses s (stored_state s rows) old.suspects new.suspects
  pub less : left_to_do new (stored_state s rows).rows ≤ left_to_do old s.rows
  pub cost : owed after new (stored_state s rows).rows ≤ owed before old s.rows

-- the first of some names
abbrev pub first_listed : List ObjId → Option ObjId
first_listed [] = None
first_listed (o ∷ os) = Some o

-- the names from that one on, where it is among them
abbrev pub names_from : Option ObjId → List ObjId → List ObjId
names_from None os = []
names_from (Some o) [] = []
names_from (Some o) (p ∷ ps) = cond (same_name p o) (p ∷ ps) (names_from (Some o) ps)

-- some of a region's rows are empty, and the next one is the first of the others
pub record Sweeping (s : State) (r : ObjId) (next : Option ObjId) (rows : List CountedRow) (regions : List Region) (old new : WorkList)
    (before after : ℕ) : Type 0 where
  pub counted : IsCounted rows regions (stored_state s rows)
  pub same : emptied (stored_state s rows) (of_region s r) ≡ emptied s (of_region s r)
  pub loses : Loses s (stored_state s rows) old.suspects new.suspects
  pub done : List ObjId
  pub todo : List ObjId
  pub order : names_under (In r) rows ≡ done ++ todo
  pub next_is : next ≡ first_listed todo
  pub empty : (row : Row) → Member row (stored_state s rows).rows → Member row.name done → row.fields ≡ []
  pub less : left_to_do new (stored_state s rows).rows ≤ left_to_do old s.rows
  pub cost : owed after new (stored_state s rows).rows ≤ owed before old s.rows + 2 * length done + 1

-- between two suspects: the rows that stay are those that stayed at first, and what the steps and the suspects still cost
-- is paid by what is dropped
pub record Going (s : State) (rows : List CountedRow) (regions : List Region) (old new : WorkList) (before after : ℕ) : Type 0 where
  pub can : CanDrop rows regions new (stored_state s rows)
  pub watched : Watched (stored_state s rows) new.suspects
  pub same : kept_rows (stored_state s rows) ≡ kept_rows s
  pub cost : owed after new (stored_state s rows).rows ≤ owed before old s.rows
