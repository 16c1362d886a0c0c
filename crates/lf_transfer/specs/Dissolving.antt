-- A dissolving that was judged: which region it is.
use Rattle.std.specs.Prelude.{List, false, true, ℕ, ◌≡◌, ◌≤◌}
use Rattle.lf_base.specs.declared.ids.ObjId.{ObjId}
use Rattle.lf_base.specs.declared.values.Owner.{Owner}
use Rattle.lf_base.specs.declared.values.Owner.TheVariants.{Local}
use Rattle.lf_base.specs.Owners.{is_bridge}
use Rattle.lf_base.specs.Ownership.{is_owned}
use Rattle.lf_base.specs.PlainState.{State}
use Rattle.lf_graph.specs.StoredRows.{CountedRow}
use Rattle.lf_transfer.specs.RegionRows.{region_cells}

-- a plan: the rows of that region turn local
pub record Dissolving : Type 0 where
  pub region : ObjId

-- the plan is of a dissolving that isn't refused in that state
pub record IsDissolveOf (s : State) (plan : Dissolving) : Type 0 where
  pub bridge : is_bridge s.rows plan.region ≡ true
  pub unowned : is_owned s plan.region ≡ false

-- what the plan needs of the store: room for the rows that turn local
abbrev pub HasDissolveRoom : (Owner → ℕ) → List CountedRow → Dissolving → Type 0
HasDissolveRoom spare rows plan = region_cells rows plan.region ≤ spare Local
