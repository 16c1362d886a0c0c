-- A merge that was judged: which region goes into which.
use Rattle.std.specs.Prelude.{Bool, List, None, false, not, true, ℕ, ◌&&◌, ◌+◌, ◌≡◌, ◌≤◌}
use Rattle.lf_base.specs.declared.ids.ObjId.{ObjId}
use Rattle.lf_base.specs.declared.values.Owner.{Owner}
use Rattle.lf_base.specs.declared.values.Owner.TheVariants.{In}
use Rattle.lf_base.specs.MergeResult.{merge_fault}
use Rattle.lf_base.specs.Names.{same_name}
use Rattle.lf_base.specs.Owners.{is_bridge}
use Rattle.lf_base.specs.Ownership.{owns}
use Rattle.lf_base.specs.PlainState.{State}
use Rattle.lf_graph.specs.StoredRows.{CountedRow}
use Rattle.lf_regions.specs.declared.region.Region.{Region}
use Rattle.lf_regions.specs.Regions.{borrowed_of, has_region, owned_of}
use Rattle.lf_transfer.specs.RegionRows.{region_cells}

-- a plan: the rows of region `from` go to the region `into`, which `from` owns directly, or not
pub record Merging : Type 0 where
  pub into : ObjId
  pub from : ObjId
  pub is_child : Bool

-- the plan is of a merge that isn't refused in that state
pub record IsMergeOf (s : State) (plan : Merging) : Type 0 where
  pub into : is_bridge s.rows plan.into ≡ true
  pub from : is_bridge s.rows plan.from ≡ true
  pub allowed : merge_fault s plan.into plan.from ≡ None
  pub child : plan.is_child ≡ owns s plan.from plan.into

-- what the plan needs of the store: room for the rows that go, where they are two regions
abbrev pub HasMergeRoom : (Owner → ℕ) → List CountedRow → Merging → Type 0
HasMergeRoom spare rows plan = same_name plan.into plan.from ≡ false → region_cells rows plan.from ≤ spare (In plan.into)

-- region `from` is no region any more, and its borrows are those of the region `into`, which it owned, or not; all other regions stay
pub record Joins (before after : List Region) (into from : ObjId) (is_child : Bool) : Type 0 where
  pub names : (q : ObjId) → has_region after q ≡ (not (same_name from q) && has_region before q)
  pub borrowed_there : borrowed_of after into ≡ borrowed_of before into + borrowed_of before from
  pub owned_there : owned_of after into ≡ (not is_child && owned_of before into)
  pub borrowed : (q : ObjId) → same_name into q ≡ false → same_name from q ≡ false → borrowed_of after q ≡ borrowed_of before q
  pub owned : (q : ObjId) → same_name into q ≡ false → same_name from q ≡ false → owned_of after q ≡ owned_of before q
