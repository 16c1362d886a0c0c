-- The rows of a region as the store has them: the room that they need under another owner, and what becomes of the regions to
-- which they lead when they turn local.
use Rattle.std.specs.Prelude.{Bool, List, Option, Some, count_by, length, not, sum_by, true, ℕ, ◌&&◌, ◌+◌, ◌<◌, ◌^◌, ◌≡◌}
use Rattle.std.specs.List.{list_any}
use Rattle.lf_base.specs.declared.ids.ObjId.{ObjId}
use Rattle.lf_base.specs.declared.values.Owner.{Owner}
use Rattle.lf_base.specs.declared.values.Owner.TheVariants.{In}
use Rattle.lf_base.specs.Names.{same_name}
use Rattle.lf_base.specs.Owners.{is_in}
use Rattle.lf_graph.specs.StoredRows.{CountedRow, owner_at, rows_of}
use Rattle.lf_regions.specs.declared.region.Region.{Region}
use Rattle.lf_regions.specs.Regions.{borrowed_of, has_region, owned_of}

-- 1 for each row of region r, and 1 for each of its fields
abbrev pub region_cells : List CountedRow → ObjId → ℕ
region_cells rows r = sum_by (λ c. 1 + length (c.row).fields) (rows_of (In r) rows)

-- an object of that owner lies in region q, which isn't r
abbrev pub lies_outside : ObjId → ObjId → Option Owner → Bool
lies_outside r q w = is_in q w && not (same_name r q)

-- references to these objects, which were those of rows of region r, are references of local rows: each borrows the other region into
-- which it leads, and owns none
pub record TurnsLocal (rows : List CountedRow) (r : ObjId) (os : List ObjId) (before after : List Region) : Type 0 where
  pub names : (q : ObjId) → has_region after q ≡ has_region before q
  pub borrowed : (q : ObjId) → has_region before q ≡ true
      → borrowed_of after q ≡ borrowed_of before q + count_by (λ o. lies_outside r q (owner_at rows o)) os
  pub owned : (q : ObjId) → has_region before q ≡ true
      → owned_of after q ≡ (owned_of before q && not (list_any (λ o. lies_outside r q (owner_at rows o)) os))

-- each region in which one of these rows lies is in the table
abbrev pub RegionsThere : List CountedRow → List Region → Type 0
RegionsThere rows table = (o q : ObjId) → owner_at rows o ≡ Some (In q) → has_region table q ≡ true

-- each region may be borrowed so many times more
abbrev pub HasBorrowRoom : List Region → ℕ → Type 0
HasBorrowRoom table n = (q : ObjId) → has_region table q ≡ true → borrowed_of table q + n < 2 ^ 64
