-- A freeze that was planned: which rows it takes, which regions lose rows by it, and the frozen rows afterwards.
use Rattle.std.specs.Prelude.{Bool, List, Some, cond, count_by, eqb, false, map, not, true, ℕ, ◌&&◌, ◌||◌, ◌≡◌}
use Rattle.std.specs.List.{list_any}
use Rattle.lf_base.specs.declared.ids.ObjId.{ObjId}
use Rattle.lf_base.specs.declared.values.Value.{Value}
use Rattle.lf_base.specs.Edges.{edges}
use Rattle.lf_base.specs.FreezeResult.{freeze_set, frozen_row, insert_rows}
use Rattle.lf_base.specs.Names.{same_name}
use Rattle.lf_base.specs.Owners.{has_name, has_row, is_bridge, is_in}
use Rattle.lf_base.specs.Ownership.{is_owned}
use Rattle.lf_base.specs.PlainState.{State}
use Rattle.lf_base.specs.Sets.{Differ, Member}
use Rattle.lf_base.specs.WalkCounts.{borrowed, borrows}
use Rattle.lf_domain.specs.Counts.{IsDomain}
use Rattle.lf_frozen.specs.declared.row.FrozenRow.{FrozenRow}
use Rattle.lf_frozen.specs.FrozenRows.{as_row}
use Rattle.lf_graph.specs.StoredRows.{CountedRow, owner_at}
use Rattle.lf_regions.specs.declared.region.Region.{Region}
use Rattle.lf_regions.specs.Regions.{borrowed_of, has_region, owned_of}

-- a plan: the rows of these names freeze, which lie in these regions and are local; and all frozen rows then
pub record Freezing : Type 0 where
  pub taken : List ObjId
  pub regions : List ObjId
  pub frozen : List FrozenRow

-- the rows have names of frozen rows of the state
abbrev pub AreFrozenIn : State → List FrozenRow → Type 0
AreFrozenIn s rows = (row : FrozenRow) → Member row rows → (has_row s.given row.id || has_row s.own row.id) ≡ true

-- the plan is of the freeze of v in that state, to whose frozen rows `before` those that freeze are added
pub record IsFreezeOf (s : State) (before : List FrozenRow) (v : Value) (plan : Freezing) : Type 0 where
  pub differ : Differ same_name plan.taken
  pub takes : (o : ObjId) → has_name plan.taken o ≡ has_row (freeze_set s v) o
  pub once : Differ same_name plan.regions
  pub loses : (r : ObjId) → has_name plan.regions r ≡ list_any (λ x. is_in r (Some (x.owner))) (freeze_set s v)
  pub frozen : map as_row plan.frozen ≡ insert_rows (map frozen_row (freeze_set s v)) (map as_row before)

-- r is a region of the state, without owner and borrow
abbrev pub is_bare_region : State → ObjId → Bool
is_bare_region s r = is_bridge s.rows r && (not (is_owned s r) && eqb (borrowed s r) 0)

-- how many borrows of region r lead to rows of these names
abbrev pub borrows_of_taken : State → List ObjId → ObjId → ℕ
borrows_of_taken s taken r = count_by (λ e. has_name taken e.to && borrows s.rows r e) (edges s)

-- the object is one of these names and lies in region r
abbrev pub is_taken_in : List CountedRow → List ObjId → ObjId → ObjId → Bool
is_taken_in rows taken r o = has_name taken o && is_in r (owner_at rows o)

-- the table has these regions as state t has them, and the others as they were
pub record TurnsTo (t : State) (rs : List ObjId) (before after : List Region) : Type 0 where
  pub names : (q : ObjId) → has_region after q ≡ cond (has_name rs q) (is_bridge t.rows q) (has_region before q)
  pub numbers : (q : ObjId) → is_bridge t.rows q ≡ true
      → borrowed_of after q ≡ cond (has_name rs q) (borrowed t q) (borrowed_of before q)
  pub flags : (q : ObjId) → is_bridge t.rows q ≡ true → owned_of after q ≡ owned_of before q

-- of region r of the state the rows of these names may freeze, which are what a freeze of v takes; the table `now` has it as before
pub record MayLose (rows : List CountedRow) (table : List Region) (s : State) (v : Value) (taken : List ObjId) (r : ObjId)
    (now : List Region) : Type 0 where
  pub domain : IsDomain rows table s
  pub takes : (o : ObjId) → has_name taken o ≡ has_row (freeze_set s v) o
  pub bridge : is_bridge s.rows r ≡ true
  pub there : has_region now r ≡ true
  pub number : has_name taken r ≡ false → borrowed_of now r ≡ borrowed_of table r
  pub flag : has_name taken r ≡ false → owned_of now r ≡ owned_of table r

-- the same of all of these regions, which differ
pub record MayLoseAll (rows : List CountedRow) (table : List Region) (s : State) (v : Value) (taken rs : List ObjId) : Type 0 where
  pub domain : IsDomain rows table s
  pub takes : (o : ObjId) → has_name taken o ≡ has_row (freeze_set s v) o
  pub bridges : (r : ObjId) → has_name rs r ≡ true → is_bridge s.rows r ≡ true
  pub differ : Differ same_name rs
