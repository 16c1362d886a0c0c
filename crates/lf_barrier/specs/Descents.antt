-- What a region owns, as its rows tell, and whether a region lies below bridges.
use Rattle.std.specs.Prelude.{Bool, List, Option, Some, false, flat_map, not, true, ◌&&◌, ◌++◌, ◌≡◌, ◌⊎◌}
use Rattle.lf_base.specs.declared.ids.ObjId.{ObjId}
use Rattle.lf_base.specs.declared.values.Owner.{Owner}
use Rattle.lf_base.specs.declared.values.Owner.TheVariants.{In}
use Rattle.lf_base.specs.Edges.{field_targets}
use Rattle.lf_base.specs.Names.{same_name}
use Rattle.lf_base.specs.Owners.{has_name}
use Rattle.lf_base.specs.Ownership.{Above}
use Rattle.lf_base.specs.PlainState.{State}
use Rattle.lf_base.specs.Sets.{Member}
use Rattle.lf_graph.specs.StoredRows.{CountedRow, owner_at, rows_of}

-- object o of that owner is the bridge of a region other than r
abbrev pub is_child : ObjId → ObjId → Option Owner → Bool
is_child r o (Some (In q)) = same_name q o && not (same_name r o)
is_child r o _ = false

-- the objects to which the rows of region r refer
abbrev pub region_targets : List CountedRow → ObjId → List ObjId
region_targets rows r = flat_map (λ c. field_targets (c.row).fields) (rows_of (In r) rows)

-- all bridges of other regions among the objects that region r refers to are visited, and `home` isn't one of them
pub record Passed (rows : List CountedRow) (r home : ObjId) (os before after : List ObjId) : Type 0 where
  pub covered : (t : ObjId) → Member t os → is_child r t (owner_at rows t) ≡ true → (has_name after t ≡ true) × (same_name t home ≡ false)
  pub only : (t : ObjId) → has_name after t ≡ true → (has_name before t ≡ true) ⊎ (Member t os × (is_child r t (owner_at rows t) ≡ true))
  pub apart : has_name before home ≡ false → has_name after home ≡ false
  pub more : List ObjId
  pub grows : after ≡ before ++ more

-- whether `home` is one of them, and if not, which are visited
abbrev pub Looked : List CountedRow → ObjId → ObjId → List ObjId → List ObjId → List ObjId → Bool → Type 0
Looked rows r home os before after true = Member home os × (is_child r home (owner_at rows home) ≡ true)
Looked rows r home os before after false = Passed rows r home os before after

-- one of the bridges is above `home`, or none of them is
abbrev pub IsBelow : State → List ObjId → ObjId → Bool → Type 0
IsBelow s bridges home true = (b : ObjId) × ((has_name bridges b ≡ true) × Above s b home)
IsBelow s bridges home false = (b : ObjId) → has_name bridges b ≡ true → Above s b home → ⊥
