-- The region tree of a content: the region that its value names, and those below it.
use Rattle.std.specs.Prelude.{Bool, List, None, Option, Some, [], cond, count_by, filter, ℕ, ◌+◌, ◌∷◌}
use Rattle.std.specs.List.{list_any}
use Rattle.lf_base.specs.declared.ids.ObjId.{ObjId}
use Rattle.lf_base.specs.declared.values.Value.{Value}
use Rattle.lf_base.specs.Edges.{rows_edges}
use Rattle.lf_base.specs.Names.{same_name}
use Rattle.lf_base.specs.Owners.{bridge_of, is_in}
use Rattle.lf_base.specs.Ownership.{below}
use Rattle.lf_base.specs.PlainState.{Row, State}

-- the regions of a tree: the root, where there is one, and those below it
abbrev pub regions_from : State → Option ObjId → List ObjId
regions_from s None = []
regions_from s (Some r) = r ∷ below s r

-- the row lies in one of the regions
abbrev pub lies_in_one : List ObjId → Row → Bool
lies_in_one qs row = list_any (λ q. is_in q (Some (row.owner))) qs

-- the rows of the tree whose root the value names, by rising name; none where it names no bridge
abbrev pub owned_rows : State → Value → List Row
owned_rows s v = filter (lies_in_one (regions_from s (bridge_of s v))) s.rows

-- the count of a row of a tree by itself: the edges from the tree's rows, and one further edge to the root
abbrev pub refs_in : List Row → ObjId → ObjId → ℕ
refs_in rows root o = count_by (λ e. same_name e.to o) (rows_edges rows) + cond (same_name root o) 1 0
