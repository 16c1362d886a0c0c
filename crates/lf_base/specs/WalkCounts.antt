-- The counts, as walks over the edges.
use Rattle.std.specs.Prelude.{Bool, List, Option, count_by, false, ltb, true, ℕ, ◌&&◌, ◌||◌}
use Rattle.std.specs.List.{list_any}
use Rattle.lf_base.specs.declared.ids.ObjId.{ObjId}
use Rattle.lf_base.specs.declared.values.Value.{Value}
use Rattle.lf_base.specs.Edges.{Content, Edge, Field, Slot, Source, edges, slot_targets}
use Rattle.lf_base.specs.Names.{same_name}
use Rattle.lf_base.specs.Owners.{bridges, is_in, is_local_at, owner_in}
use Rattle.lf_base.specs.Ownership.{below, owns}
use Rattle.lf_base.specs.PlainState.{Row, State}

-- the number of edges to object o
abbrev pub refs : State → ObjId → ℕ
refs s o = count_by (λ e. same_name e.to o) (edges s)

-- what a place that holds this counts for object o: 1 where it refers to o, else 0
abbrev pub counted : ObjId → Option Value → ℕ
counted o w = count_by (λ p. same_name p o) (slot_targets w)

-- an edge from here borrows what it leads to: it begins at a slot or at a local row
abbrev pub is_borrower : List Row → Source → Bool
is_borrower rows Slot = true
is_borrower rows (Field p) = is_local_at (owner_in rows p)
is_borrower rows (Content c) = false

-- the edge leads from a slot or a local row to a row of region r
abbrev pub borrows : List Row → ObjId → Edge → Bool
borrows rows r e = is_borrower rows e.from && is_in r (owner_in rows e.to)

-- the number of edges from slots and local rows to rows of region r
abbrev pub borrowed : State → ObjId → ℕ
borrowed s r = count_by (borrows s.rows r) (edges s)

-- region r is open: it or a region below it is borrowed
abbrev pub is_open : State → ObjId → Bool
is_open s r = ltb 0 (borrowed s r) || list_any (λ c. ltb 0 (borrowed s c)) (below s r)

-- the number of open regions that r owns directly
abbrev pub open_children : State → ObjId → ℕ
open_children s r = count_by (λ c. owns s r c && is_open s c) (bridges s)
