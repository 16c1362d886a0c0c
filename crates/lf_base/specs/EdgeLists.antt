-- Edges as lists whose order doesn't matter; and the edges of a state that its cells hold: slots, fields of mutable rows, contents.
use Rattle.std.specs.Prelude.{Bool, List, None, count_by, false, filter, length, sum_by, ℕ, ◌&&◌, ◌++◌, ◌+◌, ◌∷◌, ◌≡◌}
use Rattle.std.specs.List.{list_any}
use Rattle.lf_base.specs.declared.ids.ObjId.{ObjId}
use Rattle.lf_base.specs.Edges.{Edge, Field, Source, content_edges, rows_edges, slot_edges}
use Rattle.lf_base.specs.Owners.{has_name, is_in, owner_in}
use Rattle.lf_base.specs.Ownership.{below}
use Rattle.lf_base.specs.PlainChanges.{put_slot}
use Rattle.lf_base.specs.PlainState.{Row, State}
use Rattle.lf_base.specs.WalkCounts.{is_borrower}

-- two lists have the same edges, each as often: as many of them pass any test
abbrev pub SameEdges : List Edge → List Edge → Type 0
SameEdges xs ys = (test : Edge → Bool) → count_by test xs ≡ count_by test ys

-- the edges that slots, mutable rows and contents have; a frozen row has none to a mutable row
abbrev pub near_edges : State → List Edge
near_edges s = slot_edges s.slots ++ (rows_edges s.rows ++ (content_edges s.held ++ content_edges s.made))

-- the edges of the frozen rows
abbrev pub frozen_edges : State → List Edge
frozen_edges s = rows_edges s.given ++ rows_edges s.own

-- the edge begins at a row of one of these names
abbrev pub begins_at : List ObjId → Source → Bool
begins_at os (Field p) = has_name os p
begins_at os _ = false

-- the places that hold near edges: slots, fields of mutable rows, contents
abbrev pub cells : State → ℕ
cells s = length s.slots + (sum_by (λ (r : Row). length r.fields) s.rows + (length s.held + length s.made))

-- the edge leads from a slot or a local row into region r or a region below it
abbrev pub is_closed_off : State → ObjId → Edge → Bool
is_closed_off s r e = is_borrower s.rows e.from && list_any (λ q. is_in q (owner_in s.rows e.to)) (r ∷ below s r)

-- the edges that a close of region r by the slot at a place takes away: of the other slots and of the local rows
abbrev pub closed_edges : State → ℕ → ObjId → List Edge
closed_edges s at r = filter (is_closed_off s r) (slot_edges (put_slot s.slots at None) ++ rows_edges s.rows)
