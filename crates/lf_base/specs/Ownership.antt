-- Which region owns which.
use Rattle.std.specs.Prelude.{Bool, List, Option, Some, count_by, false, not, true, ℕ, ◌&&◌, ◌||◌, ◌≡◌}
use Rattle.std.specs.List.{list_any}
use Rattle.lf_base.specs.declared.ids.ObjId.{ObjId}
use Rattle.lf_base.specs.declared.values.Owner.{Owner}
use Rattle.lf_base.specs.declared.values.Owner.TheVariants.{In}
use Rattle.lf_base.specs.Edges.{Content, Field, Slot, Source, edges}
use Rattle.lf_base.specs.Names.{same_name}
use Rattle.lf_base.specs.Owners.{bridges, is_bridge, is_in, owner_in}
use Rattle.lf_base.specs.PlainState.{Row, State}
use Rattle.lf_base.specs.Sets.{greatest, least}

-- the owner is a region other than that of bridge o
abbrev pub is_in_other : ObjId → Option Owner → Bool
is_in_other o (Some (In q)) = not (same_name q o)
is_in_other o _ = false

-- an edge from here to bridge o owns it: it begins at a row of another region, or at a content
abbrev pub is_owning : List Row → Source → ObjId → Bool
is_owning rows Slot o = false
is_owning rows (Field p) o = is_in_other o (owner_in rows p)
is_owning rows (Content c) o = true

-- the number of owning edges to bridge r
abbrev pub owning_edges : State → ObjId → ℕ
owning_edges s r = count_by (λ e. is_owning s.rows e.from r && same_name e.to r) (edges s)

-- bridge r has an owning edge
abbrev pub is_owned : State → ObjId → Bool
is_owned s r = list_any (λ e. is_owning s.rows e.from r && same_name e.to r) (edges s)

-- the edge begins at a row of region q
abbrev pub is_from : List Row → ObjId → Source → Bool
is_from rows q (Field p) = is_in q (owner_in rows p)
is_from rows q _ = false

-- region q owns region r directly: an edge leads from a row of q to the bridge r
abbrev pub owns : State → ObjId → ObjId → Bool
owns s q r = not (same_name q r) && (is_bridge s.rows r && list_any (λ e. is_from s.rows q e.from && same_name e.to r) (edges s))

-- region q owns region r, directly or through other regions
pub data Above (s : State) : ObjId → ObjId → Type 0 where
  direct : {q r : ObjId} → owns s q r ≡ true → Above s q r
  step : {q p r : ObjId} → owns s q p ≡ true → Above s p r → Above s q r

-- owners don't go round: no region is above itself
abbrev pub NoRound : State → Type 0
NoRound s = (r : ObjId) → Above s r r → ⊥

-- the bridges below r: those that r owns, and those that one below r owns
abbrev pub below : State → ObjId → List ObjId
below s r = least (λ found c. owns s r c || list_any (λ q. owns s q c) found) (bridges s)

-- the greatest set of bridges each of which a member of the set owns: empty where owners don't go round
abbrev pub round : State → List ObjId
round s = greatest (λ qs r. list_any (λ q. owns s q r) qs) (bridges s)
