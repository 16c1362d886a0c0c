-- The rows that stay after an instruction.
use Rattle.std.specs.Prelude.{Bool, List, cond, true, ◌&&◌, ◌++◌, ◌||◌}
use Rattle.std.specs.List.{list_any}
use Rattle.lf_base.specs.declared.ids.ObjId.{ObjId}
use Rattle.lf_base.specs.declared.values.Owner.{Owner}
use Rattle.lf_base.specs.declared.values.Owner.TheVariants.{Frozen, In, Local}
use Rattle.lf_base.specs.Edges.{content_edges, rows_edges, slot_edges}
use Rattle.lf_base.specs.Names.{same_name}
use Rattle.lf_base.specs.Owners.{has_row, is_in, owner_in}
use Rattle.lf_base.specs.Ownership.{is_owning}
use Rattle.lf_base.specs.PlainState.{Row, State}
use Rattle.lf_base.specs.Sets.{greatest}
use Rattle.lf_base.specs.WalkCounts.{is_borrower}

-- an edge leads to o from a slot or from one of the rows
abbrev pub points : List Row → State → ObjId → Bool
points rows s o = list_any (λ e. same_name e.to o) (slot_edges s.slots ++ rows_edges rows)

-- an edge leads to a row of region r from a slot or from a local one of the rows
abbrev pub points_into : List Row → State → ObjId → Bool
points_into rows s r = list_any (λ e. is_borrower s.rows e.from && is_in r (owner_in s.rows e.to)) (slot_edges s.slots ++ rows_edges rows)

-- bridge r has an owning edge from one of the rows or from a cown
abbrev pub is_owned_by : List Row → State → ObjId → Bool
is_owned_by rows s r = list_any (λ e. is_owning s.rows e.from r && same_name e.to r) (rows_edges rows
    ++ (content_edges s.held ++ content_edges s.made))

-- what the rows must give for a row of that name and owner to be one of them:
-- to a local row an edge from a slot or from one of them;
-- to a bridge an owning edge from one of them or from a cown, or an edge into its region from a slot or from a local one of them;
-- to an inner row its bridge among them, and an edge from a slot or from one of them
abbrev pub stays_by_owner : State → List Row → ObjId → Owner → Bool
stays_by_owner s rows o Local = points rows s o
stays_by_owner s rows o (In r) = cond (same_name r o) (is_owned_by rows s r || points_into rows s r) (has_row rows r && points rows s o)
stays_by_owner s rows o Frozen = true

-- the rows justify that this row is one of them
abbrev pub stays : State → List Row → Row → Bool
stays s rows row = stays_by_owner s rows row.name row.owner

-- the rows that stay: the greatest set each row of which the set justifies
abbrev pub kept_rows : State → List Row
kept_rows s = greatest (stays s) s.rows

-- the state with the rows that stay
abbrev pub kept : State → State
kept s = record s { rows = kept_rows s }
