-- What must go because of a suspect.
use Rattle.std.specs.Prelude.{List, Some, eqb, false, if◌then◌else◌, ◌≡◌}
use Rattle.lf_base.specs.declared.ids.ObjId.{ObjId}
use Rattle.lf_base.specs.declared.values.Owner.{Owner}
use Rattle.lf_base.specs.declared.values.Owner.TheVariants.{In}
use Rattle.lf_base.specs.Losses.{of_region}
use Rattle.lf_base.specs.Names.{same_name}
use Rattle.lf_base.specs.Owners.{is_in, owner_in}
use Rattle.lf_base.specs.PlainState.{State}
use Rattle.lf_base.specs.Settling.{CanGo, Idle, Spent}
use Rattle.lf_base.specs.Suspects.{Bare, Suspect}
use Rattle.lf_base.specs.WalkCounts.{refs}
use Rattle.lf_graph.specs.StoredRows.{CountedRow, refs_at}
use Rattle.lf_settle.specs.declared.verdict.Verdict.{Verdict}
use Rattle.lf_settle.specs.declared.verdict.Verdict.TheVariants.{DropRegion, DropRow, Stays}

-- a row of that owner goes by itself: no edge leads to it, and it is no bridge
pub record GoesAlone (s : State) (o : ObjId) (owner : Owner) : Type 0 where
  pub here : owner_in s.rows o ≡ Some owner
  pub no_bridge : is_in o (Some owner) ≡ false
  pub no_edge : refs s o ≡ 0
  pub goes : CanGo s (same_name o)

-- a region goes whole: it has neither owner nor borrow
pub record GoesWhole (s : State) (r : ObjId) : Type 0 where
  pub bridge : owner_in s.rows r ≡ Some (In r)
  pub bare : Bare s r

-- what a verdict on a suspect says: it has a justification, or it is among what goes
abbrev pub Judges : State → Verdict → Suspect → Type 0
Judges s Stays u = Idle s u
Judges s (DropRow o owner) u = GoesAlone s o owner × Spent (same_name o) u
Judges s (DropRegion r) u = GoesWhole s r × Spent (of_region s r) u

-- on a row that needs an edge, by its count
abbrev pub row_verdict : List CountedRow → ObjId → Owner → Verdict
row_verdict rows o owner = if eqb (refs_at rows o) 0 then DropRow o owner else Stays
