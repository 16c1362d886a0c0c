-- Suspects: where something was lost, and the rows that must go which hang on them.
use Rattle.std.specs.Prelude.{List, Some, false, true, ◌≡◌}
use Rattle.lf_base.specs.declared.ids.ObjId.{ObjId}
use Rattle.lf_base.specs.declared.values.Owner.TheVariants.{In, Local}
use Rattle.lf_base.specs.Edges.{Field, rows_edges}
use Rattle.lf_base.specs.Kept.{is_owned_by, kept_rows, points, points_into}
use Rattle.lf_base.specs.Names.{same_name}
use Rattle.lf_base.specs.Owners.{has_row, owner_in}
use Rattle.lf_base.specs.PlainState.{State}
use Rattle.lf_base.specs.Sets.{Member}

-- a place where something was lost: an object that an edge no longer names, or a region that an owner or a borrow no longer reaches
pub data Suspect : Type 0 where
  Object : ObjId → Suspect
  Region : ObjId → Suspect

-- the name has a row, and not among those that stay
pub record MustGo (s : State) (o : ObjId) : Type 0 where
  pub here : has_row s.rows o ≡ true
  pub goes : has_row (kept_rows s) o ≡ false

-- a field of row p leads to o
abbrev pub LeadsTo : State → ObjId → ObjId → Type 0
LeadsTo s p o = Member (record { from = Field p; to = o }) (rows_edges s.rows)

-- the row hangs on a suspect: it is one; or its region, whose bridge must go, is one; or a row leads to it that must go
-- and hangs on one; or such a row leads into its region, whose bridge must go
pub data Hangs (s : State) (w : List Suspect) : ObjId → Type 0 where
  itself : {o : ObjId} → Member (Object o) w → Hangs s w o
  by_region : (r : ObjId) {o : ObjId} → owner_in s.rows o ≡ Some (In r) → MustGo s r → Member (Region r) w → Hangs s w o
  by_row : (p : ObjId) {o : ObjId} → LeadsTo s p o → MustGo s p → Hangs s w p → Hangs s w o
  by_row_into : (p q r : ObjId) {o : ObjId} → owner_in s.rows o ≡ Some (In r) → MustGo s r → owner_in s.rows q ≡ Some (In r)
      → LeadsTo s p q → MustGo s p → Hangs s w p → Hangs s w o

-- each row that must go hangs on a suspect
abbrev pub AllHang : State → List Suspect → Type 0
AllHang s w = (o : ObjId) → MustGo s o → Hangs s w o

-- a region with neither owner nor borrow
pub record Bare (s : State) (r : ObjId) : Type 0 where
  pub unowned : is_owned_by s.rows s r ≡ false
  pub unborrowed : points_into s.rows s r ≡ false

-- whatever nothing justifies is itself a suspect: a local row without an edge, a region without owner and borrow, an
-- inner row without an edge whose bridge stays
pub record Suspected (s : State) (w : List Suspect) : Type 0 where
  pub locals : (o : ObjId) → owner_in s.rows o ≡ Some Local → points s.rows s o ≡ false → Member (Object o) w
  pub regions : (r : ObjId) → owner_in s.rows r ≡ Some (In r) → Bare s r → Member (Region r) w
  pub inners : (o r : ObjId) → owner_in s.rows o ≡ Some (In r) → same_name r o ≡ false → has_row (kept_rows s) r ≡ true
      → points s.rows s o ≡ false → Member (Object o) w
