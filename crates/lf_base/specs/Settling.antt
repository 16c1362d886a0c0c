-- Settling: dropping what suspects show, until none is left.
use Rattle.std.specs.Prelude.{Bool, List, Some, [], false, filter, not, true, ◌++◌, ◌∷◌, ◌≡◌}
use Rattle.lf_base.specs.declared.ids.ObjId.{ObjId}
use Rattle.lf_base.specs.declared.values.Owner.TheVariants.{In, Local}
use Rattle.lf_base.specs.Edges.{Edge, edges}
use Rattle.lf_base.specs.Kept.{kept_rows, points}
use Rattle.lf_base.specs.Names.{same_name}
use Rattle.lf_base.specs.Owners.{has_row, owner_in}
use Rattle.lf_base.specs.PlainState.{State}
use Rattle.lf_base.specs.Sets.{Member}
use Rattle.lf_base.specs.Suspects.{Bare, MustGo, Object, Region, Suspect}

-- the suspect is the region, or a row of it
abbrev pub Watches : State → ObjId → Suspect → Type 0
Watches s r (Region q) = q ≡ r
Watches s r (Object o) = owner_in s.rows o ≡ Some (In r)

-- one of the suspects is the region, or a row of it
abbrev pub WatchedBy : State → List Suspect → ObjId → Type 0
WatchedBy s w r = (u : Suspect) × (Member u w × Watches s r u)

-- whatever nothing justifies is a suspect: a local row without an edge, a region without owner and borrow (by itself or
-- by a row of it), an inner row without an edge whose bridge stays
pub record Watched (s : State) (w : List Suspect) : Type 0 where
  pub locals : (o : ObjId) → owner_in s.rows o ≡ Some Local → points s.rows s o ≡ false → Member (Object o) w
  pub regions : (r : ObjId) → owner_in s.rows r ≡ Some (In r) → Bare s r → WatchedBy s w r
  pub inners : (o r : ObjId) → owner_in s.rows o ≡ Some (In r) → same_name r o ≡ false → has_row (kept_rows s) r ≡ true
      → points s.rows s o ≡ false → Member (Object o) w

-- the state without some of its rows
abbrev pub without : State → (ObjId → Bool) → State
without s gone = record s { rows = filter (λ r. not (gone r.name)) s.rows }

-- a set of rows that may be dropped at once: they must go, and nothing that is left leads to them
pub record CanGo (s : State) (gone : ObjId → Bool) : Type 0 where
  pub must : (o : ObjId) → gone o ≡ true → MustGo s o
  pub clear : (e : Edge) → Member e (edges (without s gone)) → gone e.to ≡ false
  -- with a bridge go all rows of its region
  pub whole : (o r : ObjId) → owner_in s.rows o ≡ Some (In r) → gone r ≡ true → gone o ≡ true
  -- a region without owner and borrow goes whole or stays
  pub apart : (o r : ObjId) → owner_in s.rows o ≡ Some (In r) → gone o ≡ true → gone r ≡ false → Bare s r → ⊥

-- the suspect is among what goes
abbrev pub Spent : (ObjId → Bool) → Suspect → Type 0
Spent gone (Object o) = gone o ≡ true
Spent gone (Region r) = gone r ≡ true

-- whatever loses its last justification by the drop is a new suspect
pub record Renewed (s : State) (gone : ObjId → Bool) (new : List Suspect) : Type 0 where
  pub locals : (o : ObjId) → owner_in (without s gone).rows o ≡ Some Local → points s.rows s o ≡ true
      → points (without s gone).rows (without s gone) o ≡ false → Member (Object o) new
  pub regions : (r : ObjId) → owner_in (without s gone).rows r ≡ Some (In r) → (Bare s r → ⊥) → Bare (without s gone) r
      → WatchedBy (without s gone) new r
  pub inners : (o r : ObjId) → owner_in (without s gone).rows o ≡ Some (In r) → same_name r o ≡ false → points s.rows s o ≡ true
      → points (without s gone).rows (without s gone) o ≡ false → Member (Object o) new

-- the suspect has a justification, or has no row
abbrev pub Idle : State → Suspect → Type 0
Idle s (Object o) = (owner_in s.rows o ≡ Some Local → points s.rows s o ≡ true)
    × ((r : ObjId) → owner_in s.rows o ≡ Some (In r) → (Bare s r → ⊥) × (same_name r o ≡ false → points s.rows s o ≡ true))
Idle s (Region r) = owner_in s.rows r ≡ Some (In r) → Bare s r → ⊥

-- a run over the suspects: one that has a justification is forgotten, and for another one a set of rows is dropped
pub data Run : State → List Suspect → State → Type 0 where
  finish : {s : State} → Run s [] s
  forget : {s t : State} {u : Suspect} {w : List Suspect} → Idle s u → Run s w t → Run s (u ∷ w) t
  drop : {s t : State} {u : Suspect} {w : List Suspect} (gone : ObjId → Bool) (new : List Suspect) → CanGo s gone → Spent gone u
      → Renewed s gone new → Run (without s gone) (new ++ w) t → Run s (u ∷ w) t
