-- Contents that stand by themselves: at the end of a behaviour, and where the next one begins.
use Rattle.std.specs.Prelude.{List, [], false, ℕ, ◌≡◌}
use Rattle.lf_base.specs.declared.ids.CownId.{CownId}
use Rattle.lf_base.specs.declared.ids.ObjId.{ObjId}
use Rattle.lf_base.specs.declared.values.Value.{Value}
use Rattle.lf_base.specs.Contents.{Parked, lone, single, stored}
use Rattle.lf_base.specs.FreezeResult.{insert_rows}
use Rattle.lf_base.specs.Kept.{kept, kept_rows}
use Rattle.lf_base.specs.Names.{is_local, name_below}
use Rattle.lf_base.specs.Owners.{names}
use Rattle.lf_base.specs.PlainState.{Row, State}
use Rattle.lf_base.specs.Sets.{InOrder, Member}
use Rattle.lf_base.specs.WellFormed.{WellFormed, all_cowns, all_names}

-- a state as a behaviour's end leaves it: neither slots nor local rows
pub record Ended (s : State) : Type 0 where
  pub whole : WellFormed s
  pub no_slots : s.slots ≡ []
  pub no_locals : (x : Row) → Member x s.rows → is_local x.owner ≡ false

-- a content that may stand behind a cown while nobody holds it: it stands by itself with all its rows, none of them local
pub record Whole (birth : ℕ) (c : CownId) (v : Parked) (frozen : List Row) : Type 0 where
  pub whole : WellFormed (single birth c v frozen)
  pub all_stay : kept (single birth c v frozen) ≡ single birth c v frozen
  pub no_locals : (x : Row) → Member x v.rows → is_local x.owner ≡ false

-- what of this rests on the content alone: its rows rise by name, none of them is local, and all stay where it stands alone
pub record StandsAlone (c : CownId) (v : Parked) : Type 0 where
  pub rise : InOrder name_below (names v.rows)
  pub no_locals : (x : Row) → Member x v.rows → is_local x.owner ≡ false
  pub all_stay : kept_rows (lone c v) ≡ v.rows

-- a behaviour of that number may begin with these contents and frozen rows
pub record MayBegin (birth : ℕ) (cs : List (CownId × Parked)) (frozen : List Row) : Type 0 where
  pub whole : WellFormed (stored birth cs frozen)
  pub all_stay : kept (stored birth cs frozen) ≡ stored birth cs frozen

-- nothing of that birth is in the state
pub record IsUnborn (birth : ℕ) (s : State) : Type 0 where
  pub no_object : (o : ObjId) → Member o (all_names s) → o.birth ≡ birth → ⊥
  pub no_cown : (c : CownId) → Member c (all_cowns s) → c.birth ≡ birth → ⊥

-- all frozen rows of a state: those that it was given and those that it froze itself
abbrev pub all_frozen : State → List Row
all_frozen s = insert_rows s.own s.given

-- the contents are some of those
abbrev pub AreAmong : List (CownId × Value) → List (CownId × Value) → Type 0
AreAmong few many = (c : CownId × Value) → Member c few → Member c many
