-- What holds of every state of a behaviour: where edges may lead, one owner at most for each region and none round
-- about, and names that differ and are numbered.
use Rattle.std.specs.Prelude.{Bool, List, None, Option, Some, [], false, flat_map, map, true, ℕ, ◌++◌, ◌<◌, ◌||◌, ◌≡◌, ◌≤◌}
use Rattle.std.specs.Prelude.{option_to_list}
use Rattle.lf_base.specs.declared.ids.CownId.{CownId}
use Rattle.lf_base.specs.declared.ids.ObjId.{ObjId}
use Rattle.lf_base.specs.declared.values.Owner.{Owner}
use Rattle.lf_base.specs.declared.values.Owner.TheVariants.{Frozen, In, Local}
use Rattle.lf_base.specs.declared.values.Value.{Value}
use Rattle.lf_base.specs.Edges.{Content, Edge, Field, Slot, Source, edges, rows_edges}
use Rattle.lf_base.specs.Names.{cowns_of_value, name_below, same_cown, same_key, same_name, targets_of_value}
use Rattle.lf_base.specs.Owners.{has_row, is_bridge, names, owner_in, owner_of}
use Rattle.lf_base.specs.Ownership.{owning_edges, round}
use Rattle.lf_base.specs.PlainState.{Row, State}
use Rattle.lf_base.specs.Sets.{Differ, InOrder, Member}

-- from a slot or a local row: to any row of the domain
abbrev pub from_near : Option Owner → Bool
from_near (Some w) = true
from_near None = false

-- from a row of region r to object o: to rows of r, to bridges and to frozen rows
abbrev pub from_inner : ObjId → ObjId → Option Owner → Bool
from_inner r o (Some (In q)) = same_name r q || same_name q o
from_inner r o (Some Frozen) = true
from_inner r o _ = false

-- from a frozen row: to frozen rows
abbrev pub from_frozen : Option Owner → Bool
from_frozen (Some Frozen) = true
from_frozen _ = false

-- from a cown's content to object o: to bridges and to frozen rows
abbrev pub from_content : ObjId → Option Owner → Bool
from_content o (Some (In q)) = same_name q o
from_content o (Some Frozen) = true
from_content o _ = false

-- from a row of that owner to object o of that owner
abbrev pub from_row : Option Owner → ObjId → Option Owner → Bool
from_row (Some Local) o w = from_near w
from_row (Some (In r)) o w = from_inner r o w
from_row (Some Frozen) o w = from_frozen w
from_row None o w = false

-- an edge may lead from here to object o
abbrev pub may_lead : State → Source → ObjId → Bool
may_lead s Slot o = from_near (owner_of s o)
may_lead s (Field p) o = from_row (owner_of s p) o (owner_of s o)
may_lead s (Content c) o = from_content o (owner_of s o)

-- each edge leads where it may
abbrev pub Leads : State → Type 0
Leads s = (e : Edge) → Member e (edges s) → may_lead s e.from e.to ≡ true

-- the names of all rows, mutable and frozen
abbrev pub all_names : State → List ObjId
all_names s = names s.rows ++ (names s.given ++ names s.own)

-- the values that set slots hold
abbrev pub slot_values : List (Option Value) → List Value
slot_values slots = flat_map option_to_list slots

-- those in fields
abbrev pub field_values : List Row → List Value
field_values rows = flat_map (λ r. map (λ f. f.1) r.fields) rows

-- those in contents
abbrev pub content_values : List (CownId × Value) → List Value
content_values cs = map (λ c. c.1) cs

-- those of the whole state
abbrev pub all_values : State → List Value
all_values s = slot_values s.slots ++ (field_values s.rows
    ++ (content_values s.held ++ (content_values s.made ++ (field_values s.given ++ field_values s.own))))

-- the cowns that the state holds or made
abbrev pub own_cowns : State → List CownId
own_cowns s = map (λ c. c.0) s.held ++ map (λ c. c.0) s.made

-- the names of all cowns: of those that it holds or made, and of those that its values name
abbrev pub all_cowns : State → List CownId
all_cowns s = own_cowns s ++ flat_map cowns_of_value (all_values s)

-- a number from 1 to that of what was made
abbrev pub IsNumber : ℕ → ℕ → Type 0
IsNumber n made = (0 < n) × (n ≤ made)

-- the state is well-formed
pub record WellFormed (s : State) : Type 0 where
  -- the rows stand by rising name, and all names differ
  pub rows_rise : InOrder name_below (names s.rows)
  pub given_rise : InOrder name_below (names s.given)
  pub own_rise : InOrder name_below (names s.own)
  pub names_differ : Differ same_name (all_names s)
  -- the keys of one row differ
  pub keys_differ : (x : Row) → Member x (s.rows ++ (s.given ++ s.own)) → Differ same_key (map (λ f. f.0) x.fields)
  -- the frozen rows are Frozen, and the others aren't
  pub mutable : (x : Row) → Member x s.rows → x.owner ≡ Frozen → ⊥
  pub frozen : (x : Row) → Member x (s.given ++ s.own) → x.owner ≡ Frozen
  -- a row in a region has a bridge, which is in that region itself
  pub bridge : (o r : ObjId) → owner_in s.rows o ≡ Some (In r) → owner_in s.rows r ≡ Some (In r)
  -- edges lead where they may, so each object that is named has a row
  pub leads : Leads s
  -- a bridge has at most one owning edge, and owners don't go round
  pub one_owner : (r : ObjId) → is_bridge s.rows r ≡ true → owning_edges s r ≤ 1
  pub no_round : round s ≡ []
  -- what was born here is numbered
  pub objects_numbered : (o : ObjId) → Member o (all_names s) → o.birth ≡ s.birth → IsNumber o.seq s.objects
  pub cowns_numbered : (c : CownId) → Member c (all_cowns s) → c.birth ≡ s.birth → IsNumber c.seq s.cowns
  -- the cowns held and made differ, and those made were born here
  pub cowns_differ : Differ same_cown (own_cowns s)
  pub made_here : (c : CownId) → Member c (map (λ c. c.0) s.made) → c.birth ≡ s.birth

-- what a further slot may hold: an object of the domain, or a cown that is numbered where it was born here, or a plain value
pub record SlotMayHold (s : State) (v : Value) : Type 0 where
  pub object_there : (o : ObjId) → Member o (targets_of_value v) → from_near (owner_of s o) ≡ true
  pub cown_numbered : (c : CownId) → Member c (cowns_of_value v) → c.birth ≡ s.birth → IsNumber c.seq s.cowns

-- the frozen rows that a behaviour of that number may be given: by rising name, whole among themselves, and without a name of that birth
pub record MayBeGiven (birth : ℕ) (given : List Row) : Type 0 where
  pub rise : InOrder name_below (names given)
  pub keys_differ : (x : Row) → Member x given → Differ same_key (map (λ f. f.0) x.fields)
  pub frozen : (x : Row) → Member x given → x.owner ≡ Frozen
  pub leads : (e : Edge) → Member e (rows_edges given) → has_row given e.to ≡ true
  pub no_object : (o : ObjId) → Member o (names given) → o.birth ≡ birth → ⊥
  pub no_cown : (c : CownId) → Member c (flat_map cowns_of_value (field_values given)) → c.birth ≡ birth → ⊥
