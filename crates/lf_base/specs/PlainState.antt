-- The plain state of one behaviour: its rows, its slots and the contents of its cowns, with no count and no mark.
use Rattle.std.specs.Prelude.{ℕ, List, Option}
use Rattle.lf_base.specs.declared.ids.ObjId.{ObjId}
use Rattle.lf_base.specs.declared.ids.CownId.{CownId}
use Rattle.lf_base.specs.declared.values.Value.{Value}
use Rattle.lf_base.specs.declared.values.Key.{Key}
use Rattle.lf_base.specs.declared.values.Owner.{Owner}

-- an object: its name, its owner and its fields in order
pub record Row : Type 0 where
  pub name : ObjId
  pub owner : Owner
  pub fields : List (Key × Value)

-- the state of one behaviour
pub record State : Type 0 where
  -- the behaviour's number, which is the birth of what it makes
  pub birth : ℕ
  -- how many objects and how many cowns it has made
  pub objects : ℕ
  pub cowns : ℕ
  -- the mutable rows by rising name
  pub rows : List Row
  -- the variables and operands, each set or unset
  pub slots : List (Option Value)
  -- the cowns that it holds and those that it made, with their contents
  pub held : List (CownId × Value)
  pub made : List (CownId × Value)
  -- the frozen rows that it was given and those that it froze itself, each by rising name
  pub given : List Row
  pub own : List Row
