-- A list of names with room for more, and a set beside it.
use Rattle.std.specs.Prelude.{List, [], length, ℕ, ◌≡◌, ◌≤◌}
use Rattle.indexmap.specs.IndexSet.{IndexSet, spare}
use Rattle.lf_base.specs.declared.ids.ObjId.{ObjId}

-- what contracts see of a list: the names, the last one first, and how many more may be added
pub record LooseNames : Type 0 where
  pub names : List ObjId
  pub spare : ℕ

-- between calls the set beside a list is empty, and can hold as many names as the list has
pub record IsSetAtRest {H : Type 0} (items : List ObjId) (below : IndexSet ObjId H) : Type 0 where
  pub empty : below.keys ≡ []
  pub enough : length items ≤ spare below
