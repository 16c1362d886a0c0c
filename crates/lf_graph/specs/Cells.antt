-- The fields of all rows in one table, those of a row linked in their order.
use Rattle.std.specs.Prelude.{Bool, List, None, Option, Some, cond, is_some, length, map, min, ℕ, ◌&&◌, ◌+◌, ◌-◌, ◌≡◌, false, [], ◌++◌, ◌∷◌}
use Rattle.std.specs.HashMap.{hash_map_len, spare}
use Rattle.std.specs.HashMap as hash
use Rattle.std.specs.Option.{option_map}
use Rattle.lf_base.specs.declared.ids.ObjId.{ObjId}
use Rattle.lf_base.specs.declared.links.Link.{Link}
use Rattle.lf_base.specs.declared.values.Key.{Key}
use Rattle.lf_base.specs.declared.values.Value.{Value}
use Rattle.lf_base.specs.declared.values.Value.TheVariants as value
use Rattle.lf_base.specs.Links.{IsList, last_after_removal, first_after_push, first_after_removal, walk}
use Rattle.lf_base.specs.Names.{same_key, same_name}
use Rattle.lf_graph.specs.declared.cells.TheConstants.{MOST_CELLS}
use Rattle.lf_graph.specs.declared.cells.Cell.{Cell}
use Rattle.lf_graph.specs.declared.cells.Cells.{Cells}
use Rattle.lf_graph.specs.declared.cells.FieldEnds.{FieldEnds}
use Rattle.lf_graph.specs.declared.cells.FieldName.{FieldName}

-- two names of cells are one
abbrev pub same_field : FieldName → FieldName → Bool
same_field a b = same_name a.row b.row && same_key a.key b.key

-- the name of a cell
abbrev pub field_name : ObjId → Key → FieldName
field_name o k = record { row = o; key = k }

-- the cell of each row and key, where there is one
abbrev pub CellsAt : Type 0
CellsAt = ObjId → Key → Option Cell

-- the cell of a row's key
abbrev pub cells_of : Cells → CellsAt
cells_of t o k = hash.get same_field t.cells (field_name o k)

-- how many more cells the table takes without memory, and without passing the most that it may have
abbrev pub cells_room : Cells → ℕ
cells_room t = min (spare t.cells) (MOST_CELLS - hash_map_len t.cells)

-- the value of a row's key
abbrev pub cell_value : CellsAt → ObjId → Key → Option Value
cell_value cells o k = option_map (λ c. c.value) (cells o k)

-- the keys before and after a row's key
abbrev pub link_of : CellsAt → ObjId → Key → Option (Link Key)
link_of cells o k = option_map (λ c. c.link) (cells o k)

-- the row has that key
abbrev pub has_cell : CellsAt → ObjId → Key → Bool
has_cell cells o k = is_some (cells o k)

-- the keys of row o are these, in this order, and `ends` is kept of them
pub record IsFieldList (cells : CellsAt) (o : ObjId) (ends : FieldEnds) (keys : List Key) : Type 0 where
  pub list : IsList same_key (link_of cells o) ends.first ends.last (has_cell cells o) keys
  pub width : ends.width ≡ length keys

-- whatever the keys of row o are before a call, they are afterwards what `change` makes of them
abbrev pub KeysBecome : CellsAt → CellsAt → ObjId → FieldEnds → FieldEnds → (List Key → List Key) → Type 0
KeysBecome old new o before after change = (keys : List Key) → IsFieldList old o before keys → IsFieldList new o after (change keys)

-- the value found, or `None` where there is none
abbrev pub found_value : Option Value → Value
found_value None = value.None
found_value (Some v) = v

-- a key with its value
abbrev pub paired : CellsAt → ObjId → Key → Key × Value
paired cells o k = (k, found_value (cell_value cells o k))

-- each key with its value
abbrev pub pairs : CellsAt → ObjId → List Key → List (Key × Value)
pairs cells o keys = map (paired cells o) keys

-- the key that is given, with its value, where there is one
abbrev pub pair_of : CellsAt → ObjId → Option Key → Option (Key × Value)
pair_of cells o None = None
pair_of cells o (Some k) = option_map (λ c. (k, c.value)) (cells o k)

-- the cells of every other row are as before
abbrev pub OthersStay : CellsAt → CellsAt → ObjId → Type 0
OthersStay old new o = (q : ObjId) → (k : Key) → same_name o q ≡ false → new q k ≡ old q k

-- of row o only the value at that key changes
abbrev pub OnlyValueAt : CellsAt → CellsAt → ObjId → Key → Option Value → Type 0
OnlyValueAt old new o key v = (k : Key) → cell_value new o k ≡ cond (same_key key k) v (cell_value old o k)

-- only the cell of that row and key changes, and f says how
abbrev pub OnlyCellAt : CellsAt → CellsAt → ObjId → Key → (Option Cell → Option Cell) → Type 0
OnlyCellAt old new o key f = (q : ObjId) → (k : Key) → new q k ≡ cond (same_name o q && same_key key k) (f (old q k)) (old q k)

-- a cell with another value
abbrev pub with_value : Value → Cell → Cell
with_value v c = record c { value = v }

-- a cell with another link
abbrev pub with_link : (Link Key → Link Key) → Cell → Cell
with_link f c = record c { link = f c.link }

-- only the link of one key of a row changes, where there is such a key
abbrev pub RelinksField : CellsAt → CellsAt → ObjId → Option Key → (Link Key → Link Key) → Type 0
RelinksField old new o None f = (q : ObjId) → (k : Key) → new q k ≡ old q k
RelinksField old new o (Some key) f = OnlyCellAt old new o key (option_map (with_link f))

-- the cell of that key is gone, where there is such a key
abbrev pub DropsCell : CellsAt → CellsAt → ObjId → Option Key → Type 0
DropsCell old new o None = (q : ObjId) → (k : Key) → new q k ≡ old q k
DropsCell old new o (Some key) = OnlyCellAt old new o key (λ _. None)

-- the ends with one more key at the end
abbrev pub field_ends_with : Key → FieldEnds → FieldEnds
field_ends_with k t = record { first = first_after_push k t.first; last = Some k; width = t.width + 1 }

-- the ends without the key of that link
abbrev pub field_ends_without : Link Key → FieldEnds → FieldEnds
field_ends_without l t = record { first = first_after_removal l t.first; last = last_after_removal l t.last; width = t.width - 1 }

-- the keys of a row, by a walk from the first one
abbrev pub walked_keys : CellsAt → ObjId → FieldEnds → List Key
walked_keys cells o ends = walk ends.width (link_of cells o) ends.first

-- the field of that key, where there is one, comes last among the fields, and the key after it is given
abbrev pub CopiesField : CellsAt → ObjId → Option Key → List (Key × Value) → List (Key × Value) → Option Key → Type 0
CopiesField cells o at old new next =
    (key : Key) → (c : Cell) → at ≡ Some key → cells o key ≡ Some c → (new ≡ old ++ (key, c.value) ∷ []) × (next ≡ c.link.next)
