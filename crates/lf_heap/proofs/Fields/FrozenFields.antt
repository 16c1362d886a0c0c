-- Fields of frozen rows, by the maps that have them.
use Rattle.std.proofs.Common.{List, None, Option, Some, [], ap, cond, false, map, refl, sym, true, ◌++◌, ◌∙◌, ◌∷◌, ◌≡◌}
use Rattle.std.specs.Option.{option_map}
use Rattle.lf_base.specs.declared.ids.ObjId.{ObjId}
use Rattle.lf_base.specs.declared.values.Key.{Key}
use Rattle.lf_base.specs.Names.{same_name}
use Rattle.lf_base.specs.Owners.{row_at}
use Rattle.lf_base.specs.PlainState.{Row}
use Rattle.lf_base.specs.TakeResult.{field_at, row_field}
use Rattle.lf_frozen.specs.declared.row.FrozenRow.{FrozenRow}
use Rattle.lf_frozen.specs.FrozenRows.{as_row, frozen_at}

-- a row that is there stands for itself, whatever rows follow
pub found_first : (xs ys : List Row) (o : ObjId) (r : Row) → row_at xs o ≡ Some r → row_at (xs ++ ys) o ≡ Some r
found_first [] ys o r = λ e. absurd (cc)
found_first (x ∷ xs) ys o r =
    elim (same_name x.name o) as (λ b. cond b (Some x) (row_at xs o) ≡ Some r → cond b (Some x) (row_at (xs ++ ys) o) ≡ Some r) [
      | true ↦ λ e. e
      | false ↦ found_first xs ys o r
    ]

-- where it isn't there, it is one of the further rows
pub found_later : (xs ys : List Row) (o : ObjId) → row_at xs o ≡ None → row_at (xs ++ ys) o ≡ row_at ys o
found_later [] ys o = λ e. refl
found_later (x ∷ xs) ys o =
    elim (same_name x.name o) as (λ b. cond b (Some x) (row_at xs o) ≡ None → cond b (Some x) (row_at (xs ++ ys) o) ≡ row_at ys o) [
      | true ↦ λ e. absurd (cc)
      | false ↦ found_later xs ys o
    ]

-- a map's row of a name
pub row_of_map : (rows : List FrozenRow) (o : ObjId) → row_at (map as_row rows) o ≡ option_map as_row (frozen_at rows o)
row_of_map [] o = refl
row_of_map (x ∷ xs) o =
    elim (same_name x.id o) as (λ b. cond b (Some (as_row x)) (row_at (map as_row xs) o) ≡ option_map as_row (cond b (Some x) (frozen_at xs o))) [
      | true ↦ refl
      | false ↦ row_of_map xs o
    ]

pub in_first_map : (given own : List FrozenRow) (o : ObjId) (k : Key) (r : FrozenRow) → frozen_at given o ≡ Some r
    → field_at r.fields k ≡ row_field (row_at (map as_row given ++ map as_row own) o) k
in_first_map given own o k r e =
    sym (ap (λ (w : Option Row). row_field w k)
    (found_first (map as_row given) (map as_row own) o (as_row r) (row_of_map given o ∙ ap (option_map as_row) e)))

pub in_second_map : (given own : List FrozenRow) (o : ObjId) (k : Key) → frozen_at given o ≡ None
    → row_field (option_map as_row (frozen_at own o)) k ≡ row_field (row_at (map as_row given ++ map as_row own) o) k
in_second_map given own o k none =
    sym (ap (λ (w : Option Row). row_field w k)
    (found_later (map as_row given) (map as_row own) o (row_of_map given o ∙ ap (option_map as_row) none) ∙ row_of_map own o))
