-- Rows with at most one field.
use Rattle.std.proofs.Common.{◌≡◌, ℕ, ◌<◌, ◌≤◌, List, [], ◌∷◌, ◌++◌, length, Option, Some, None, refl, ap, sym, ◌∙◌, subst, arith}
use Rattle.std.specs.Prelude.{option_to_list}
use Rattle.std.specs.List.{cons_option}
use Rattle.lf_base.specs.declared.ids.ObjId.{ObjId}
use Rattle.lf_base.specs.declared.values.Key.{Key}
use Rattle.lf_base.specs.declared.values.Value.{Value}
use Rattle.lf_base.specs.Links.{head_or}
use Rattle.lf_pool.specs.declared.cell.TheConstants.{NONE}
use Rattle.lf_pool.specs.Cells.{item_at, node}
use Rattle.lf_pool.proofs.Chains.{begins}
use Rattle.lf_pool.proofs.Joins.{chain_in_range}
use Rattle.lf_poolstore.specs.declared.unit_row.UnitRow.{UnitRow}
use Rattle.lf_poolstore.specs.RowLists.{numbers}
use Rattle.lf_poolstore.specs.UnitRows.{bare}
use Rattle.lf_poolstore.specs.Units.{FieldPool, KeepsFields, KeepsRow, Writes, fields_of, items_in, pair_by}
use Rattle.lf_poolstore.proofs.EntryLists.{bare_row, no_numbers}

abbrev pub empty_row : ObjId → ℕ → UnitRow
empty_row name refs = record { name = name; refs = refs; fields = NONE; width = 0 }

-- a row without fields is written as it is
pub none_written : (m : FieldPool) (name : ObjId) (refs : ℕ) (now : UnitRow) → now ≡ empty_row name refs → Writes m m (bare now) now []
none_written m name refs now is =
    subst (λ r. Writes m m (bare r) r []) (sym is) (record { keeps = bare_row m name refs; here = ap (items_in m) (no_numbers m); others = λ s l a. (l, refl, a) })

pub none_kept : (m : FieldPool) (name : ObjId) (refs : ℕ) (row : UnitRow) → row ≡ empty_row name refs → KeepsFields m row
none_kept m name refs row is = subst (KeepsFields m) (sym is) (bare_row m name refs)

-- a row without fields is written with one
pub one_written : (m n : FieldPool) (name : ObjId) (refs : ℕ) (row now : UnitRow) (p : Key × Value) → row ≡ empty_row name refs → KeepsRow row now → Writes m n row now (fields_of m row ++ p ∷ []) → Writes m n (bare now) now (p ∷ [])
one_written m n name refs row now p is keeps w =
    let e = empty_row name refs in
    let first : Writes m n e now (fields_of m e ++ p ∷ []) = subst (λ r. Writes m n r now (fields_of m r ++ p ∷ [])) is w in
    let one : Writes m n e now (p ∷ []) = subst (λ ns. Writes m n e now (items_in m ns ++ p ∷ [])) (no_numbers m) first in
    let same : e ≡ bare now = λ i. empty_row ((sym (keeps.name ∙ ap (λ (r : UnitRow). r.name) is)) i) ((sym (keeps.refs ∙ ap (λ (r : UnitRow). r.refs) is)) i) in
    subst (λ r. Writes m n r now (p ∷ [])) same one

-- the first cell of a row is one of the pool
pub first_there : (m : FieldPool) (r : UnitRow) → KeepsFields m r → (x : ℕ) → node r.fields ≡ Some x → x < length m.cells
first_there m r k x e = chain_in_range m.cells (numbers m r.fields) x k.chain.chain (begins x (numbers m r.fields) (k.chain.begins ∙ e))

-- the fields of a row with at most one are that in its first cell
pub narrow_fields : (m : FieldPool) (r : UnitRow) → KeepsFields m r → r.width ≤ 1 → fields_of m r ≡ option_to_list (pair_by m (node r.fields))
narrow_fields m r k w = go (numbers m r.fields) k.chain.begins (let c = k.count in omega (arith, c, w)) where
  one : (t : Option (Key × Value)) → cons_option t [] ≡ option_to_list t
  one None = refl
  one (Some p) = refl

  go : (xs : List ℕ) → head_or xs None ≡ node r.fields → length xs ≤ 1 → items_in m xs ≡ option_to_list (pair_by m (node r.fields))
  go [] b l = ap (λ t. option_to_list (pair_by m t)) b
  go (x ∷ []) b l = one (item_at m.cells x) ∙ ap (λ t. option_to_list (pair_by m t)) b
  go (x ∷ y ∷ ys) b l = absurd (omega (arith, l))
