-- What a store finds of a field is the state's.
use Rattle.std.proofs.Common.{IfSome, List, None, Option, Some, ap, false, is_some, refl, sym, true, ℕ, ◌++◌, ◌∙◌, ◌≡◌}
use Rattle.lf_base.specs.declared.ids.ObjId.{ObjId}
use Rattle.lf_base.specs.declared.values.Key.{Key}
use Rattle.lf_base.specs.declared.values.Owner.{Owner}
use Rattle.lf_base.specs.declared.values.Value.{Value}
use Rattle.lf_base.specs.declared.values.Value.TheVariants.{Obj}
use Rattle.lf_base.specs.Accesses.{field_of}
use Rattle.lf_base.specs.Owners.{owner_in, row_at, row_owner}
use Rattle.lf_base.specs.PlainState.{Row, State}
use Rattle.lf_base.specs.TakeResult.{row_field}
use Rattle.lf_base.specs.WellFormed.{SlotMayHold, WellFormed}
use Rattle.lf_domain.proofs.StoreEdges.{field_told, owner_told}
use Rattle.lf_graph.specs.StoredRows.{AreRowsOf, CountedRow, field_value_at, owner_at}
use Rattle.lf_laws.proofs.Changes.ReadValues.{read_may_be_held}
use Rattle.lf_heap.specs.declared.contents.CownContents.{CownContents}
use Rattle.lf_heap.specs.declared.frozen.FrozenParts.{FrozenParts}
use Rattle.lf_heap.specs.Heaps.{heap_state}
use Rattle.lf_heap.proofs.Fields.FrozenFields.{found_first, found_later}

pub none_of : {X : Type 0} (w : Option X) → is_some w ≡ false → w ≡ None
none_of None e = refl
none_of (Some x) e = absurd (cc)

-- a row without owner isn't there
pub no_row_at : (rows : List Row) (o : ObjId) → owner_in rows o ≡ None → row_at rows o ≡ None
no_row_at rows o e = by (row_at rows o) e where
  by : (r : Option Row) → row_owner r ≡ None → r ≡ None
  by None e = refl
  by (Some r) e = absurd (cc)

module _ (birth objects : ℕ) (contents : CownContents) (frozen : FrozenParts) (rows : List CountedRow) (slots : List (Option Value))
    (a : AreRowsOf rows (heap_state birth objects contents frozen rows slots).rows) where
  abbrev s : State
  s = heap_state birth objects contents frozen rows slots

  -- a mutable row's field
  by_row : (o : ObjId) (k : Key) (w : Option Row) → is_some (row_owner w) ≡ true → row_at s.rows o ≡ w → field_of s o k ≡ row_field (row_at s.rows o) k
  by_row o k None there e = absurd (cc)
  by_row o k (Some r) there e = ap (λ (u : Option Row). row_field u k) (found_first s.rows (s.given ++ s.own) o r e ∙ sym e)

  pub field_is : (o : ObjId) (k : Key) (w : Option Owner) → w ≡ owner_at rows o → is_some w ≡ true → field_of s o k ≡ field_value_at rows o k
  field_is o k w own there =
      by_row o k (row_at s.rows o) (ap is_some (owner_told rows s.rows o a ∙ sym own) ∙ there) refl ∙ sym (field_told rows s.rows o k a)

  -- and that of a frozen one
  pub frozen_field_is : (o : ObjId) (k : Key) (w : Option Owner) → w ≡ owner_at rows o → is_some w ≡ false
      → field_of s o k ≡ row_field (row_at (s.given ++ s.own) o) k
  frozen_field_is o k w own gone =
      ap (λ (u : Option Row). row_field u k)
      (found_later s.rows (s.given ++ s.own) o (no_row_at s.rows o (owner_told rows s.rows o a ∙ sym own ∙ none_of w gone)))

-- what is found may be held by a slot
pub found_may_be_held : (s : State) (o : ObjId) (k : Key) (w : Option Value) → WellFormed s → w ≡ field_of s o k → IfSome w (λ v. SlotMayHold s v)
found_may_be_held s o k None well e = tt
found_may_be_held s o k (Some v) well e = read_may_be_held s (Obj o) (Some k) v well (sym e)
