-- One slot or one field that is shut: what is to be shut in all gives the same states as before.
use Rattle.std.proofs.Common.{Bool, List, None, Option, Some, [], ap, cond, false, inl, inr, map, refl, suc, sym, true, zero, ℕ, ◌∙◌, ◌∷◌, ◌≡◌}
use Rattle.lf_base.specs.declared.ids.ObjId.{ObjId}
use Rattle.lf_base.specs.declared.values.Key.{Key}
use Rattle.lf_base.specs.declared.values.Value.{Value}
use Rattle.lf_base.specs.declared.values.Value.TheVariants as value
use Rattle.lf_base.specs.CloseResult.{close_result, closed_slot, leads_into}
use Rattle.lf_base.specs.Names.{is_local, same_key}
use Rattle.lf_base.specs.PlainChanges.{put_slot, slot_at}
use Rattle.lf_base.specs.PlainState.{Row, State}
use Rattle.lf_base.specs.Sets.{Member}
use Rattle.lf_base.specs.TakeResult.{field_at}
use Rattle.lf_base.specs.WriteResult.{is_at, put_field, write_fields}
use Rattle.lf_base.proofs.ListLemmas.Tests.{some_is}
use Rattle.lf_base.proofs.NameLemmas.SameNames.{same_key_is}
use Rattle.lf_transfer.specs.Closing.{shut, shut_fields, shut_slot, shut_value}

abbrev Slots : Type 0
Slots = List (Option Value)

put_itself : (slots : Slots) (n : ℕ) (w : Option Value) → slot_at slots n ≡ w → put_slot slots n w ≡ slots
put_itself [] n w e = refl
put_itself (x ∷ xs) zero w e = ap (λ y. y ∷ xs) (sym e)
put_itself (x ∷ xs) (suc n) w e = ap (λ l. x ∷ l) (put_itself xs n w e)

map_put : (f : Option Value → Option Value) (slots : Slots) (n : ℕ) (w : Option Value) → map f (put_slot slots n w) ≡ put_slot (map f slots) n (f w)
map_put f [] n w = refl
map_put f (x ∷ xs) zero w = refl
map_put f (x ∷ xs) (suc n) w = ap (λ l. f x ∷ l) (map_put f xs n w)

-- the slot at another place stays
pub other_stays : (slots : Slots) (n m : ℕ) (w : Option Value) → (m ≡ n → ⊥) → slot_at (put_slot slots n w) m ≡ slot_at slots m
other_stays [] n m w other = refl
other_stays (x ∷ xs) zero zero w other = absurd (other refl)
other_stays (x ∷ xs) zero (suc m) w other = refl
other_stays (x ∷ xs) (suc n) zero w other = refl
other_stays (x ∷ xs) (suc n) (suc m) w other = other_stays xs n m w (λ e. other (ap suc e))

module _ (leads : Value → Bool) where
  none_stays : shut_value leads value.None ≡ value.None
  none_stays = elim (leads value.None) as (λ b. cond b value.None value.None ≡ value.None) [ true ↦ refl | false ↦ refl ]

  slot_of_shut : (slots : Slots) (n : ℕ) → slot_at (map (shut_slot leads) slots) n ≡ shut_slot leads (slot_at slots n)
  slot_of_shut [] n = refl
  slot_of_shut (x ∷ xs) zero = refl
  slot_of_shut (x ∷ xs) (suc n) = slot_of_shut xs n

  -- ---- a slot
  module _ (slots : Slots) (n : ℕ) (v : Value) (here : slot_at slots n ≡ Some v) (into : leads v ≡ true) where
    slots_shut : map (shut_slot leads) (put_slot slots n (Some value.None)) ≡ map (shut_slot leads) slots
    slots_shut =
        map_put (shut_slot leads) slots n (Some value.None)
        ∙ put_itself (map (shut_slot leads) slots) n (shut_slot leads (Some value.None))
        (slot_of_shut slots n ∙ ap (shut_slot leads) here ∙ ap (λ b. Some (cond b value.None v)) into ∙ ap (λ w. Some w) (sym none_stays))

    pub slot_is_shut : (at : ℕ) → (at ≡ n → ⊥) → put_slot (map (shut_slot leads) (put_slot slots n (Some value.None))) at (slot_at (put_slot slots n (Some value.None)) at)
        ≡ put_slot (map (shut_slot leads) slots) at (slot_at slots at)
    slot_is_shut at other = (λ i. put_slot (slots_shut i) at (other_stays slots n at (Some value.None) other i))

  -- ---- a field
  abbrev shut_field : Key × Value → Key × Value
  shut_field f = (f.0, shut_value leads f.1)

  fields_shut : (fields : List (Key × Value)) (k : Key) (v : Value) → field_at fields k ≡ Some v → leads v ≡ true
      → map shut_field (put_field fields k value.None) ≡ map shut_field fields
  fields_shut [] k v e into = absurd (cc)
  fields_shut (f ∷ fs) k v e into = elim (same_key f.0 k) as (λ b. same_key f.0 k ≡ b → cond b (Some f.1) (field_at fs k) ≡ Some v
      → map shut_field (cond b ((k, value.None) ∷ fs) (f ∷ put_field fs k value.None)) ≡ map shut_field (f ∷ fs)) [
        | true ↦ λ same here. (λ i. (sym (same_key_is f.0 k same) i, (none_stays ∙ sym (ap (λ w. cond (leads w) value.None w) (some_is f.1 v here) ∙ ap (λ b. cond b value.None v) into)) i) ∷ map shut_field fs)
        | false ↦ λ same here. ap (λ l. shut_field f ∷ l) (fields_shut fs k v here into)
      ] refl e

  module _ (x : ObjId) (k : Key) (v : Value) (into : leads v ≡ true) where
    abbrev written : Row → Row
    written row = cond (is_at x row) (record row { fields = put_field row.fields k value.None }) row

    -- the row of that name is a local one, and has that value there
    abbrev pub Has : Row → Type 0
    Has row = is_at x row ≡ true → (is_local row.owner ≡ true) × (field_at row.fields k ≡ Some v)

    row_shut : (row : Row) → Has row → shut_fields leads (written row) ≡ shut_fields leads row
    row_shut row has = elim (is_at x row) as (λ b. is_at x row ≡ b → shut_fields leads (cond b (record row { fields = put_field row.fields k value.None }) row) ≡ shut_fields leads row) [
      | true ↦ λ e. (λ i. cond ((has e).0 i) (record row { fields = map shut_field (put_field row.fields k value.None) }) (record row { fields = put_field row.fields k value.None }))
          ∙ ap (λ fs. record row { fields = fs }) (fields_shut row.fields k v (has e).1 into)
          ∙ (λ i. cond (sym (has e).0 i) (record row { fields = map shut_field row.fields }) row)
      | false ↦ λ e. refl
    ] refl

    pub field_is_shut : (rows : List Row) → ((row : Row) → Member row rows → Has row)
        → map (shut_fields leads) (write_fields rows x k value.None) ≡ map (shut_fields leads) rows
    field_is_shut [] has = refl
    field_is_shut (row ∷ rows) has = (λ i. row_shut row (has row (inl refl)) i ∷ field_is_shut rows (λ y m. has y (inr m)) i)

-- ---- where a close begins
module _ (s : State) (r : ObjId) where
  slot_begins : (w : Option Value) → shut_slot (leads_into s r) w ≡ closed_slot s r w
  slot_begins None = refl
  slot_begins (Some v) = refl

  slots_begin : (slots : Slots) → map (shut_slot (leads_into s r)) slots ≡ map (closed_slot s r) slots
  slots_begin [] = refl
  slots_begin (w ∷ ws) = (λ i. slot_begins w i ∷ slots_begin ws i)

  pub shut_begins : (at : ℕ) → shut (leads_into s r) at s ≡ close_result s at r
  shut_begins at = ap (λ l. record s { slots = put_slot l at (slot_at s.slots at); rows = map (shut_fields (leads_into s r)) s.rows }) (slots_begin s.slots)

-- None leads nowhere
pub none_leads_nowhere : (s : State) (r : ObjId) (v : Value) → Some value.None ≡ Some v → leads_into s r v ≡ false
none_leads_nowhere s r v e = ap (leads_into s r) (sym (some_is value.None v e))
