-- A row that loses its fields one after the other.
use Rattle.std.proofs.Common.{Bool, List, None, Option, Some, [], ap, arith, cond, false, length, map, refl, subst, sym, true, ℕ, ◌+◌, ◌||◌, ◌∙◌, ◌∷◌, ◌≡◌, ◌≤◌}
use Rattle.std.proofs.lemmas.List.Sums.{sum_by-cons}
use Rattle.std.proofs.lemmas.Option.{none-some}
use Rattle.std.specs.Option.{option_map}
use Rattle.lf_base.specs.declared.ids.ObjId.{ObjId}
use Rattle.lf_base.specs.declared.values.Key.{Key}
use Rattle.lf_base.specs.declared.values.Owner.{Owner}
use Rattle.lf_base.specs.declared.values.Value.{Value}
use Rattle.lf_base.specs.FieldOrder.{field_after}
use Rattle.lf_base.specs.Losses.{Loses, emptied, size}
use Rattle.lf_base.specs.Names.{same_key, same_name}
use Rattle.lf_base.specs.Owners.{has_row, owner_in, row_at}
use Rattle.lf_base.specs.PlainState.{Row, State}
use Rattle.lf_base.specs.TakeResult.{drop_field, field_at, take_fields, take_result}
use Rattle.lf_base.proofs.ListLemmas.Tests.{some_is}
use Rattle.lf_base.proofs.NameLemmas.SameNames.{same_key_itself, same_name_flips, same_name_is, same_name_itself}
use Rattle.lf_graph.specs.StoredRows.{AreRowsOf, CountedRow, fields_at, fields_by, plain, row_named, rows_by_name}
use Rattle.lf_graph.proofs.Stores.StateRows.{found_of}
use Rattle.lf_laws.proofs.Dropping.RowsInPlace.{rows_in_place}
use Rattle.lf_laws.proofs.Losses.EmptiedRows.{clear}
use Rattle.lf_laws.proofs.Losses.LossesFollow.{loses_nothing, loses_then}
use Rattle.lf_laws.proofs.Rows.RowsByName.{Distinct}
use Rattle.lf_regions.specs.declared.region.Region.{Region}
use Rattle.lf_settle.specs.Drops.{CanEmpty, SameCapacity, left_to_do, owed, stored_state}
use Rattle.lf_settle.specs.SettledStates.{IsCounted}
use Rattle.lf_settle.specs.Walks.{Emptying}
use Rattle.lf_settle.specs.WorkLists.{WorkList}
use Rattle.lf_settle.proofs.Counting.CountsTell.{are_rows, row_is_there}
use Rattle.lf_settle.proofs.RowsDropped.FieldsDropped.{row_found}
use Rattle.lf_graph.specs.StoredRows.{HasRow}

-- the store's rows are the state's
pub stored_is : (s : State) (rows : List CountedRow) → AreRowsOf rows s.rows → stored_state s rows ≡ s
stored_is s rows are = ap (λ l. record s { rows = l }) are.rise

-- one field less
fields_less : (fs : List (Key × Value)) (k : Key) (v : Value) → field_at fs k ≡ Some v → length (drop_field fs k) + 1 ≡ length fs
fields_less [] k v e = absurd (none-some v e)
fields_less (f ∷ fs) k v e = elim (same_key f.0 k) as (λ b. cond b (Some f.1) (field_at fs k) ≡ Some v → length (cond b fs (f ∷ drop_field fs k)) + 1 ≡ length (f ∷ fs)) [
  | true ↦ λ h. omega arith
  | false ↦ λ h. omega (arith, fields_less fs k v h)
] e

abbrev cells : Row → ℕ
cells row = 1 + length row.fields

-- where there is no such row, nothing is taken
take_nowhere : (rows : List Row) (x : ObjId) (k : Key) → has_row rows x ≡ false → take_fields rows x k ≡ rows
take_nowhere [] x k h = refl
take_nowhere (r ∷ rs) x k h =
    elim (same_name r.name x) as (λ b. (b || has_row rs x) ≡ false → cond b (record r { fields = drop_field r.fields k }) r ∷ take_fields rs x k ≡ r ∷ rs) [
      | true ↦ λ e. cc
      | false ↦ λ e. ap (λ l. r ∷ l) (take_nowhere rs x k e)
    ] h

size_less : (rows : List Row) (x : ObjId) (k : Key) (row : Row) (v : Value) → Distinct rows → row_at rows x ≡ Some row → field_at row.fields k ≡ Some v → size (take_fields rows x k) + 1 ≡ size rows
size_less [] x k row v d e h = absurd (none-some row e)
size_less (r ∷ rs) x k row v d e h =
    elim (same_name r.name x) as (λ b. same_name r.name x ≡ b → cond b (Some r) (row_at rs x) ≡ Some row → size (cond b (record r { fields = drop_field r.fields k }) r ∷ take_fields rs x k) + 1 ≡ size (r ∷ rs)) [
      | true ↦ λ same found.
          let less : Row = record r { fields = drop_field r.fields k } in
          let rest : take_fields rs x k ≡ rs = take_nowhere rs x k (ap (has_row rs) (sym (same_name_is r.name x same)) ∙ d.0) in
          let at : field_at r.fields k ≡ Some v = ap (λ (w : Row). field_at w.fields k) (some_is r row found) ∙ h in
          omega (arith, sum_by-cons cells less (take_fields rs x k), sum_by-cons cells r rs, ap size rest, fields_less r.fields k v at)
      | false ↦ λ same found. omega (arith, sum_by-cons cells r (take_fields rs x k), sum_by-cons cells r rs, size_less rs x k row v d.1 found h)
    ] refl e

-- a row that is emptied anyway may lose a field before
emptied_rows : (rows : List Row) (x : ObjId) (k : Key) (gone : ObjId → Bool) → gone x ≡ true → map (clear gone) (take_fields rows x k) ≡ map (clear gone) rows
emptied_rows [] x k gone e = refl
emptied_rows (r ∷ rs) x k gone e = (λ i. row (same_name r.name x) refl i ∷ emptied_rows rs x k gone e i) where
  row : (b : Bool) → same_name r.name x ≡ b → clear gone (cond b (record r { fields = drop_field r.fields k }) r) ≡ clear gone r
  row false h = refl
  row true h =
      let here : gone r.name ≡ true = ap gone (same_name_is r.name x h) ∙ e in
      ap (λ b. cond b (record r { fields = [] }) (record r { fields = drop_field r.fields k })) here ∙ sym (ap (λ b. cond b (record r { fields = [] }) r) here)

pub emptied_taken : (s : State) (x : ObjId) (k : Key) (gone : ObjId → Bool) → gone x ≡ true → emptied (take_result s x k) gone ≡ emptied s gone
emptied_taken s x k gone e = ap (λ l. record s { rows = l }) (emptied_rows s.rows x k gone e)

-- a row without fields is emptied
clear_nowhere : (rows : List Row) (x : ObjId) → has_row rows x ≡ false → map (clear (same_name x)) rows ≡ rows
clear_nowhere [] x h = refl
clear_nowhere (r ∷ rs) x h =
    elim (same_name r.name x) as (λ b. same_name r.name x ≡ b → (b || has_row rs x) ≡ false → clear (same_name x) r ∷ map (clear (same_name x)) rs ≡ r ∷ rs) [
      | true ↦ λ e k. cc
      | false ↦ λ e k. (λ i. ap (λ b. cond b (record r { fields = [] }) r) (same_name_flips x r.name ∙ e) i ∷ clear_nowhere rs x k i)
    ] refl h

clear_bare : (rows : List Row) (x : ObjId) (row : Row) → Distinct rows → row_at rows x ≡ Some row → row.fields ≡ [] → map (clear (same_name x)) rows ≡ rows
clear_bare [] x row d e n = absurd (none-some row e)
clear_bare (r ∷ rs) x row d e n =
    elim (same_name r.name x) as (λ b. same_name r.name x ≡ b → cond b (Some r) (row_at rs x) ≡ Some row → clear (same_name x) r ∷ map (clear (same_name x)) rs ≡ r ∷ rs) [
      | true ↦ λ h k.
          let bare : [] ≡ r.fields = sym (ap (λ (w : Row). w.fields) (some_is r row k) ∙ n) in
          let here : clear (same_name x) r ≡ r = ap (λ b. cond b (record r { fields = [] }) r) (same_name_flips x r.name ∙ h) ∙ ap (λ fs. record r { fields = fs }) bare in
          let rest : map (clear (same_name x)) rs ≡ rs = clear_nowhere rs x (ap (has_row rs) (sym (same_name_is r.name x h)) ∙ d.0) in
          (λ i. here i ∷ rest i)
      | false ↦ λ h k. (λ i. ap (λ b. cond b (record r { fields = [] }) r) (same_name_flips x r.name ∙ h) i ∷ clear_bare rs x row d.1 k n i)
    ] refl e

no_first : (fs : List (Key × Value)) → field_after fs None ≡ None → fs ≡ []
no_first [] e = refl
no_first (f ∷ fs) e = cc

fields_row : (c : Option CountedRow) (row : Row) → option_map (λ (x : CountedRow). x.row) c ≡ Some row → fields_by c ≡ row.fields
fields_row None row e = absurd (none-some row e)
fields_row (Some c) row e = ap (λ (r : Row). r.fields) (some_is c.row row e)

-- the first field
first_at : (fs : List (Key × Value)) (k : Key) (v : Value) → field_after fs None ≡ Some (k, v) → field_at fs k ≡ Some v
first_at [] k v e = absurd (none-some (k, v) e)
first_at (f ∷ fs) k v e =
    let same : f ≡ (k, v) = some_is f (k, v) e in
    let key : f.0 ≡ k = ap (λ (z : Key × Value). z.0) same in
    ap (λ b. cond b (Some f.1) (field_at fs k)) (ap (λ z. same_key z k) key ∙ same_key_itself k) ∙ ap (λ (z : Key × Value). Some z.1) same

-- ---- the loop that empties a row
module _ (s : State) (rows0 : List CountedRow) (regions0 : List Region) (work0 : WorkList) (o : ObjId) (owner : Owner) (can : CanEmpty rows0 regions0 work0 s o owner) (steps0 : ℕ) where
  pub empty_init : Emptying s o rows0 regions0 work0 work0 steps0 steps0
  empty_init =
      let is : s ≡ stored_state s rows0 = sym (stored_is s rows0 (are_rows rows0 regions0 s can.can.counted)) in
      record {
        counted = subst (IsCounted rows0 regions0) is can.can.counted;
        same = ap (λ t. emptied t (same_name o)) (sym is);
        loses = subst (λ t. Loses s t work0.suspects work0.suspects) is (loses_nothing s work0.suspects);
        less = omega (arith, ap (λ (t : State). size t.rows) is);
        cost = omega (arith, ap (λ (t : State). size t.rows) is);
      }

  module _ (rows : List CountedRow) (regions : List Region) (work : WorkList) (steps : ℕ) (going : Emptying s o rows regions work0 work steps0 steps) where
    abbrev t : State
    t = stored_state s rows

    pub here_still : owner_in t.rows o ≡ Some owner
    here_still = going.loses.owners o ∙ can.here

    pub row_still : HasRow rows o
    row_still = row_is_there rows regions t going.counted o owner here_still

    pub can_still : SameCapacity work0 work → CanEmpty rows regions work t o owner
    can_still sum = record { can = record { counted = going.counted; room = omega (arith, going.loses.paid, sum, can.can.room) }; here = here_still }

    module _ (key : Key) (value : Value) (first : Some (key, value) ≡ field_after (fields_at rows o) None) where
      size_taken : size (take_result t o key).rows + 1 ≡ size t.rows
      size_taken =
          let r = row_found t.rows o owner here_still in
          let fields : fields_at rows o ≡ (r.0).fields = fields_row (row_named rows o) r.0 (sym (found_of rows t.rows o (are_rows rows regions t going.counted)) ∙ r.1) in
          size_less t.rows o key r.0 value (rows_in_place t going.counted.well_formed).distinct r.1 (ap (λ fs. field_at fs key) (sym fields) ∙ first_at (fields_at rows o) key value (sym first))

      module _ (rows1 : List CountedRow) (regions1 : List Region) (work1 : WorkList) (steps1 : ℕ) (counted1 : IsCounted rows1 regions1 (take_result t o key)) where
        is : take_result t o key ≡ stored_state s rows1
        is = ap (λ l. record s { rows = l }) (sym (are_rows rows1 regions1 (take_result t o key) counted1).rise)

        pub size_falls : size (rows_by_name (plain rows1)) + 1 ≡ size (rows_by_name (plain rows))
        size_falls = omega (arith, size_taken, ap (λ (u : State). size u.rows) is)

        pub empty_more : Loses t (take_result t o key) work.suspects work1.suspects → length work1.suspects ≤ length work.suspects + 1 → steps1 ≤ steps + 6
            → Emptying s o rows1 regions1 work0 work1 steps0 steps1
        empty_more loses1 one few = record {
          counted = subst (IsCounted rows1 regions1) is counted1;
          same = ap (λ u. emptied u (same_name o)) (sym is) ∙ emptied_taken t o key (same_name o) (same_name_itself o) ∙ going.same;
          loses = subst (λ u. Loses s u work0.suspects work1.suspects) is (loses_then s t (take_result t o key) work0.suspects work.suspects work1.suspects going.loses loses1);
          less = omega (arith, going.less, one, size_falls);
          cost = omega (arith, going.cost, one, few, size_falls);
        }

    module _ (last : None ≡ field_after (fields_at rows o) None) where
      pub emptied_all : stored_state s rows ≡ emptied s (same_name o)
      emptied_all =
          let r = row_found t.rows o owner here_still in
          let bare : (r.0).fields ≡ [] = sym (fields_row (row_named rows o) r.0 (sym (found_of rows t.rows o (are_rows rows regions t going.counted)) ∙ r.1)) ∙ no_first (fields_at rows o) (sym last) in
          ap (λ l. record s { rows = l }) (sym (clear_bare t.rows o r.0 (rows_in_place t going.counted.well_formed).distinct r.1 bare)) ∙ going.same

      pub empty_counted : IsCounted rows regions (emptied s (same_name o))
      empty_counted = subst (IsCounted rows regions) emptied_all going.counted

      pub empty_loses : Loses s (emptied s (same_name o)) work0.suspects work.suspects
      empty_loses = subst (λ u. Loses s u work0.suspects work.suspects) emptied_all going.loses

      pub empty_less : left_to_do work (emptied s (same_name o)).rows ≤ left_to_do work0 s.rows
      empty_less = omega (arith, going.less, ap (λ (u : State). size u.rows) emptied_all)

      pub empty_cost : (steps1 : ℕ) → steps1 ≡ steps + 1 → owed steps1 work (emptied s (same_name o)).rows ≤ owed steps0 work0 s.rows + 1
      empty_cost steps1 e = omega (arith, e, going.cost, ap (λ (u : State). size u.rows) emptied_all)
