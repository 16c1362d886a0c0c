-- The walk over a region's rows that empties them.
use Rattle.std.proofs.Common.{Bool, List, None, Option, Some, [], ap, append_assoc, arith, cond, false, inl, inr, length, map, refl, subst, sym, true, ℕ, ◌*◌, ◌++◌, ◌+◌, ◌<◌, ◌∙◌, ◌∷◌, ◌≡◌, ◌≤◌, ◌⊎◌}
use Rattle.std.proofs.lemmas.Bool.{both_ways}
use Rattle.std.proofs.lemmas.List.{length-map}
use Rattle.std.proofs.lemmas.Option.{none-some}
use Rattle.std.specs.Option.{is_some}
use Rattle.lf_base.specs.declared.ids.ObjId.{ObjId}
use Rattle.lf_base.specs.declared.values.Owner.TheVariants.{In}
use Rattle.lf_base.specs.Losses.{Loses, emptied, of_region, size}
use Rattle.lf_base.specs.Names.{same_name, same_owner}
use Rattle.lf_base.specs.Owners.{is_in, names, owner_in}
use Rattle.lf_base.specs.PlainState.{Row, State}
use Rattle.lf_base.specs.Sets.{Differ, Member}
use Rattle.lf_base.proofs.ListLemmas.Filters.{Member_filter, Member_of_filter}
use Rattle.lf_base.proofs.ListLemmas.Members.{Member_map, Member_of_append, Member_of_map, Member_right}
use Rattle.lf_base.proofs.ListLemmas.Tests.{none_any, some_is}
use Rattle.lf_base.proofs.NameLemmas.SameNames.{same_name_flips, same_name_is, same_name_itself}
use Rattle.lf_domain.proofs.StoreEdges.{owned_has_row}
use Rattle.lf_graph.specs.RowOrder.{SameOrder, names_under}
use Rattle.lf_graph.specs.StoredRows.{CountedRow, HasRow, NamesDiffer, first_name, is_named, is_under, name_after, owner_at, owner_by, plain, row_named, rows_beside, rows_of, rows_of_maybe}
use Rattle.lf_graph.proofs.Stores.Reordered.{same_owner_is, same_owner_itself}
use Rattle.lf_graph.proofs.Stores.Walks.{differ_filter}
use Rattle.lf_laws.proofs.Losses.EmptiedRows.{clear}
use Rattle.lf_laws.proofs.Losses.LossesFollow.{loses_nothing, loses_then}
use Rattle.lf_laws.proofs.Rows.OwnerTests.{in_region}
use Rattle.lf_regions.specs.declared.region.Region.{Region}
use Rattle.lf_settle.specs.Drops.{CanDropRegion, CanEmpty, SameCapacity, left_to_do, owed, stored_state}
use Rattle.lf_settle.specs.SettledStates.{IsCounted}
use Rattle.lf_settle.specs.Walks.{Sweeping, first_listed, names_from}
use Rattle.lf_settle.specs.WorkLists.{WorkList}
use Rattle.lf_settle.proofs.Counting.CountsTell.{are_rows, owner_is_told}
use Rattle.lf_settle.proofs.RowsDropped.EmptiedRow.{stored_is}

-- ---- names in their order
first_names : (rows : List CountedRow) → first_name rows ≡ first_listed (names (plain rows))
first_names [] = refl
first_names (c ∷ cs) = refl

after_named : List ObjId → ObjId → Option ObjId
after_named [] o = None
after_named (p ∷ ps) o = cond (same_name p o) (first_listed ps) (after_named ps o)

names_after : (rows : List CountedRow) (o : ObjId) → name_after rows o ≡ after_named (names (plain rows)) o
unfolding after_named
names_after [] o = refl
names_after (c ∷ cs) o = (λ i. cond (same_name (c.row).name o) (first_names cs i) (names_after cs o i))

apart_from : (x : ObjId) (os : List ObjId) (o : ObjId) (ps : List ObjId) → Differ same_name (x ∷ (os ++ o ∷ ps)) → same_name x o ≡ false
apart_from x os o ps d = same_name_flips x o ∙ none_any (λ (n : ObjId). same_name n x) (os ++ o ∷ ps) d.0 o (Member_right o os (o ∷ ps) (inl refl))

after_here : (os : List ObjId) (o : ObjId) (ps : List ObjId) → Differ same_name (os ++ o ∷ ps) → after_named (os ++ o ∷ ps) o ≡ first_listed ps
unfolding after_named
after_here [] o ps d = ap (λ b. cond b (first_listed ps) (after_named ps o)) (same_name_itself o)
after_here (x ∷ os) o ps d = ap (λ b. cond b (first_listed (os ++ o ∷ ps)) (after_named (os ++ o ∷ ps) o)) (apart_from x os o ps d) ∙ after_here os o ps d.1

from_here : (os ps : List ObjId) → Differ same_name (os ++ ps) → names_from (first_listed ps) (os ++ ps) ≡ ps
from_here [] [] d = refl
from_here (x ∷ os) [] d = refl
from_here [] (p ∷ ps) d = ap (λ b. cond b (p ∷ ps) (names_from (Some p) ps)) (same_name_itself p)
from_here (x ∷ os) (p ∷ ps) d = ap (λ b. cond b (x ∷ (os ++ p ∷ ps)) (names_from (Some p) (os ++ p ∷ ps))) (apart_from x os p ps d) ∙ from_here os (p ∷ ps) d.1

-- ---- a row of the region
pub member_found : (c : CountedRow) (rows : List CountedRow) → NamesDiffer rows → Member c rows → row_named rows (c.row).name ≡ Some c
member_found c [] d m = absurd m
member_found c (x ∷ xs) d (inl e) = subst (λ (z : CountedRow). row_named (x ∷ xs) (z.row).name ≡ Some z) e (ap (λ b. cond b (Some x) (row_named xs (x.row).name)) (same_name_itself (x.row).name))
member_found c (x ∷ xs) d (inr m) =
    let other : same_name (x.row).name (c.row).name ≡ false = same_name_flips (x.row).name (c.row).name ∙ none_any (λ (n : ObjId). same_name n (x.row).name) (names (plain xs)) d.0 (c.row).name (Member_map (λ (z : Row). z.name) c.row (plain xs) (Member_map (λ (z : CountedRow). z.row) c xs m)) in
    ap (λ b. cond b (Some x) (row_named xs (c.row).name)) other ∙ member_found c xs d.1 m

named_in : (rows : List CountedRow) (r o : ObjId) → NamesDiffer rows → Member o (names_under (In r) rows) → owner_at rows o ≡ Some (In r)
named_in rows r o d m =
    let row = Member_of_map (λ (z : Row). z.name) o (plain (rows_of (In r) rows)) m in
    let c = Member_of_map (λ (z : CountedRow). z.row) row.0 (rows_of (In r) rows) row.1.0 in
    let f = Member_of_filter (is_under (In r)) c.0 rows c.1.0 in
    let name : ((c.0).row).name ≡ o = ap (λ (z : Row). z.name) c.1.1 ∙ row.1.1 in
    ap (owner_at rows) (sym name) ∙ ap owner_by (member_found c.0 rows d f.0) ∙ ap (λ w. Some w) (same_owner_is ((c.0).row).owner (In r) f.1)

has_found_named : (rows : List CountedRow) (o : ObjId) → HasRow rows o → (c : CountedRow) × (row_named rows o ≡ Some c)
has_found_named rows o h = by (row_named rows o) refl where
  by : (c : Option CountedRow) → row_named rows o ≡ c → (d : CountedRow) × (row_named rows o ≡ Some d)
  by None e = absurd (none_true (sym (ap is_some e) ∙ h)) where
    none_true : false ≡ true → ⊥
    none_true e = cc
  by (Some c) e = (c, e)

found_member : (rows : List CountedRow) (o : ObjId) (c : CountedRow) → row_named rows o ≡ Some c → Member c rows × ((c.row).name ≡ o)
found_member [] o c e = absurd (none-some c e)
found_member (x ∷ xs) o c e =
    elim (is_named o x) as (λ b. is_named o x ≡ b → cond b (Some x) (row_named xs o) ≡ Some c → Member c (x ∷ xs) × ((c.row).name ≡ o)) [
      | true ↦ λ h k. let same : x ≡ c = some_is x c k in (inl same, ap (λ (z : CountedRow). (z.row).name) (sym same) ∙ same_name_is (x.row).name o h)
      | false ↦ λ h k. let f = found_member xs o c k in (inr f.0, f.1)
    ] refl e

in_named : (rows : List CountedRow) (r o : ObjId) → owner_at rows o ≡ Some (In r) → Member o (names_under (In r) rows)
in_named rows r o e =
    let c = has_found_named rows o (owned_has_row rows o (In r) e) in
    let f = found_member rows o c.0 c.1 in
    let own : ((c.0).row).owner ≡ In r = some_is ((c.0).row).owner (In r) (sym (ap owner_by c.1) ∙ e) in
    let m : Member c.0 (rows_of (In r) rows) = Member_filter (is_under (In r)) c.0 rows f.0 (ap (λ w. same_owner w (In r)) own ∙ same_owner_itself (In r)) in
    subst (λ n. Member n (names_under (In r) rows)) f.1 (Member_map (λ (z : Row). z.name) (c.0).row (plain (rows_of (In r) rows)) (Member_map (λ (z : CountedRow). z.row) c.0 (rows_of (In r) rows) m))

-- a set of rows is emptied whole, though one of them was emptied before
emptied_twice : (gone : ObjId → Bool) (o : ObjId) → gone o ≡ true → (rows : List Row) → map (clear gone) (map (clear (same_name o)) rows) ≡ map (clear gone) rows
emptied_twice gone o e [] = refl
emptied_twice gone o e (r ∷ rs) = (λ i. one (same_name o r.name) refl i ∷ emptied_twice gone o e rs i) where
  one : (b : Bool) → same_name o r.name ≡ b → clear gone (cond b (record r { fields = [] }) r) ≡ clear gone r
  one false h = refl
  one true h =
      let here : gone r.name ≡ true = ap gone (sym (same_name_is o r.name h)) ∙ e in
      ap (λ b. cond b (record r { fields = [] }) (record r { fields = [] })) here ∙ sym (ap (λ b. cond b (record r { fields = [] }) r) here)

clear_all : (gone : ObjId → Bool) (rows : List Row) → ((row : Row) → Member row rows → gone row.name ≡ true → row.fields ≡ []) → map (clear gone) rows ≡ rows
clear_all gone [] h = refl
clear_all gone (r ∷ rs) h = (λ i. one (gone r.name) refl i ∷ clear_all gone rs (λ x m. h x (inr m)) i) where
  one : (b : Bool) → gone r.name ≡ b → cond b (record r { fields = [] }) r ≡ r
  one false e = refl
  one true e = ap (λ fs. record r { fields = fs }) (sym (h r (inl refl) e))

module _ (s : State) (r : ObjId) (rows0 : List CountedRow) (regions0 : List Region) (work0 : WorkList) (can : CanDropRegion rows0 regions0 work0 s r) (steps0 : ℕ) where
  pub sweep_init : (next : Option ObjId) (steps : ℕ) → next ≡ first_name (rows_of (In r) rows0) → steps ≡ steps0 + 1 → Sweeping s r next rows0 regions0 work0 work0 steps0 steps
  sweep_init next steps first e =
      let is : s ≡ stored_state s rows0 = sym (stored_is s rows0 (are_rows rows0 regions0 s can.can.counted)) in
      record {
        counted = subst (IsCounted rows0 regions0) is can.can.counted;
        same = ap (λ t. emptied t (of_region s r)) (sym is);
        loses = subst (λ t. Loses s t work0.suspects work0.suspects) is (loses_nothing s work0.suspects);
        done = [];
        todo = names_under (In r) rows0;
        order = refl;
        next_is = first ∙ first_names (rows_of (In r) rows0);
        empty = λ row m n. absurd n;
        less = omega (arith, ap (λ (t : State). size t.rows) is);
        cost = omega (arith, e, ap (λ (t : State). size t.rows) is);
      }

  module _ (next : Option ObjId) (rows : List CountedRow) (regions : List Region) (work : WorkList) (steps : ℕ) (sweep : Sweeping s r next rows regions work0 work steps0 steps) where
    abbrev t : State
    t = stored_state s rows

    differ_rows : NamesDiffer rows
    differ_rows = (are_rows rows regions t sweep.counted).differ

    -- ---- the next row
    module _ (o : ObjId) (some : next ≡ Some o) where
      rest_of : (os : List ObjId) → first_listed os ≡ Some o → (rest : List ObjId) × (os ≡ o ∷ rest)
      rest_of [] e = absurd (none-some o e)
      rest_of (p ∷ ps) e = (ps, ap (λ z. z ∷ ps) (some_is p o e))

      rest : (ps : List ObjId) × (sweep.todo ≡ o ∷ ps)
      rest = rest_of sweep.todo (sym sweep.next_is ∙ some)

      todo_is : names_under (In r) rows ≡ sweep.done ++ o ∷ rest.0
      todo_is = sweep.order ∙ ap (λ l. sweep.done ++ l) rest.1

      here : owner_at rows o ≡ Some (In r)
      here = named_in rows r o differ_rows (subst (Member o) (sym todo_is) (Member_right o sweep.done (o ∷ rest.0) (inl refl)))

      here_too : owner_in t.rows o ≡ Some (In r)
      here_too = sym (owner_is_told rows regions t sweep.counted o) ∙ here

      gone_here : of_region s r o ≡ true
      gone_here = ap (is_in r) (sym (sweep.loses.owners o) ∙ here_too) ∙ same_name_itself r

      pub sweep_can : SameCapacity work0 work → CanEmpty rows regions work t o (In r)
      sweep_can sum = record { can = record { counted = sweep.counted; room = omega (arith, sweep.loses.paid, sum, can.can.room) }; here = here_too }

      module _ (rows1 : List CountedRow) (regions1 : List Region) (work1 : WorkList) (steps1 : ℕ) (counted1 : IsCounted rows1 regions1 (emptied t (same_name o))) (order1 : SameOrder rows1 rows) where
        is : emptied t (same_name o) ≡ stored_state s rows1
        is = ap (λ l. record s { rows = l }) (sym (are_rows rows1 regions1 (emptied t (same_name o)) counted1).rise)

        differ1 : NamesDiffer rows1
        differ1 = (are_rows rows1 regions1 (emptied t (same_name o)) counted1).differ

        order_now : names_under (In r) rows1 ≡ sweep.done ++ o ∷ rest.0
        order_now = order1 (In r) ∙ todo_is

        differ_now : Differ same_name (sweep.done ++ o ∷ rest.0)
        differ_now = subst (Differ same_name) order_now (differ_filter (is_under (In r)) rows1 differ1)

        here_now : owner_at rows1 o ≡ Some (In r)
        here_now = named_in rows1 r o differ1 (subst (Member o) (sym order_now) (Member_right o sweep.done (o ∷ rest.0) (inl refl)))

        pub still_there : HasRow rows1 o
        still_there = owned_has_row rows1 o (In r) here_now

        next_named : (next1 : Option ObjId) → next1 ≡ name_after (rows_beside rows1 o) o → next1 ≡ first_listed rest.0
        next_named next1 e = e ∙ ap (λ w. name_after (rows_of_maybe w rows1) o) here_now ∙ names_after (rows_of (In r) rows1) o ∙ ap (λ l. after_named l o) order_now ∙ after_here sweep.done o rest.0 differ_now

        pub sweep_on : Loses t (emptied t (same_name o)) work.suspects work1.suspects → left_to_do work1 (emptied t (same_name o)).rows ≤ left_to_do work t.rows
            → owed steps1 work1 (emptied t (same_name o)).rows ≤ owed steps work t.rows + 1 → (next1 : Option ObjId) (steps2 : ℕ) → next1 ≡ name_after (rows_beside rows1 o) o → steps2 ≡ steps1 + 1
            → Sweeping s r next1 rows1 regions1 work0 work1 steps0 steps2
        sweep_on loses1 less1 cost1 next1 steps2 e step = record {
          counted = subst (IsCounted rows1 regions1) is counted1;
          same = ap (λ u. emptied u (of_region s r)) (sym is) ∙ ap (λ l. record s { rows = l }) (emptied_twice (of_region s r) o gone_here t.rows) ∙ sweep.same;
          loses = subst (λ u. Loses s u work0.suspects work1.suspects) is (loses_then s t (emptied t (same_name o)) work0.suspects work.suspects work1.suspects sweep.loses loses1);
          done = sweep.done ++ o ∷ [];
          todo = rest.0;
          order = order_now ∙ sym (append_assoc sweep.done (o ∷ []) rest.0);
          next_is = next_named next1 e;
          empty = λ row m n. empty_now row (subst (λ (u : State). Member row u.rows) (sym is) m) n;
          less = omega (arith, less1, sweep.less, ap (λ (u : State). size u.rows) is);
          cost = omega (arith, step, cost1, sweep.cost, longer sweep.done, ap (λ (u : State). size u.rows) is);
        } where
          longer : (os : List ObjId) → length (os ++ o ∷ []) ≡ length os + 1
          longer [] = refl
          longer (p ∷ ps) = omega (arith, longer ps)

          by_name_of : (row old : Row) (b : Bool) → same_name o old.name ≡ b → cond b (record old { fields = [] }) old ≡ row → Member old t.rows → Member row.name sweep.done ⊎ Member row.name (o ∷ []) → row.fields ≡ []
          by_name_of row old true h k m n = ap (λ (z : Row). z.fields) (sym k)
          by_name_of row old false h k m (inl d) = ap (λ (z : Row). z.fields) (sym k) ∙ sweep.empty old m (subst (λ (z : Row). Member z.name sweep.done) (sym k) d)
          by_name_of row old false h k m (inr (inl d)) = absurd (both_ways _ h (ap (same_name o) (ap (λ (z : Row). z.name) k ∙ sym d) ∙ same_name_itself o))
          by_name_of row old false h k m (inr (inr d)) = absurd d

          empty_now : (row : Row) → Member row (emptied t (same_name o)).rows → Member row.name (sweep.done ++ o ∷ []) → row.fields ≡ []
          empty_now row m n =
              let old = Member_of_map (clear (same_name o)) row t.rows m in
              by_name_of row old.0 (same_name o (old.0).name) refl old.1.1 old.1.0 (Member_of_append row.name sweep.done (o ∷ []) n)

        -- fewer names are left
        pub sweep_less : (next1 : Option ObjId) → next1 ≡ name_after (rows_beside rows1 o) o → length (names_from next1 (names_under (In r) rows1)) < length (names_from next (names_under (In r) rows))
        sweep_less next1 e =
            let left : names_from next1 (names_under (In r) rows1) ≡ rest.0 =
            (λ i. names_from (next_named next1 e i) ((order_now ∙ sym (append_assoc sweep.done (o ∷ []) rest.0)) i))
            ∙ from_here (sweep.done ++ o ∷ []) rest.0 (subst (Differ same_name) (sym (append_assoc sweep.done (o ∷ []) rest.0)) differ_now) in
            let before : names_from next (names_under (In r) rows) ≡ o ∷ rest.0 =
            (λ i. names_from (some i) (todo_is i)) ∙ from_here sweep.done (o ∷ rest.0) differ_now in
            omega (arith, ap length left, ap length before)

    -- ---- no row is left
    module _ (none : next ≡ None) where
      all_done : sweep.todo ≡ []
      all_done = by sweep.todo (sym sweep.next_is ∙ none) where
        by : (os : List ObjId) → first_listed os ≡ None → os ≡ []
        by [] e = refl
        by (p ∷ ps) e = absurd (none-some p (sym e))

      nil_right : (os : List ObjId) → os ++ [] ≡ os
      nil_right [] = refl
      nil_right (p ∷ ps) = ap (λ l. p ∷ l) (nil_right ps)

      done_is : names_under (In r) rows ≡ sweep.done
      done_is = sweep.order ∙ ap (λ l. sweep.done ++ l) all_done ∙ nil_right sweep.done

      no_fields : (row : Row) → Member row t.rows → of_region s r row.name ≡ true → row.fields ≡ []
      no_fields row m e =
          let at : owner_at rows row.name ≡ Some (In r) = owner_is_told rows regions t sweep.counted row.name ∙ sweep.loses.owners row.name ∙ in_region r (owner_in s.rows row.name) e in
          sweep.empty row m (subst (Member row.name) done_is (in_named rows r row.name at))

      pub all_empty : stored_state s rows ≡ emptied s (of_region s r)
      all_empty = ap (λ l. record s { rows = l }) (sym (clear_all (of_region s r) t.rows no_fields)) ∙ sweep.same

      pub sweep_counted : IsCounted rows regions (emptied s (of_region s r))
      sweep_counted = subst (IsCounted rows regions) all_empty sweep.counted

      pub sweep_loses : Loses s (emptied s (of_region s r)) work0.suspects work.suspects
      sweep_loses = subst (λ u. Loses s u work0.suspects work.suspects) all_empty sweep.loses

      pub sweep_ends : left_to_do work (emptied s (of_region s r)).rows ≤ left_to_do work0 s.rows
      sweep_ends = omega (arith, sweep.less, ap (λ (u : State). size u.rows) all_empty)

      pub sweep_cost : owed steps work (emptied s (of_region s r)).rows ≤ owed steps0 work0 s.rows + 2 * length (rows_of (In r) rows) + 1
      sweep_cost = omega (
        arith,
        sweep.cost,
        ap (λ (u : State). size u.rows) all_empty,
        ap length done_is,
        length-map (plain (rows_of (In r) rows)) (λ (x : Row). x.name),
        length-map (rows_of (In r) rows) (λ (x : CountedRow). x.row),
      )
