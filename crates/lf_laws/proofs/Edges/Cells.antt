-- The cells of a state hold its near edges, one at most each; and how many cells each change makes.
use Rattle.std.proofs.Common.{List, None, Option, Some, [], ap, arith, cond, false, length, map, not, refl, suc, sym, true, zero, ℕ, ◌++◌, ◌+◌, ◌∙◌, ◌∷◌, ◌≡◌, ◌≤◌, Bool}
use Rattle.std.proofs.lemmas.List.Sums.{sum_by-cons}
use Rattle.std.specs.List.{filter, sum_by}
use Rattle.lf_base.specs.CloseResult.{close_result, closed_fields, closed_slot, closed_value}
use Rattle.lf_base.specs.ContentResult.{content_result, put_content}
use Rattle.lf_base.specs.EdgeLists.{cells, near_edges}
use Rattle.lf_base.specs.Edges.{Content, Field, Slot, Source, content_edges, edges_by, field_targets, row_edges, rows_edges, slot_edges, slot_targets}
use Rattle.lf_base.specs.FreezeResult.{freeze_result, freeze_set}
use Rattle.lf_base.specs.MergeResult.{lies_in, relabel_region}
use Rattle.lf_base.specs.MoveSet.{move_set}
use Rattle.lf_base.specs.Names.{is_local, name_below, same_cown, same_key, same_name, targets_of_value}
use Rattle.lf_base.specs.NewCown.{made_result, next_cown}
use Rattle.lf_base.specs.Owners.{has_name, has_row, names, owner_in}
use Rattle.lf_base.specs.PlainChanges.{insert_row, next_object, put_slot, slot_at, with_row, with_slot}
use Rattle.lf_base.specs.PlainState.{Row, State}
use Rattle.lf_base.specs.Settling.{without}
use Rattle.lf_base.specs.TakeResult.{drop_field, take_result}
use Rattle.lf_base.specs.WriteResult.{is_at, moved, put_field, relabel, write_fields, write_result}
use Rattle.lf_base.specs.declared.ids.CownId.{CownId}
use Rattle.lf_base.specs.declared.ids.ObjId.{ObjId}
use Rattle.lf_base.specs.declared.values.Key.{Key}
use Rattle.lf_base.specs.declared.values.Owner.{Owner}
use Rattle.lf_base.specs.declared.values.Owner.TheVariants.{Frozen, In, Local}
use Rattle.lf_base.specs.declared.values.Value.{Value}
use Rattle.lf_base.specs.declared.values.Value.TheVariants as value
use Rattle.lf_base.specs.WellFormed.{WellFormed}
use Rattle.lf_base.proofs.NameLemmas.SameNames.{same_name_is}
use Rattle.lf_laws.proofs.Dropping.RowsInPlace.{rows_in_place}
use Rattle.lf_laws.proofs.Edges.FieldEdges.{put_elsewhere, put_row, unchanged}
use Rattle.lf_laws.proofs.Rows.RowsByName.{Distinct}
use Rattle.std.proofs.lemmas.List.{length-append, length-map}

-- ---- a cell holds one edge at most
value_one : (v : Value) → length (targets_of_value v) ≤ 1
value_one value.None = omega arith
value_one (value.Bool b) = omega arith
value_one (value.Int n) = omega arith
value_one (value.Text t) = omega arith
value_one (value.Cown c) = omega arith
value_one (value.Obj o) = omega arith

by_length : (f : Source) (os : List ObjId) → length (edges_by f os) ≡ length os
by_length f [] = refl
by_length f (o ∷ os) = omega (arith, by_length f os)

slot_one : (w : Option Value) → length (edges_by Slot (slot_targets w)) ≤ 1
slot_one None = omega arith
slot_one (Some v) = omega (arith, by_length Slot (targets_of_value v), value_one v)

slots_most : (slots : List (Option Value)) → length (slot_edges slots) ≤ length slots
slots_most [] = omega arith
slots_most (w ∷ slots) = omega (arith, length-append (edges_by Slot (slot_targets w)) (slot_edges slots), slot_one w, slots_most slots)

fields_most : (fs : List (Key × Value)) → length (field_targets fs) ≤ length fs
fields_most [] = omega arith
fields_most (f ∷ fs) = omega (arith, length-append (targets_of_value f.1) (field_targets fs), value_one f.1, fields_most fs)

abbrev fields_of : List Row → ℕ
fields_of rows = sum_by (λ (r : Row). length r.fields) rows

rows_most : (rows : List Row) → length (rows_edges rows) ≤ fields_of rows
rows_most [] = omega arith
rows_most (r ∷ rs) =
    omega (
      arith,
      length-append (row_edges r) (rows_edges rs),
      by_length (Field r.name) (field_targets r.fields),
      fields_most r.fields,
      rows_most rs,
      sum_by-cons (λ (r : Row). length r.fields) r rs,
    )

contents_most : (cs : List (CownId × Value)) → length (content_edges cs) ≤ length cs
contents_most [] = omega arith
contents_most (c ∷ cs) =
    omega (
      arith,
      length-append (edges_by (Content c.0) (targets_of_value c.1)) (content_edges cs),
      by_length (Content c.0) (targets_of_value c.1),
      value_one c.1,
      contents_most cs,
    )

pub near_fit : (s : State) → length (near_edges s) ≤ cells s
near_fit s =
    omega (
      arith,
      length-append (slot_edges s.slots) (rows_edges s.rows ++ (content_edges s.held ++ content_edges s.made)),
      length-append (rows_edges s.rows) (content_edges s.held ++ content_edges s.made),
      length-append (content_edges s.held) (content_edges s.made),
      slots_most s.slots,
      rows_most s.rows,
      contents_most s.held,
      contents_most s.made,
    )

-- ---- the fields of rows that change one by one, or leave
mapped_same : (f : Row → Row) → ((r : Row) → length (f r).fields ≡ length r.fields) → (rows : List Row) → fields_of (map f rows) ≡ fields_of rows
mapped_same f h [] = refl
mapped_same f h (r ∷ rs) = omega (arith, h r, mapped_same f h rs, sum_by-cons (λ (r : Row). length r.fields) (f r) (map f rs), sum_by-cons (λ (r : Row). length r.fields) r rs)

mapped_less : (f : Row → Row) → ((r : Row) → length (f r).fields ≤ length r.fields) → (rows : List Row) → fields_of (map f rows) ≤ fields_of rows
mapped_less f h [] = omega arith
mapped_less f h (r ∷ rs) = omega (arith, h r, mapped_less f h rs, sum_by-cons (λ (r : Row). length r.fields) (f r) (map f rs), sum_by-cons (λ (r : Row). length r.fields) r rs)

filtered_less : (p : Row → Bool) (rows : List Row) → fields_of (filter p rows) ≤ fields_of rows
filtered_less p [] = omega arith
filtered_less p (r ∷ rs) = elim (p r) as (λ b. fields_of (cond b (r ∷ filter p rs) (filter p rs)) ≤ fields_of (r ∷ rs)) [
  | true ↦ omega (arith, filtered_less p rs, sum_by-cons (λ (r : Row). length r.fields) r (filter p rs), sum_by-cons (λ (r : Row). length r.fields) r rs)
  | false ↦ omega (arith, filtered_less p rs, sum_by-cons (λ (r : Row). length r.fields) r rs)
]

-- a write makes one field at most
put_most : (fs : List (Key × Value)) (k : Key) (v : Value) → length (put_field fs k v) ≤ length fs + 1
put_most [] k v = omega arith
put_most (f ∷ fs) k v = elim (same_key f.0 k) as (λ b. length (cond b ((k, v) ∷ fs) (f ∷ put_field fs k v)) ≤ length (f ∷ fs) + 1) [
  | true ↦ omega arith
  | false ↦ omega (arith, put_most fs k v)
]

write_most : (rows : List Row) (x : ObjId) (k : Key) (v : Value) → Distinct rows → fields_of (write_fields rows x k v) ≤ fields_of rows + 1
write_most [] x k v d = omega arith
write_most (r ∷ rs) x k v d =
    elim (same_name r.name x) as (λ b. same_name r.name x ≡ b → fields_of (cond b (record r { fields = put_field r.fields k v }) r ∷ write_fields rs x k v) ≤ fields_of (r ∷ rs) + 1) [
      | true ↦ λ e.
          let rest : write_fields rs x k v ≡ rs = unchanged (put_row x k v) x (put_elsewhere x k v) rs (ap (has_row rs) (sym (same_name_is r.name x e)) ∙ d.0) in
          omega (
            arith,
            ap fields_of rest,
            put_most r.fields k v,
            sum_by-cons (λ (r : Row). length r.fields) (record r { fields = put_field r.fields k v }) (write_fields rs x k v),
            sum_by-cons (λ (r : Row). length r.fields) r rs,
          )
      | false ↦ λ e.
          omega (
            arith,
            write_most rs x k v d.1,
            sum_by-cons (λ (r : Row). length r.fields) r (write_fields rs x k v),
            sum_by-cons (λ (r : Row). length r.fields) r rs,
          )
    ] refl

relabel_same : (rows : List Row) (os : List ObjId) (w : Owner) → fields_of (relabel rows os w) ≡ fields_of rows
relabel_same rows os w = mapped_same (λ r. cond (has_name os r.name) (record r { owner = w }) r) (λ r.
    elim (has_name os r.name) as (λ b. length (cond b (record r { owner = w }) r).fields ≡ length r.fields) [ true ↦ refl | false ↦ refl ]) rows

moved_same : (s : State) (rows : List Row) (v : Value) (u : Option Owner) → fields_of (moved rows (move_set s v) u) ≡ fields_of rows
moved_same s rows v None = refl
moved_same s rows v (Some Local) = refl
moved_same s rows v (Some Frozen) = refl
moved_same s rows v (Some (In r)) = relabel_same rows (names (move_set s v)) (In r)

pub cells_write : (s : State) (x : ObjId) (k : Key) (v : Value) → WellFormed s → cells (write_result s x k v) ≤ cells s + 1
cells_write s x k v t = omega (arith, moved_same s (write_fields s.rows x k v) v (owner_in s.rows x), write_most s.rows x k v (rows_in_place s t).distinct)

drop_less : (fs : List (Key × Value)) (k : Key) → length (drop_field fs k) ≤ length fs
drop_less [] k = omega arith
drop_less (f ∷ fs) k = elim (same_key f.0 k) as (λ b. length (cond b fs (f ∷ drop_field fs k)) ≤ length (f ∷ fs)) [
  | true ↦ omega arith
  | false ↦ omega (arith, drop_less fs k)
]

pub cells_take : (s : State) (x : ObjId) (k : Key) → cells (take_result s x k) ≤ cells s
cells_take s x k = omega (
  arith,
  mapped_less (λ r. cond (is_at x r) (record r { fields = drop_field r.fields k }) r)
      (λ r. elim (is_at x r) as (λ b. length (cond b (record r { fields = drop_field r.fields k }) r).fields ≤ length r.fields) [ true ↦ drop_less r.fields k | false ↦ omega arith ]) s.rows,
)

pub cells_region : (s : State) (r : ObjId) (w : Owner) → cells (record s { rows = relabel_region s.rows r w }) ≡ cells s
cells_region s r w = ap (λ n. length s.slots + (n + (length s.held + length s.made))) (mapped_same (λ row. cond (lies_in r row) (record row { owner = w }) row) (λ row.
    elim (lies_in r row) as (λ b. length (cond b (record row { owner = w }) row).fields ≡ length row.fields) [ true ↦ refl | false ↦ refl ]) s.rows)

pub cells_without : (s : State) (gone : ObjId → Bool) → cells (without s gone) ≤ cells s
cells_without s gone = omega (arith, filtered_less (λ r. not (gone r.name)) s.rows)

pub cells_freeze : (s : State) (v : Value) → cells (freeze_result s v) ≤ cells s
cells_freeze s v = omega (arith, filtered_less (λ r. not (has_row (freeze_set s v) r.name)) s.rows)

insert_same : (x : Row) (rows : List Row) → fields_of (insert_row x rows) ≡ length x.fields + fields_of rows
insert_same x [] = sum_by-cons (λ (r : Row). length r.fields) x []
insert_same x (y ∷ ys) = elim (name_below x.name y.name) as (λ b. fields_of (cond b (x ∷ (y ∷ ys)) (y ∷ insert_row x ys)) ≡ length x.fields + fields_of (y ∷ ys)) [
  | true ↦ sum_by-cons (λ (r : Row). length r.fields) x (y ∷ ys)
  | false ↦ omega (arith, insert_same x ys, sum_by-cons (λ (r : Row). length r.fields) y (insert_row x ys), sum_by-cons (λ (r : Row). length r.fields) y ys)
]

pub cells_row : (s : State) (w : Owner) → cells (with_row s w) ≡ cells s
cells_row s w = omega (arith, insert_same (record { name = next_object s; owner = w; fields = [] }) s.rows)

pub cells_slot : (s : State) (w : Option Value) → cells (with_slot s w) ≡ cells s + 1
cells_slot s w = omega (arith, length-append s.slots (w ∷ []))

put_length : (hs : List (CownId × Value)) (c : CownId) (v : Value) → length (put_content hs c v) ≡ length hs
put_length [] c v = refl
put_length (h ∷ hs) c v = elim (same_cown h.0 c) as (λ b. length (cond b ((h.0, v) ∷ hs) (h ∷ put_content hs c v)) ≡ length (h ∷ hs)) [
  | true ↦ omega arith
  | false ↦ omega (arith, put_length hs c v)
]

pub cells_content : (s : State) (c : CownId) (v : Value) → cells (content_result s c v) ≡ cells s
cells_content s c v = omega (arith, put_length s.held c v)

pub cells_made : (s : State) (v : Value) → cells (made_result s v) ≡ cells s + 1
cells_made s v = omega (arith, length-append s.made ((next_cown s, v) ∷ []))

slot_length : (xs : List (Option Value)) (n : ℕ) (w : Option Value) → length (put_slot xs n w) ≡ length xs
slot_length [] n w = refl
slot_length (x ∷ xs) zero w = omega arith
slot_length (x ∷ xs) (suc n) w = omega (arith, slot_length xs n w)

pub cells_close : (s : State) (at : ℕ) (r : ObjId) → cells (close_result s at r) ≡ cells s
cells_close s at r = omega (
  arith,
  slot_length (map (closed_slot s r) s.slots) at (slot_at s.slots at),
  length-map s.slots (closed_slot s r),
  mapped_same (closed_fields s r) (λ row.
      elim (is_local row.owner) as (λ b. length (cond b (record row { fields = map (λ (f : Key × Value). (f.0, closed_value s r f.1)) row.fields }) row).fields ≡ length row.fields) [
        | true ↦ length-map row.fields (λ (f : Key × Value). (f.0, closed_value s r f.1))
        | false ↦ refl
      ]) s.rows,
)
