-- Counts of edges, and what a write of a field does to them.
use Rattle.std.proofs.Common.{Bool, List, None, Option, Some, [], ap, arith, cond, false, refl, subst, sym, true, ℕ, ◌++◌, ◌+◌, ◌||◌, ◌∙◌, ◌∷◌, ◌≡◌}
use Rattle.std.proofs.lemmas.List.Sums.{sum_by-cons}
use Rattle.std.specs.List.{count_by, sum_by}
use Rattle.lf_base.specs.declared.ids.ObjId.{ObjId}
use Rattle.lf_base.specs.declared.values.Key.{Key}
use Rattle.lf_base.specs.declared.values.Value.{Value}
use Rattle.lf_base.specs.Edges.{Edge, Field, Source, content_edges, edges_by, field_targets, row_edges, rows_edges, slot_edges}
use Rattle.lf_base.specs.Names.{same_key, same_name, targets_of_value}
use Rattle.lf_base.specs.Owners.{has_row, row_at}
use Rattle.lf_base.specs.PlainState.{Row, State}
use Rattle.lf_base.specs.TakeResult.{field_at}
use Rattle.lf_base.specs.WalkCounts.{refs}
use Rattle.lf_base.specs.WriteResult.{put_field, write_fields}
use Rattle.lf_base.proofs.NameLemmas.SameNames.{same_name_is}
use Rattle.lf_laws.proofs.Rows.RowsByName.{Distinct}
use Rattle.lf_base.proofs.ListLemmas.Sums.{count_flat_map, count_middle, sum_same}

abbrev pub hits : ObjId → Value → ℕ
hits o v = count_by (λ p. same_name p o) (targets_of_value v)

abbrev pub hits_maybe : ObjId → Option Value → ℕ
hits_maybe o None = 0
hits_maybe o (Some v) = hits o v

abbrev pub field_hits : ObjId → List (Key × Value) → ℕ
field_hits o fs = sum_by (λ f. hits o f.1) fs

abbrev pub rows_hits : ObjId → List Row → ℕ
rows_hits o rows = sum_by (λ r. field_hits o r.fields) rows

pub count_edges_by : (o : ObjId) (s : Source) (os : List ObjId) → count_by (λ (e : Edge). same_name e.to o) (edges_by s os) ≡ count_by (λ p. same_name p o) os
count_edges_by o s [] = refl
count_edges_by o s (p ∷ os) =
    sum_by-cons (λ (e : Edge). cond (same_name e.to o) 1 0) (record { from = s; to = p }) (edges_by s os)
    ∙ ap (λ n. cond (same_name p o) 1 0 + n) (count_edges_by o s os)
    ∙ sym (sum_by-cons (λ q. cond (same_name q o) 1 0) p os)

pub count_row_edges : (o : ObjId) (r : Row) → count_by (λ (e : Edge). same_name e.to o) (row_edges r) ≡ field_hits o r.fields
count_row_edges o r = count_edges_by o (Field r.name) (field_targets r.fields) ∙ count_flat_map (λ p. same_name p o) (λ (f : Key × Value). targets_of_value f.1) r.fields

pub count_rows_edges : (o : ObjId) (rows : List Row) → count_by (λ (e : Edge). same_name e.to o) (rows_edges rows) ≡ rows_hits o rows
count_rows_edges o rows = count_flat_map (λ (e : Edge). same_name e.to o) row_edges rows ∙ sum_same _ _ (count_row_edges o) rows

pub put_field_hits : (o : ObjId) (fs : List (Key × Value)) (k : Key) (v : Value) → field_hits o (put_field fs k v) + hits_maybe o (field_at fs k) ≡ field_hits o fs + hits o v
put_field_hits o [] k v = omega arith
put_field_hits o (f ∷ fs) k v =
    let h : Key × Value → ℕ = λ g. hits o g.1 in
    elim (same_key f.0 k) as (λ b. field_hits o (cond b ((k, v) ∷ fs) (f ∷ put_field fs k v)) + hits_maybe o (cond b (Some f.1) (field_at fs k)) ≡ field_hits o (f ∷ fs) + hits o v) [
      | true ↦ omega (arith, sum_by-cons h (k, v) fs, sum_by-cons h f fs)
      | false ↦ omega (arith, sum_by-cons h f (put_field fs k v), sum_by-cons h f fs, put_field_hits o fs k v)
    ]

-- a write at a name that no row has changes nothing
pub write_nowhere : (rows : List Row) (x : ObjId) (k : Key) (v : Value) → has_row rows x ≡ false → write_fields rows x k v ≡ rows
write_nowhere [] x k v h = refl
write_nowhere (r ∷ rs) x k v h =
    elim (same_name r.name x) as (λ b. (b || has_row rs x) ≡ false → cond b (record r { fields = put_field r.fields k v }) r ∷ write_fields rs x k v ≡ r ∷ rs) [
      | true ↦ λ e. cc
      | false ↦ λ e. ap (λ ys. r ∷ ys) (write_nowhere rs x k v e)
    ] h

pub write_hits : (o : ObjId) (rows : List Row) (x : ObjId) (k : Key) (v : Value) (row : Row) → Distinct rows → row_at rows x ≡ Some row
    → rows_hits o (write_fields rows x k v) + hits_maybe o (field_at row.fields k) ≡ rows_hits o rows + hits o v
write_hits o [] x k v row d e = cc
write_hits o (r ∷ rs) x k v row d e =
    let h : Row → ℕ = λ q. field_hits o q.fields in
    elim (same_name r.name x) as (λ b. same_name r.name x ≡ b → cond b (Some r) (row_at rs x) ≡ Some row →
    rows_hits o (cond b (record r { fields = put_field r.fields k v }) r ∷ write_fields rs x k v) + hits_maybe o (field_at row.fields k) ≡ rows_hits o (r ∷ rs) + hits o v) [
      | true ↦ λ same found.
          let here : r ≡ row = cc in
          let rest : write_fields rs x k v ≡ rs = write_nowhere rs x k v (ap (has_row rs) (sym (same_name_is r.name x same)) ∙ d.0) in
          subst (λ (w : Row). rows_hits o (record r { fields = put_field r.fields k v } ∷ write_fields rs x k v) + hits_maybe o (field_at w.fields k) ≡ rows_hits o (r ∷ rs) + hits o v) here
          (omega (arith, sum_by-cons h (record r { fields = put_field r.fields k v }) (write_fields rs x k v), sum_by-cons h r rs, put_field_hits o r.fields k v, ap (rows_hits o) rest))
      | false ↦ λ same found.
          omega (arith, sum_by-cons h r (write_fields rs x k v), sum_by-cons h r rs, write_hits o rs x k v row d.1 found)
    ] refl e

abbrev pub with_rows : State → List Row → State
with_rows s rows = record s { rows = rows }

-- ---- the count of a written state
pub refs_write : (s : State) (x : ObjId) (k : Key) (v : Value) (o : ObjId) (row : Row) → Distinct s.rows → row_at s.rows x ≡ Some row
    → refs (with_rows s (write_fields s.rows x k v)) o + hits_maybe o (field_at row.fields k) ≡ refs s o + hits o v
refs_write s x k v o row d e =
    let p : Edge → Bool = λ e. same_name e.to o in
    let rest : List Edge = content_edges s.held ++ (content_edges s.made ++ (rows_edges s.given ++ rows_edges s.own)) in
    let new : List Row = write_fields s.rows x k v in
    omega (
      arith,
      count_middle p (slot_edges s.slots) (rows_edges s.rows) rest,
      count_middle p (slot_edges s.slots) (rows_edges new) rest,
      count_rows_edges o s.rows,
      count_rows_edges o new,
      write_hits o s.rows x k v row d e,
    )
