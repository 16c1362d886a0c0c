-- The edges after a write of a field: those before it, and the new one.
use Rattle.std.proofs.Common.{List, Some, [], ap, cond, false, inl, inr, refl, subst, sym, true, ◌++◌, ◌∙◌, ◌∷◌, ◌≡◌, ◌⊎◌}
use Rattle.lf_base.specs.declared.ids.ObjId.{ObjId}
use Rattle.lf_base.specs.declared.values.Key.{Key}
use Rattle.lf_base.specs.declared.values.Value.{Value}
use Rattle.lf_base.specs.Edges.{Edge, Field, content_edges, edges, field_targets, row_edges, rows_edges, slot_edges}
use Rattle.lf_base.specs.Names.{same_key, same_name, targets_of_value}
use Rattle.lf_base.specs.Owners.{owner_in, row_at, row_owner}
use Rattle.lf_base.specs.PlainState.{Row, State}
use Rattle.lf_base.specs.Sets.{Member}
use Rattle.lf_base.specs.WriteResult.{put_field, write_fields}
use Rattle.lf_laws.proofs.Rows.EdgeCounts.{with_rows}
use Rattle.lf_base.proofs.ListLemmas.Members.{Member_map, Member_of_map, Member_left, Member_of_append, Member_right}
use Rattle.lf_base.proofs.NameLemmas.SameNames.{same_name_is}

pub owner_write : (rows : List Row) (x : ObjId) (k : Key) (v : Value) (o : ObjId) → owner_in (write_fields rows x k v) o ≡ owner_in rows o
owner_write [] x k v o = refl
owner_write (r ∷ rs) x k v o =
    elim (same_name r.name x) as (λ b. owner_in (cond b (record r { fields = put_field r.fields k v }) r ∷ write_fields rs x k v) o ≡ owner_in (r ∷ rs) o) [
      | true ↦ elim (same_name r.name o) as (λ c. row_owner (cond c (Some (record r { fields = put_field r.fields k v })) (row_at (write_fields rs x k v) o)) ≡ row_owner (cond c (Some r) (row_at rs o))) [ true ↦ refl | false ↦ owner_write rs x k v o ]
      | false ↦ elim (same_name r.name o) as (λ c. row_owner (cond c (Some r) (row_at (write_fields rs x k v) o)) ≡ row_owner (cond c (Some r) (row_at rs o))) [ true ↦ refl | false ↦ owner_write rs x k v o ]
    ]

-- what is in the fields after a write was there before, or is the value written
put_targets : (fs : List (Key × Value)) (k : Key) (v : Value) (o : ObjId) → Member o (field_targets (put_field fs k v)) → Member o (field_targets fs) ⊎ Member o (targets_of_value v)
put_targets [] k v o h = elim (Member_of_append o (targets_of_value v) [] h) [ inl m ↦ inr m | inr m ↦ absurd m ]
put_targets (f ∷ fs) k v o h =
    elim (same_key f.0 k) as (λ b. Member o (field_targets (cond b ((k, v) ∷ fs) (f ∷ put_field fs k v))) → Member o (field_targets (f ∷ fs)) ⊎ Member o (targets_of_value v)) [
      | true ↦ λ m. elim (Member_of_append o (targets_of_value v) (field_targets fs) m) [ inl n ↦ inr n | inr n ↦ inl (Member_right o (targets_of_value f.1) (field_targets fs) n) ]
      | false ↦ λ m. elim (Member_of_append o (targets_of_value f.1) (field_targets (put_field fs k v)) m) [
        | inl n ↦ inl (Member_left o (targets_of_value f.1) (field_targets fs) n)
        | inr n ↦ elim (put_targets fs k v o n) [ inl q ↦ inl (Member_right o (targets_of_value f.1) (field_targets fs) q) | inr q ↦ inr q ]
      ]
    ] h

abbrev pub IsNew : ObjId → Value → Edge → Type 0
IsNew x v e = (e.from ≡ Field x) × Member e.to (targets_of_value v)

row_write : (r : Row) (x : ObjId) (k : Key) (v : Value) (e : Edge) → Member e (row_edges (cond (same_name r.name x) (record r { fields = put_field r.fields k v }) r)) → Member e (row_edges r) ⊎ IsNew x v e
row_write r x k v e h =
    elim (same_name r.name x) as (λ b. same_name r.name x ≡ b → Member e (row_edges (cond b (record r { fields = put_field r.fields k v }) r)) → Member e (row_edges r) ⊎ IsNew x v e) [
      | true ↦ λ s m. let o = Member_of_map _ e (field_targets (put_field r.fields k v)) m in
          elim (put_targets r.fields k v o.0 o.1.0) [
            | inl n ↦ inl (subst (λ d. Member d (row_edges r)) o.1.1 (Member_map (λ o. record { from = Field r.name; to = o }) o.0 (field_targets r.fields) n))
            | inr n ↦ inr (ap (λ (d : Edge). d.from) (sym o.1.1) ∙ ap Field (same_name_is r.name x s), subst (λ (d : Edge). Member d.to (targets_of_value v)) o.1.1 n)
          ]
      | false ↦ λ s m. inl m
    ] refl h

rows_write : (rows : List Row) (x : ObjId) (k : Key) (v : Value) (e : Edge) → Member e (rows_edges (write_fields rows x k v)) → Member e (rows_edges rows) ⊎ IsNew x v e
rows_write [] x k v e h = absurd h
rows_write (r ∷ rs) x k v e h =
    elim (Member_of_append e (row_edges (cond (same_name r.name x) (record r { fields = put_field r.fields k v }) r)) (rows_edges (write_fields rs x k v)) h) [
      | inl m ↦ elim (row_write r x k v e m) [ inl n ↦ inl (Member_left e (row_edges r) (rows_edges rs) n) | inr n ↦ inr n ]
      | inr m ↦ elim (rows_write rs x k v e m) [ inl n ↦ inl (Member_right e (row_edges r) (rows_edges rs) n) | inr n ↦ inr n ]
    ]

abbrev pub written : State → ObjId → Key → Value → State
written s x k v = with_rows s (write_fields s.rows x k v)

pub edges_write : (s : State) (x : ObjId) (k : Key) (v : Value) (e : Edge) → Member e (edges (written s x k v)) → Member e (edges s) ⊎ IsNew x v e
edges_write s x k v e h =
    let rest : List Edge = content_edges s.held ++ (content_edges s.made ++ (rows_edges s.given ++ rows_edges s.own)) in
    elim (Member_of_append e (slot_edges s.slots) (rows_edges (write_fields s.rows x k v) ++ rest) h) [
      | inl m ↦ inl (Member_left e (slot_edges s.slots) (rows_edges s.rows ++ rest) m)
      | inr m ↦ elim (Member_of_append e (rows_edges (write_fields s.rows x k v)) rest m) [
        | inl n ↦ elim (rows_write s.rows x k v e n) [
          | inl q ↦ inl (Member_right e (slot_edges s.slots) (rows_edges s.rows ++ rest) (Member_left e (rows_edges s.rows) rest q))
          | inr q ↦ inr q
        ]
        | inr n ↦ inl (Member_right e (slot_edges s.slots) (rows_edges s.rows ++ rest) (Member_right e (rows_edges s.rows) rest n))
      ]
    ]
