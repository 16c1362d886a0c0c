-- The cowns that a state names after its fields, contents or slots have changed.
use Rattle.std.proofs.Common.{List, [], ap, cond, false, inl, inr, map, refl, subst, sym, true, ◌++◌, ◌∷◌, ◌≡◌, ◌⊎◌}
use Rattle.std.specs.List.{flat_map}
use Rattle.lf_base.specs.declared.ids.CownId.{CownId}
use Rattle.lf_base.specs.declared.ids.ObjId.{ObjId}
use Rattle.lf_base.specs.declared.values.Key.{Key}
use Rattle.lf_base.specs.declared.values.Owner.{Owner}
use Rattle.lf_base.specs.declared.values.Value.{Value}
use Rattle.lf_base.specs.Names.{cowns_of_value, same_key, same_name}
use Rattle.lf_base.specs.Owners.{has_name}
use Rattle.lf_base.specs.PlainState.{Row, State}
use Rattle.lf_base.specs.Sets.{Member}
use Rattle.lf_base.specs.WellFormed.{all_cowns, all_values, content_values, field_values, own_cowns, slot_values}
use Rattle.lf_base.specs.WriteResult.{put_field, relabel, write_fields}
use Rattle.lf_laws.proofs.Rows.EdgeCounts.{with_rows}
use Rattle.lf_base.proofs.ListLemmas.Members.{Member_flat_map, Member_of_flat_map, Member_left, Member_of_append, Member_right, Within}

pub put_values : (fs : List (Key × Value)) (k : Key) (v w : Value) → Member w (map (λ (f : Key × Value). f.1) (put_field fs k v)) → Member w (map (λ (f : Key × Value). f.1) fs) ⊎ (v ≡ w)
put_values [] k v w (inl e) = inr e
put_values [] k v w (inr m) = absurd m
put_values (f ∷ fs) k v w m =
    elim (same_key f.0 k) as (λ b. Member w (map (λ (g : Key × Value). g.1) (cond b ((k, v) ∷ fs) (f ∷ put_field fs k v))) → Member w (map (λ (g : Key × Value). g.1) (f ∷ fs)) ⊎ (v ≡ w)) [
      | true ↦ λ n. elim n [ inl e ↦ inr e | inr h ↦ inl (inr h) ]
      | false ↦ λ n. elim n [ inl e ↦ inl (inl e) | inr h ↦ elim (put_values fs k v w h) [ inl q ↦ inl (inr q) | inr q ↦ inr q ] ]
    ] m

-- the values in fields after a write were there before, or are the value written
pub write_values : (rows : List Row) (x : ObjId) (k : Key) (v w : Value) → Member w (field_values (write_fields rows x k v)) → Member w (field_values rows) ⊎ (v ≡ w)
write_values [] x k v w m = absurd m
write_values (r ∷ rs) x k v w m =
    elim (same_name r.name x) as (λ b. Member w (map (λ (f : Key × Value). f.1) (cond b (record r { fields = put_field r.fields k v }) r).fields ++ field_values (write_fields rs x k v)) → Member w (field_values (r ∷ rs)) ⊎ (v ≡ w)) [
      | true ↦ λ n. elim (Member_of_append w (map (λ (f : Key × Value). f.1) (put_field r.fields k v)) (field_values (write_fields rs x k v)) n) [
        | inl h ↦ elim (put_values r.fields k v w h) [ inl q ↦ inl (Member_left w (map (λ (f : Key × Value). f.1) r.fields) (field_values rs) q) | inr q ↦ inr q ]
        | inr h ↦ elim (write_values rs x k v w h) [ inl q ↦ inl (Member_right w (map (λ (f : Key × Value). f.1) r.fields) (field_values rs) q) | inr q ↦ inr q ]
      ]
      | false ↦ λ n. elim (Member_of_append w (map (λ (f : Key × Value). f.1) r.fields) (field_values (write_fields rs x k v)) n) [
        | inl h ↦ inl (Member_left w (map (λ (f : Key × Value). f.1) r.fields) (field_values rs) h)
        | inr h ↦ elim (write_values rs x k v w h) [ inl q ↦ inl (Member_right w (map (λ (f : Key × Value). f.1) r.fields) (field_values rs) q) | inr q ↦ inr q ]
      ]
    ] m

-- a relabelling leaves the values
pub relabel_values : (rows : List Row) (os : List ObjId) (w : Owner) → field_values (relabel rows os w) ≡ field_values rows
relabel_values [] os w = refl
relabel_values (r ∷ rs) os w =
    elim (has_name os r.name) as (λ b. map (λ (f : Key × Value). f.1) (cond b (record r { owner = w }) r).fields ++ field_values (relabel rs os w) ≡ field_values (r ∷ rs)) [
      | true ↦ ap (λ l. map (λ (f : Key × Value). f.1) r.fields ++ l) (relabel_values rs os w)
      | false ↦ ap (λ l. map (λ (f : Key × Value). f.1) r.fields ++ l) (relabel_values rs os w)
    ]

-- where each value was there or is v, each cown was there or is that of v
pub cowns_from : (s after : State) (v : Value) → Within (own_cowns after) (own_cowns s)
    → ((w : Value) → Member w (all_values after) → Member w (all_values s) ⊎ (v ≡ w))
    → (c : CownId) → Member c (all_cowns after) → Member c (all_cowns s) ⊎ Member c (cowns_of_value v)
cowns_from s after v own old c m =
    elim (Member_of_append c (own_cowns after) (flat_map cowns_of_value (all_values after)) m) [
      | inl h ↦ inl (Member_left c (own_cowns s) (flat_map cowns_of_value (all_values s)) (own c h))
      | inr h ↦ let y = Member_of_flat_map cowns_of_value c (all_values after) h in
          elim (old y.0 y.1.0) [
            | inl n ↦ inl (Member_right c (own_cowns s) (flat_map cowns_of_value (all_values s)) (Member_flat_map cowns_of_value y.0 c (all_values s) n y.1.1))
            | inr e ↦ inr (subst (λ w. Member c (cowns_of_value w)) (sym e) y.1.1)
          ]
    ]

abbrev pub values_after_rows : State → List Value
values_after_rows s = content_values s.held ++ (content_values s.made ++ (field_values s.given ++ field_values s.own))

-- where the rows change, all other values stay
pub values_by_rows : (s : State) (rows : List Row) (v : Value) → ((w : Value) → Member w (field_values rows) → Member w (field_values s.rows) ⊎ (v ≡ w))
    → (w : Value) → Member w (all_values (with_rows s rows)) → Member w (all_values s) ⊎ (v ≡ w)
values_by_rows s rows v h w m =
    elim (Member_of_append w (slot_values s.slots) (field_values rows ++ values_after_rows s) m) [
      | inl n ↦ inl (Member_left w (slot_values s.slots) _ n)
      | inr n ↦ elim (Member_of_append w (field_values rows) (values_after_rows s) n) [
        | inl q ↦ elim (h w q) [ inl z ↦ inl (Member_right w (slot_values s.slots) _ (Member_left w (field_values s.rows) _ z)) | inr z ↦ inr z ]
        | inr q ↦ inl (Member_right w (slot_values s.slots) _ (Member_right w (field_values s.rows) _ q))
      ]
    ]
