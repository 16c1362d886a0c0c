-- A take of a field and a closing keep a state well-formed: they leave names and owners, and at most take edges away.
use Rattle.std.proofs.Common.{Bool, List, None, Option, Some, [], ap, arith, cond, false, inl, inr, map, refl, subst, suc, sym, true, zero, ℕ, ◌&&◌, ◌++◌, ◌∙◌, ◌∷◌, ◌≡◌, ◌≤◌, ◌⊎◌}
use Rattle.std.proofs.lemmas.List.Sums.{sum_by-append}
use Rattle.std.specs.List.{flat_map}
use Rattle.std.specs.Prelude.{option_to_list}
use Rattle.lf_base.specs.declared.ids.CownId.{CownId}
use Rattle.lf_base.specs.declared.ids.ObjId.{ObjId}
use Rattle.lf_base.specs.declared.values.Key.{Key}
use Rattle.lf_base.specs.declared.values.Value.{Value}
use Rattle.lf_base.specs.CloseResult.{close_result, closed_fields, closed_slot, closed_value, leads_into}
use Rattle.lf_base.specs.Edges.{Content, Edge, Field, Slot, Source, content_edges, edges, edges_by, field_targets, row_edges, rows_edges, slot_edges, slot_targets}
use Rattle.lf_base.specs.Names.{cowns_of_value, is_local, same_key, same_name, targets_of_value}
use Rattle.lf_base.specs.Owners.{names, owner_in}
use Rattle.lf_base.specs.Ownership.{is_in_other, is_owning, owning_edges}
use Rattle.lf_base.specs.PlainChanges.{put_slot, slot_at}
use Rattle.lf_base.specs.PlainState.{Row, State}
use Rattle.lf_base.specs.Sets.{Differ, Member}
use Rattle.lf_base.specs.TakeResult.{drop_field, take_result}
use Rattle.lf_base.specs.WellFormed.{WellFormed, all_cowns, all_values, content_values, field_values, own_cowns, slot_values}
use Rattle.lf_base.specs.WriteResult.{is_at}
use Rattle.lf_base.proofs.ListLemmas.Sublists.{Sub, none, pass, sub_all, sub_within, take, count_sub, differ_sub, sub_append, sub_flat_map, sub_map}
use Rattle.std.proofs.lemmas.Bool.{and_from, and_parts}
use Rattle.lf_base.proofs.ListLemmas.Tests.{some_is}
use Rattle.lf_base.proofs.ListLemmas.Members.{Member_flat_map, Member_of_flat_map, Member_of_map, Member_left, Member_of_append, Member_right}
use Rattle.lf_laws.proofs.Changes.SameOwners.{owners_well_formed, slot_owns, slot_target, slot_value, with_both}
use Rattle.lf_base.specs.declared.values.Value.TheVariants as value
use Rattle.lf_laws.proofs.Rows.MappedRows.{mapped_names, mapped_owner}

abbrev field_keys : Row → List Key
field_keys r = map (λ (f : Key × Value). f.0) r.fields

abbrev row_values : Row → List Value
row_values r = map (λ (f : Key × Value). f.1) r.fields

-- the value names neither an object nor a cown
abbrev pub NamesNothing : Value → Type 0
NamesNothing v = (targets_of_value v ≡ []) × (cowns_of_value v ≡ [])

-- a change of a row that takes references out of its fields
pub record Trims (f : Row → Row) : Type 0 where
  pub name : (r : Row) → (f r).name ≡ r.name
  pub owner : (r : Row) → (f r).owner ≡ r.owner
  pub keys : (r : Row) → Differ same_key (field_keys r) → Differ same_key (field_keys (f r))
  pub less : (r : Row) → Sub (field_targets (f r).fields) (field_targets r.fields)
  pub values : (r : Row) (w : Value) → Member w (row_values (f r)) → Member w (row_values r) ⊎ NamesNothing w

module _ (f : Row → Row) (c : Trims f) where
  trimmed_names : (rows : List Row) → names (map f rows) ≡ names rows
  trimmed_names = mapped_names f c.name

  pub trimmed_owner : (rows : List Row) (o : ObjId) → owner_in (map f rows) o ≡ owner_in rows o
  trimmed_owner = mapped_owner f c.name c.owner

  trimmed_row : (r : Row) → Sub (row_edges (f r)) (row_edges r)
  trimmed_row r = subst (λ n. Sub (edges_by (Field n) (field_targets (f r).fields)) (row_edges r)) (sym (c.name r)) (sub_map (λ (o : ObjId). record { from = Field r.name; to = o }) (c.less r))

  trimmed_edges : (rows : List Row) → Sub (rows_edges (map f rows)) (rows_edges rows)
  trimmed_edges [] = none
  trimmed_edges (r ∷ rs) = sub_append (trimmed_row r) (trimmed_edges rs)

  trimmed_values : (rows : List Row) (w : Value) → Member w (field_values (map f rows)) → Member w (field_values rows) ⊎ NamesNothing w
  trimmed_values [] w m = absurd m
  trimmed_values (r ∷ rs) w m = elim (Member_of_append w (row_values (f r)) (field_values (map f rs)) m) [
    | inl h ↦ elim (c.values r w h) [ inl k ↦ inl (Member_left w (row_values r) (field_values rs) k) | inr k ↦ inr k ]
    | inr h ↦ elim (trimmed_values rs w h) [ inl k ↦ inl (Member_right w (row_values r) (field_values rs) k) | inr k ↦ inr k ]
  ]

  module _ (s : State) (slots : List (Option Value)) (t : WellFormed s) (old : (v : Value) → Member (Some v) slots → Member (Some v) s.slots ⊎ NamesNothing v) where
    abbrev rows : List Row
    rows = map f s.rows

    abbrev rest : List Edge
    rest = content_edges s.held ++ (content_edges s.made ++ (rows_edges s.given ++ rows_edges s.own))

    abbrev rest_values : List Value
    rest_values = content_values s.held ++ (content_values s.made ++ (field_values s.given ++ field_values s.own))

    none_in : (o : ObjId) (xs : List ObjId) → xs ≡ [] → Member o xs → ⊥
    none_in o xs e m = subst (Member o) e m

    slot_edge_old : (e : Edge) → Member e (slot_edges slots) → Member e (slot_edges s.slots)
    slot_edge_old e m =
        let x = Member_of_flat_map (λ slot. edges_by Slot (slot_targets slot)) e slots m in
        let o = Member_of_map (λ (o : ObjId). record { from = Slot; to = o }) e (slot_targets x.0) x.1.1 in
        let v = slot_target x.0 o.0 o.1.0 in
        elim (old v.0 (subst (λ z. Member z slots) v.1.0 x.1.0)) [
          | inl h ↦ Member_flat_map (λ slot. edges_by Slot (slot_targets slot)) x.0 e s.slots (subst (λ z. Member z s.slots) (sym v.1.0) h) x.1.1
          | inr h ↦ absurd (none_in o.0 (targets_of_value v.0) h.0 v.1.1)
        ]

    pub edge_old : (e : Edge) → Member e (edges (with_both s slots rows)) → Member e (edges s)
    edge_old e m = elim (Member_of_append e (slot_edges slots) (rows_edges rows ++ rest) m) [
      | inl h ↦ Member_left e (slot_edges s.slots) (rows_edges s.rows ++ rest) (slot_edge_old e h)
      | inr h ↦ Member_right e (slot_edges s.slots) (rows_edges s.rows ++ rest) (sub_within (sub_append (trimmed_edges s.rows) (sub_all rest)) e h)
    ]

    slot_value_old : (v : Value) → Member v (slot_values slots) → Member v (slot_values s.slots) ⊎ NamesNothing v
    slot_value_old v m =
        let x = Member_of_flat_map option_to_list v slots m in
        let e = slot_value x.0 v x.1.1 in
        elim (old v (subst (λ z. Member z slots) e x.1.0)) [
          | inl h ↦ inl (Member_flat_map option_to_list (Some v) v s.slots h (inl refl))
          | inr h ↦ inr h
        ]

    value_old : (v : Value) → Member v (all_values (with_both s slots rows)) → Member v (all_values s) ⊎ NamesNothing v
    value_old v m = elim (Member_of_append v (slot_values slots) (field_values rows ++ rest_values) m) [
      | inl h ↦ elim (slot_value_old v h) [ inl k ↦ inl (Member_left v (slot_values s.slots) _ k) | inr k ↦ inr k ]
      | inr h ↦ elim (Member_of_append v (field_values rows) rest_values h) [
        | inl k ↦ elim (trimmed_values s.rows v k) [ inl j ↦ inl (Member_right v (slot_values s.slots) _ (Member_left v (field_values s.rows) rest_values j)) | inr j ↦ inr j ]
        | inr k ↦ inl (Member_right v (slot_values s.slots) _ (Member_right v (field_values s.rows) rest_values k))
      ]
    ]

    no_cown : (c : CownId) (v : Value) → NamesNothing v → Member c (cowns_of_value v) → ⊥
    no_cown c v n m = subst (Member c) n.1 m

    cown_old : (c : CownId) → Member c (all_cowns (with_both s slots rows)) → Member c (all_cowns s)
    cown_old c m = elim (Member_of_append c (own_cowns s) (flat_map cowns_of_value (all_values (with_both s slots rows))) m) [
      | inl h ↦ Member_left c (own_cowns s) (flat_map cowns_of_value (all_values s)) h
      | inr h ↦ let v = Member_of_flat_map cowns_of_value c (all_values (with_both s slots rows)) h in
          elim (value_old v.0 v.1.0) [
            | inl k ↦ Member_right c (own_cowns s) (flat_map cowns_of_value (all_values s)) (Member_flat_map cowns_of_value v.0 c (all_values s) k v.1.1)
            | inr k ↦ absurd (no_cown c v.0 k v.1.1)
          ]
    ]

    owning_same : (g : Source) (r : ObjId) → is_owning rows g r ≡ true → is_owning s.rows g r ≡ true
    owning_same Slot r e = e
    owning_same (Field p) r e = ap (is_in_other r) (sym (trimmed_owner s.rows p)) ∙ e
    owning_same (Content d) r e = e

    fewer : (r : ObjId) → owning_edges (with_both s slots rows) r ≤ owning_edges s r
    fewer r =
        let p : Edge → Bool = λ e. is_owning rows e.from r && same_name e.to r in
        let q : Edge → Bool = λ e. is_owning s.rows e.from r && same_name e.to r in
        omega (
          arith,
          sum_by-append (λ e. cond (p e) 1 0) (slot_edges slots) (rows_edges rows ++ rest),
          sum_by-append (λ e. cond (q e) 1 0) (slot_edges s.slots) (rows_edges s.rows ++ rest),
          slot_owns rows r slots,
          slot_owns s.rows r s.slots,
          count_sub p q (λ e h. let k = and_parts _ _ h in and_from _ _ (owning_same e.from r k.0) k.1) (sub_append (trimmed_edges s.rows) (sub_all rest)),
        )

    row_keys : (x : Row) → Member x rows → Differ same_key (field_keys x)
    row_keys x m = let y = Member_of_map f x s.rows m in
        subst (λ (z : Row). Differ same_key (field_keys z)) y.1.1 (c.keys y.0 (t.keys_differ y.0 (Member_left y.0 s.rows (s.given ++ s.own) y.1.0)))

    pub trim_keeps : WellFormed (with_both s slots rows)
    trim_keeps = owners_well_formed s slots rows t (record {
      same_names = trimmed_names s.rows;
      same_owners = trimmed_owner s.rows;
      keys = row_keys;
      old_or_slot = λ e m. inl (edge_old e m);
      fewer_owning = fewer;
      cowns = λ d m e. t.cowns_numbered d (cown_old d m) e;
    })

-- ---- a take
drop_part : (fs : List (Key × Value)) (k : Key) → Sub (drop_field fs k) fs
drop_part [] k = none
drop_part (f ∷ fs) k = elim (same_key f.0 k) as (λ b. Sub (cond b fs (f ∷ drop_field fs k)) (f ∷ fs)) [ true ↦ pass (sub_all fs) | false ↦ take (drop_part fs k) ]

module _ (x : ObjId) (k : Key) where
  abbrev pub taken : Row → Row
  taken r = cond (is_at x r) (record r { fields = drop_field r.fields k }) r

  pub taken_trims : Trims taken
  taken_trims = record {
    name = λ r. elim (is_at x r) as (λ b. (cond b (record r { fields = drop_field r.fields k }) r).name ≡ r.name) [ true ↦ refl | false ↦ refl ];
    owner = λ r. elim (is_at x r) as (λ b. (cond b (record r { fields = drop_field r.fields k }) r).owner ≡ r.owner) [ true ↦ refl | false ↦ refl ];
    keys = λ r d. elim (is_at x r) as (λ b. Differ same_key (field_keys (cond b (record r { fields = drop_field r.fields k }) r))) [ true ↦ differ_sub same_key (sub_map (λ (f : Key × Value). f.0) (drop_part r.fields k)) d | false ↦ d ];
    less = λ r. elim (is_at x r) as (λ b. Sub (field_targets (cond b (record r { fields = drop_field r.fields k }) r).fields) (field_targets r.fields)) [ true ↦ sub_flat_map (λ (f : Key × Value). targets_of_value f.1) (drop_part r.fields k) | false ↦ sub_all (field_targets r.fields) ];
    values = λ r w m. inl (elim (is_at x r) as (λ b. Member w (row_values (cond b (record r { fields = drop_field r.fields k }) r)) → Member w (row_values r)) [ true ↦ sub_within (sub_map (λ (f : Key × Value). f.1) (drop_part r.fields k)) w | false ↦ λ n. n ] m);
  }

pub take_keeps : (s : State) (x : ObjId) (k : Key) → WellFormed s → WellFormed (take_result s x k)
take_keeps s x k t = trim_keeps (taken x k) (taken_trims x k) s s.slots t (λ v m. inl m)

-- ---- a closing
nothing : {X : Type 0} (xs : List X) → Sub [] xs
nothing [] = none
nothing (x ∷ xs) = pass (nothing xs)

none_some : (v : Value) → None ≡ Some v → ⊥
none_some v e = cc

pub at_member : (slots : List (Option Value)) (n : ℕ) (v : Value) → slot_at slots n ≡ Some v → Member (Some v) slots
at_member [] n v e = absurd (none_some v e)
at_member (x ∷ xs) zero v e = inl e
at_member (x ∷ xs) (suc n) v e = inr (at_member xs n v e)

pub put_member : (slots : List (Option Value)) (n : ℕ) (w x : Option Value) → Member x (put_slot slots n w) → Member x slots ⊎ (w ≡ x)
put_member [] n w x m = absurd m
put_member (y ∷ ys) zero w x (inl e) = inr e
put_member (y ∷ ys) zero w x (inr m) = inl (inr m)
put_member (y ∷ ys) (suc n) w x (inl e) = inl (inl e)
put_member (y ∷ ys) (suc n) w x (inr m) = elim (put_member ys n w x m) [ inl h ↦ inl (inr h) | inr h ↦ inr h ]

module _ (s : State) (r : ObjId) where
  closed_or_same : (v : Value) → (closed_value s r v ≡ v) ⊎ (closed_value s r v ≡ value.None)
  closed_or_same v = elim (leads_into s r v) as (λ b. (cond b value.None v ≡ v) ⊎ (cond b value.None v ≡ value.None)) [ true ↦ inr refl | false ↦ inl refl ]

  closed_targets : (v : Value) → Sub (targets_of_value (closed_value s r v)) (targets_of_value v)
  closed_targets v = elim (leads_into s r v) as (λ b. Sub (targets_of_value (cond b value.None v)) (targets_of_value v)) [ true ↦ nothing (targets_of_value v) | false ↦ sub_all (targets_of_value v) ]

  abbrev closed_field : Key × Value → Key × Value
  closed_field f = (f.0, closed_value s r f.1)

  same_keys_after : (fs : List (Key × Value)) → map (λ (f : Key × Value). f.0) (map closed_field fs) ≡ map (λ (f : Key × Value). f.0) fs
  same_keys_after [] = refl
  same_keys_after (f ∷ fs) = ap (λ l. f.0 ∷ l) (same_keys_after fs)

  less_after : (fs : List (Key × Value)) → Sub (field_targets (map closed_field fs)) (field_targets fs)
  less_after [] = none
  less_after (f ∷ fs) = sub_append (closed_targets f.1) (less_after fs)

  values_after : (fs : List (Key × Value)) (w : Value) → Member w (map (λ (f : Key × Value). f.1) (map closed_field fs)) → Member w (map (λ (f : Key × Value). f.1) fs) ⊎ NamesNothing w
  values_after [] w m = absurd m
  values_after (f ∷ fs) w (inl e) = elim (closed_or_same f.1) [
    | inl h ↦ inl (inl (sym h ∙ e))
    | inr h ↦ inr (subst NamesNothing (sym h ∙ e) (refl, refl))
  ]
  values_after (f ∷ fs) w (inr m) = elim (values_after fs w m) [ inl k ↦ inl (inr k) | inr k ↦ inr k ]

  abbrev pub closed_row : Row → Row
  closed_row row = closed_fields s r row

  pub closed_trims : Trims closed_row
  closed_trims = record {
    name = λ x. elim (is_local x.owner) as (λ b. (cond b (record x { fields = map closed_field x.fields }) x).name ≡ x.name) [ true ↦ refl | false ↦ refl ];
    owner = λ x. elim (is_local x.owner) as (λ b. (cond b (record x { fields = map closed_field x.fields }) x).owner ≡ x.owner) [ true ↦ refl | false ↦ refl ];
    keys = λ x d. elim (is_local x.owner) as (λ b. Differ same_key (field_keys (cond b (record x { fields = map closed_field x.fields }) x))) [ true ↦ subst (Differ same_key) (sym (same_keys_after x.fields)) d | false ↦ d ];
    less = λ x. elim (is_local x.owner) as (λ b. Sub (field_targets (cond b (record x { fields = map closed_field x.fields }) x).fields) (field_targets x.fields)) [ true ↦ less_after x.fields | false ↦ sub_all (field_targets x.fields) ];
    values = λ x w m. elim (is_local x.owner) as (λ b. Member w (row_values (cond b (record x { fields = map closed_field x.fields }) x)) → Member w (row_values x) ⊎ NamesNothing w) [ true ↦ values_after x.fields w | false ↦ λ n. inl n ] m;
  }

  was : (x : Option Value) (v : Value) → closed_slot s r x ≡ Some v → (slots : List (Option Value)) → Member x slots → Member (Some v) slots ⊎ NamesNothing v
  was None v e slots m = absurd (none_some v e)
  was (Some u) v e slots m = elim (closed_or_same u) [
    | inl h ↦ inl (subst (λ z. Member z slots) (ap Some (sym h) ∙ e) m)
    | inr h ↦ inr (subst NamesNothing (sym h ∙ some_is (closed_value s r u) v e) (refl, refl))
  ]

  slots_closed : (slots : List (Option Value)) (v : Value) → Member (Some v) (map (closed_slot s r) slots) → Member (Some v) slots ⊎ NamesNothing v
  slots_closed slots v m = let x = Member_of_map (closed_slot s r) (Some v) slots m in was x.0 v x.1.1 slots x.1.0

  pub slots_after : (n : ℕ) (v : Value) → Member (Some v) (put_slot (map (closed_slot s r) s.slots) n (slot_at s.slots n)) → Member (Some v) s.slots ⊎ NamesNothing v
  slots_after n v m = elim (put_member (map (closed_slot s r) s.slots) n (slot_at s.slots n) (Some v) m) [
    | inl h ↦ slots_closed s.slots v h
    | inr h ↦ inl (at_member s.slots n v h)
  ]

pub close_keeps : (s : State) (n : ℕ) (r : ObjId) → WellFormed s → WellFormed (close_result s n r)
close_keeps s n r t = trim_keeps (closed_row s r) (closed_trims s r) s (put_slot (map (closed_slot s r) s.slots) n (slot_at s.slots n)) t (slots_after s r n)
