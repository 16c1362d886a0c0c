-- The table of rows by name: what is found after one slot of the slab, and the index at one name, have changed.
use Rattle.std.proofs.Common.{◌≡◌, ◌≢◌, ℕ, true, false, is_some, cond, Option, Some, None, slice_index_or, subst, unwrap_or, refl, ap, sym, ◌∙◌}
use Rattle.std.specs.Option.{IfSome, IsSome, OnSome, option_map}
use Rattle.std.specs.HashMap.{HashMap}
use Rattle.slab.specs.Slab.{Slab, Updates, get, slab_len, with_value}
use Rattle.slab.proofs.SlabLemmas.{Updates-with_value}
use Rattle.lf_base.specs.declared.ids.ObjId.{ObjId}
use Rattle.lf_base.specs.Names.{same_name}
use Rattle.lf_base.proofs.ListLemmas.SlotCounts.{count_kept}
use Rattle.lf_base.proofs.NameLemmas.SameNames.{same_name_is, same_name_itself}
use Rattle.lf_graph.specs.declared.stored_row.Linked.{Linked}
use Rattle.lf_graph.specs.Chains.{ChangesRowAt}
use Rattle.lf_graph.specs.RowTables.{NamesLeadToRows, head_by, heads_in, is_head_of, slab_key_of}

both_names : (t : Option Linked) (o q : ObjId) → is_head_of o t ≡ true → is_head_of q t ≡ true → same_name o q ≡ true
both_names None o q h k = cc
both_names (Some x) o q h k = ap (λ n. same_name n q) (sym (same_name_is (x.row).name o h)) ∙ k

pub head_is_there : (o : ObjId) (t : Option Linked) → is_head_of o t ≡ true → IsSome t
head_is_there o None h = cc
head_is_there o (Some x) h = refl

-- what holds where there is a row holds here
pub where_some : {P : Type 0} (t : Option Linked) → IsSome t → OnSome t P → P
where_some None h p = cc
where_some (Some x) h p = p

pub name_found : (o : ObjId) (t : Option Linked) → is_head_of o t ≡ true → IfSome t (λ head. (head.row).name ≡ o)
name_found o None h = cc
name_found o (Some x) h = same_name_is (x.row).name o h

module _ {S : Type 0} (rows : Slab Linked) (index : HashMap ObjId ℕ S) (leads : NamesLeadToRows rows index) where
  -- a name without a row has no key
  pub no_row_no_key : (o : ObjId) → heads_in rows index o ≡ None → slab_key_of index o ≡ None
  no_row_no_key o none = go (slab_key_of index o) refl
    where
      go : (t : Option ℕ) → slab_key_of index o ≡ t → t ≡ None
      go None e = refl
      go (Some k) e =
          let here : is_some (get rows k) ≡ true = head_is_there o (get rows k) (leads o k e) in
          let gone : is_some (get rows k) ≡ false = ap (λ t. is_some (head_by rows t)) (sym e) ∙ ap is_some none in
          cc

  -- at the key of a name there is a row
  pub row_at_place : (o : ObjId) (key : ℕ) → slab_key_of index o ≡ Some key → get rows key ≡ None → ⊥
  row_at_place o key found none =
      let here : is_some (get rows key) ≡ true = head_is_there o (get rows key) (leads o key found) in
      let gone : is_some (get rows key) ≡ false = ap is_some none in
      absurd (cc (here, gone))

  -- a key without a row is no name's
  pub vacant_apart : (key : ℕ) → get rows key ≡ None → (o q : ObjId) (k : ℕ) → same_name o q ≡ false → slab_key_of index q ≡ Some k → k ≢ key
  vacant_apart key vacant o q k n e same =
      let here : is_head_of q (get rows k) ≡ true = leads q k e in
      let gone : is_head_of q (get rows k) ≡ false = ap (λ u. is_head_of q (get rows u)) same ∙ ap (is_head_of q) vacant in
      absurd (cc (here, gone))

  -- two names have two keys
  pub keys_apart : (o : ObjId) (key : ℕ) → slab_key_of index o ≡ Some key → (q : ObjId) (k : ℕ) → same_name o q ≡ false → slab_key_of index q ≡ Some k → k ≢ key
  keys_apart o key found q k n e same =
      let t : same_name o q ≡ true = both_names (get rows key) o q (leads o key found) (ap (λ u. is_head_of q (get rows u)) (sym same) ∙ leads q k e) in
      absurd (cc (t, n))

  -- the key that is found for a name
  pub found_entry : (o : ObjId) (key : ℕ) → slab_key_of index o ≡ Some key → (q : ObjId) → slab_key_of index q ≡ cond (same_name o q) (Some key) (slab_key_of index q)
  found_entry o key found q = elim (same_name o q) as (λ b. same_name o q ≡ b → slab_key_of index q ≡ cond b (Some key) (slab_key_of index q)) [
    | true ↦ λ t. ap (slab_key_of index) (sym (same_name_is o q t)) ∙ found
    | false ↦ λ _. refl
  ] refl

module _ {S T : Type 0} (rows new : Slab Linked) (index : HashMap ObjId ℕ S) (after : HashMap ObjId ℕ T) (leads : NamesLeadToRows rows index)
    (o : ObjId) (key : ℕ) (slot : Option Linked) (entry : Option ℕ)
    (write : Updates rows new key slot)
    (entered : (q : ObjId) → slab_key_of after q ≡ cond (same_name o q) entry (slab_key_of index q))
    (apart : (q : ObjId) (k : ℕ) → same_name o q ≡ false → slab_key_of index q ≡ Some k → k ≢ key) where
  stays : (q : ObjId) → same_name o q ≡ false → (t : Option ℕ) → slab_key_of index q ≡ t → head_by new t ≡ head_by rows t
  stays q n None e = refl
  stays q n (Some k) e = write.others k (apart q k n e)

  pub heads_after : head_by new entry ≡ slot → (q : ObjId) → heads_in new after q ≡ cond (same_name o q) slot (heads_in rows index q)
  heads_after s q = ap (head_by new) (entered q) ∙ elim (same_name o q) as (λ b. same_name o q ≡ b → head_by new (cond b entry (slab_key_of index q)) ≡ cond b slot (heads_in rows index q)) [
    | true ↦ λ _. s
    | false ↦ λ n. stays q n (slab_key_of index q) refl
  ] refl

  pub names_lead_after : ((k : ℕ) → entry ≡ Some k → is_head_of o (get new k) ≡ true) → NamesLeadToRows new after
  names_lead_after h q k e = elim (same_name o q) as (λ b. same_name o q ≡ b → cond b entry (slab_key_of index q) ≡ Some k → is_head_of q (get new k) ≡ true) [
    | true ↦ λ t e. ap (λ u. is_head_of u (get new k)) (sym (same_name_is o q t)) ∙ h k e
    | false ↦ λ n e. ap (is_head_of q) (write.others k (apart q k n e)) ∙ leads q k e
  ] refl (sym (entered q) ∙ e)

-- where the slots and what the index holds are the same
module _ {S T : Type 0} (rows new : Slab Linked) (index : HashMap ObjId ℕ S) (after : HashMap ObjId ℕ T) (slots : new.slots ≡ rows.slots) (keys : (q : ObjId) → slab_key_of after q ≡ slab_key_of index q) where
  slot_same : (t : Option ℕ) → head_by new t ≡ head_by rows t
  slot_same None = refl
  slot_same (Some k) = ap (λ s. slice_index_or s k None) slots

  pub heads_same : (q : ObjId) → heads_in new after q ≡ heads_in rows index q
  heads_same q = ap (head_by new) (keys q) ∙ slot_same (slab_key_of index q)

  pub names_lead_still : NamesLeadToRows rows index → NamesLeadToRows new after
  names_lead_still leads q k e = ap (is_head_of q) (slot_same (Some k)) ∙ leads q k (sym (keys q) ∙ e)

-- a row is replaced by another one of its name
module _ {S : Type 0} (rows : Slab Linked) (index : HashMap ObjId ℕ S) (leads : NamesLeadToRows rows index) (o : ObjId) (key : ℕ) (found : slab_key_of index o ≡ Some key) (head : Linked) where
  written : Updates rows (with_value rows key head) key (Some head)
  written = Updates-with_value rows key head (head_is_there o (get rows key) (leads o key found))

  pub set_heads : (q : ObjId) → heads_in (with_value rows key head) index q ≡ cond (same_name o q) (Some head) (heads_in rows index q)
  set_heads = heads_after rows (with_value rows key head) index index leads o key (Some head) (Some key) written (found_entry rows index leads o key found) (keys_apart rows index leads o key found) written.changed

  pub names_lead_set : (head.row).name ≡ o → NamesLeadToRows (with_value rows key head) index
  names_lead_set named = names_lead_after rows (with_value rows key head) index index leads o key (Some head) (Some key) written (found_entry rows index leads o key found) (keys_apart rows index leads o key found)
      (λ k e. ap (λ u. is_head_of o (get (with_value rows key head) (unwrap_or u k))) (sym e) ∙ ap (is_head_of o) written.changed ∙ ap (λ n. same_name n o) named ∙ same_name_itself o)

-- a row is changed in its place, and keeps its name
module _ {S : Type 0} (rows : Slab Linked) (index : HashMap ObjId ℕ S) (leads : NamesLeadToRows rows index) (o : ObjId) (key : ℕ) (found : slab_key_of index o ≡ Some key)
    (old : Linked) (at : Some old ≡ get rows key) (f : Linked → Linked) where
  pub changed_heads : ChangesRowAt (heads_in rows index) (heads_in (with_value rows key (f old)) index) o f
  changed_heads q = set_heads rows index leads o key found (f old) q
      ∙ ap (λ t. cond (same_name o q) t (heads_in rows index q)) (ap (option_map f) (at ∙ sym (ap (head_by rows) found)))

  old_named : (old.row).name ≡ o
  old_named = subst (λ t. IfSome t (λ head. (head.row).name ≡ o)) (sym at) (name_found o (get rows key) (leads o key found))

  pub names_lead_changed : ((f old).row).name ≡ (old.row).name → NamesLeadToRows (with_value rows key (f old)) index
  names_lead_changed named = names_lead_set rows index leads o key found (f old) (named ∙ old_named)

  pub count_changed : slab_len (with_value rows key (f old)) ≡ slab_len rows
  count_changed = count_kept rows.slots key (f old) (head_is_there o (get rows key) (leads o key found))
