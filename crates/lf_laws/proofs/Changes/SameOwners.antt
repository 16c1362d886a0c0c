-- A change of slots and fields that leaves names and owners and adds at most edges from slots keeps a state well-formed.
use Rattle.std.proofs.Common.{Bool, List, None, Option, Some, ap, arith, cond, inl, inr, map, refl, subst, sym, true, ℕ, ◌&&◌, ◌++◌, ◌||◌, ◌∙◌, ◌≡◌, ◌≤◌, ◌⊎◌}
use Rattle.std.proofs.lemmas.List.Sums.{sum_by-append}
use Rattle.std.specs.List.{count_by, flat_map}
use Rattle.std.specs.Prelude.{option_to_list}
use Rattle.lf_base.specs.declared.ids.CownId.{CownId}
use Rattle.lf_base.specs.declared.ids.ObjId.{ObjId}
use Rattle.lf_base.specs.declared.values.Key.{Key}
use Rattle.lf_base.specs.declared.values.Owner.{Owner}
use Rattle.lf_base.specs.declared.values.Value.{Value}
use Rattle.lf_base.specs.Edges.{Content, Edge, Field, Slot, Source, content_edges, edges, edges_by, field_targets, row_edges, rows_edges, slot_edges, slot_targets}
use Rattle.lf_base.specs.Names.{cowns_of_value, name_below, same_key, same_name, targets_of_value}
use Rattle.lf_base.specs.Owners.{has_row, is_in, names, or_frozen, owner_in, owner_of}
use Rattle.lf_base.specs.Ownership.{is_from, is_owning, owning_edges, owns}
use Rattle.lf_base.specs.PlainChanges.{with_slots}
use Rattle.lf_base.specs.PlainState.{Row, State}
use Rattle.lf_base.specs.Sets.{Differ, InOrder, Member}
use Rattle.lf_base.specs.WellFormed.{IsNumber, Leads, SlotMayHold, WellFormed, all_cowns, all_values, content_values, field_values, from_content, from_near, from_row, may_lead, own_cowns, slot_values}
use Rattle.lf_base.proofs.ListLemmas.Tests.{none_count}
use Rattle.lf_laws.proofs.Rows.EdgeSources.{slot_begins}
use Rattle.lf_laws.proofs.Rows.RowsByName.{owner_mem, differ_rows}
use Rattle.lf_base.proofs.ListLemmas.Members.{Member_flat_map, Member_map, Member_of_flat_map, Member_of_map, Member_left, Member_of_append, Member_right}
use Rattle.lf_laws.proofs.Owners.OwnersGoRound.{owns_before, round_before}
use Rattle.lf_laws.proofs.Rows.OwnerTests.{lead_near}
use Rattle.lf_laws.proofs.Writes.WriteLaw.{mutable_at}

abbrev pub with_both : State → List (Option Value) → List Row → State
with_both s slots rows = record s { slots = slots; rows = rows }

-- what such a change keeps
pub record KeepsOwners (s : State) (slots : List (Option Value)) (rows : List Row) : Type 0 where
  pub same_names : names rows ≡ names s.rows
  pub same_owners : (o : ObjId) → owner_in rows o ≡ owner_in s.rows o
  pub keys : (x : Row) → Member x rows → Differ same_key (map (λ (f : Key × Value). f.0) x.fields)
  pub old_or_slot : (e : Edge) → Member e (edges (with_both s slots rows)) → Member e (edges s) ⊎ ((e.from ≡ Slot) × (from_near (owner_of s e.to) ≡ true))
  pub fewer_owning : (r : ObjId) → owning_edges (with_both s slots rows) r ≤ owning_edges s r
  pub cowns : (c : CownId) → Member c (all_cowns (with_both s slots rows)) → c.birth ≡ s.birth → IsNumber c.seq s.cowns

module _ (s : State) (slots : List (Option Value)) (rows : List Row) (t : WellFormed s) (k : KeepsOwners s slots rows) where
  abbrev after : State
  after = with_both s slots rows

  owner_same : (o : ObjId) → owner_of after o ≡ owner_of s o
  owner_same o = ap (or_frozen (has_row s.given o || has_row s.own o)) (k.same_owners o)

  lead_same : (f : Source) (o : ObjId) → may_lead after f o ≡ may_lead s f o
  lead_same Slot o = ap from_near (owner_same o)
  lead_same (Field p) o = (λ i. from_row (owner_same p i) o (owner_same o i))
  lead_same (Content c) o = ap (from_content o) (owner_same o)

  leads_after : Leads after
  leads_after e m = lead_same e.from e.to ∙ elim (k.old_or_slot e m) [
    | inl n ↦ t.leads e n
    | inr n ↦ ap (λ f. may_lead s f e.to) n.0 ∙ n.1
  ]

  from_slot : (q : ObjId) (f : Source) → f ≡ Slot → is_from rows q f ≡ true → ⊥
  from_slot q f h e = let z : is_from rows q Slot ≡ true = ap (is_from rows q) (sym h) ∙ e in cc

  from_same : (q : ObjId) (f : Source) → is_from rows q f ≡ is_from s.rows q f
  from_same q Slot = refl
  from_same q (Field p) = ap (is_in q) (k.same_owners p)
  from_same q (Content c) = refl

  owns_old : (q r : ObjId) → owns after q r ≡ true → owns s q r ≡ true
  owns_old q r = owns_before s after q r (λ e m f n b. elim (k.old_or_slot e m) [
    | inl o ↦ (o, (sym (from_same q e.from) ∙ f, ap (is_in r) (sym (k.same_owners r)) ∙ b))
    | inr o ↦ absurd (from_slot q e.from o.0 f)
  ])

  differ_after : Differ same_name (names rows ++ (names s.given ++ names s.own))
  differ_after = subst (λ l. Differ same_name (l ++ (names s.given ++ names s.own))) (sym k.same_names) t.names_differ

  pub owners_well_formed : WellFormed after
  owners_well_formed = record {
    rows_rise = subst (InOrder name_below) (sym k.same_names) t.rows_rise;
    given_rise = t.given_rise;
    own_rise = t.own_rise;
    names_differ = differ_after;
    keys_differ = λ x m. elim (Member_of_append x rows (s.given ++ s.own) m) [ inl n ↦ k.keys x n | inr n ↦ t.keys_differ x (Member_right x s.rows (s.given ++ s.own) n) ];
    mutable = λ x m h. mutable_at s t x.name (sym (k.same_owners x.name) ∙ owner_mem rows (differ_rows rows (names s.given ++ names s.own) differ_after) x m ∙ ap Some h);
    frozen = t.frozen;
    bridge = λ o r h. k.same_owners r ∙ t.bridge o r (sym (k.same_owners o) ∙ h);
    leads = leads_after;
    one_owner = λ r b. let one = t.one_owner r (ap (is_in r) (sym (k.same_owners r)) ∙ b) in omega (arith, one, k.fewer_owning r);
    no_round = round_before s after owns_old t.no_round;
    objects_numbered = λ o m. t.objects_numbered o (subst (λ l. Member o (l ++ (names s.given ++ names s.own))) k.same_names m);
    cowns_numbered = k.cowns;
    cowns_differ = t.cowns_differ;
    made_here = t.made_here;
  }

-- ---- owning edges don't begin at slots
pub slot_owns : (rows : List Row) (r : ObjId) (slots : List (Option Value)) → count_by (λ (e : Edge). is_owning rows e.from r && same_name e.to r) (slot_edges slots) ≡ 0
slot_owns rows r slots = none_count (λ (e : Edge). is_owning rows e.from r && same_name e.to r) (slot_edges slots) (λ e m. ap (λ f. is_owning rows f r && same_name e.to r) (slot_begins slots e m))

abbrev later : State → List Row → List Edge
later s rows = rows_edges rows ++ (content_edges s.held ++ (content_edges s.made ++ (rows_edges s.given ++ rows_edges s.own)))

pub owning_slots : (s : State) (slots : List (Option Value)) (r : ObjId) → owning_edges (with_both s slots s.rows) r ≡ owning_edges s r
owning_slots s slots r =
    let p : Edge → Bool = λ e. is_owning s.rows e.from r && same_name e.to r in
    let f : Edge → ℕ = λ e. cond (p e) 1 0 in
    omega (arith, sum_by-append f (slot_edges slots) (later s s.rows), sum_by-append f (slot_edges s.slots) (later s s.rows), slot_owns s.rows r slots, slot_owns s.rows r s.slots)

-- ---- other slots
pub slot_target : (x : Option Value) (o : ObjId) → Member o (slot_targets x) → (v : Value) × ((x ≡ Some v) × Member o (targets_of_value v))
slot_target None o m = absurd m
slot_target (Some v) o m = (v, (refl, m))

pub slot_value : (x : Option Value) (v : Value) → Member v (option_to_list x) → x ≡ Some v
slot_value None v m = absurd m
slot_value (Some u) v (inl e) = ap Some e
slot_value (Some u) v (inr m) = absurd m

module _ (s : State) (slots : List (Option Value)) (t : WellFormed s) (may : (v : Value) → Member (Some v) slots → SlotMayHold s v) where
  pub slot_edge : (e : Edge) → Member e (slot_edges slots) → (e.from ≡ Slot) × (from_near (owner_of s e.to) ≡ true)
  slot_edge e m =
      let x = Member_of_flat_map (λ slot. edges_by Slot (slot_targets slot)) e slots m in
      let o = Member_of_map (λ (o : ObjId). record { from = Slot; to = o }) e (slot_targets x.0) x.1.1 in
      let v = slot_target x.0 o.0 o.1.0 in (
        ap (λ (d : Edge). d.from) (sym o.1.1),
        subst (λ (d : Edge). from_near (owner_of s d.to) ≡ true) o.1.1 ((may v.0 (subst (λ z. Member z slots) v.1.0 x.1.0)).object_there o.0 v.1.1),
      )

  old_or_slot : (e : Edge) → Member e (edges (with_slots s slots)) → Member e (edges s) ⊎ ((e.from ≡ Slot) × (from_near (owner_of s e.to) ≡ true))
  old_or_slot e m = elim (Member_of_append e (slot_edges slots) (later s s.rows) m) [
    | inl h ↦ inr (slot_edge e h)
    | inr h ↦ inl (Member_right e (slot_edges s.slots) (later s s.rows) h)
  ]

  abbrev later_values : List Value
  later_values = field_values s.rows ++ (content_values s.held ++ (content_values s.made ++ (field_values s.given ++ field_values s.own)))

  cown_number : (c : CownId) → Member c (all_cowns (with_slots s slots)) → c.birth ≡ s.birth → IsNumber c.seq s.cowns
  cown_number c m e = elim (Member_of_append c (own_cowns s) (flat_map cowns_of_value (all_values (with_slots s slots))) m) [
    | inl h ↦ t.cowns_numbered c (Member_left c (own_cowns s) (flat_map cowns_of_value (all_values s)) h) e
    | inr h ↦ let v = Member_of_flat_map cowns_of_value c (all_values (with_slots s slots)) h in
        elim (Member_of_append v.0 (slot_values slots) later_values v.1.0) [
          | inl k ↦ let x = Member_of_flat_map option_to_list v.0 slots k in
              (may v.0 (subst (λ z. Member z slots) (slot_value x.0 v.0 x.1.1) x.1.0)).cown_numbered c v.1.1 e
          | inr k ↦ t.cowns_numbered c (Member_right c (own_cowns s) (flat_map cowns_of_value (all_values s)) (Member_flat_map cowns_of_value v.0 c (all_values s) (Member_right v.0 (slot_values s.slots) later_values k) v.1.1)) e
        ]
  ]

  pub slots_keep : WellFormed (with_slots s slots)
  slots_keep = owners_well_formed s slots s.rows t (record {
    same_names = refl;
    same_owners = λ o. refl;
    keys = λ x m. t.keys_differ x (Member_left x s.rows (s.given ++ s.own) m);
    old_or_slot = old_or_slot;
    fewer_owning = λ r. omega (arith, owning_slots s slots r);
    cowns = cown_number;
  })

-- ---- each value of a state may be held by a further slot
abbrev NamedBy : List Edge → ObjId → Type 0
NamedBy es o = (e : Edge) × (Member e es × (e.to ≡ o))

slots_name : (slots : List (Option Value)) (v : Value) (o : ObjId) → Member v (slot_values slots) → Member o (targets_of_value v) → NamedBy (slot_edges slots) o
slots_name slots v o m n =
    let x = Member_of_flat_map option_to_list v slots m in
    let there : Member o (slot_targets x.0) = subst (λ z. Member o (slot_targets z)) (sym (slot_value x.0 v x.1.1)) n in
    (record { from = Slot; to = o }, (Member_flat_map (λ slot. edges_by Slot (slot_targets slot)) x.0 (record { from = Slot; to = o }) slots x.1.0 (Member_map (λ (z : ObjId). record { from = Slot; to = z }) o (slot_targets x.0) there), refl))

fields_name : (rows : List Row) (v : Value) (o : ObjId) → Member v (field_values rows) → Member o (targets_of_value v) → NamedBy (rows_edges rows) o
fields_name rows v o m n =
    let x = Member_of_flat_map (λ (r : Row). map (λ (f : Key × Value). f.1) r.fields) v rows m in
    let f = Member_of_map (λ (f : Key × Value). f.1) v (x.0).fields x.1.1 in
    let there : Member o (field_targets (x.0).fields) = Member_flat_map (λ (f : Key × Value). targets_of_value f.1) f.0 o (x.0).fields f.1.0 (subst (λ z. Member o (targets_of_value z)) (sym f.1.1) n) in
    (record { from = Field (x.0).name; to = o }, (Member_flat_map row_edges x.0 (record { from = Field (x.0).name; to = o }) rows x.1.0 (Member_map (λ (z : ObjId). record { from = Field (x.0).name; to = z }) o (field_targets (x.0).fields) there), refl))

contents_name : (cs : List (CownId × Value)) (v : Value) (o : ObjId) → Member v (content_values cs) → Member o (targets_of_value v) → NamedBy (content_edges cs) o
contents_name cs v o m n =
    let c = Member_of_map (λ (c : CownId × Value). c.1) v cs m in
    let there : Member o (targets_of_value (c.0).1) = subst (λ z. Member o (targets_of_value z)) (sym c.1.1) n in
    (record { from = Content (c.0).0; to = o }, (Member_flat_map (λ (c : CownId × Value). edges_by (Content c.0) (targets_of_value c.1)) c.0 (record { from = Content (c.0).0; to = o }) cs c.1.0 (Member_map (λ (z : ObjId). record { from = Content (c.0).0; to = z }) o (targets_of_value (c.0).1) there), refl))

on_left : (xs ys : List Edge) (o : ObjId) → NamedBy xs o → NamedBy (xs ++ ys) o
on_left xs ys o h = (h.0, (Member_left h.0 xs ys h.1.0, h.1.1))

on_right : (xs ys : List Edge) (o : ObjId) → NamedBy ys o → NamedBy (xs ++ ys) o
on_right xs ys o h = (h.0, (Member_right h.0 xs ys h.1.0, h.1.1))

value_edge : (s : State) (v : Value) (o : ObjId) → Member v (all_values s) → Member o (targets_of_value v) → NamedBy (edges s) o
value_edge s v o m n =
    elim (Member_of_append v (slot_values s.slots) _ m) [
      | inl h ↦ on_left (slot_edges s.slots) _ o (slots_name s.slots v o h n)
      | inr h ↦ on_right (slot_edges s.slots) _ o (elim (Member_of_append v (field_values s.rows) _ h) [
        | inl k ↦ on_left (rows_edges s.rows) _ o (fields_name s.rows v o k n)
        | inr k ↦ on_right (rows_edges s.rows) _ o (elim (Member_of_append v (content_values s.held) _ k) [
          | inl j ↦ on_left (content_edges s.held) _ o (contents_name s.held v o j n)
          | inr j ↦ on_right (content_edges s.held) _ o (elim (Member_of_append v (content_values s.made) _ j) [
            | inl z ↦ on_left (content_edges s.made) _ o (contents_name s.made v o z n)
            | inr z ↦ on_right (content_edges s.made) _ o (elim (Member_of_append v (field_values s.given) (field_values s.own) z) [
              | inl y ↦ on_left (rows_edges s.given) _ o (fields_name s.given v o y n)
              | inr y ↦ on_right (rows_edges s.given) (rows_edges s.own) o (fields_name s.own v o y n)
            ])
          ])
        ])
      ])
    ]

content_near : (o : ObjId) (w : Option Owner) → from_content o w ≡ true → from_near w ≡ true
content_near o (Some w) e = refl
content_near o None e = e

pub lead_there : (s : State) (f : Source) (o : ObjId) → may_lead s f o ≡ true → from_near (owner_of s o) ≡ true
lead_there s Slot o e = e
lead_there s (Field p) o e = lead_near (owner_of s p) o (owner_of s o) e
lead_there s (Content c) o e = content_near o (owner_of s o) e

pub value_may_be_held : (s : State) (v : Value) → WellFormed s → Member v (all_values s) → SlotMayHold s v
value_may_be_held s v t m = record {
  object_there = λ o n. let e = value_edge s v o m n in subst (λ z. from_near (owner_of s z) ≡ true) e.1.1 (lead_there s (e.0).from (e.0).to (t.leads e.0 e.1.0));
  cown_numbered = λ c n. t.cowns_numbered c (Member_right c (own_cowns s) (flat_map cowns_of_value (all_values s)) (Member_flat_map cowns_of_value v c (all_values s) m n));
}
