-- A new object and a new region keep a state well-formed.
use Rattle.std.proofs.Common.{List, None, Some, [], ap, arith, cond, false, inl, inr, map, refl, subst, sym, true, ◌&&◌, ◌++◌, ◌+◌, ◌||◌, ◌∙◌, ◌≡◌, ◌≤◌, ◌⊎◌}
use Rattle.std.specs.List.{count_by, flat_map}
use Rattle.lf_base.specs.declared.ids.ObjId.{ObjId}
use Rattle.lf_base.specs.declared.values.Key.{Key}
use Rattle.lf_base.specs.declared.values.Owner.{Owner}
use Rattle.lf_base.specs.declared.values.Owner.TheVariants.{Frozen, In, Local}
use Rattle.lf_base.specs.declared.values.Value.{Value}
use Rattle.lf_base.specs.Edges.{Content, Edge, Field, Slot, Source, content_edges, edges, rows_edges, slot_edges}
use Rattle.lf_base.specs.Names.{cowns_of_value, same_key, same_name}
use Rattle.lf_base.specs.Owners.{has_name, has_row, is_bridge, is_in, names, or_frozen, owner_in, owner_of}
use Rattle.lf_base.specs.Ownership.{is_from, is_in_other, is_owning, owning_edges, owns}
use Rattle.lf_base.specs.PlainChanges.{insert_row, next_object, with_row}
use Rattle.lf_base.specs.PlainState.{Row, State}
use Rattle.lf_base.specs.Sets.{Differ, Member}
use Rattle.lf_base.specs.WellFormed.{IsNumber, Leads, WellFormed, all_names, content_values, field_values, from_content, from_near, from_row, may_lead, own_cowns, slot_values}
use Rattle.std.proofs.lemmas.Bool.{and_parts, both_ways, false_from_ne_true}
use Rattle.lf_base.proofs.ListLemmas.Tests.{some_is, any_none, none_count, count_like}
use Rattle.lf_base.proofs.NameLemmas.RowNames.{inserted, inserted_name, inserted_order, has_names}
use Rattle.lf_laws.proofs.Rows.InsertedRows.{inserted_differ, inserted_edges, inserted_owner, inserted_values}
use Rattle.lf_laws.proofs.Rows.OwnerTests.{in_is, in_not_frozen, in_not_local, local_not_frozen, source_near}
use Rattle.lf_laws.proofs.Rows.RowsByName.{owner_has, no_owner}
use Rattle.lf_base.proofs.NameLemmas.SameNames.{same_name_is, same_name_itself}
use Rattle.lf_laws.proofs.Owners.OwnersGoRound.{owns_before, round_before}
use Rattle.lf_laws.proofs.Changes.SameOwners.{lead_there}
use Rattle.lf_base.proofs.ListLemmas.Members.{Member_left, Member_of_append, Member_right, Within}

-- ---- the new row
abbrev pub NewOwner : State → Owner → Type 0
NewOwner s w = (w ≡ Local) ⊎ (w ≡ In (next_object s))

module _ (s : State) (w : Owner) (t : WellFormed s) (kind : NewOwner s w) where
  abbrev new : ObjId
  new = next_object s

  abbrev row : Row
  row = record { name = new; owner = w; fields = [] }

  abbrev rows : List Row
  rows = insert_row row s.rows

  abbrev after : State
  after = with_row s w

  fresh : (o : ObjId) → Member o (all_names s) → same_name o new ≡ false
  fresh o m = false_from_ne_true _ (λ e.
      let same : o ≡ new = same_name_is o new e in
      let n = t.objects_numbered o m (ap (λ (z : ObjId). z.birth) same) in
      let k : o.seq ≡ s.objects + 1 = ap (λ (z : ObjId). z.seq) same in
      absurd (omega (arith, n.1, k)))

  no_name : (os : List ObjId) → Within os (all_names s) → has_name os new ≡ false
  no_name os h = any_none (λ p. same_name p new) os (λ o m. fresh o (h o m))

  pub no_row : has_row s.rows new ≡ false
  no_row = sym (has_names s.rows new) ∙ no_name (names s.rows) (λ o m. Member_left o (names s.rows) (names s.given ++ names s.own) m)

  no_given : has_row s.given new ≡ false
  no_given = sym (has_names s.given new) ∙ no_name (names s.given) (λ o m. Member_right o (names s.rows) (names s.given ++ names s.own) (Member_left o (names s.given) (names s.own) m))

  no_own : has_row s.own new ≡ false
  no_own = sym (has_names s.own new) ∙ no_name (names s.own) (λ o m. Member_right o (names s.rows) (names s.given ++ names s.own) (Member_right o (names s.given) (names s.own) m))

  owner_none : owner_of s new ≡ None
  owner_none = (λ i. or_frozen (no_given i || no_own i) (no_owner s.rows new no_row i))

  pub owner_at : (o : ObjId) → owner_in rows o ≡ cond (same_name new o) (Some w) (owner_in s.rows o)
  owner_at o = inserted_owner row s.rows o no_row

  pub owner_new : owner_in rows new ≡ Some w
  owner_new = owner_at new ∙ ap (λ b. cond b (Some w) (owner_in s.rows new)) (same_name_itself new)

  pub owner_else : (o : ObjId) → same_name new o ≡ false → owner_in rows o ≡ owner_in s.rows o
  owner_else o h = owner_at o ∙ ap (λ b. cond b (Some w) (owner_in s.rows o)) h

  -- what is in the domain isn't the new row
  not_new : (o : ObjId) → from_near (owner_of s o) ≡ true → same_name new o ≡ false
  not_new o e = false_from_ne_true _ (λ h. both_ways _ (ap from_near (ap (owner_of s) (sym (same_name_is new o h)) ∙ owner_none)) e)

  owner_same : (o : ObjId) → from_near (owner_of s o) ≡ true → owner_of after o ≡ owner_of s o
  owner_same o e = ap (or_frozen (has_row s.given o || has_row s.own o)) (owner_else o (not_new o e))

  lead_on : (f : Source) (o : ObjId) → may_lead s f o ≡ true → may_lead after f o ≡ true
  lead_on Slot o e = ap from_near (owner_same o (lead_there s Slot o e)) ∙ e
  lead_on (Field p) o e = (λ i. from_row (owner_same p (source_near (owner_of s p) o (owner_of s o) e) i) o (owner_same o (lead_there s (Field p) o e) i)) ∙ e
  lead_on (Content c) o e = ap (from_content o) (owner_same o (lead_there s (Content c) o e)) ∙ e

  edges_same : edges after ≡ edges s
  edges_same = ap (λ l. slot_edges s.slots ++ (l ++ (content_edges s.held ++ (content_edges s.made ++ (rows_edges s.given ++ rows_edges s.own))))) (inserted_edges row s.rows refl)

  edge_before : (e : Edge) → Member e (edges after) → Member e (edges s)
  edge_before e m = subst (Member e) edges_same m

  leads_after : Leads after
  leads_after e m = lead_on e.from e.to (t.leads e (edge_before e m))

  pub target_old : (e : Edge) → Member e (edges s) → same_name new e.to ≡ false
  target_old e m = not_new e.to (lead_there s e.from e.to (t.leads e m))

  pub source_old : (e : Edge) → Member e (edges s) → (p : ObjId) → e.from ≡ Field p → same_name new p ≡ false
  source_old e m p f = not_new p (source_near (owner_of s p) e.to (owner_of s e.to) (ap (λ z. may_lead s z e.to) (sym f) ∙ t.leads e m))

  pub owning_old : (e : Edge) → Member e (edges s) → (f : Source) → e.from ≡ f → (r : ObjId) → is_owning rows f r ≡ is_owning s.rows f r
  owning_old e m Slot h r = refl
  owning_old e m (Field p) h r = ap (is_in_other r) (owner_else p (source_old e m p h))
  owning_old e m (Content c) h r = refl

  from_old : (e : Edge) → Member e (edges s) → (f : Source) → e.from ≡ f → (q : ObjId) → is_from rows q f ≡ is_from s.rows q f
  from_old e m Slot h q = refl
  from_old e m (Field p) h q = ap (is_in q) (owner_else p (source_old e m p h))
  from_old e m (Content c) h q = refl

  owning_count : (r : ObjId) → owning_edges after r ≡ owning_edges s r
  owning_count r = ap (count_by (λ (e : Edge). is_owning rows e.from r && same_name e.to r)) edges_same
      ∙ count_like (λ (e : Edge). is_owning rows e.from r && same_name e.to r) (λ (e : Edge). is_owning s.rows e.from r && same_name e.to r) (edges s) (λ e m. ap (λ b. b && same_name e.to r) (owning_old e m e.from refl r))

  -- nothing leads to the new row yet
  none_to_new : owning_edges s new ≡ 0
  none_to_new = none_count (λ (e : Edge). is_owning s.rows e.from new && same_name e.to new) (edges s) (λ e m. false_from_ne_true _ (λ h.
      let p = and_parts (is_owning s.rows e.from new) (same_name e.to new) h in
      both_ways _ (target_old e m) (ap (same_name new) (same_name_is e.to new p.1) ∙ same_name_itself new)))

  one_after : (r : ObjId) → is_bridge rows r ≡ true → owning_edges after r ≤ 1
  one_after r b = elim (same_name new r) as (λ c. same_name new r ≡ c → owning_edges after r ≤ 1) [
    | true ↦ λ h. subst (λ n. owning_edges after n ≤ 1) (same_name_is new r h) (omega (arith, owning_count new, none_to_new))
    | false ↦ λ h. let one = t.one_owner r (ap (is_in r) (sym (owner_else r h)) ∙ b) in omega (arith, one, owning_count r)
  ] refl

  owns_old : (q r : ObjId) → owns after q r ≡ true → owns s q r ≡ true
  owns_old q r = owns_before s after q r (λ e m f n b.
      let k = edge_before e m in
      let old : same_name new r ≡ false = ap (same_name new) (sym (same_name_is e.to r n)) ∙ target_old e k in
      (k, (sym (from_old e k e.from refl q) ∙ f, ap (is_in r) (sym (owner_else r old)) ∙ b)))

  region_of_new : (r : ObjId) → w ≡ In r → owner_in rows r ≡ Some (In r)
  region_of_new r e = elim kind [
    | inl l ↦ absurd (in_not_local r (ap Some (sym e ∙ l)))
    | inr k ↦ let same : new ≡ r = in_is new r (sym k ∙ e) in subst (λ n. owner_in rows n ≡ Some (In n)) same (owner_new ∙ ap Some k)
  ]

  bridge_after : (o r : ObjId) → owner_in rows o ≡ Some (In r) → owner_in rows r ≡ Some (In r)
  bridge_after o r h = elim (same_name new o) as (λ c. same_name new o ≡ c → owner_in rows r ≡ Some (In r)) [
    | true ↦ λ k. region_of_new r (some_is w (In r) (sym owner_new ∙ ap (owner_in rows) (same_name_is new o k) ∙ h))
    | false ↦ λ k.
        let old : owner_in s.rows r ≡ Some (In r) = t.bridge o r (sym (owner_else o k) ∙ h) in
        let other : same_name new r ≡ false = false_from_ne_true _ (λ z. both_ways _ no_row (ap (has_row s.rows) (same_name_is new r z) ∙ owner_has s.rows r (In r) old)) in
        owner_else r other ∙ old
  ] refl

  not_frozen_kind : w ≡ Frozen → ⊥
  not_frozen_kind e = elim kind [ inl l ↦ local_not_frozen (sym l ∙ e) | inr k ↦ in_not_frozen new (sym k ∙ e) ]

  pub new_row_keeps : WellFormed after
  new_row_keeps = record {
    rows_rise = inserted_order row s.rows no_row t.rows_rise;
    given_rise = t.given_rise;
    own_rise = t.own_rise;
    names_differ = inserted_differ row s.rows (names s.given ++ names s.own) fresh t.names_differ;
    keys_differ = λ x m. elim (Member_of_append x rows (s.given ++ s.own) m) [
      | inl k ↦ elim (inserted row s.rows x k) [
        | inl e ↦ subst (λ (z : Row). Differ same_key (map (λ (f : Key × Value). f.0) z.fields)) e tt
        | inr j ↦ t.keys_differ x (Member_left x s.rows (s.given ++ s.own) j)
      ]
      | inr k ↦ t.keys_differ x (Member_right x s.rows (s.given ++ s.own) k)
    ];
    mutable = λ x m h. elim (inserted row s.rows x m) [ inl e ↦ not_frozen_kind (ap (λ (z : Row). z.owner) e ∙ h) | inr k ↦ t.mutable x k h ];
    frozen = t.frozen;
    bridge = bridge_after;
    leads = leads_after;
    one_owner = one_after;
    no_round = round_before s after owns_old t.no_round;
    objects_numbered = λ o m e. elim (Member_of_append o (names rows) (names s.given ++ names s.own) m) [
      | inl k ↦ elim (inserted_name row s.rows o k) [
        | inl z ↦ subst (λ (n : ObjId). IsNumber n.seq (s.objects + 1)) z (omega arith, omega arith)
        | inr j ↦ let n = t.objects_numbered o (Member_left o (names s.rows) (names s.given ++ names s.own) j) e in (n.0, omega (arith, n.1))
      ]
      | inr k ↦ let n = t.objects_numbered o (Member_right o (names s.rows) (names s.given ++ names s.own) k) e in (n.0, omega (arith, n.1))
    ];
    cowns_numbered = λ c m. t.cowns_numbered c (subst (λ vs. Member c (own_cowns s ++ flat_map cowns_of_value (slot_values s.slots ++ (vs ++ (content_values s.held ++ (content_values s.made ++ (field_values s.given ++ field_values s.own))))))) (inserted_values row s.rows refl) m);
    cowns_differ = t.cowns_differ;
    made_here = t.made_here;
  }
