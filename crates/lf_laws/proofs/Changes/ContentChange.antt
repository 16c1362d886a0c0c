-- A content that is replaced or added keeps a state well-formed exactly where it shows no fault.
use Rattle.std.proofs.Common.{Bool, List, None, Option, Some, [], ap, arith, cond, false, inl, inr, map, refl, subst, sym, true, ℕ, ◌&&◌, ◌++◌, ◌+◌, ◌||◌, ◌∙◌, ◌∷◌, ◌≡◌, ◌≤◌, ◌⊎◌}
use Rattle.std.proofs.lemmas.List.Sums.{sum_by-append}
use Rattle.std.specs.List.{count_by, flat_map}
use Rattle.std.specs.Prelude.{ltb}
use Rattle.lf_base.specs.declared.faults.Fault.{Fault}
use Rattle.lf_base.specs.declared.faults.Fault.TheVariants.{Interior, SecondOwner}
use Rattle.lf_base.specs.declared.ids.CownId.{CownId}
use Rattle.lf_base.specs.declared.ids.ObjId.{ObjId}
use Rattle.lf_base.specs.declared.values.Owner.{Owner}
use Rattle.lf_base.specs.declared.values.Owner.TheVariants.{Frozen, In, Local}
use Rattle.lf_base.specs.declared.values.Value.{Value}
use Rattle.lf_base.specs.declared.values.Value.TheVariants.{Obj}
use Rattle.lf_base.specs.ContentResult.{content_fault, target_fault, targets_fault}
use Rattle.lf_base.specs.Edges.{Content, Edge, Field, Slot, Source, content_edges, edges, edges_by, rows_edges, slot_edges}
use Rattle.lf_base.specs.Names.{cowns_of_value, same_cown, same_name, targets_of_value}
use Rattle.lf_base.specs.Owners.{has_row, is_bridge, is_in, or_frozen, owner_in, owner_of}
use Rattle.lf_base.specs.Ownership.{is_from, is_owning, owning_edges, owns}
use Rattle.lf_base.specs.PlainState.{State}
use Rattle.lf_base.specs.Sets.{Differ, Member}
use Rattle.lf_base.specs.WellFormed.{IsNumber, Leads, SlotMayHold, WellFormed, all_cowns, all_values, content_values, field_values, from_content, from_near, may_lead, own_cowns, slot_values}
use Rattle.lf_laws.proofs.Rows.OwnerTests.{in_region, in_not_frozen, is_or_frozen}
use Rattle.std.proofs.lemmas.Bool.{ltb-false, le-ltb, and_parts, both_ways, false_from_ne_true}
use Rattle.lf_base.proofs.ListLemmas.Tests.{none_count}
use Rattle.lf_base.proofs.ListLemmas.Members.{Member_flat_map, Member_of_flat_map, Member_of_map, Member_left, Member_of_append, Member_right}
use Rattle.lf_base.proofs.NameLemmas.SameNames.{same_name_is, same_name_itself}
use Rattle.lf_laws.proofs.Owners.OwnersGoRound.{owns_before, round_before}

abbrev pub contents : State → List Edge
contents s = content_edges s.held ++ content_edges s.made

abbrev pub with_contents : State → ℕ → List (CownId × Value) → List (CownId × Value) → State
with_contents s cowns held made = record s { cowns = cowns; held = held; made = made }

-- the parts of the edges
pub data EdgePart (s : State) (e : Edge) : Type 0 where
  in_content : Member e (contents s) → EdgePart s e
  elsewhere : ((n : ℕ) (held made : List (CownId × Value)) → Member e (edges (with_contents s n held made))) → EdgePart s e

edge_part : (s : State) (e : Edge) → Member e (edges s) → EdgePart s e
edge_part s e m =
    elim (Member_of_append e (slot_edges s.slots) _ m) [
      | inl k ↦ elsewhere (λ n h d. Member_left e (slot_edges s.slots) _ k)
      | inr k ↦ elim (Member_of_append e (rows_edges s.rows) _ k) [
        | inl y ↦ elsewhere (λ n h d. Member_right e (slot_edges s.slots) _ (Member_left e (rows_edges s.rows) _ y))
        | inr n ↦ elim (Member_of_append e (content_edges s.held) _ n) [
          | inl q ↦ in_content (Member_left e (content_edges s.held) _ q)
          | inr q ↦ elim (Member_of_append e (content_edges s.made) _ q) [
            | inl z ↦ in_content (Member_right e (content_edges s.held) _ z)
            | inr z ↦ elsewhere (λ n h d. Member_right e (slot_edges s.slots) _ (Member_right e (rows_edges s.rows) _ (Member_right e (content_edges h) _ (Member_right e (content_edges d) _ z))))
          ]
        ]
      ]
    ]

content_edge : (s : State) (e : Edge) → Member e (contents s) → Member e (edges s)
content_edge s e m = Member_right e (slot_edges s.slots) _ (Member_right e (rows_edges s.rows) _ (elim (Member_of_append e (content_edges s.held) (content_edges s.made) m) [
  | inl k ↦ Member_left e (content_edges s.held) _ k
  | inr k ↦ Member_right e (content_edges s.held) _ (Member_left e (content_edges s.made) _ k)
]))

count_parts : (p : Edge → Bool) (s : State) → count_by p (edges s) ≡ (count_by p (slot_edges s.slots) + count_by p (rows_edges s.rows)) + (count_by p (contents s) + count_by p (rows_edges s.given ++ rows_edges s.own))
count_parts p s =
    let f : Edge → ℕ = λ e. cond (p e) 1 0 in
    let last : List Edge = rows_edges s.given ++ rows_edges s.own in
    omega (
      arith,
      sum_by-append f (slot_edges s.slots) (rows_edges s.rows ++ (content_edges s.held ++ (content_edges s.made ++ last))),
      sum_by-append f (rows_edges s.rows) (content_edges s.held ++ (content_edges s.made ++ last)),
      sum_by-append f (content_edges s.held) (content_edges s.made ++ last),
      sum_by-append f (content_edges s.made) last,
      sum_by-append f (content_edges s.held) (content_edges s.made),
    )

-- ---- a content replaced or added
pub record PutsContent (s : State) (n : ℕ) (held made : List (CownId × Value)) (c : CownId) (v : Value) : Type 0 where
  pub old_or_new : (e : Edge) → Member e (content_edges held ++ content_edges made) → Member e (contents s) ⊎ Member e (edges_by (Content c) (targets_of_value v))
  pub count : (p : Edge → Bool) → count_by p (content_edges held ++ content_edges made) ≤ count_by p (contents s) + count_by p (edges_by (Content c) (targets_of_value v))
  pub there : (e : Edge) → Member e (edges_by (Content c) (targets_of_value v)) → Member e (content_edges held ++ content_edges made)
  pub held_values : (w : Value) → Member w (content_values held) → Member w (content_values s.held) ⊎ (v ≡ w)
  pub made_values : (w : Value) → Member w (content_values made) → Member w (content_values s.made) ⊎ (v ≡ w)
  pub more : s.cowns ≤ n
  pub numbered : (d : CownId) → Member d (own_cowns (with_contents s n held made)) → d.birth ≡ s.birth → IsNumber d.seq n
  pub differ : Differ same_cown (own_cowns (with_contents s n held made))
  pub here : (d : CownId) → Member d (map (λ (h : CownId × Value). h.0) made) → d.birth ≡ s.birth

some_fault : (f : Fault) → Some f ≡ None → ⊥
some_fault f e = cc

test_is : (b : Bool) (f : Fault) → cond b (Some f) None ≡ None → b ≡ false
test_is true f e = absurd (some_fault f e)
test_is false f e = refl

module _ (s : State) (n : ℕ) (held made : List (CownId × Value)) (c : CownId) (v : Value) (u : PutsContent s n held made c v) (t : WellFormed s) (may : SlotMayHold s v) where
  abbrev after : State
  after = with_contents s n held made

  -- each value was there before or is v
  value_after : (w : Value) → Member w (all_values after) → Member w (all_values s) ⊎ (v ≡ w)
  value_after w m =
      elim (Member_of_append w (slot_values s.slots) _ m) [
        | inl k ↦ inl (Member_left w (slot_values s.slots) _ k)
        | inr k ↦ elim (Member_of_append w (field_values s.rows) _ k) [
          | inl q ↦ inl (Member_right w (slot_values s.slots) _ (Member_left w (field_values s.rows) _ q))
          | inr q ↦ elim (Member_of_append w (content_values held) _ q) [
            | inl h ↦ elim (u.held_values w h) [
              | inl z ↦ inl (Member_right w (slot_values s.slots) _ (Member_right w (field_values s.rows) _ (Member_left w (content_values s.held) _ z)))
              | inr z ↦ inr z
            ]
            | inr h ↦ elim (Member_of_append w (content_values made) _ h) [
              | inl y ↦ elim (u.made_values w y) [
                | inl z ↦ inl (Member_right w (slot_values s.slots) _ (Member_right w (field_values s.rows) _ (Member_right w (content_values s.held) _ (Member_left w (content_values s.made) _ z))))
                | inr z ↦ inr z
              ]
              | inr y ↦ inl (Member_right w (slot_values s.slots) _ (Member_right w (field_values s.rows) _ (Member_right w (content_values s.held) _ (Member_right w (content_values s.made) _ y))))
            ]
          ]
        ]
      ]

  grown : (d : ℕ) → IsNumber d s.cowns → IsNumber d n
  grown d h = (h.0, omega (arith, h.1, u.more))

  numbered_after : (d : CownId) → Member d (all_cowns after) → d.birth ≡ s.birth → IsNumber d.seq n
  numbered_after d m h =
      elim (Member_of_append d (own_cowns after) (flat_map cowns_of_value (all_values after)) m) [
        | inl k ↦ u.numbered d k h
        | inr k ↦ let y = Member_of_flat_map cowns_of_value d (all_values after) k in
            elim (value_after y.0 y.1.0) [
              | inl q ↦ grown d.seq (t.cowns_numbered d (Member_right d (own_cowns s) (flat_map cowns_of_value (all_values s)) (Member_flat_map cowns_of_value y.0 d (all_values s) q y.1.1)) h)
              | inr e ↦ grown d.seq (may.cown_numbered d (subst (λ w. Member d (cowns_of_value w)) (sym e) y.1.1) h)
            ]
      ]

  edge_after : (e : Edge) → Member e (edges after) → Member e (edges s) ⊎ Member e (edges_by (Content c) (targets_of_value v))
  edge_after e m = elim (edge_part after e m) [
    | elsewhere f ↦ inl (f s.cowns s.held s.made)
    | in_content k ↦ elim (u.old_or_new e k) [ inl n ↦ inl (content_edge s e n) | inr n ↦ inr n ]
  ]

  new_from : (e : Edge) → Member e (edges_by (Content c) (targets_of_value v)) → (e.from ≡ Content c) × Member e.to (targets_of_value v)
  new_from e m = let o = Member_of_map (λ o. record { from = Content c; to = o }) e (targets_of_value v) m in
      (ap (λ (d : Edge). d.from) (sym o.1.1), subst (λ (d : Edge). Member d.to (targets_of_value v)) o.1.1 o.1.0)

  target_leads : (o : ObjId) (w : Option Owner) → from_near w ≡ true → target_fault after o w ≡ None → from_content o w ≡ true
  target_leads o None n e = n
  target_leads o (Some Local) n e = absurd (some_fault _ e)
  target_leads o (Some Frozen) n e = refl
  target_leads o (Some (In q)) n e = elim (same_name q o) as (λ b. cond b (cond (ltb 1 (owning_edges after o)) (Some SecondOwner) None) (Some Interior) ≡ None → b ≡ true) [
    | true ↦ λ k. refl
    | false ↦ λ k. absurd (some_fault _ k)
  ] e

  from_fields : (q : ObjId) (f : Source) → is_from s.rows q f ≡ true → f ≡ Content c → ⊥
  from_fields q f e h = let z : is_from s.rows q (Content c) ≡ true = ap (is_from s.rows q) (sym h) ∙ e in cc

  owns_old : (q r : ObjId) → owns after q r ≡ true → owns s q r ≡ true
  owns_old q r = owns_before s after q r (λ e m f n b. elim (edge_after e m) [
    | inl o ↦ (o, (f, b))
    | inr o ↦ absurd (from_fields q e.from f (new_from e o).0)
  ])

  abbrev owning : ObjId → Edge → Bool
  owning r d = is_owning s.rows d.from r && same_name d.to r

  owning_le : (r : ObjId) → owning_edges after r ≤ owning_edges s r + count_by (owning r) (edges_by (Content c) (targets_of_value v))
  owning_le r = omega (arith, count_parts (owning r) s, count_parts (owning r) after, u.count (owning r))

  none_new : (r : ObjId) → ((o : ObjId) → Member o (targets_of_value v) → same_name o r ≡ false) → count_by (owning r) (edges_by (Content c) (targets_of_value v)) ≡ 0
  none_new r h = none_count (owning r) (edges_by (Content c) (targets_of_value v)) (λ e m. false_from_ne_true _ (λ k. both_ways _ (h e.to (new_from e m).1) (and_parts (is_owning s.rows e.from r) _ k).1))

  values : (w : Value) → (targets_of_value w ≡ []) ⊎ ((o : ObjId) × (targets_of_value w ≡ o ∷ []))
  values (Obj o) = inr (o, refl)
  values _ = inl refl

  fault_at : (o : ObjId) → targets_of_value v ≡ o ∷ [] → content_fault after v ≡ target_fault after o (owner_of s o)
  fault_at o e = ap (targets_fault after) e

  single : (o p : ObjId) → targets_of_value v ≡ o ∷ [] → Member p (targets_of_value v) → o ≡ p
  single o p e m = elim (subst (λ l. Member p l) e m) [ inl h ↦ h | inr h ↦ absurd h ]

  lead_as : (f : Source) (o : ObjId) → may_lead s f o ≡ true → may_lead after f o ≡ true
  lead_as Slot o e = e
  lead_as (Field p) o e = e
  lead_as (Content k) o e = e

  pub content_leads : content_fault after v ≡ None → Leads after
  content_leads e d m = elim (edge_after d m) [
    | inl k ↦ lead_as d.from d.to (t.leads d k)
    | inr k ↦ let n = new_from d k in elim (values v) [
      | inl z ↦ absurd (subst (λ l. Member d.to l) z n.1)
      | inr z ↦ ap (λ f. may_lead after f d.to) n.0
          ∙ subst (λ o. from_content o (owner_of s o) ≡ true) (single z.0 d.to z.1 n.1)
          (target_leads z.0 (owner_of s z.0) (may.object_there z.0 (subst (λ l. Member z.0 l) (sym z.1) (inl refl))) (sym (fault_at z.0 z.1) ∙ e))
    ]
  ]

  one_after : content_fault after v ≡ None → (r : ObjId) → is_bridge s.rows r ≡ true → owning_edges after r ≤ 1
  one_after e r b = elim (values v) [
    | inl z ↦ let n = none_new r (λ o m. absurd (subst (λ l. Member o l) z m)) in omega (arith, owning_le r, n, t.one_owner r b)
    | inr z ↦ elim (same_name z.0 r) as (λ x. same_name z.0 r ≡ x → owning_edges after r ≤ 1) [
      | true ↦ λ h.
          let same : z.0 ≡ r = same_name_is z.0 r h in
          let own : owner_of s z.0 ≡ Some (In z.0) = ap (or_frozen (has_row s.given z.0 || has_row s.own z.0)) (subst (λ n. owner_in s.rows n ≡ Some (In n)) (sym same) (in_region r (owner_in s.rows r) b)) in
          let quiet : target_fault after z.0 (Some (In z.0)) ≡ None = ap (target_fault after z.0) (sym own) ∙ sym (fault_at z.0 z.1) ∙ e in
          let test : cond (ltb 1 (owning_edges after z.0)) (Some SecondOwner) None ≡ None = sym (ap (λ c. cond c (cond (ltb 1 (owning_edges after z.0)) (Some SecondOwner) None) (Some Interior)) (same_name_itself z.0)) ∙ quiet in
          subst (λ n. owning_edges after n ≤ 1) same (ltb-false 1 _ (test_is _ _ test))
      | false ↦ λ h. let n = none_new r (λ o m. ap (λ q. same_name q r) (sym (single z.0 o z.1 m)) ∙ h) in omega (arith, owning_le r, n, t.one_owner r b)
    ] refl
  ]

  pub content_keeps : content_fault after v ≡ None → WellFormed after
  content_keeps e = record {
    rows_rise = t.rows_rise;
    given_rise = t.given_rise;
    own_rise = t.own_rise;
    names_differ = t.names_differ;
    keys_differ = t.keys_differ;
    mutable = t.mutable;
    frozen = t.frozen;
    bridge = t.bridge;
    leads = content_leads e;
    one_owner = one_after e;
    no_round = round_before s after owns_old t.no_round;
    objects_numbered = t.objects_numbered;
    cowns_numbered = numbered_after;
    cowns_differ = u.differ;
    made_here = u.here;
  }

  content_quiet_at : WellFormed after → (o : ObjId) → Member (record { from = Content c; to = o }) (edges after) → (w : Option Owner) → owner_of s o ≡ w → target_fault after o w ≡ None
  content_quiet_at g o m None h = refl
  content_quiet_at g o m (Some Frozen) h = refl
  content_quiet_at g o m (Some Local) h = let l : from_content o (Some Local) ≡ true = ap (from_content o) (sym h) ∙ g.leads (record { from = Content c; to = o }) m in cc
  content_quiet_at g o m (Some (In q)) h =
      let l : same_name q o ≡ true = ap (from_content o) (sym h) ∙ g.leads (record { from = Content c; to = o }) m in
      let own : owner_in s.rows o ≡ Some (In o) = is_or_frozen (has_row s.given o || has_row s.own o) (owner_in s.rows o) (In o) (in_not_frozen o) (h ∙ ap (λ n. Some (In n)) (same_name_is q o l)) in
      ap (λ b. cond b (cond (ltb 1 (owning_edges after o)) (Some SecondOwner) None) (Some Interior)) l
      ∙ ap (λ b. cond b (Some SecondOwner) None) (le-ltb 1 (owning_edges after o) (g.one_owner o (ap (is_in o) own ∙ same_name_itself o)))

  pub content_quiet : WellFormed after → content_fault after v ≡ None
  content_quiet g = elim (values v) [
    | inl z ↦ ap (targets_fault after) z
    | inr z ↦ fault_at z.0 z.1 ∙ content_quiet_at g z.0
        (content_edge after (record { from = Content c; to = z.0 }) (u.there (record { from = Content c; to = z.0 }) (subst (λ l. Member (record { from = Content c; to = z.0 }) (edges_by (Content c) l)) (sym z.1) (inl refl))))
        (owner_of s z.0) refl
  ]
