-- The making of a cown drops nothing, though the slot of its content goes.
use Rattle.std.proofs.Common.{List, None, Option, Some, [], ap, cond, false, inl, inr, refl, subst, sym, true, ◌&&◌, ◌++◌, ◌||◌, ◌∙◌, ◌∷◌, ◌≡◌, ◌⊎◌}
use Rattle.std.proofs.Math.Bool.{or-true}
use Rattle.std.proofs.lemmas.Bool.{and_from, and_parts, both_ways, or_cases, or_left, true_from_ne_false}
use Rattle.lf_base.specs.declared.faults.Fault.{Fault}
use Rattle.lf_base.specs.declared.ids.CownId.{CownId}
use Rattle.lf_base.specs.declared.ids.ObjId.{ObjId}
use Rattle.lf_base.specs.declared.values.Owner.{Owner}
use Rattle.lf_base.specs.declared.values.Owner.TheVariants.{Frozen, In, Local}
use Rattle.lf_base.specs.declared.values.Value.{Value}
use Rattle.lf_base.specs.declared.values.Value.TheVariants.{Obj}
use Rattle.lf_base.specs.ContentResult.{content_fault, target_fault}
use Rattle.lf_base.specs.Edges.{Content, Edge, Slot, content_edges, edges_by, rows_edges, slot_edges, slot_targets}
use Rattle.lf_base.specs.Kept.{is_owned_by, kept, points, points_into, stays_by_owner}
use Rattle.lf_base.specs.Names.{same_name, targets_of_value}
use Rattle.lf_base.specs.NewCown.{made_result, next_cown}
use Rattle.lf_base.specs.Owners.{has_row, is_in, or_frozen, owner_in, owner_of}
use Rattle.lf_base.specs.Ownership.{is_owning, owning_edges}
use Rattle.std.specs.Prelude.{ltb}
use Rattle.lf_base.specs.declared.faults.Fault.TheVariants.{Interior, SecondOwner}
use Rattle.lf_base.specs.PlainChanges.{with_slot}
use Rattle.lf_base.specs.PlainState.{State}
use Rattle.lf_base.specs.Sets.{Member}
use Rattle.lf_base.specs.WalkCounts.{is_borrower}
use Rattle.lf_base.specs.WellFormed.{WellFormed}
use Rattle.lf_base.proofs.ListLemmas.Members.{Member_any, Member_flat_map, Member_left, Member_map, Member_of_append, Member_of_flat_map, Member_of_map, Member_right, any_Member, any_more}
use Rattle.lf_base.proofs.NameLemmas.SameNames.{same_name_is, same_name_itself}
use Rattle.lf_laws.proofs.Dropping.RowsInPlace.{rows_in_place}
use Rattle.lf_laws.proofs.KeptStates.NothingDropped.{justified_of, kept_itself}
use Rattle.lf_laws.proofs.Rows.OwnerTests.{in_is, in_region}
use Rattle.lf_laws.proofs.Rows.RowsByName.{owner_mem}

first_target : (s : State) (v : Value) (o : ObjId) → Member o (targets_of_value v) → content_fault s v ≡ None → target_fault s o (owner_of s o) ≡ None
first_target s (Obj p) o (inl e) h = subst (λ n. target_fault s n (owner_of s n) ≡ None) e h
first_target s (Obj p) o (inr m) h = absurd m
first_target s v o m h = absurd m

-- what may be a content of that owner is a bridge or frozen
bridge_or_frozen : (s : State) (o : ObjId) (u : Owner) → target_fault s o (Some u) ≡ None → (u ≡ Frozen) ⊎ (u ≡ In o)
bridge_or_frozen s o Local h = cc
bridge_or_frozen s o Frozen h = inl refl
bridge_or_frozen s o (In q) h = inr (ap In (same_name_is q o (true_from_ne_false _ (λ e. interior (ap (λ b. cond b (cond (ltb 1 (owning_edges s o)) (Some SecondOwner) None) (Some Interior)) (sym e) ∙ h)))))
  where
    interior : {f : Fault} → Some f ≡ None → ⊥
    interior e = cc

module _ (s : State) (v : Value) (w : Option Value) (t : WellFormed s) (k : kept (with_slot s (Some v)) ≡ with_slot s (Some v)) (may : content_fault (made_result s v) v ≡ None) where
  abbrev before : State
  before = with_slot s (Some v)

  abbrev after : State
  after = with_slot (made_result s v) w

  abbrev near : List Edge
  near = slot_edges after.slots ++ rows_edges s.rows

  -- an edge of before is there after it, or is the slot's
  still_or_slot : (e : Edge) → Member e (slot_edges before.slots ++ rows_edges s.rows) → Member e near ⊎ Member e.to (targets_of_value v)
  still_or_slot e m = elim (Member_of_append e (slot_edges before.slots) (rows_edges s.rows) m) [
    | inr n ↦ inl (Member_right e (slot_edges after.slots) (rows_edges s.rows) n)
    | inl n ↦
        let x = Member_of_flat_map (λ slot. edges_by Slot (slot_targets slot)) e (s.slots ++ Some v ∷ []) n in
        elim (Member_of_append x.0 s.slots (Some v ∷ []) x.1.0) [
          | inl j ↦ inl (Member_left e (slot_edges after.slots) (rows_edges s.rows) (Member_flat_map (λ slot. edges_by Slot (slot_targets slot)) x.0 e (s.slots ++ w ∷ []) (Member_left x.0 s.slots (w ∷ []) j) x.1.1))
          | inr (inl j) ↦
              let o = Member_of_map (λ (o : ObjId). record { from = Slot; to = o }) e (slot_targets x.0) x.1.1 in
              inr (subst (λ z. Member z (targets_of_value v)) (ap (λ (d : Edge). d.to) o.1.1) (subst (λ z. Member o.0 (slot_targets z)) (sym j) o.1.0))
          | inr (inr j) ↦ absurd j
        ]
  ]

  target_kind : (o : ObjId) (u : Owner) → Member o (targets_of_value v) → owner_in s.rows o ≡ Some u → (u ≡ Frozen) ⊎ (u ≡ In o)
  target_kind o u m e = bridge_or_frozen (made_result s v) o u (ap (λ x. target_fault (made_result s v) o (or_frozen (has_row s.given o || has_row s.own o) x)) (sym e) ∙ first_target (made_result s v) v o m may)

  content_owns : (o : ObjId) → Member o (targets_of_value v) → is_owned_by after.rows after o ≡ true
  content_owns o m =
      let c : CownId = next_cown s in
      let e : Edge = record { from = Content c; to = o } in
      let inside : Member e (content_edges after.made) = Member_flat_map (λ (d : CownId × Value). edges_by (Content d.0) (targets_of_value d.1)) (c, v) e (s.made ++ (c, v) ∷ []) (Member_right (c, v) s.made ((c, v) ∷ []) (inl refl)) (Member_map (λ (z : ObjId). record { from = Content c; to = z }) o (targets_of_value v) m) in
      Member_any (λ (d : Edge). is_owning after.rows d.from o && same_name d.to o) e (rows_edges after.rows ++ (content_edges after.held ++ content_edges after.made))
      (Member_right e (rows_edges after.rows) _ (Member_right e (content_edges after.held) _ inside)) (same_name_itself o)

  owned_still : (r : ObjId) → is_owned_by s.rows before r ≡ true → is_owned_by s.rows after r ≡ true
  owned_still r = any_more (λ (d : Edge). is_owning s.rows d.from r && same_name d.to r) (rows_edges s.rows ++ (content_edges s.held ++ content_edges s.made)) (rows_edges s.rows ++ (content_edges s.held ++ content_edges after.made))
      (λ e m. elim (Member_of_append e (rows_edges s.rows) _ m) [
        | inl n ↦ Member_left e (rows_edges s.rows) _ n
        | inr n ↦ Member_right e (rows_edges s.rows) _ (elim (Member_of_append e (content_edges s.held) (content_edges s.made) n) [
          | inl j ↦ Member_left e (content_edges s.held) _ j
          | inr j ↦ Member_right e (content_edges s.held) _ (let x = Member_of_flat_map (λ (d : CownId × Value). edges_by (Content d.0) (targets_of_value d.1)) e s.made j in
              Member_flat_map (λ (d : CownId × Value). edges_by (Content d.0) (targets_of_value d.1)) x.0 e (s.made ++ (next_cown s, v) ∷ []) (Member_left x.0 s.made _ x.1.0) x.1.1)
        ])
      ])

  points_still : (o : ObjId) (u : Owner) → owner_in s.rows o ≡ Some u → ((u ≡ Frozen) ⊎ (u ≡ In o) → ⊥) → points s.rows before o ≡ true → points s.rows after o ≡ true
  points_still o u own other e =
      let x = any_Member (λ (d : Edge). same_name d.to o) (slot_edges before.slots ++ rows_edges s.rows) e in
      elim (still_or_slot x.0 x.1.0) [
        | inl m ↦ Member_any (λ (d : Edge). same_name d.to o) x.0 near m x.1.1
        | inr m ↦ absurd (other (target_kind o u (subst (λ z. Member z (targets_of_value v)) (same_name_is (x.0).to o x.1.1) m) own))
      ]

  into_still : (r : ObjId) → points_into s.rows before r ≡ true → (is_owned_by s.rows after r || points_into s.rows after r) ≡ true
  into_still r e =
      let x = any_Member (λ (d : Edge). is_borrower s.rows d.from && is_in r (owner_in s.rows d.to)) (slot_edges before.slots ++ rows_edges s.rows) e in
      elim (still_or_slot x.0 x.1.0) [
        | inl m ↦ ap (λ b. is_owned_by s.rows after r || b) (Member_any (λ (d : Edge). is_borrower s.rows d.from && is_in r (owner_in s.rows d.to)) x.0 near m x.1.1) ∙ or-true _
        | inr m ↦
            let own = in_region r (owner_in s.rows (x.0).to) (and_parts (is_borrower s.rows (x.0).from) _ x.1.1).1 in
            elim (target_kind (x.0).to (In r) m own) [
              | inl z ↦ cc
              | inr z ↦ or_left _ _ (subst (λ n. is_owned_by s.rows after n ≡ true) (sym (in_is r (x.0).to z)) (content_owns (x.0).to m))
            ]
      ]

  still : (o : ObjId) (u : Owner) → owner_in s.rows o ≡ Some u → stays_by_owner before s.rows o u ≡ true → stays_by_owner after s.rows o u ≡ true
  still o Local own e = points_still o Local own (λ z. elim z [ inl y ↦ cc | inr y ↦ cc ]) e
  still o Frozen own e = refl
  still o (In r) own e =
      elim (same_name r o) as (λ b. same_name r o ≡ b → cond b (is_owned_by s.rows before r || points_into s.rows before r) (has_row s.rows r && points s.rows before o) ≡ true → cond b (is_owned_by s.rows after r || points_into s.rows after r) (has_row s.rows r && points s.rows after o) ≡ true) [
        | true ↦ λ n h. elim (or_cases (is_owned_by s.rows before r) (points_into s.rows before r) h) [
          | inl a ↦ or_left _ _ (owned_still r a)
          | inr a ↦ into_still r a
        ]
        | false ↦ λ n h. let p = and_parts (has_row s.rows r) (points s.rows before o) h in
            and_from _ _ p.0 (points_still o (In r) own (λ z. elim z [
              | inl y ↦ cc
              | inr y ↦ both_ways _ n (ap (same_name r) (sym (in_is r o y)) ∙ same_name_itself r)
            ]) p.1)
      ] refl e

  pub cown_drops_nothing : kept after ≡ after
  cown_drops_nothing = kept_itself after (λ x m. still x.name x.owner (owner_mem s.rows (rows_in_place s t).distinct x m) (justified_of before k x m))
