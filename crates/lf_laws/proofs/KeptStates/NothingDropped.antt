-- Where all rows stay, they stay after a change that brings slots, contents and rows and takes no justification away.
use Rattle.std.proofs.Common.{List, Option, Some, [], ap, cond, false, inl, inr, length, refl, subst, sym, true, ◌&&◌, ◌++◌, ◌||◌, ◌∙◌, ◌∷◌, ◌≡◌}
use Rattle.std.proofs.Math.Bool.{or-true}
use Rattle.std.proofs.lemmas.Bool.{and_from, and_parts, both_ways, false_from_ne_true, not_from_false}
use Rattle.lf_base.specs.declared.ids.ObjId.{ObjId}
use Rattle.lf_base.specs.declared.values.Owner.{Owner}
use Rattle.lf_base.specs.declared.values.Owner.TheVariants.{Frozen, In, Local}
use Rattle.lf_base.specs.declared.values.Value.{Value}
use Rattle.lf_base.specs.declared.values.Value.TheVariants.{Obj}
use Rattle.lf_base.specs.Edges.{Content, Edge, Field, Slot, Source, content_edges, edges_by, rows_edges, slot_edges, slot_targets}
use Rattle.lf_base.specs.Kept.{is_owned_by, kept, kept_rows, points, points_into, stays, stays_by_owner}
use Rattle.lf_base.specs.Names.{same_name}
use Rattle.lf_base.specs.Owners.{has_row, is_in, is_local_at, owner_in}
use Rattle.lf_base.specs.Ownership.{is_in_other, is_owning}
use Rattle.lf_base.specs.PlainChanges.{next_object, with_row, with_slot, with_slots}
use Rattle.lf_base.specs.PlainState.{Row, State}
use Rattle.lf_base.specs.Sets.{Member}
use Rattle.lf_base.specs.WalkCounts.{is_borrower}
use Rattle.lf_base.specs.WellFormed.{WellFormed}
use Rattle.lf_base.proofs.ListLemmas.Filters.{filter_all}
use Rattle.lf_base.proofs.ListLemmas.GreatestSets.{shrink_fixed}
use Rattle.lf_base.proofs.ListLemmas.Members.{Member_any, Member_flat_map, Member_left, Member_of_flat_map, Member_of_map, Member_right, Within, Within_append, any_Member, any_more}
use Rattle.lf_base.proofs.ListLemmas.Tests.{or_map}
use Rattle.lf_base.proofs.NameLemmas.RowNames.{inserted}
use Rattle.lf_base.proofs.NameLemmas.SameNames.{same_name_is, same_name_itself}
use Rattle.lf_laws.proofs.Changes.NewRows.{NewOwner, no_row, owner_else, owner_new}
use Rattle.lf_laws.proofs.Changes.SameOwners.{slot_target}
use Rattle.lf_laws.proofs.Dropping.KeptRows.{kept_meets}
use Rattle.lf_laws.proofs.Rows.InsertedRows.{inserted_edges}
use Rattle.lf_base.proofs.NameLemmas.RowNames.{has_inserted}
use Rattle.lf_laws.proofs.Rows.OwnerTests.{in_region, local_at_is, other_is}
use Rattle.lf_laws.proofs.Rows.RowsByName.{owner_has}

-- each row is justified by all
abbrev pub AllJustified : State → Type 0
AllJustified s = (x : Row) → Member x s.rows → stays s s.rows x ≡ true

pub justified_of : (s : State) → kept s ≡ s → AllJustified s
justified_of s k x m =
    let same : kept_rows s ≡ s.rows = ap (λ (z : State). z.rows) k in
    subst (λ rows. stays s rows x ≡ true) same (kept_meets s x (subst (Member x) (sym same) m))

pub kept_itself : (s : State) → AllJustified s → kept s ≡ s
kept_itself s h = ap (λ rows. record s { rows = rows }) (shrink_fixed (stays s) (length s.rows) s.rows (filter_all (stays s s.rows) s.rows h))

-- ---- what justifies a row goes on to do so where owners stay and edges are added
pub record Adds (s t : State) : Type 0 where
  pub owners : (o : ObjId) (v : Owner) → owner_in s.rows o ≡ Some v → owner_in t.rows o ≡ Some v
  pub near : Within (slot_edges s.slots ++ rows_edges s.rows) (slot_edges t.slots ++ rows_edges t.rows)
  pub owning : Within (rows_edges s.rows ++ (content_edges s.held ++ content_edges s.made)) (rows_edges t.rows ++ (content_edges t.held ++ content_edges t.made))
  pub here : (o : ObjId) → has_row s.rows o ≡ true → has_row t.rows o ≡ true

module _ (s t : State) (a : Adds s t) where
  borrower_on : (f : Source) → is_borrower s.rows f ≡ true → is_borrower t.rows f ≡ true
  borrower_on Slot e = e
  borrower_on (Field p) e = ap is_local_at (a.owners p Local (local_at_is (owner_in s.rows p) e))
  borrower_on (Content c) e = e

  owning_on : (f : Source) (r : ObjId) → is_owning s.rows f r ≡ true → is_owning t.rows f r ≡ true
  owning_on Slot r e = e
  owning_on (Field p) r e = let u = other_is r (owner_in s.rows p) e in ap (is_in_other r) (a.owners p (In u.region) u.is) ∙ not_from_false _ u.other
  owning_on (Content c) r e = e

  in_on : (r o : ObjId) → is_in r (owner_in s.rows o) ≡ true → is_in r (owner_in t.rows o) ≡ true
  in_on r o e = ap (is_in r) (a.owners o (In r) (in_region r (owner_in s.rows o) e)) ∙ same_name_itself r

  points_on : (o : ObjId) → points s.rows s o ≡ true → points t.rows t o ≡ true
  points_on o = any_more (λ (d : Edge). same_name d.to o) (slot_edges s.slots ++ rows_edges s.rows) (slot_edges t.slots ++ rows_edges t.rows) a.near

  into_on : (r : ObjId) → points_into s.rows s r ≡ true → points_into t.rows t r ≡ true
  into_on r e =
      let x = any_Member (λ (d : Edge). is_borrower s.rows d.from && is_in r (owner_in s.rows d.to)) (slot_edges s.slots ++ rows_edges s.rows) e in
      let k = and_parts (is_borrower s.rows (x.0).from) (is_in r (owner_in s.rows (x.0).to)) x.1.1 in
      Member_any (λ (d : Edge). is_borrower t.rows d.from && is_in r (owner_in t.rows d.to)) x.0 (slot_edges t.slots ++ rows_edges t.rows) (a.near x.0 x.1.0) (and_from _ _ (borrower_on (x.0).from k.0) (in_on r (x.0).to k.1))

  owned_on : (r : ObjId) → is_owned_by s.rows s r ≡ true → is_owned_by t.rows t r ≡ true
  owned_on r e =
      let x = any_Member (λ (d : Edge). is_owning s.rows d.from r && same_name d.to r) (rows_edges s.rows ++ (content_edges s.held ++ content_edges s.made)) e in
      let k = and_parts (is_owning s.rows (x.0).from r) (same_name (x.0).to r) x.1.1 in
      Member_any (λ (d : Edge). is_owning t.rows d.from r && same_name d.to r) x.0 (rows_edges t.rows ++ (content_edges t.held ++ content_edges t.made)) (a.owning x.0 x.1.0) (and_from _ _ (owning_on (x.0).from r k.0) k.1)

  pub justified_on : (o : ObjId) (v : Owner) → stays_by_owner s s.rows o v ≡ true → stays_by_owner t t.rows o v ≡ true
  justified_on o Local e = points_on o e
  justified_on o Frozen e = refl
  justified_on o (In r) e =
      elim (same_name r o) as (λ b. cond b (is_owned_by s.rows s r || points_into s.rows s r) (has_row s.rows r && points s.rows s o) ≡ true → cond b (is_owned_by t.rows t r || points_into t.rows t r) (has_row t.rows r && points t.rows t o) ≡ true) [
        | true ↦ or_map _ _ _ _ (owned_on r) (into_on r)
        | false ↦ λ k. let p = and_parts (has_row s.rows r) (points s.rows s o) k in and_from _ _ (a.here r p.0) (points_on o p.1)
      ] e

-- ---- slots
pub slot_edges_in : (xs ys : List (Option Value)) → ((v : Value) → Member (Some v) xs → Member (Some v) ys) → Within (slot_edges xs) (slot_edges ys)
slot_edges_in xs ys h e m =
    let x = Member_of_flat_map (λ slot. edges_by Slot (slot_targets slot)) e xs m in
    let o = Member_of_map (λ (o : ObjId). record { from = Slot; to = o }) e (slot_targets x.0) x.1.1 in
    let v = slot_target x.0 o.0 o.1.0 in
    Member_flat_map (λ slot. edges_by Slot (slot_targets slot)) x.0 e ys (subst (λ z. Member z ys) (sym v.1.0) (h v.0 (subst (λ z. Member z xs) v.1.0 x.1.0))) x.1.1

pub more_slots : (s : State) (ws : List (Option Value)) → kept s ≡ s → ((v : Value) → Member (Some v) s.slots → Member (Some v) ws) → kept (with_slots s ws) ≡ with_slots s ws
more_slots s ws k h =
    kept_itself (with_slots s ws) (λ x m. justified_on s (with_slots s ws) (record {
      owners = λ o v e. e;
      near = Within_append (slot_edges s.slots) (slot_edges ws) (rows_edges s.rows) (rows_edges s.rows) (slot_edges_in s.slots ws h) (λ e n. n);
      owning = λ e n. n;
      here = λ o e. e;
    }) x.name x.owner (justified_of s k x m))

pub slot_more : (s : State) (w : Option Value) → kept s ≡ s → kept (with_slot s w) ≡ with_slot s w
slot_more s w k = more_slots s (s.slots ++ w ∷ []) k (λ v m. Member_left (Some v) s.slots (w ∷ []) m)

-- ---- a new row with its slot
module _ (s : State) (w : Owner) (t : WellFormed s) (kind : NewOwner s w) (k : kept s ≡ s) where
  abbrev new : ObjId
  new = next_object s

  abbrev row : Row
  row = record { name = new; owner = w; fields = [] }

  abbrev slot : Option Value
  slot = Some (Obj new)

  abbrev after : State
  after = with_slot (with_row s w) slot

  not_new : (o : ObjId) (v : Owner) → owner_in s.rows o ≡ Some v → same_name new o ≡ false
  not_new o v e = false_from_ne_true _ (λ h. both_ways _ (no_row s w t kind) (ap (has_row s.rows) (same_name_is new o h) ∙ owner_has s.rows o v e))

  edges_same : rows_edges after.rows ≡ rows_edges s.rows
  edges_same = inserted_edges row s.rows refl

  rows_in : Within (rows_edges s.rows) (rows_edges after.rows)
  rows_in e m = subst (Member e) (sym edges_same) m

  slots_in : Within (slot_edges s.slots) (slot_edges after.slots)
  slots_in = slot_edges_in s.slots (s.slots ++ slot ∷ []) (λ v m. Member_left (Some v) s.slots (slot ∷ []) m)

  adds : Adds s after
  adds = record {
    owners = λ o v e. owner_else s w t kind o (not_new o v e) ∙ e;
    near = Within_append (slot_edges s.slots) (slot_edges after.slots) (rows_edges s.rows) (rows_edges after.rows) slots_in rows_in;
    owning = Within_append (rows_edges s.rows) (rows_edges after.rows) _ _ rows_in (λ e n. n);
    here = λ o e. has_inserted row s.rows o ∙ ap (λ b. same_name new o || b) e ∙ or-true (same_name new o);
  }

  abbrev edge : Edge
  edge = record { from = Slot; to = new }

  edge_there : Member edge (slot_edges after.slots ++ rows_edges after.rows)
  edge_there = Member_left edge (slot_edges after.slots) (rows_edges after.rows)
      (Member_flat_map (λ slot. edges_by Slot (slot_targets slot)) slot edge (s.slots ++ slot ∷ []) (Member_right slot s.slots (slot ∷ []) (inl refl)) (inl refl))

  new_points : points after.rows after new ≡ true
  new_points = Member_any (λ (d : Edge). same_name d.to new) edge (slot_edges after.slots ++ rows_edges after.rows) edge_there (same_name_itself new)

  new_into : w ≡ In new → points_into after.rows after new ≡ true
  new_into e = Member_any (λ (d : Edge). is_borrower after.rows d.from && is_in new (owner_in after.rows d.to)) edge (slot_edges after.slots ++ rows_edges after.rows) edge_there
      (ap (is_in new) (owner_new s w t kind ∙ ap Some e) ∙ same_name_itself new)

  new_justified : (v : Owner) → w ≡ v → stays_by_owner after after.rows new v ≡ true
  new_justified Local e = new_points
  new_justified Frozen e = refl
  new_justified (In r) e = elim kind [
    | inl l ↦ let z : In r ≡ Local = sym e ∙ l in cc
    | inr j ↦ ap (stays_by_owner after after.rows new) (sym e ∙ j)
        ∙ ap (λ b. cond b (is_owned_by after.rows after new || points_into after.rows after new) (has_row after.rows new && points after.rows after new)) (same_name_itself new)
        ∙ ap (λ b. is_owned_by after.rows after new || b) (new_into j) ∙ or-true _
  ]

  pub new_row_stays : kept after ≡ after
  new_row_stays = kept_itself after (λ x m. elim (inserted row s.rows x m) [
    | inl e ↦ subst (λ (z : Row). stays after after.rows z ≡ true) e (new_justified w refl)
    | inr n ↦ justified_on s after adds x.name x.owner (justified_of s k x n)
  ])
