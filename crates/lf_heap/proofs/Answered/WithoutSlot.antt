-- A state without one of the slots that hold a bridge: one borrow less of that region, and nothing else.
use Rattle.std.proofs.Common.{Bool, List, None, Option, Some, ap, arith, cond, count_by, false, inl, inr, length, not, refl, subst, sym, true, ℕ, ◌&&◌, ◌++◌, ◌+◌, ◌<◌, ◌∙◌, ◌≡◌, ◌≤◌}
use Rattle.std.specs.List.{list_any}
use Rattle.lf_base.specs.declared.ids.ObjId.{ObjId}
use Rattle.lf_base.specs.declared.values.Owner.TheVariants.{In}
use Rattle.lf_base.specs.declared.values.Value.{Value}
use Rattle.lf_base.specs.declared.values.Value.TheVariants as value
use Rattle.lf_base.specs.Edges.{Edge, Slot, edges, edges_by, slot_targets}
use Rattle.lf_base.specs.Names.{same_name}
use Rattle.lf_base.specs.Owners.{bridge_of, is_bridge, is_in, owner_in}
use Rattle.lf_base.specs.Ownership.{Above, is_from, owns}
use Rattle.lf_base.specs.PlainChanges.{put_slot, slot_at, with_slot_at, with_slots}
use Rattle.lf_base.specs.PlainState.{State}
use Rattle.lf_base.specs.WalkCounts.{borrowed, borrows, is_open}
use Rattle.lf_base.specs.WellFormed.{WellFormed}
use Rattle.lf_base.proofs.NameLemmas.SameNames.{same_name_is, same_name_itself}
use Rattle.lf_domain.proofs.EdgeTests.{any_counts, count_cons, some_of}
use Rattle.lf_laws.proofs.Edges.SlotEdges.{all_put_slot}
use Rattle.lf_laws.proofs.Owners.OwnersGoRound.{above_before, none_above}
use Rattle.lf_laws.proofs.Owners.PathsOfSets.{open_path}
use Rattle.lf_laws.proofs.Rows.OwnerTests.{in_region}
use Rattle.lf_heap.specs.Openness.{IsOpenBelow, LackOneSlot}

-- a value that refers to a bridge is that object
pub record IsBridge (s : State) (v : Value) (r : ObjId) : Type 0 where
  pub value : v ≡ value.Obj r
  pub inside : owner_in s.rows r ≡ Some (In r)

pub bridge_is : (s : State) (v : Value) (r : ObjId) → Some r ≡ bridge_of s v → IsBridge s v r
bridge_is s (value.Obj o) r e = by (is_bridge s.rows o) refl e where
  by : (b : Bool) → is_bridge s.rows o ≡ b → Some r ≡ cond b (Some o) None → IsBridge s (value.Obj o) r
  by true h k =
      let same : o ≡ r = cc in
      record { value = ap value.Obj same; inside = subst (λ n. owner_in s.rows n ≡ Some (In n)) same (in_region o (owner_in s.rows o) h) }
  by false h k = absurd (cc)
bridge_is s value.None r e = absurd (cc)
bridge_is s (value.Bool b) r e = absurd (cc)
bridge_is s (value.Int n) r e = absurd (cc)
bridge_is s (value.Text t) r e = absurd (cc)
bridge_is s (value.Cown c) r e = absurd (cc)

-- a slot that is unset is one less
pub lack_unset : (s : State) (at : ℕ) (there : at < length s.slots) (v : Value) (r : ObjId) → slot_at s.slots at ≡ Some v → v ≡ value.Obj r → LackOneSlot s (put_slot s.slots at None) r
lack_unset s at there v r holds is test =
    let t : State = with_slot_at s at None in
    all_put_slot s at None there test ∙ ap (λ w. count_by test (edges_by Slot (slot_targets w) ++ edges t)) (holds ∙ ap Some is) ∙ count_cons test (record { from = Slot; to = r }) (edges t)

module _ (s : State) (well : WellFormed s) (slots : List (Option Value)) (r : ObjId) (inside : owner_in s.rows r ≡ Some (In r)) (lack : LackOneSlot s slots r) where
  abbrev t : State
  t = with_slots s slots

  abbrev edge : Edge
  edge = record { from = Slot; to = r }

  one_less : borrowed s r ≡ 1 + borrowed t r
  one_less = lack (borrows s.rows r) ∙ ap (λ w. cond (is_in r w) 1 0 + borrowed t r) inside ∙ ap (λ b. cond b 1 0 + borrowed t r) (same_name_itself r)

  as_borrowed : (q : ObjId) → same_name q r ≡ false → borrowed s q ≡ borrowed t q
  as_borrowed q other =
      let none : borrowed s q ≡ 0 + borrowed t q = lack (borrows s.rows q) ∙ ap (λ w. cond (is_in q w) 1 0 + borrowed t q) inside ∙ ap (λ b. cond b 1 0 + borrowed t q) other in
      omega (arith, none)

  -- slots own nothing
  as_owned : (q c : ObjId) → list_any (λ e. is_from s.rows q e.from && same_name e.to c) (edges s) ≡ list_any (λ e. is_from s.rows q e.from && same_name e.to c) (edges t)
  as_owned q c =
      let test : Edge → Bool = λ e. is_from s.rows q e.from && same_name e.to c in
      let as_many : count_by test (edges s) ≡ count_by test (edges t) = omega (arith, lack test) in
      any_counts test (edges s) ∙ ap some_of as_many ∙ sym (any_counts test (edges t))

  owns_same : (q c : ObjId) → owns s q c ≡ owns t q c
  owns_same q c = ap (λ b. not (same_name q c) && (is_bridge s.rows c && b)) (as_owned q c)

  down : {q : ObjId} → Above s r q → Above t r q
  down a = above_before t s (λ q c h. sym (owns_same q c) ∙ h) a

  up : {q : ObjId} → Above t r q → Above s r q
  up a = above_before s t (λ q c h. owns_same q c ∙ h) a

  other : (q : ObjId) → Above s r q → same_name q r ≡ false
  other q a = by (same_name q r) refl where
    by : (b : Bool) → same_name q r ≡ b → b ≡ false
    by false h = refl
    by true h = absurd (none_above s well.no_round r (subst (λ n. Above s r n) (same_name_is q r h) a))

  -- borrowed by another place
  pub open_else : 1 < borrowed s r → is_open t r ≡ true
  open_else many = (open_path t r).1 (inl (omega (arith, many, one_less)))

  not_open : (b : Bool) → (b ≡ true → ⊥) → b ≡ false
  not_open true h = absurd (h refl)
  not_open false h = refl

  -- and else by what lies below alone
  pub open_below : borrowed s r ≤ 1 → (b : Bool) → IsOpenBelow s r b → b ≡ is_open t r
  open_below few true x =
      let a = x.1.0 in
      sym ((open_path t r).1 (inr (x.0, (down a, (omega (arith, as_borrowed x.0 (other x.0 a), x.1.1))))))
  open_below few false x = sym (not_open (is_open t r) (λ e. elim ((open_path t r).0 e) [
    | inl h ↦ omega (arith, h, one_less, few)
    | inr y ↦
        let a = up y.1.0 in
        omega (arith, y.1.1, as_borrowed y.0 (other y.0 a), x y.0 a)
  ]))
