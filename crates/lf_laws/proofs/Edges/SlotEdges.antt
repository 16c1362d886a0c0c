-- The edges after slots, contents and rows come, go and change.
use Rattle.std.proofs.Common.{Bool, List, Option, Some, [], ap, arith, cond, false, length, refl, suc, true, zero, ℕ, ◌++◌, ◌+◌, ◌<◌, ◌∷◌, ◌≡◌}
use Rattle.std.specs.List.{count_by}
use Rattle.std.specs.Prelude.{drop, take}
use Rattle.lf_base.specs.ContentResult.{content_at, content_result, put_content}
use Rattle.lf_base.specs.EdgeLists.{SameEdges, near_edges}
use Rattle.lf_base.specs.Edges.{Content, Edge, Slot, content_edges, edges, edges_by, slot_edges, slot_targets}
use Rattle.lf_base.specs.Names.{same_cown, targets_of_value}
use Rattle.lf_base.specs.NewCown.{made_result, next_cown}
use Rattle.lf_base.specs.PlainChanges.{insert_row, next_object, put_slot, slot_at, with_row, with_slot, with_slot_at, with_slots}
use Rattle.lf_base.specs.PlainState.{Row, State}
use Rattle.lf_base.specs.declared.ids.CownId.{CownId}
use Rattle.lf_base.specs.declared.values.Owner.{Owner}
use Rattle.lf_base.specs.declared.values.Value.{Value}
use Rattle.lf_base.proofs.ListLemmas.Tests.{some_is}
use Rattle.lf_base.proofs.NameLemmas.SameNames.{same_cown_is}
use Rattle.lf_laws.proofs.Edges.EdgeParts.{all_from_near, count_app, near_count}
use Rattle.lf_laws.proofs.Edges.OwnerEdges.{all_same, near_same}
use Rattle.lf_laws.proofs.Rows.InsertedRows.{inserted_edges}
use Rattle.std.proofs.lemmas.List.{take-append-drop}

-- ---- slots
slots_app : (p : Edge → Bool) (xs ys : List (Option Value)) → count_by p (slot_edges (xs ++ ys)) ≡ count_by p (slot_edges xs) + count_by p (slot_edges ys)
slots_app p [] ys = omega arith
slots_app p (x ∷ xs) ys =
    omega (
      arith,
      slots_app p xs ys,
      count_app p (edges_by Slot (slot_targets x)) (slot_edges (xs ++ ys)),
      count_app p (edges_by Slot (slot_targets x)) (slot_edges xs),
    )

-- other slots: what the new ones have comes for what the old ones had
pub near_slots : (s : State) (slots : List (Option Value)) → SameEdges (slot_edges slots ++ near_edges s) (slot_edges s.slots ++ near_edges (with_slots s slots))
near_slots s slots p =
    omega (
      arith,
      count_app p (slot_edges slots) (near_edges s),
      count_app p (slot_edges s.slots) (near_edges (with_slots s slots)),
      near_count p s,
      near_count p (with_slots s slots),
    )

pub all_slots : (s : State) (slots : List (Option Value)) → SameEdges (slot_edges slots ++ edges s) (slot_edges s.slots ++ edges (with_slots s slots))
all_slots s slots = all_from_near s (with_slots s slots) (slot_edges slots) (slot_edges s.slots) refl (near_slots s slots)

-- one slot more
pub near_push : (s : State) (w : Option Value) → SameEdges (near_edges (with_slot s w)) (edges_by Slot (slot_targets w) ++ near_edges s)
near_push s w p =
    omega (
      arith,
      count_app p (edges_by Slot (slot_targets w)) (near_edges s),
      near_count p s,
      near_count p (with_slot s w),
      slots_app p s.slots (w ∷ []),
      count_app p (edges_by Slot (slot_targets w)) [],
    )

pub all_push : (s : State) (w : Option Value) → SameEdges (edges (with_slot s w)) (edges_by Slot (slot_targets w) ++ edges s)
all_push s w = all_from_near (with_slot s w) s [] (edges_by Slot (slot_targets w)) refl (near_push s w)

-- one slot replaced
put_count : (p : Edge → Bool) (xs : List (Option Value)) (n : ℕ) (w : Option Value) → n < length xs
    → count_by p (edges_by Slot (slot_targets w)) + count_by p (slot_edges xs) ≡ count_by p (edges_by Slot (slot_targets (slot_at xs n))) + count_by p (slot_edges (put_slot xs n w))
put_count p [] n w h = absurd (omega (arith, h))
put_count p (x ∷ xs) zero w h =
    omega (arith, count_app p (edges_by Slot (slot_targets x)) (slot_edges xs), count_app p (edges_by Slot (slot_targets w)) (slot_edges xs))
put_count p (x ∷ xs) (suc n) w h =
    omega (
      arith,
      put_count p xs n w (omega (arith, h)),
      count_app p (edges_by Slot (slot_targets x)) (slot_edges xs),
      count_app p (edges_by Slot (slot_targets x)) (slot_edges (put_slot xs n w)),
    )

module _ (s : State) (n : ℕ) (w : Option Value) (h : n < length s.slots) where
  abbrev came : List Edge
  came = edges_by Slot (slot_targets w)

  abbrev went : List Edge
  went = edges_by Slot (slot_targets (slot_at s.slots n))

  pub near_put_slot : SameEdges (came ++ near_edges s) (went ++ near_edges (with_slot_at s n w))
  near_put_slot p =
      omega (
        arith,
        count_app p came (near_edges s),
        count_app p went (near_edges (with_slot_at s n w)),
        near_count p s,
        near_count p (with_slot_at s n w),
        put_count p s.slots n w h,
      )

  pub all_put_slot : SameEdges (came ++ edges s) (went ++ edges (with_slot_at s n w))
  all_put_slot = all_from_near s (with_slot_at s n w) came went refl near_put_slot

-- the last slots gone
module _ (s : State) (n : ℕ) where
  pub near_fewer_slots : SameEdges (near_edges s) (slot_edges (drop n s.slots) ++ near_edges (with_slots s (take n s.slots)))
  near_fewer_slots p =
      omega (
        arith,
        count_app p (slot_edges (drop n s.slots)) (near_edges (with_slots s (take n s.slots))),
        near_count p s,
        near_count p (with_slots s (take n s.slots)),
        slots_app p (take n s.slots) (drop n s.slots),
        ap (λ l. count_by p (slot_edges l)) (take-append-drop n s.slots),
      )

  pub all_fewer_slots : SameEdges (edges s) (slot_edges (drop n s.slots) ++ edges (with_slots s (take n s.slots)))
  all_fewer_slots = all_from_near s (with_slots s (take n s.slots)) [] (slot_edges (drop n s.slots)) refl near_fewer_slots

-- ---- contents
content_count : (p : Edge → Bool) (cs : List (CownId × Value)) (c : CownId) (v old : Value) → content_at cs c ≡ Some old
    → count_by p (edges_by (Content c) (targets_of_value v)) + count_by p (content_edges cs) ≡ count_by p (edges_by (Content c) (targets_of_value old)) + count_by p (content_edges (put_content cs c v))
content_count p [] c v old e = cc
content_count p (h ∷ hs) c v old e =
    let one : Value → ℕ = λ u. count_by p (edges_by (Content h.0) (targets_of_value u)) in
    elim (same_cown h.0 c) as (λ b. same_cown h.0 c ≡ b → cond b (Some h.1) (content_at hs c) ≡ Some old
    → count_by p (edges_by (Content c) (targets_of_value v)) + count_by p (content_edges (h ∷ hs)) ≡ count_by p (edges_by (Content c) (targets_of_value old)) + count_by p (content_edges (cond b ((h.0, v) ∷ hs) (h ∷ put_content hs c v)))) [
      | true ↦ λ same found.
          let name : h.0 ≡ c = same_cown_is h.0 c same in
          let here : h.1 ≡ old = some_is h.1 old found in
          omega (
            arith,
            count_app p (edges_by (Content h.0) (targets_of_value h.1)) (content_edges hs),
            count_app p (edges_by (Content h.0) (targets_of_value v)) (content_edges hs),
            ap (λ d. count_by p (edges_by (Content d) (targets_of_value v))) name,
            ap (λ d. count_by p (edges_by (Content d) (targets_of_value h.1))) name,
            ap (λ u. count_by p (edges_by (Content c) (targets_of_value u))) here,
          )
      | false ↦ λ same found.
          omega (
            arith,
            content_count p hs c v old found,
            count_app p (edges_by (Content h.0) (targets_of_value h.1)) (content_edges hs),
            count_app p (edges_by (Content h.0) (targets_of_value h.1)) (content_edges (put_content hs c v)),
          )
    ] refl e

contents_app : (p : Edge → Bool) (xs ys : List (CownId × Value)) → count_by p (content_edges (xs ++ ys)) ≡ count_by p (content_edges xs) + count_by p (content_edges ys)
contents_app p [] ys = omega arith
contents_app p (x ∷ xs) ys =
    omega (
      arith,
      contents_app p xs ys,
      count_app p (edges_by (Content x.0) (targets_of_value x.1)) (content_edges (xs ++ ys)),
      count_app p (edges_by (Content x.0) (targets_of_value x.1)) (content_edges xs),
    )

module _ (s : State) (c : CownId) (v old : Value) (h : content_at s.held c ≡ Some old) where
  pub near_content : SameEdges (edges_by (Content c) (targets_of_value v) ++ near_edges s) (edges_by (Content c) (targets_of_value old) ++ near_edges (content_result s c v))
  near_content p =
      omega (
        arith,
        content_count p s.held c v old h,
        count_app p (edges_by (Content c) (targets_of_value v)) (near_edges s),
        count_app p (edges_by (Content c) (targets_of_value old)) (near_edges (content_result s c v)),
        near_count p s,
        near_count p (content_result s c v),
      )

  pub all_content : SameEdges (edges_by (Content c) (targets_of_value v) ++ edges s) (edges_by (Content c) (targets_of_value old) ++ edges (content_result s c v))
  all_content = all_from_near s (content_result s c v) (edges_by (Content c) (targets_of_value v)) (edges_by (Content c) (targets_of_value old)) refl near_content

module _ (s : State) (v : Value) where
  abbrev made : List Edge
  made = edges_by (Content (next_cown s)) (targets_of_value v)

  pub near_made : SameEdges (near_edges (made_result s v)) (made ++ near_edges s)
  near_made p =
      omega (
        arith,
        count_app p made (near_edges s),
        near_count p s,
        near_count p (made_result s v),
        contents_app p s.made ((next_cown s, v) ∷ []),
        count_app p made [],
      )

  pub all_made : SameEdges (edges (made_result s v)) (made ++ edges s)
  all_made = all_from_near (made_result s v) s [] made refl near_made

-- ---- a new row has no fields
module _ (s : State) (w : Owner) where
  abbrev row : Row
  row = record { name = next_object s; owner = w; fields = [] }

  pub near_row : near_edges (with_row s w) ≡ near_edges s
  near_row = near_same s (insert_row row s.rows) s.rows (inserted_edges row s.rows refl)

  pub all_row : edges (with_row s w) ≡ edges s
  all_row = all_same s (insert_row row s.rows) s.rows (inserted_edges row s.rows refl)
