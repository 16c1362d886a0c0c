-- The least name above another one, among rows in any order.
use Rattle.std.proofs.Common.{List, None, Option, Some, [], ap, cond, false, inl, inr, refl, sym, true, ◌++◌, ◌∙◌, ◌∷◌, ◌≡◌}
use Rattle.std.specs.List.Sorted.{IsPermutation}
use Rattle.std.proofs.lemmas.Bool.{both_ways, false_from_ne_true}
use Rattle.lf_base.specs.declared.ids.ObjId.{ObjId}
use Rattle.lf_base.specs.Names.{name_below, same_name}
use Rattle.lf_base.specs.Sets.{Member}
use Rattle.lf_base.proofs.ListLemmas.Members.{Member_left, Member_of_append, Member_right}
use Rattle.lf_base.proofs.ListLemmas.Tests.{by_test}
use Rattle.lf_base.proofs.NameLemmas.NameOrder.{below_asym, name_below_trans, not_below_itself, other_below}
use Rattle.lf_base.proofs.NameLemmas.SameNames.{same_name_is}
use Rattle.lf_frozen.specs.declared.row.FrozenRow.{FrozenRow}
use Rattle.lf_frozen.specs.Entries.{Apart, put_by_name, lesser_row}
use Rattle.lf_frozen.specs.FrozenRows.{RiseByName, comes_after, next_frozen}
use Rattle.lf_frozen.proofs.Members.{member_after, member_before}
use Rattle.lf_frozen.proofs.RisenRows.{below_all, by_name_permutes, risen_by_name, risen_one, risen_rest}

-- what was found has the least name above that one
abbrev pub IsNext : List FrozenRow → Option ObjId → Option FrozenRow → Type 0
IsNext rows after None = (y : FrozenRow) → Member y rows → comes_after after y.id ≡ false
IsNext rows after (Some x) =
    Member x rows
    × ((comes_after after x.id ≡ true)
    × ((y : FrozenRow) → Member y rows → comes_after after y.id ≡ true → name_below y.id x.id ≡ false))

later_next : (x : FrozenRow) (xs : List FrozenRow) (after : Option ObjId) (found : Option FrozenRow) → comes_after after x.id ≡ false
    → IsNext xs after found → IsNext (x ∷ xs) after found
later_next x xs after None lower next = λ y m. elim m [
  | inl e ↦ ap (λ (row : FrozenRow). comes_after after row.id) (sym e) ∙ lower
  | inr k ↦ next y k
]
later_next x xs after (Some z) lower next = (
  inr next.0,
  (
    next.1.0,
    λ y m above. elim m [
      | inl e ↦ absurd (both_ways (comes_after after x.id) lower (ap (λ (row : FrozenRow). comes_after after row.id) e ∙ above))
      | inr k ↦ next.1.1 y k above
    ],
  ),
)

pub risen_next : (rows : List FrozenRow) (after : Option ObjId) → RiseByName rows → IsNext rows after (next_frozen rows after)
risen_next [] after rise = λ y m. absurd m
risen_next (x ∷ xs) after rise =
    elim (comes_after after x.id) as (λ b. comes_after after x.id ≡ b → IsNext (x ∷ xs) after (cond b (Some x) (next_frozen xs after))) [
      | true ↦ λ e. (
        inl refl,
        (
          e,
          λ y m above. elim m [
            | inl k ↦ ap (λ (row : FrozenRow). name_below row.id x.id) (sym k) ∙ not_below_itself x.id
            | inr k ↦ below_asym x.id y.id (below_all x xs rise y k)
          ],
        ),
      )
      | false ↦ λ e. later_next x xs after (next_frozen xs after) e (risen_next xs after (risen_rest x xs rise))
    ] refl

-- what isn't below a lesser name isn't below that one
not_lower : (a b c : ObjId) → name_below a b ≡ false → name_below b c ≡ false → name_below a c ≡ false
not_lower a b c e f = false_from_ne_true _ (λ k. by_test (same_name a b)
    (λ s. both_ways (name_below b c) f (ap (λ n. name_below n c) (sym (same_name_is a b s)) ∙ k))
    (λ s. both_ways (name_below b c) f (name_below_trans b a c (other_below a b e s) k)))

pub next_joined : (xs ys : List FrozenRow) (after : Option ObjId) (a b : Option FrozenRow) → IsNext xs after a → IsNext ys after b
    → IsNext (xs ++ ys) after (lesser_row a b)
next_joined xs ys after None None lower lower' = λ y m. elim (Member_of_append y xs ys m) [ inl k ↦ lower y k | inr k ↦ lower' y k ]
next_joined xs ys after None (Some b) lower next = (
  Member_right b xs ys next.0,
  (
    next.1.0,
    λ y m above. elim (Member_of_append y xs ys m) [
      | inl k ↦ absurd (both_ways (comes_after after y.id) (lower y k) above)
      | inr k ↦ next.1.1 y k above
    ],
  ),
)
next_joined xs ys after (Some a) None next lower = (
  Member_left a xs ys next.0,
  (
    next.1.0,
    λ y m above. elim (Member_of_append y xs ys m) [
      | inl k ↦ next.1.1 y k above
      | inr k ↦ absurd (both_ways (comes_after after y.id) (lower y k) above)
    ],
  ),
)
next_joined xs ys after (Some a) (Some b) next other =
    elim (name_below a.id b.id) as (λ t. name_below a.id b.id ≡ t → IsNext (xs ++ ys) after (Some (cond t a b))) [
      | true ↦ λ e. (
        Member_left a xs ys next.0,
        (
          next.1.0,
          λ y m above. elim (Member_of_append y xs ys m) [
            | inl k ↦ next.1.1 y k above
            | inr k ↦ not_lower y.id b.id a.id (other.1.1 y k above) (below_asym a.id b.id e)
          ],
        ),
      )
      | false ↦ λ e. (
        Member_right b xs ys other.0,
        (
          other.1.0,
          λ y m above. elim (Member_of_append y xs ys m) [
            | inl k ↦ not_lower y.id a.id b.id (next.1.1 y k above) e
            | inr k ↦ other.1.1 y k above
          ],
        ),
      )
    ] refl

next_permuted : (xs ys : List FrozenRow) (after : Option ObjId) (found : Option FrozenRow) → IsPermutation xs ys → IsNext xs after found
    → IsNext ys after found
next_permuted xs ys after None s next = λ y m. next y (member_before xs ys s y m)
next_permuted xs ys after (Some x) s next =
    (member_after xs ys s x next.0, (next.1.0, λ y m above. next.1.1 y (member_before xs ys s y m) above))

next_same : (rows : List FrozenRow) (after : Option ObjId) (a b : Option FrozenRow) → RiseByName rows → IsNext rows after a
    → IsNext rows after b → a ≡ b
next_same rows after None None rise next other = refl
next_same rows after None (Some b) rise next other = absurd (both_ways (comes_after after b.id) (next b other.0) other.1.0)
next_same rows after (Some a) None rise next other = absurd (both_ways (comes_after after a.id) (other a next.0) next.1.0)
next_same rows after (Some a) (Some b) rise next other =
    ap Some (risen_one rows rise a b next.0 other.0 (other.1.1 a next.0 next.1.0) (next.1.1 b other.0 other.1.0))

-- it is the next row of the list by rising name
pub next_by_name : (rows : List FrozenRow) (after : Option ObjId) (found : Option FrozenRow) → Apart rows → IsNext rows after found
    → found ≡ next_frozen (put_by_name rows) after
next_by_name rows after found apart next =
    next_same (put_by_name rows) after found (next_frozen (put_by_name rows) after) (risen_by_name rows apart)
    (next_permuted rows (put_by_name rows) after found (by_name_permutes rows) next)
    (risen_next (put_by_name rows) after (risen_by_name rows apart))
