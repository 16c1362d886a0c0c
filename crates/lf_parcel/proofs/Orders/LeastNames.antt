-- The least name above another one, among names in any order and among rising ones.
use Rattle.std.proofs.Common.{Bool, List, None, Option, Some, [], ap, arith, cond, false, inl, inr, length, refl, slice_get, subst, sym, true, ℕ, ◌+◌, ◌++◌, ◌∙◌, ◌∷◌, ◌≡◌}
use Rattle.std.proofs.lemmas.Bool.{both_ways, false_from_ne_true}
use Rattle.std.proofs.lemmas.List.{append_assoc, length-append}
use Rattle.lf_base.specs.declared.ids.ObjId.{ObjId}
use Rattle.lf_base.specs.Names.{name_below, same_name}
use Rattle.lf_base.specs.Sets.{InOrder, Member}
use Rattle.lf_base.proofs.ListLemmas.Members.{Member_left, Member_of_append, Member_right, Within}
use Rattle.lf_base.proofs.ListLemmas.Tests.{by_test}
use Rattle.lf_base.proofs.NameLemmas.NameOrder.{below_asym, name_below_trans, not_below_itself, other_below}
use Rattle.lf_base.proofs.NameLemmas.SameNames.{same_name_is}
use Rattle.lf_frozen.specs.FrozenRows.{comes_after}
use Rattle.lf_parcel.specs.Spots.{IsLeastAbove, lesser_name}
use Rattle.lf_parcel.proofs.Orders.RisingNames.{below_rest}

-- ---- names in any order
pub least_of_none : (after : Option ObjId) → IsLeastAbove [] after None
least_of_none after o m = absurd m

pub least_of_one : (o : ObjId) (after : Option ObjId) (b : Bool) → comes_after after o ≡ b → IsLeastAbove (o ∷ []) after (cond b (Some o) None)
least_of_one o after true e = (inl refl, (e, λ q m above. elim m [ inl same ↦ subst (λ n. name_below n o ≡ false) same (not_below_itself o) | inr k ↦ absurd k ]))
least_of_one o after false e = λ q m. elim m [ inl same ↦ subst (λ n. comes_after after n ≡ false) same e | inr k ↦ absurd k ]

-- what isn't below a lesser name isn't below that one
not_lower : (a b c : ObjId) → name_below a b ≡ false → name_below b c ≡ false → name_below a c ≡ false
not_lower a b c e f = false_from_ne_true _ (λ k. by_test (same_name a b)
    (λ s. both_ways (name_below b c) f (ap (λ n. name_below n c) (sym (same_name_is a b s)) ∙ k))
    (λ s. both_ways (name_below b c) f (name_below_trans b a c (other_below a b e s) k)))

pub least_joined : (xs ys : List ObjId) (after : Option ObjId) (a b : Option ObjId) → IsLeastAbove xs after a → IsLeastAbove ys after b → IsLeastAbove (xs ++ ys) after (lesser_name a b)
least_joined xs ys after None None lower lower' = λ y m. elim (Member_of_append y xs ys m) [ inl k ↦ lower y k | inr k ↦ lower' y k ]
least_joined xs ys after None (Some b) lower least = (
  Member_right b xs ys least.0,
  (least.1.0, λ y m above. elim (Member_of_append y xs ys m) [ inl k ↦ absurd (both_ways (comes_after after y) (lower y k) above) | inr k ↦ least.1.1 y k above ]),
)
least_joined xs ys after (Some a) None least lower = (
  Member_left a xs ys least.0,
  (least.1.0, λ y m above. elim (Member_of_append y xs ys m) [ inl k ↦ least.1.1 y k above | inr k ↦ absurd (both_ways (comes_after after y) (lower y k) above) ]),
)
least_joined xs ys after (Some a) (Some b) least other =
    elim (name_below a b) as (λ t. name_below a b ≡ t → IsLeastAbove (xs ++ ys) after (Some (cond t a b))) [
      | true ↦ λ e. (
        Member_left a xs ys least.0,
        (least.1.0, λ y m above. elim (Member_of_append y xs ys m) [ inl k ↦ least.1.1 y k above | inr k ↦ not_lower y b a (other.1.1 y k above) (below_asym a b e) ]),
      )
      | false ↦ λ e. (
        Member_right b xs ys other.0,
        (other.1.0, λ y m above. elim (Member_of_append y xs ys m) [ inl k ↦ not_lower y a b (least.1.1 y k above) e | inr k ↦ other.1.1 y k above ]),
      )
    ] refl

-- ---- rising names, gone over one by one: those before the place are passed, and those from it on aren't
pub record Passed (all : List ObjId) (at : ℕ) (after : Option ObjId) : Type 0 where
  pub before : List ObjId
  pub rest : List ObjId
  pub split : all ≡ before ++ rest
  pub place : length before ≡ at
  pub passed : (o : ObjId) → Member o before → comes_after after o ≡ false
  pub ahead : (o : ObjId) → Member o rest → comes_after after o ≡ true
  pub rises : InOrder name_below rest

pub none_passed : (all : List ObjId) → InOrder name_below all → Passed all 0 None
none_passed all rise = record { before = []; rest = all; split = refl; place = refl; passed = λ o m. absurd m; ahead = λ o m. refl; rises = rise }

at_seam : (xs ys : List ObjId) (n : ℕ) → length xs ≡ n → slice_get (xs ++ ys) n ≡ slice_get ys 0
at_seam [] ys n e = ap (slice_get ys) (sym e)
at_seam (x ∷ xs) ys n e = ap (slice_get (x ∷ (xs ++ ys))) (sym e) ∙ at_seam xs ys (length xs) refl

module _ (all : List ObjId) (at : ℕ) (after : Option ObjId) (g : Passed all at after) where
  -- where no name is above, there is none at the place
  pub none_at_place : IsLeastAbove all after None → slice_get all at ≡ None
  none_at_place none = go g.rest refl where
    go : (rest : List ObjId) → g.rest ≡ rest → slice_get all at ≡ None
    go [] e = ap (λ l. slice_get l at) (g.split ∙ ap (λ l. g.before ++ l) e) ∙ at_seam g.before [] at g.place
    go (y ∷ ys) e =
        let here : Member y g.rest = subst (Member y) (sym e) (inl refl) in
        absurd (both_ways _ (none y (subst (Member y) (sym g.split) (Member_right y g.before g.rest here))) (g.ahead y here))

  module _ (least : ObjId) (is : IsLeastAbove all after (Some least)) where
    record Here : Type 0 where
      pub later : List ObjId
      pub rest : g.rest ≡ least ∷ later

    -- the least name above stands at the place
    here : Here
    here = go g.rest refl where
      ahead : Member least g.rest
      ahead = elim (Member_of_append least g.before g.rest (subst (Member least) g.split is.0)) [ inl m ↦ absurd (both_ways _ (g.passed least m) is.1.0) | inr m ↦ m ]

      go : (rest : List ObjId) → g.rest ≡ rest → Here
      go [] e = absurd (subst (Member least) e ahead)
      go (y ∷ ys) e =
          let first : Member y g.rest = subst (Member y) (sym e) (inl refl) in
          elim (subst (Member least) e ahead) [
            | inl same ↦ record { later = ys; rest = subst (λ n. g.rest ≡ n ∷ ys) same e }
            | inr m ↦ absurd (both_ways (name_below y least) (is.1.1 y (subst (Member y) (sym g.split) (Member_right y g.before g.rest first)) (g.ahead y first)) (below_rest y ys (subst (InOrder name_below) e g.rises) least m))
          ]

    split_here : all ≡ g.before ++ least ∷ (here).later
    split_here = g.split ∙ ap (λ l. g.before ++ l) (here).rest

    pub least_at_place : slice_get all at ≡ Some least
    least_at_place = ap (λ l. slice_get l at) split_here ∙ at_seam g.before (least ∷ (here).later) at g.place

    rises_here : InOrder name_below (least ∷ (here).later)
    rises_here = subst (InOrder name_below) (here).rest g.rises

    pub passed_on : InOrder name_below all → Passed all (at + 1) (Some least)
    passed_on rise = record {
      before = g.before ++ least ∷ [];
      rest = (here).later;
      split = split_here ∙ sym (append_assoc g.before (least ∷ []) (here).later);
      place = omega (arith, g.place, length-append g.before (least ∷ []));
      passed = λ o m. elim (Member_of_append o g.before (least ∷ []) m) [
        | inl k ↦ below_asym o least (before_all g.before (subst (InOrder name_below) split_here rise) o k)
        | inr k ↦ elim k [ inl e ↦ subst (λ n. name_below least n ≡ false) e (not_below_itself least) | inr n ↦ absurd n ]
      ];
      ahead = λ o m. below_rest least (here).later rises_here o m;
      rises = later_rises (here).later rises_here;
    } where
      before_all : (xs : List ObjId) → InOrder name_below (xs ++ least ∷ (here).later) → (o : ObjId) → Member o xs → name_below o least ≡ true
      before_all [] r o m = absurd m
      before_all (x ∷ xs) r o (inl e) = subst (λ n. name_below n least ≡ true) e (below_rest x (xs ++ least ∷ (here).later) r least (Member_right least xs (least ∷ (here).later) (inl refl)))
      before_all (x ∷ xs) r o (inr m) = before_all xs (later_rises_from x (xs ++ least ∷ (here).later) r) o m
        where
          later_rises_from : (y : ObjId) (ys : List ObjId) → InOrder name_below (y ∷ ys) → InOrder name_below ys
          later_rises_from y [] r = tt
          later_rises_from y (z ∷ zs) r = r.1

      later_rises : (ys : List ObjId) → InOrder name_below (least ∷ ys) → InOrder name_below ys
      later_rises [] r = tt
      later_rises (z ∷ zs) r = r.1

-- the least name above is the same of lists with the same names
pub least_within : (xs ys : List ObjId) (after found : Option ObjId) → Within xs ys → Within ys xs → IsLeastAbove xs after found → IsLeastAbove ys after found
least_within xs ys after None w v none = λ o m. none o (v o m)
least_within xs ys after (Some x) w v least = (w x least.0, (least.1.0, λ o m above. least.1.1 o (v o m) above))
