-- The greatest set: it meets its own conditions, and has each set that meets them.
use Rattle.std.proofs.Common.{Bool, List, [], ap, arith, inl, inr, length, refl, subst, suc, sym, true, zero, ℕ, ◌∙◌, ◌∷◌, ◌≡◌, ◌≤◌}
use Rattle.std.specs.List.{filter}
use Rattle.lf_base.specs.Sets.{Member, greatest, shrink}
use Rattle.lf_base.proofs.ListLemmas.Filters.{Member_filter, Member_of_filter, filter_full, full_or_less}
use Rattle.lf_base.proofs.ListLemmas.Members.{Within}

module _ {X : Type 0} (stays : List X → X → Bool) where
  pub shrink_fixed : (n : ℕ) (xs : List X) → filter (stays xs) xs ≡ xs → shrink stays n xs ≡ xs
  shrink_fixed zero xs e = refl
  shrink_fixed (suc n) xs e = ap (shrink stays n) e ∙ shrink_fixed n xs e

  pub shrink_meets : (n : ℕ) (xs : List X) → length xs ≤ n → filter (stays (shrink stays n xs)) (shrink stays n xs) ≡ shrink stays n xs
  shrink_meets zero [] h = refl
  shrink_meets zero (x ∷ xs) h = absurd (omega arith)
  shrink_meets (suc n) xs h =
      elim (full_or_less (stays xs) xs) [
        | inl e ↦ let f : filter (stays xs) xs ≡ xs = filter_full (stays xs) xs e in
            let g : shrink stays (suc n) xs ≡ xs = shrink_fixed (suc n) xs f in
            subst (λ ys. filter (stays ys) ys ≡ ys) (sym g) f
        | inr l ↦ shrink_meets n (filter (stays xs) xs) (omega arith)
      ]

  abbrev pub Monotone : Type 0
  Monotone = (xs ys : List X) (x : X) → Within xs ys → stays xs x ≡ true → stays ys x ≡ true

  -- each member of the list is justified by the list
  abbrev pub Meets : List X → Type 0
  Meets xs = (x : X) → Member x xs → stays xs x ≡ true

  pub shrink_has : Monotone → (n : ℕ) (xs ys : List X) → Meets ys → Within ys xs → Within ys (shrink stays n xs)
  shrink_has mono zero xs ys m w = w
  shrink_has mono (suc n) xs ys m w =
      shrink_has mono n (filter (stays xs) xs) ys m (λ y h. Member_filter (stays xs) y xs (w y h) (mono ys xs y w (m y h)))

  pub greatest_meets : (xs : List X) → Meets (greatest stays xs)
  greatest_meets xs x h =
      (Member_of_filter (stays (greatest stays xs)) x (greatest stays xs) (subst (Member x) (sym (shrink_meets (length xs) xs (omega arith))) h)).1

  pub greatest_has : Monotone → (xs ys : List X) → Meets ys → Within ys xs → Within ys (greatest stays xs)
  greatest_has mono xs ys m w = shrink_has mono (length xs) xs ys m w
