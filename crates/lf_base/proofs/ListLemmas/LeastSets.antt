-- The least set: it is closed, and lies in each closed set.
use Rattle.std.proofs.Common.{Bool, List, [], ap, arith, inl, inr, length, refl, subst, suc, sym, true, zero, ℕ, ◌+◌, ◌<◌, ◌∙◌, ◌∷◌, ◌≡◌, ◌≤◌, ◌⊎◌}
use Rattle.std.specs.List.{filter}
use Rattle.lf_base.specs.Sets.{Member, grow, least}
use Rattle.lf_base.proofs.ListLemmas.Filters.{Member_filter, Member_of_filter, length_filter_le, filter_le, filter_same, none_filter}
use Rattle.lf_base.proofs.ListLemmas.Members.{Within}

same_or_more : (a b : ℕ) → a ≤ b → (a ≡ b) ⊎ (a < b)
same_or_more a b h = grind arith

empty_or_more : {X : Type 0} (xs : List X) → (xs ≡ []) ⊎ (0 < length xs)
empty_or_more [] = inl refl
empty_or_more (x ∷ xs) = inr (omega arith)

module _ {X : Type 0} (joins : List X → X → Bool) (all : List X) where
  abbrev pub JoinsMore : Type 0
  JoinsMore = (xs ys : List X) (x : X) → Within xs ys → joins xs x ≡ true → joins ys x ≡ true

  abbrev pub next : List X → List X
  next xs = filter (joins xs) all

  next_more : JoinsMore → (xs ys : List X) → Within xs ys → Within (next xs) (next ys)
  next_more g xs ys w x m = let r = Member_of_filter (joins xs) x all m in Member_filter (joins ys) x all r.0 (g xs ys x w r.1)

  stable : (n : ℕ) (xs : List X) → next xs ≡ xs → grow joins all n xs ≡ xs
  stable zero xs e = refl
  stable (suc n) xs e = ap (grow joins all n) e ∙ stable n xs e

  -- from a list that is a filter and grows, so many rounds are enough
  grow_closed : JoinsMore → (n : ℕ) (us xs : List X) → xs ≡ next us → Within us xs → length all ≤ n + length xs → next (grow joins all n xs) ≡ grow joins all n xs
  grow_closed g zero us xs is w few =
      let e : next us ≡ next xs = filter_same (joins us) (joins xs) (λ x h. g us xs x w h) all (omega (arith, few, ap length is, length_filter_le (joins xs) all, filter_le (joins us) (joins xs) (λ x h. g us xs x w h) all)) in
      sym e ∙ sym is
  grow_closed g (suc n) us xs is w few =
      let up : length (next us) ≤ length (next xs) = filter_le (joins us) (joins xs) (λ x h. g us xs x w h) all in
      elim (same_or_more (length (next us)) (length (next xs)) up) [
        | inl e ↦
            let f : next us ≡ next xs = filter_same (joins us) (joins xs) (λ x h. g us xs x w h) all e in
            let s : next xs ≡ xs = sym f ∙ sym is in
            subst (λ l. next l ≡ l) (sym (stable (suc n) xs s)) s
        | inr l ↦ grow_closed g n xs (next xs) refl (subst (λ k. Within k (next xs)) (sym is) (next_more g us xs w)) (omega (arith, few, l, ap length is))
      ]

  grow_some : JoinsMore → (n : ℕ) → length all ≤ suc n → next (grow joins all n (next [])) ≡ grow joins all n (next [])
  grow_some g n h = elim (empty_or_more (next [])) [
    | inl e ↦ subst (λ l. next l ≡ l) (sym (ap (grow joins all n) e ∙ stable n [] e)) e
    | inr m ↦ grow_closed g n [] (next []) refl (λ x k. absurd k) (omega (arith, m))
  ]

  closed_from : JoinsMore → (n : ℕ) → length all ≤ n → next (grow joins all n []) ≡ grow joins all n []
  closed_from g zero h = none_filter (joins []) all (omega arith)
  closed_from g (suc n) h = grow_some g n h

  pub least_closed : JoinsMore → next (least joins all) ≡ least joins all
  least_closed g = closed_from g (length all) (omega arith)

  -- each closed set has it
  abbrev pub Closed : List X → Type 0
  Closed ys = (x : X) → Member x all → joins ys x ≡ true → Member x ys

  grow_in : JoinsMore → (n : ℕ) (xs ys : List X) → Closed ys → Within xs ys → Within (grow joins all n xs) ys
  grow_in g zero xs ys c w = w
  grow_in g (suc n) xs ys c w = grow_in g n (next xs) ys c (λ x m. let r = Member_of_filter (joins xs) x all m in c x r.0 (g xs ys x w r.1))

  pub least_in : JoinsMore → (ys : List X) → Closed ys → Within (least joins all) ys
  least_in g ys c = grow_in g (length all) [] ys c (λ x m. absurd m)
