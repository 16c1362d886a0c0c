-- What is written of items that are told their numbers: of those before a place, of the one there, and of those after it.
use Rattle.std.proofs.Common.{List, [], ap, arith, drop, get_or, length, suc, sym, take, zero, ℕ, ◌++◌, ◌+◌, ◌<◌, ◌∙◌, ◌∷◌, ◌≡◌}
use Rattle.std.proofs.lemmas.List.{append-nil, append_assoc}
use Rattle.lf_code.specs.Listing.{numbered}

module _ {X : Type 0} (f : ℕ → X → List ℕ) where
  parts_from : (n : ℕ) (xs : List X) (i : ℕ) (d : X) → i < length xs
      → numbered f n xs ≡ numbered f n (take i xs) ++ (f (n + i) (get_or xs i d) ++ numbered f (n + (i + 1)) (drop (i + 1) xs))
  parts_from n [] i d within = absurd (omega (arith, within))
  parts_from n (x ∷ xs) zero d within =
      let a : n ≡ n + 0 = omega arith in
      let b : n + 1 ≡ n + (0 + 1) = omega arith in
      λ j. f (a j) x ++ numbered f (b j) xs
  parts_from n (x ∷ xs) (suc i) d within =
      let a : n + 1 + i ≡ n + suc i = omega arith in
      let b : n + 1 + (i + 1) ≡ n + (suc i + 1) = omega arith in
      let c : suc (i + 1) ≡ suc i + 1 = omega arith in
      ap (λ l. f n x ++ l) (parts_from (n + 1) xs i d (omega (arith, within)))
      ∙ sym (append_assoc (f n x) (numbered f (n + 1) (take i xs))
      (f (n + 1 + i) (get_or xs i d) ++ numbered f (n + 1 + (i + 1)) (drop (i + 1) xs)))
      ∙ (λ j. (f n x ++ numbered f (n + 1) (take i xs)) ++ (f (a j) (get_or xs i d) ++ numbered f (b j) (drop (c j) (x ∷ xs))))

  more_from : (n : ℕ) (xs : List X) (i : ℕ) (d : X) → i < length xs
      → numbered f n (take (i + 1) xs) ≡ numbered f n (take i xs) ++ f (n + i) (get_or xs i d)
  more_from n [] i d within = absurd (omega (arith, within))
  more_from n (x ∷ xs) zero d within = let a : n ≡ n + 0 = omega arith in append-nil (f n x) ∙ (λ j. f (a j) x)
  more_from n (x ∷ xs) (suc i) d within =
      let a : n + 1 + i ≡ n + suc i = omega arith in
      let c : suc i + 1 ≡ suc (i + 1) = omega arith in
      (λ j. numbered f n (take (c j) (x ∷ xs)))
      ∙ ap (λ l. f n x ++ l) (more_from (n + 1) xs i d (omega (arith, within)))
      ∙ sym (append_assoc (f n x) (numbered f (n + 1) (take i xs)) (f (n + 1 + i) (get_or xs i d)))
      ∙ (λ j. (f n x ++ numbered f (n + 1) (take i xs)) ++ f (a j) (get_or xs i d))

  pub items_at : (xs : List X) (i : ℕ) (x : X) → x ≡ get_or xs i x → i < length xs
      → numbered f 0 xs ≡ numbered f 0 (take i xs) ++ (f i x ++ numbered f (i + 1) (drop (i + 1) xs))
  items_at xs i x is within =
      let a : 0 + i ≡ i = omega arith in
      let b : 0 + (i + 1) ≡ i + 1 = omega arith in
      parts_from 0 xs i x within ∙ (λ j. numbered f 0 (take i xs) ++ (f (a j) (sym is j) ++ numbered f (b j) (drop (i + 1) xs)))

  pub one_item_more : (xs : List X) (i : ℕ) (x : X) → x ≡ get_or xs i x → i < length xs
      → numbered f 0 (take (i + 1) xs) ≡ numbered f 0 (take i xs) ++ f i x
  one_item_more xs i x is within =
      let a : 0 + i ≡ i = omega arith in
      more_from 0 xs i x within ∙ (λ j. numbered f 0 (take i xs) ++ f (a j) (sym is j))
