-- A stable sort by a number gives the items by rising key.
use Rattle.std.proofs.Common.{◌≡◌, ◌≤◌, ◌<◌, ℕ, suc, Bool, true, false, cond, not, ◌&&◌, ◌==◌, ltb, List, [], ◌∷◌, length, map, filter}
use Rattle.std.proofs.Common.{get_or, refl, ap, sym, subst, ◌∙◌, arith, ◌+◌, ◌⊎◌, inl, inr, sum_by}
use Rattle.std.proofs.lemmas.List.Sums.{sum_by-cons}
use Rattle.lf_base.specs.Sets.{Member}
use Rattle.std.proofs.lemmas.Bool.{ne_eqb, eq-eqb, eqb-true, ltb-true, ltb-false}
use Rattle.std.specs.List.Sorted.{IsNonDecreasingBy, IsStableByKey}
use Rattle.std.specs.Ordering.{MatchOrdering, nat_cmp, is_lt}
use Rattle.std.specs.declared.cmp.Ordering.{Ordering}
use Rattle.std.specs.declared.cmp.Ordering.TheVariants.{Less, Equal, Greater}
use Rattle.std.proofs.lemmas.Cmp.{ranked}
use Rattle.lf_codegen.specs.Frames.{put_in_order, rising}

module _ {X : Type 0} (key : X → ℕ) where
  -- the items of one key
  abbrev of_key : ℕ → List X → List X
  of_key n xs = filter (λ x. key x == n) xs

  -- no key is below n
  abbrev pub NoKeyBelow : ℕ → List X → Type 0
  NoKeyBelow n [] = Unit {0}
  NoKeyBelow n (x ∷ xs) = (n ≤ key x) × NoKeyBelow n xs

  -- the keys don't fall
  abbrev pub KeysRise : List X → Type 0
  KeysRise [] = Unit {0}
  KeysRise (x ∷ xs) = NoKeyBelow (key x) xs × KeysRise xs

  lower : (m n : ℕ) (xs : List X) → m ≤ n → NoKeyBelow n xs → NoKeyBelow m xs
  lower m n [] h a = tt
  lower m n (x ∷ xs) h a = (omega arith, lower m n xs h a.1)

  above_from : (n : ℕ) (xs : List X) → ((j : ℕ) (d : X) → j < length xs → n ≤ key (get_or xs j d)) → NoKeyBelow n xs
  above_from n [] h = tt
  above_from n (x ∷ xs) h = (h 0 x (omega arith), above_from n xs (λ j d l. h (suc j) d (omega arith)))

  pub up_from : (xs : List X) → IsNonDecreasingBy key xs → KeysRise xs
  up_from [] h = tt
  up_from (x ∷ xs) h = (
    above_from (key x) xs (λ j d l. h 0 (suc j) d (omega arith) (omega arith)),
    up_from xs
        (λ i j d le l. h (suc i) (suc j) d (omega arith) (omega arith)),
  )

  -- a key that is there isn't below n
  not_below : (n m : ℕ) (xs : List X) (w : X) (ws : List X) → NoKeyBelow n xs → of_key m xs ≡ w ∷ ws → n ≤ m
  not_below n m [] w ws a e = absurd cc
  not_below n m (x ∷ xs) w ws a e = elim (key x == m) as (λ b. (key x == m) ≡ b → n ≤ m) [
    | true ↦ λ h. subst (λ k. n ≤ k) (eqb-true (key x) m h) a.0
    | false ↦ λ h. not_below n m xs w ws a.1 (sym (ap (λ b. cond b (x ∷ of_key m xs) (of_key m xs)) h) ∙ e)
  ] refl

  own_key : (x : X) (xs : List X) → of_key (key x) (x ∷ xs) ≡ x ∷ of_key (key x) xs
  own_key x xs = ap (λ b. cond b (x ∷ of_key (key x) xs) (of_key (key x) xs)) (eq-eqb (key x) (key x) refl)

  head_is : (x y : X) (xs ys : List X) → x ∷ xs ≡ y ∷ ys → x ≡ y
  head_is x y xs ys e = cc

  tail_is : (x y : X) (xs ys : List X) → x ∷ xs ≡ y ∷ ys → xs ≡ ys
  tail_is x y xs ys e = cc

  -- without a head of one key in both lists
  without_head : (b : Bool) (y z : X) (ys zs : List X) → cond b (y ∷ ys) ys ≡ cond b (z ∷ zs) zs → ys ≡ zs
  without_head true y z ys zs e = tail_is y z ys zs e
  without_head false y z ys zs e = e

  -- lists that don't fall are the same where they have the same items of each key
  pub one_order : (ys zs : List X) → KeysRise ys → KeysRise zs → ((x : X) → of_key (key x) ys ≡ of_key (key x) zs) → ys ≡ zs
  one_order [] [] u v e = refl
  one_order [] (z ∷ zs) u v e = let h = e z ∙ own_key z zs in absurd cc
  one_order (y ∷ ys) [] u v e = let h = sym (own_key y ys) ∙ e y in absurd cc
  one_order (y ∷ ys) (z ∷ zs) u v e =
      let y_first : key y ≤ key z = not_below (key y) (key z) (y ∷ ys) z (of_key (key z) zs) (omega arith, u.0) (e z ∙ own_key z zs) in
      let z_first : key z ≤ key y =
      not_below (key z) (key y) (z ∷ zs) y (of_key (key y) ys) (omega arith, v.0) (sym (e y) ∙ own_key y ys) in
      let same : key z ≡ key y = omega arith in
      let heads = sym (own_key y ys) ∙ e y ∙ ap (λ b. cond b (z ∷ of_key (key y) zs) (of_key (key y) zs)) (eq-eqb (key z) (key y) same) in
      let tails : (x : X) → of_key (key x) ys ≡ of_key (key x) zs =
      λ x. without_head (key y == key x) y z _ _ (e x ∙ ap (λ n. cond (n == key x) (z ∷ of_key (key x) zs) (of_key (key x) zs)) same) in
      ap (λ x. x ∷ ys) (head_is y z _ _ heads) ∙ ap (λ l. z ∷ l) (one_order ys zs u.1 v.1 tails)

  above_placed : (n : ℕ) (x : X) (ys : List X) → n ≤ key x → NoKeyBelow n ys → NoKeyBelow n (put_in_order key x ys)
  above_placed n x [] h a = (h, tt)
  above_placed n x (y ∷ ys) h a = elim (ltb (key y) (key x)) as (λ b. NoKeyBelow n (cond b (y ∷ put_in_order key x ys) (x ∷ (y ∷ ys)))) [
    | true ↦ (a.0, above_placed n x ys h a.1)
    | false ↦ (h, a)
  ]

  up_placed : (x : X) (ys : List X) → KeysRise ys → KeysRise (put_in_order key x ys)
  up_placed x [] u = (tt, tt)
  up_placed x (y ∷ ys) u =
      elim (ltb (key y) (key x)) as (λ b. ltb (key y) (key x) ≡ b → KeysRise (cond b (y ∷ put_in_order key x ys) (x ∷ (y ∷ ys)))) [
        | true ↦ λ h. let l = ltb-true (key y) (key x) h in (above_placed (key y) x ys (omega arith) u.0, up_placed x ys u.1)
        | false ↦ λ h. let l = ltb-false (key y) (key x) h in ((l, lower (key x) (key y) ys l u.0), u)
      ] refl

  pub up_rising : (xs : List X) → KeysRise (rising key xs)
  up_rising [] = tt
  up_rising (x ∷ xs) = up_placed x (rising key xs) (up_rising xs)

  -- an item may pass one of another key
  pass : (n : ℕ) (x y : X) (zs : List X) → key y < key x → of_key n (y ∷ (x ∷ zs)) ≡ of_key n (x ∷ (y ∷ zs))
  pass n x y zs l = elim (key x == n) as (λ b. (key x == n) ≡ b
      → cond (key y == n) (y ∷ cond b (x ∷ of_key n zs) (of_key n zs)) (cond b (x ∷ of_key n zs) (of_key n zs)) ≡ cond b
      (x ∷ of_key n (y ∷ zs)) (of_key n (y ∷ zs))) [
        | true ↦ λ h. elim (key y == n) as (λ d. (key y == n) ≡ d
            → cond d (y ∷ (x ∷ of_key n zs)) (x ∷ of_key n zs) ≡ x ∷ cond d (y ∷ of_key n zs) (of_key n zs)) [
              | true ↦ λ k. let p = eqb-true (key x) n h in let q = eqb-true (key y) n k in absurd (omega arith)
              | false ↦ λ k. refl
            ] refl
        | false ↦ λ h. refl
      ] refl

  key_placed : (n : ℕ) (x : X) (ys : List X) → of_key n (put_in_order key x ys) ≡ of_key n (x ∷ ys)
  key_placed n x [] = refl
  key_placed n x (y ∷ ys) = elim (ltb (key y) (key x)) as (λ b. ltb (key y) (key x) ≡ b
      → of_key n (cond b (y ∷ put_in_order key x ys) (x ∷ (y ∷ ys))) ≡ of_key n (x ∷ (y ∷ ys))) [
        | true ↦ λ h. ap (λ l. cond (key y == n) (y ∷ l) l) (key_placed n x ys) ∙ pass n x y ys (ltb-true (key y) (key x) h)
        | false ↦ λ h. refl
      ] refl

  key_rising : (n : ℕ) (xs : List X) → of_key n (rising key xs) ≡ of_key n xs
  key_rising n [] = refl
  key_rising n (x ∷ xs) = key_placed n x (rising key xs) ∙ ap (λ l. cond (key x == n) (x ∷ l) l) (key_rising n xs)

  -- items that don't fall, with the items of each key in their order
  pub is_rising : (xs ys : List X) → IsNonDecreasingBy key ys → ((x : X) → of_key (key x) ys ≡ of_key (key x) xs) → ys ≡ rising key xs
  is_rising xs ys up e = one_order ys (rising key xs) (up_from ys up) (up_rising xs) (λ x. e x ∙ sym (key_rising (key x) xs))

-- a sort keeps a sum, and brings no item
module _ {X : Type 0} (key f : X → ℕ) where
  placed_sum : (x : X) (ys : List X) → sum_by f (put_in_order key x ys) ≡ f x + sum_by f ys
  placed_sum x [] = sum_by-cons f x []
  placed_sum x (y ∷ ys) =
      elim (ltb (key y) (key x)) as (λ b. sum_by f (cond b (y ∷ put_in_order key x ys) (x ∷ (y ∷ ys))) ≡ f x + sum_by f (y ∷ ys)) [
        | true ↦ omega (arith, sum_by-cons f y (put_in_order key x ys), sum_by-cons f y ys, placed_sum x ys)
        | false ↦ sum_by-cons f x (y ∷ ys)
      ]

  pub rising_sum : (xs : List X) → sum_by f (rising key xs) ≡ sum_by f xs
  rising_sum [] = refl
  rising_sum (x ∷ xs) = omega (arith, placed_sum x (rising key xs), rising_sum xs, sum_by-cons f x xs)

module _ {X : Type 0} (key : X → ℕ) where
  of_placed : (x y : X) (ys : List X) → Member y (put_in_order key x ys) → (x ≡ y) ⊎ Member y ys
  of_placed x y [] m = m
  of_placed x y (z ∷ zs) m =
      elim (ltb (key z) (key x)) as (λ b. Member y (cond b (z ∷ put_in_order key x zs) (x ∷ (z ∷ zs))) → (x ≡ y) ⊎ Member y (z ∷ zs)) [
        | true ↦ λ n. elim n [ inl e ↦ inr (inl e) | inr k ↦ elim (of_placed x y zs k) [ inl e ↦ inl e | inr l ↦ inr (inr l) ] ]
        | false ↦ λ n. n
      ] m

  pub of_rising : (y : X) (xs : List X) → Member y (rising key xs) → Member y xs
  of_rising y [] m = m
  of_rising y (x ∷ xs) m = elim (of_placed x y (rising key xs) m) [ inl e ↦ inl e | inr k ↦ inr (of_rising y xs k) ]

-- what is made of each item, where the key is kept
pub map_placed : {X Y : Type 0} (f : X → Y) (key : Y → ℕ) (x : X) (ys : List X)
    → map f (put_in_order (λ z. key (f z)) x ys) ≡ put_in_order key (f x) (map f ys)
map_placed f key x [] = refl
map_placed f key x (y ∷ ys) = elim (ltb (key (f y)) (key (f x)))
    as (λ b. map f (cond b (y ∷ put_in_order (λ z. key (f z)) x ys) (x ∷ (y ∷ ys))) ≡ cond b (f y ∷ put_in_order key (f x) (map f ys))
    (f x ∷ (f y ∷ map f ys))) [
      | true ↦ ap (λ l. f y ∷ l) (map_placed f key x ys)
      | false ↦ refl
    ]

pub map_rising : {X Y : Type 0} (f : X → Y) (key : Y → ℕ) (xs : List X) → map f (rising (λ z. key (f z)) xs) ≡ rising key (map f xs)
map_rising f key [] = refl
map_rising f key (x ∷ xs) = map_placed f key x (rising (λ z. key (f z)) xs) ∙ ap (put_in_order key (f x)) (map_rising f key xs)

-- two numbers tie exactly where they are one
tie : (m n : ℕ) (o p : Ordering) → MatchOrdering o (m < n) (m ≡ n) (n < m) → MatchOrdering p (n < m) (n ≡ m) (m < n)
    → (not (is_lt o) && not (is_lt p)) ≡ (n == m)
tie m n Less p h k = sym (ne_eqb n m (λ e. omega arith))
tie m n Equal Less h k = sym (ne_eqb n m (λ e. omega arith))
tie m n Equal Equal h k = sym (eq-eqb n m k)
tie m n Equal Greater h k = absurd (omega arith)
tie m n Greater Less h k = sym (ne_eqb n m (λ e. omega arith))
tie m n Greater Equal h k = sym (eq-eqb n m k)
tie m n Greater Greater h k = absurd (omega arith)

pub ties_are : (m n : ℕ) → (not (is_lt (nat_cmp m n)) && not (is_lt (nat_cmp n m))) ≡ (n == m)
ties_are m n = tie m n (nat_cmp m n) (nat_cmp n m) (ranked m n (nat_cmp m n) refl) (ranked n m (nat_cmp n m) refl)

-- what a stable sort by a number keeps
pub stable_keys : {X : Type 0} (key : X → ℕ) (xs ys : List X) → IsStableByKey key nat_cmp xs ys → (x : X)
    → filter (λ y. key y == key x) ys ≡ filter (λ y. key y == key x) xs
stable_keys key xs ys h x =
    sym (λ i. filter (λ y. ties_are (key x) (key y) i) ys) ∙ h x ∙ (λ i. filter (λ y. ties_are (key x) (key y) i) xs)
