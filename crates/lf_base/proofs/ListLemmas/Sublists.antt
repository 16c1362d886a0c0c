-- Parts of a list in order: what is taken and passed over, and what they keep of order, difference and counts.
use Rattle.std.proofs.Common.{Bool, List, [], ap, cond, false, inl, inr, refl, suc, sym, true, zero, ℕ, ◌∙◌, ◌∷◌, ◌≡◌, arith, map, ◌++◌, ◌≤◌}
use Rattle.std.specs.List.{filter, count_by, flat_map}
use Rattle.std.specs.List.{list_any}
use Rattle.std.proofs.lemmas.Bool.{or_from, or_parts}
use Rattle.std.proofs.lemmas.List.Folds.{list_any-append}
use Rattle.lf_base.specs.Sets.{Member, shrink, Differ, InOrder}
use Rattle.lf_base.proofs.ListLemmas.Members.{Member_left, Within, any_more}
use Rattle.std.proofs.lemmas.List.Sums.{sum_by-cons}
use Rattle.std.proofs.lemmas.Bool.{both_ways, false_from_ne_true}

pub data Sub {X : Type 0} : List X → List X → Type 0 where
  none : Sub [] []
  take : {x : X} {xs ys : List X} → Sub xs ys → Sub (x ∷ xs) (x ∷ ys)
  pass : {x : X} {xs ys : List X} → Sub xs ys → Sub xs (x ∷ ys)

pub sub_all : {X : Type 0} (xs : List X) → Sub xs xs
sub_all [] = none
sub_all (x ∷ xs) = take (sub_all xs)

pub sub_filter : {X : Type 0} (p : X → Bool) (xs : List X) → Sub (filter p xs) xs
sub_filter p [] = none
sub_filter p (x ∷ xs) = elim (p x) as (λ b. Sub (cond b (x ∷ filter p xs) (filter p xs)) (x ∷ xs)) [ true ↦ take (sub_filter p xs) | false ↦ pass (sub_filter p xs) ]

pub sub_then : {X : Type 0} {xs ys zs : List X} → Sub xs ys → Sub ys zs → Sub xs zs
sub_then p none = p
sub_then p (pass q) = pass (sub_then p q)
sub_then (take p) (take q) = take (sub_then p q)
sub_then (pass p) (take q) = pass (sub_then p q)

pub sub_shrink : {X : Type 0} (f : List X → X → Bool) (n : ℕ) (xs : List X) → Sub (shrink f n xs) xs
sub_shrink f zero xs = sub_all xs
sub_shrink f (suc n) xs = sub_then (sub_shrink f n (filter (f xs) xs)) (sub_filter (f xs) xs)

pub sub_within : {X : Type 0} {xs ys : List X} → Sub xs ys → Within xs ys
sub_within none x m = m
sub_within (take p) x (inl e) = inl e
sub_within (take p) x (inr m) = inr (sub_within p x m)
sub_within (pass p) x m = inr (sub_within p x m)

pub empty_sub : {X : Type 0} (xs : List X) → Sub xs [] → xs ≡ []
empty_sub [] p = refl
empty_sub (x ∷ xs) p = elim p [ ]

pub sub_map : {X Y : Type 0} (f : X → Y) {xs ys : List X} → Sub xs ys → Sub (map f xs) (map f ys)
sub_map f none = none
sub_map f (take p) = take (sub_map f p)
sub_map f (pass p) = pass (sub_map f p)

pub sub_append : {X : Type 0} {us vs xs ys : List X} → Sub us vs → Sub xs ys → Sub (us ++ xs) (vs ++ ys)
sub_append none q = q
sub_append (take p) q = take (sub_append p q)
sub_append (pass p) q = pass (sub_append p q)

pub sub_before : {X : Type 0} (us : List X) {xs ys : List X} → Sub xs ys → Sub xs (us ++ ys)
sub_before [] q = q
sub_before (u ∷ us) q = pass (sub_before us q)

pub sub_flat_map : {X Y : Type 0} (f : X → List Y) {xs ys : List X} → Sub xs ys → Sub (flat_map f xs) (flat_map f ys)
sub_flat_map f none = none
sub_flat_map f (take {x} p) = sub_append (sub_all (f x)) (sub_flat_map f p)
sub_flat_map f (pass {x} p) = sub_before (f x) (sub_flat_map f p)

-- ---- order
module _ {X : Type 0} (before : X → X → Bool) (trans : (x y z : X) → before x y ≡ true → before y z ≡ true → before x z ≡ true) where
  pub order_tail : (x : X) (xs : List X) → InOrder before (x ∷ xs) → InOrder before xs
  order_tail x [] o = tt
  order_tail x (y ∷ ys) o = o.1

  pub order_all : (x : X) (xs : List X) → InOrder before (x ∷ xs) → (y : X) → Member y xs → before x y ≡ true
  order_all x [] o y m = absurd m
  order_all x (z ∷ zs) o y (inl e) = ap (before x) (sym e) ∙ o.0
  order_all x (z ∷ zs) o y (inr m) = trans x z y o.0 (order_all z zs o.1 y m)

  pub order_cons : (x : X) (xs : List X) → ((y : X) → Member y xs → before x y ≡ true) → InOrder before xs → InOrder before (x ∷ xs)
  order_cons x [] h o = tt
  order_cons x (y ∷ ys) h o = (h y (inl refl), o)

  pub order_sub : {xs ys : List X} → Sub xs ys → InOrder before ys → InOrder before xs
  order_sub none o = o
  order_sub (take {x} {xs = us} {ys = vs} p) o = order_cons x us (λ y m. order_all x vs o y (sub_within p y m)) (order_sub p (order_tail x vs o))
  order_sub (pass {x} {ys = vs} p) o = order_sub p (order_tail x vs o)

-- ---- difference
pub differ_sub : {X : Type 0} (same : X → X → Bool) {xs ys : List X} → Sub xs ys → Differ same ys → Differ same xs
differ_sub same none d = d
differ_sub same (take {x} {xs = us} {ys = vs} p) d = (false_from_ne_true _ (λ e. both_ways _ d.0 (any_more (λ y. same y x) us vs (sub_within p) e)), differ_sub same p d.1)
differ_sub same (pass p) d = differ_sub same p d.1

-- an item that is new may come last
pub differ_push : {X : Type 0} (same : X → X → Bool) (xs : List X) (y : X) → Differ same xs → list_any (same y) xs ≡ false → Differ same (xs ++ y ∷ [])
differ_push same [] y d e = (refl, tt)
differ_push same (x ∷ xs) y d e =
    let p = or_parts (same y x) (list_any (same y) xs) e in
    (list_any-append (λ z. same z x) xs (y ∷ []) ∙ or_from _ _ d.0 (or_from _ _ p.0 refl), differ_push same xs y d.1 p.1)

-- two lists that differ together differ each by itself
pub differ_left : {X : Type 0} (same : X → X → Bool) (xs ys : List X) → Differ same (xs ++ ys) → Differ same xs
differ_left same [] ys d = tt
differ_left same (x ∷ xs) ys d = (false_from_ne_true _ (λ q. both_ways _ d.0 (any_more (λ y. same y x) xs (xs ++ ys) (λ z m. Member_left z xs ys m) q)), differ_left same xs ys d.1)

pub differ_right : {X : Type 0} (same : X → X → Bool) (xs ys : List X) → Differ same (xs ++ ys) → Differ same ys
differ_right same [] ys d = d
differ_right same (x ∷ xs) ys d = differ_right same xs ys d.1

-- ---- counts
bit_le : (a b : Bool) → (a ≡ true → b ≡ true) → cond a 1 0 ≤ cond b 1 0
bit_le true b h = omega (arith, ap {B = ℕ} (λ c. cond c 1 0) (h refl))
bit_le false b h = omega arith

pub count_sub : {X : Type 0} (p q : X → Bool) → ((x : X) → p x ≡ true → q x ≡ true) → {xs ys : List X} → Sub xs ys → count_by p xs ≤ count_by q ys
count_sub p q h none = omega arith
count_sub p q h (take {x} {xs = us} {ys = vs} s) = omega (arith, sum_by-cons (λ y. cond (p y) 1 0) x us, sum_by-cons (λ y. cond (q y) 1 0) x vs, bit_le (p x) (q x) (h x), count_sub p q h s)
count_sub p q h (pass {x} {ys = vs} s) = omega (arith, sum_by-cons (λ y. cond (q y) 1 0) x vs, count_sub p q h s)
