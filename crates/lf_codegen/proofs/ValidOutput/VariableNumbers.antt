-- The numbers of a frame's variables: each is in range, and names that differ have numbers that differ.
use Rattle.std.proofs.Common.{◌≡◌, ◌+◌, ◌<◌, Bool, true, false, cond, not, ◌&&◌, ◌||◌, List, [], ◌∷◌, length, map, refl, ap, sym}
use Rattle.std.proofs.Common.{◌∙◌, inl, inr, arith, nat_lt, nat_eq}
use Rattle.std.specs.List.{list_any, position_or_len}
use Rattle.std.proofs.lemmas.Bool.{eqb-true, eq-eqb, lt-ltb}
use Rattle.lf_base.specs.Sets.{Member}
use Rattle.lf_base.specs.Texts.{same_text}
use Rattle.lf_parser.specs.declared.name.Name.{Name}
use Rattle.lf_code.specs.ValidCode.{in_range, all_differ, are_apart}
use Rattle.lf_codegen.specs.Frames.{is_among}
use Rattle.lf_codegen.specs.Numbers.{var_number}
use Rattle.lf_codegen.proofs.ValidOutput.DistinctNames.{NamesDiffer}

pub any_within : {X : Type 0} (p : X → Bool) (xs : List X) → list_any p xs ≡ true → position_or_len p xs < length xs
any_within p [] h = absurd cc
any_within p (x ∷ xs) h = by (p x) h (any_within p xs)
  where
    by : (b : Bool) → (b || list_any p xs) ≡ true → (list_any p xs ≡ true → position_or_len p xs < length xs)
        → cond (not b) (1 + position_or_len p xs) 0 < length (x ∷ xs)
    by true h k = omega arith
    by false h k = omega (arith, k h)

pub both : (a b : Bool) → a ≡ true → b ≡ true → (a && b) ≡ true
both true b h k = k
both false b h k = absurd cc

module _ (vars : List Name) where
  pub number_within : (x : Name) → is_among x.id vars ≡ true → nat_lt (var_number vars x) (length vars) ≡ true
  number_within x h = lt-ltb (var_number vars x) (length vars) (any_within (λ y. same_text x.id y.id) vars h)

  pub numbers_within : (xs : List Name) → ((x : Name) → Member x xs → is_among x.id vars ≡ true)
      → in_range (length vars) (map (var_number vars) xs) ≡ true
  numbers_within [] h = refl
  numbers_within (x ∷ xs) h =
      both (nat_lt (var_number vars x) (length vars)) (in_range (length vars) (map (var_number vars) xs)) (number_within x (h x (inl refl)))
      (numbers_within xs (λ y m. h y (inr m)))

-- names of one number are one
one_name : (vars : List Name) (x y : Name) → is_among x.id vars ≡ true → is_among y.id vars ≡ true
    → var_number vars x ≡ var_number vars y → same_text x.id y.id ≡ true
one_name [] x y p q e = absurd cc
one_name (v ∷ vs) x y p q e =
    by (same_text x.id v.id) (same_text y.id v.id) refl refl p q e (λ r t f. one_name vs x y r t f)
  where
    by : (a b : Bool) → same_text x.id v.id ≡ a → same_text y.id v.id ≡ b → (a || is_among x.id vs) ≡ true → (b || is_among y.id vs) ≡ true
        → cond (not a) (1 + var_number vs x) 0 ≡ cond (not b) (1 + var_number vs y) 0
        → (is_among x.id vs ≡ true → is_among y.id vs ≡ true → var_number vs x ≡ var_number vs y → same_text x.id y.id ≡ true)
        → same_text x.id y.id ≡ true
    by true true f g p q e k =
        eq-eqb x.id.index y.id.index (eqb-true x.id.index v.id.index f ∙ sym (eqb-true y.id.index v.id.index g))
    by true false f g p q e k = absurd (omega (arith, e))
    by false true f g p q e k = absurd (omega (arith, e))
    by false false f g p q e k = k p q (omega (arith, e))

none_from : (b : Bool) → (b ≡ true → ⊥) → b ≡ false
none_from true h = absurd (h refl)
none_from false h = refl

neither : (a b : Bool) → a ≡ false → b ≡ false → (a || b) ≡ false
neither true b h k = absurd cc
neither false b h k = k

or_first : (a b : Bool) → (a || b) ≡ false → a ≡ false
or_first true b h = absurd cc
or_first false b h = refl

or_second : (a b : Bool) → (a || b) ≡ false → b ≡ false
or_second true b h = absurd cc
or_second false b h = h

module _ (vars : List Name) where
  number_apart : (x : Name) (xs : List Name) → is_among x.id vars ≡ true → ((y : Name) → Member y xs → is_among y.id vars ≡ true)
      → is_among x.id xs ≡ false → list_any (nat_eq (var_number vars x)) (map (var_number vars) xs) ≡ false
  number_apart x [] p h d = refl
  number_apart x (y ∷ xs) p h d =
      let names_apart : same_text x.id y.id ≡ false = or_first (same_text x.id y.id) (is_among x.id xs) d in
      let apart : nat_eq (var_number vars x) (var_number vars y) ≡ false =
      none_from (nat_eq (var_number vars x) (var_number vars y))
      (λ e. let same = one_name vars x y p (h y (inl refl)) (eqb-true (var_number vars x) (var_number vars y) e) in absurd cc) in
      neither (nat_eq (var_number vars x) (var_number vars y)) (list_any (nat_eq (var_number vars x)) (map (var_number vars) xs)) apart
      (number_apart x xs p (λ z m. h z (inr m)) (or_second (same_text x.id y.id) (is_among x.id xs) d))

  pub numbers_differ : (xs : List Name) → ((x : Name) → Member x xs → is_among x.id vars ≡ true) → NamesDiffer xs
      → all_differ (map (var_number vars) xs) ≡ true
  numbers_differ [] h d = refl
  numbers_differ (x ∷ xs) h d =
      both (not (list_any (nat_eq (var_number vars x)) (map (var_number vars) xs))) (all_differ (map (var_number vars) xs))
      (ap not (number_apart x xs (h x (inl refl)) (λ y m. h y (inr m)) d.0))
      (numbers_differ xs (λ y m. h y (inr m)) d.1)

  pub numbers_apart : (xs ys : List Name) → ((x : Name) → Member x xs → is_among x.id vars ≡ true)
      → ((y : Name) → Member y ys → is_among y.id vars ≡ true) → ((x : Name) → Member x xs → is_among x.id ys ≡ false)
      → are_apart (map (var_number vars) xs) (map (var_number vars) ys) ≡ true
  numbers_apart [] ys h k d = refl
  numbers_apart (x ∷ xs) ys h k d =
      both (not (list_any (nat_eq (var_number vars x)) (map (var_number vars) ys)))
      (are_apart (map (var_number vars) xs) (map (var_number vars) ys))
      (ap not (number_apart x ys (h x (inl refl)) k (d x (inl refl))))
      (numbers_apart xs ys (λ z m. h z (inr m)) k (λ z m. d z (inr m)))
