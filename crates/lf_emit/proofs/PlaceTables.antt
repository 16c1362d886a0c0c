-- The first place of a key: after one key more, as a number, and of what a list's items are found by.
use Rattle.std.proofs.Common.{List, None, Option, Some, [], ap, arith, cond, eqb, false, get_or, is_some, length, map, not, refl, suc, sym}
use Rattle.std.proofs.Common.{take}
use Rattle.std.proofs.Common.{true, Bool, ℕ, ◌++◌, ◌+◌, ◌<◌, ◌∙◌, ◌≡◌, ◌∷◌}
use Rattle.std.specs.List.{position_or_len}
use Rattle.std.specs.Option.{option_map, option_or}
use Rattle.std.specs.Prelude.{unwrap_or}
use Rattle.std.proofs.lemmas.Bool.{eq-eqb, eqb-true}
use Rattle.std.proofs.lemmas.List.{map-append, take_more}
use Rattle.lf_emit.specs.PlaceTables.{place_in}

pub eqb_sym : (a b : ℕ) → eqb a b ≡ eqb b a
eqb_sym a b = elim (eqb a b) as (λ x. eqb a b ≡ x → x ≡ eqb b a) [
  | true ↦ λ h. sym (eq-eqb b a (sym (eqb-true a b h)))
  | false ↦ λ h. elim (eqb b a) as (λ y. eqb b a ≡ y → false ≡ y) [
    | true ↦ λ k. sym h ∙ eq-eqb a b (sym (eqb-true b a k))
    | false ↦ λ k. refl
  ] refl
] refl

or_next : (a : Option ℕ) (b : Bool) (n : ℕ)
    → option_map (λ m. suc m) (option_or a (cond b (Some n) None)) ≡ option_or (option_map (λ m. suc m) a) (cond b (Some (suc n)) None)
or_next None true n = refl
or_next None false n = refl
or_next (Some a) b n = refl

behind : (b d : Bool) (n : ℕ) (o p : Option ℕ)
    → option_map (λ m. suc m) o ≡ option_or (option_map (λ m. suc m) p) (cond d (Some (suc n)) None)
    → cond b (Some 0) (option_map (λ m. suc m) o) ≡ option_or (cond b (Some 0) (option_map (λ m. suc m) p)) (cond d (Some (suc n)) None)
behind true d n o p h = refl
behind false d n o p h = h

place_last : (xs : List ℕ) (y k : ℕ) → place_in (xs ++ y ∷ []) k ≡ option_or (place_in xs k) (cond (eqb k y) (Some (length xs)) None)
place_last [] y k = refl
place_last (x ∷ xs) y k =
    behind (eqb k x) (eqb k y) (length xs) (place_in (xs ++ y ∷ []) k) (place_in xs k)
    (ap (option_map (λ n. suc n)) (place_last xs y k) ∙ or_next (place_in xs k) (eqb k y) (length xs))

with_none : (a : Option ℕ) → option_or a None ≡ a
with_none None = refl
with_none (Some a) = refl

with_some : (a b : Option ℕ) → is_some a ≡ true → option_or a b ≡ a
with_some None b h = absurd cc
with_some (Some a) b h = refl

no_first : (a b : Option ℕ) → is_some a ≡ false → option_or a b ≡ b
no_first None b h = refl
no_first (Some a) b h = absurd cc

-- a new key
pub key_added : (xs : List ℕ) (y k n : ℕ) → n ≡ length xs → is_some (place_in xs y) ≡ false
    → cond (eqb y k) (Some n) (place_in xs k) ≡ place_in (xs ++ y ∷ []) k
key_added xs y k n e h =
    ap (λ b. cond b (Some n) (place_in xs k)) (eqb_sym y k) ∙ by (eqb k y) refl ∙ sym (place_last xs y k)
  where
    by : (b : Bool) → eqb k y ≡ b → cond b (Some n) (place_in xs k) ≡ option_or (place_in xs k) (cond b (Some (length xs)) None)
    by true t = ap Some e ∙ sym (no_first (place_in xs k) (Some (length xs)) (ap (λ m. is_some (place_in xs m)) (eqb-true k y t) ∙ h))
    by false t = sym (with_none (place_in xs k))

-- a key that is there
pub key_kept : (xs : List ℕ) (y k : ℕ) → is_some (place_in xs y) ≡ true → place_in xs k ≡ place_in (xs ++ y ∷ []) k
key_kept xs y k h = by (eqb k y) refl ∙ sym (place_last xs y k)
  where
    by : (b : Bool) → eqb k y ≡ b → place_in xs k ≡ option_or (place_in xs k) (cond b (Some (length xs)) None)
    by true t = sym (with_some (place_in xs k) (Some (length xs)) (ap (λ m. is_some (place_in xs m)) (eqb-true k y t) ∙ h))
    by false t = sym (with_none (place_in xs k))

next_or : (b : Bool) (a : Option ℕ) (n m : ℕ) → unwrap_or a n ≡ m
    → unwrap_or (cond b (Some 0) (option_map (λ m. suc m) a)) (suc n) ≡ cond (not b) (1 + m) 0
next_or true a n m h = refl
next_or false None n m h = omega (arith, h)
next_or false (Some a) n m h = omega (arith, h)

-- the place as a number
pub place_or_len : (xs : List ℕ) (k : ℕ) → unwrap_or (place_in xs k) (length xs) ≡ position_or_len (eqb k) xs
place_or_len [] k = refl
place_or_len (x ∷ xs) k = next_or (eqb k x) (place_in xs k) (length xs) (position_or_len (eqb k) xs) (place_or_len xs k)

-- the place of what a list's items are found by
pub place_by : {X : Type 0} (key : X → ℕ) (xs : List X) (k : ℕ)
    → position_or_len (eqb k) (map key xs) ≡ position_or_len (λ x. eqb k (key x)) xs
place_by key [] k = refl
place_by key (x ∷ xs) k = ap (λ n. cond (not (eqb k (key x))) (1 + n) 0) (place_by key xs k)

pub place_turned : {X : Type 0} (key : X → ℕ) (xs : List X) (k : ℕ)
    → position_or_len (eqb k) (map key xs) ≡ position_or_len (λ x. eqb (key x) k) xs
place_turned key [] k = refl
place_turned key (x ∷ xs) k =
    ap (λ n. cond (not (eqb k (key x))) (1 + n) 0) (place_turned key xs k)
    ∙ ap (λ b. cond (not b) (1 + position_or_len (λ z. eqb (key z) k) xs) 0) (eqb_sym k (key x))

-- the keys of the items so far, and of one more
pub keys_next : {X : Type 0} (key : X → ℕ) (xs : List X) (i : ℕ) (d : X) → i < length xs
    → map key (take i xs) ++ key (get_or xs i d) ∷ [] ≡ map key (take (i + 1) xs)
keys_next key xs i d h = sym (ap (map key) (take_more xs i d h) ∙ map-append key (take i xs) (get_or xs i d ∷ []))
