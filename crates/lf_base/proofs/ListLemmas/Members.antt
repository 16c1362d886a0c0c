-- Membership in lists that are joined, mapped and filtered, and lists that lie within others.
use Rattle.std.proofs.Common.{Bool, List, [], ap, false, inl, inr, map, refl, subst, sym, true, ◌++◌, ◌||◌, ◌∙◌, ◌∷◌, ◌≡◌, ◌⊎◌}
use Rattle.std.specs.List.{flat_map, list_any}
use Rattle.lf_base.specs.Sets.{Member}
use Rattle.std.proofs.Math.Bool.{or-true}

pub Member_map : {X Y : Type 0} (f : X → Y) (x : X) (xs : List X) → Member x xs → Member (f x) (map f xs)
Member_map f x [] h = h
Member_map f x (y ∷ ys) (inl e) = inl (ap f e)
Member_map f x (y ∷ ys) (inr h) = inr (Member_map f x ys h)

pub Member_of_map : {X Y : Type 0} (f : X → Y) (y : Y) (xs : List X) → Member y (map f xs) → (x : X) × (Member x xs × (f x ≡ y))
Member_of_map f y [] h = absurd h
Member_of_map f y (x ∷ xs) (inl e) = (x, (inl refl, e))
Member_of_map f y (x ∷ xs) (inr h) = let r = Member_of_map f y xs h in (r.0, (inr r.1.0, r.1.1))

pub Member_left : {X : Type 0} (x : X) (xs ys : List X) → Member x xs → Member x (xs ++ ys)
Member_left x [] ys h = absurd h
Member_left x (y ∷ xs) ys (inl e) = inl e
Member_left x (y ∷ xs) ys (inr h) = inr (Member_left x xs ys h)

pub Member_right : {X : Type 0} (x : X) (xs ys : List X) → Member x ys → Member x (xs ++ ys)
Member_right x [] ys h = h
Member_right x (y ∷ xs) ys h = inr (Member_right x xs ys h)

pub Member_flat_map : {X Y : Type 0} (f : X → List Y) (x : X) (y : Y) (xs : List X) → Member x xs → Member y (f x) → Member y (flat_map f xs)
Member_flat_map f x y [] h m = absurd h
Member_flat_map f x y (z ∷ xs) (inl e) m = Member_left y (f z) (flat_map f xs) (subst (λ w. Member y (f w)) (sym e) m)
Member_flat_map f x y (z ∷ xs) (inr h) m = Member_right y (f z) (flat_map f xs) (Member_flat_map f x y xs h m)

pub Member_of_append : {X : Type 0} (x : X) (xs ys : List X) → Member x (xs ++ ys) → Member x xs ⊎ Member x ys
Member_of_append x [] ys h = inr h
Member_of_append x (y ∷ xs) ys (inl e) = inl (inl e)
Member_of_append x (y ∷ xs) ys (inr h) = elim (Member_of_append x xs ys h) [ inl k ↦ inl (inr k) | inr k ↦ inr k ]

pub Member_of_flat_map : {X Y : Type 0} (f : X → List Y) (y : Y) (xs : List X) → Member y (flat_map f xs) → (x : X) × (Member x xs × Member y (f x))
Member_of_flat_map f y [] h = absurd h
Member_of_flat_map f y (x ∷ xs) h =
    elim (Member_of_append y (f x) (flat_map f xs) h) [
      | inl k ↦ (x, (inl refl, k))
      | inr k ↦ let r = Member_of_flat_map f y xs k in (r.0, (inr r.1.0, r.1.1))
    ]

pub any_Member : {X : Type 0} (p : X → Bool) (xs : List X) → list_any p xs ≡ true → (x : X) × (Member x xs × (p x ≡ true))
any_Member p [] e = cc
any_Member p (x ∷ xs) e =
    elim (p x) as (λ b. p x ≡ b → (b || list_any p xs) ≡ true → (y : _) × (Member y (x ∷ xs) × (p y ≡ true))) [
      | true ↦ λ h k. (x, (inl refl, h))
      | false ↦ λ h k. let r = any_Member p xs k in (r.0, (inr r.1.0, r.1.1))
    ] refl e

pub Member_any : {X : Type 0} (p : X → Bool) (x : X) (xs : List X) → Member x xs → p x ≡ true → list_any p xs ≡ true
Member_any p x [] h e = absurd h
Member_any p x (y ∷ ys) (inl same) e = ap (λ b. b || list_any p ys) (ap p same ∙ e)
Member_any p x (y ∷ ys) (inr h) e = ap (λ b. p y || b) (Member_any p x ys h e) ∙ or-true (p y)

abbrev pub Within : {X : Type 0} → List X → List X → Type 0
Within {X} xs ys = (x : X) → Member x xs → Member x ys

pub any_more : {X : Type 0} (p : X → Bool) (xs ys : List X) → Within xs ys → list_any p xs ≡ true → list_any p ys ≡ true
any_more p xs ys w e = let r = any_Member p xs e in Member_any p r.0 ys (w r.0 r.1.0) r.1.1

pub Within_append : {X : Type 0} (us bs xs ys : List X) → Within us bs → Within xs ys → Within (us ++ xs) (bs ++ ys)
Within_append us bs xs ys v w x h =
    elim (Member_of_append x us xs h) [
      | inl k ↦ Member_left x bs ys (v x k)
      | inr k ↦ Member_right x bs ys (w x k)
    ]

pub Within_flat_map : {X Y : Type 0} (f : X → List Y) (xs ys : List X) → Within xs ys → Within (flat_map f xs) (flat_map f ys)
Within_flat_map f xs ys w y h = let r = Member_of_flat_map f y xs h in Member_flat_map f r.0 y ys (w r.0 r.1.0) r.1.1
