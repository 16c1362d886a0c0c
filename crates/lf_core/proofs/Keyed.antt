-- Look-ups by cown after each change.
use Rattle.std.proofs.Common.{◌≡◌, Bool, true, false, cond, not, eqb, ◌&&◌, ◌||◌, List, [], ◌∷◌, ◌++◌, Option, Some, None, refl, ap, sym, ◌∙◌, inl, inr}
use Rattle.lf_core.proofs.Tests.{no_both, false_by}
use Rattle.std.proofs.lemmas.Bool.Decides.{Decides-and, Decides-eqb, Decides-like}
use Rattle.std.specs.Bool.{Decides}
use Rattle.std.specs.List.{filter}
use Rattle.lf_base.specs.declared.ids.CownId.{CownId}
use Rattle.lf_base.specs.Names.{same_cown}
use Rattle.lf_base.specs.Sets.{Member}
use Rattle.lf_core.specs.Keyed.{cown_below, at, put, put_all, without, found, pick}
use Rattle.lf_queue.specs.Ready.{among}

-- ---- cowns
pub Decides-same_cown : (a b : CownId) → Decides (same_cown a b) (a ≡ b)
Decides-same_cown a b =
    Decides-like (same_cown a b) (λ p. λ i. record { birth = p.0 i; seq = p.1 i }) (λ e. (ap (λ (x : CownId). x.birth) e, ap (λ (x : CownId). x.seq) e))
    (Decides-and (eqb a.birth b.birth) (eqb a.seq b.seq) (Decides-eqb a.birth b.birth) (Decides-eqb a.seq b.seq))

pub cown_is : (a b : CownId) → same_cown a b ≡ true → a ≡ b
cown_is a b = (Decides-same_cown a b).0

pub cowns_one : (a b : CownId) → a ≡ b → same_cown a b ≡ true
cowns_one a b = (Decides-same_cown a b).1

pub cowns_apart : (a b : CownId) → (a ≡ b → ⊥) → same_cown a b ≡ false
cowns_apart a b h = false_by _ (λ e. h (cown_is a b e))

pub cown_not : (a b : CownId) → same_cown a b ≡ false → a ≡ b → ⊥
cown_not a b e h = no_both _ (cowns_one a b h) e

-- ---- look-ups
abbrev pub or_at : {C : Type 0} → Option C → Option C → Option C
or_at None o = o
or_at (Some v) o = Some v

none_both : {C : Type 0} (b : Bool) → (λ (o : Option C). o ≡ cond b o o) None
none_both true = refl
none_both false = refl

pub at_put : {C : Type 0} (c : CownId) (v : C) (xs : List (CownId × C)) (d : CownId) → at (put c v xs) d ≡ cond (same_cown c d) (Some v) (at xs d)
at_put c v [] d = refl
at_put c v (x ∷ xs) d =
    elim (same_cown x.0 c) as (λ b. same_cown x.0 c ≡ b → at (cond b ((c, v) ∷ xs) (cond (cown_below c x.0) ((c, v) ∷ x ∷ xs) (x ∷ put c v xs))) d ≡ cond (same_cown c d) (Some v) (at (x ∷ xs) d)) [
      | true ↦ λ e. rw (cown_is x.0 c e) (elim (same_cown c d) as (λ b. cond b (Some v) (at xs d) ≡ cond b (Some v) (cond b (Some (x.1)) (at xs d))) [ true ↦ refl | false ↦ refl ])
      | false ↦ λ e. elim (cown_below c x.0) as (λ b. at (cond b ((c, v) ∷ x ∷ xs) (x ∷ put c v xs)) d ≡ cond (same_cown c d) (Some v) (at (x ∷ xs) d)) [
        | true ↦ refl
        | false ↦ elim (same_cown x.0 d) as (λ b. same_cown x.0 d ≡ b → cond b (Some (x.1)) (at (put c v xs) d) ≡ cond (same_cown c d) (Some v) (cond b (Some (x.1)) (at xs d))) [
          | true ↦ λ g. sym (ap (λ b. cond b (Some v) (Some (x.1))) (cowns_apart c d (λ h. cown_not x.0 c e (cown_is x.0 d g ∙ sym h))))
          | false ↦ λ g. at_put c v xs d
        ] refl
      ]
    ] refl

pub at_put_all : {C : Type 0} (ns xs : List (CownId × C)) (d : CownId) → at (put_all ns xs) d ≡ or_at (at ns d) (at xs d)
at_put_all [] xs d = refl
at_put_all (n ∷ ns) xs d =
    at_put n.0 n.1 (put_all ns xs) d ∙ elim (same_cown n.0 d) as (λ b. cond b (Some (n.1)) (at (put_all ns xs) d) ≡ or_at (cond b (Some (n.1)) (at ns d)) (at xs d)) [ true ↦ refl | false ↦ at_put_all ns xs d ]

pub at_append : {C : Type 0} (xs ys : List (CownId × C)) (d : CownId) → at (xs ++ ys) d ≡ or_at (at xs d) (at ys d)
at_append [] ys d = refl
at_append (x ∷ xs) ys d =
    elim (same_cown x.0 d) as (λ b. cond b (Some (x.1)) (at (xs ++ ys) d) ≡ or_at (cond b (Some (x.1)) (at xs d)) (at ys d)) [ true ↦ refl | false ↦ at_append xs ys d ]

pub at_without : {C : Type 0} (ns : List CownId) (xs : List (CownId × C)) (d : CownId) → at (without ns xs) d ≡ cond (among ns d) None (at xs d)
at_without ns [] d = none_both (among ns d)
at_without ns (x ∷ xs) d =
    elim (same_cown x.0 d) as (λ b. same_cown x.0 d ≡ b → at (cond (not (among ns x.0)) (x ∷ without ns xs) (without ns xs)) d ≡ cond (among ns d) None (cond b (Some (x.1)) (at xs d))) [
      | true ↦ λ e.
          let here : at (cond (not (among ns d)) (x ∷ without ns xs) (without ns xs)) d ≡ cond (among ns d) None (Some (x.1)) =
          elim (among ns d) as (λ b. among ns d ≡ b → at (cond (not b) (x ∷ without ns xs) (without ns xs)) d ≡ cond b None (Some (x.1))) [
            | true ↦ λ h. at_without ns xs d ∙ ap (λ b. cond b None (at xs d)) h
            | false ↦ λ h. ap (λ b. cond b (Some (x.1)) (at (without ns xs) d)) e
          ] refl
          in ap (λ n. at (cond (not (among ns n)) (x ∷ without ns xs) (without ns xs)) d) (cown_is x.0 d e) ∙ here
      | false ↦ λ e. elim (not (among ns x.0)) as (λ b. at (cond b (x ∷ without ns xs) (without ns xs)) d ≡ cond (among ns d) None (at xs d)) [
        | true ↦ ap (λ b. cond b (Some (x.1)) (at (without ns xs) d)) e ∙ at_without ns xs d
        | false ↦ at_without ns xs d
      ]
    ] refl

at_found : {C : Type 0} (c : CownId) (o : Option C) (d : CownId) → at (found c o) d ≡ cond (same_cown c d) o None
at_found c None d = none_both (same_cown c d)
at_found c (Some v) d = refl

or_same : {C : Type 0} (o : Option C) → or_at o o ≡ o
or_same None = refl
or_same (Some v) = refl

or_none : {C : Type 0} (o : Option C) → or_at o None ≡ o
or_none None = refl
or_none (Some v) = refl

pub at_pick : {C : Type 0} (cs : List CownId) (xs : List (CownId × C)) (d : CownId) → at (pick cs xs) d ≡ cond (among cs d) (at xs d) None
at_pick [] xs d = refl
at_pick {C} (c ∷ cs) xs d =
    at_append (found c (at xs c)) (pick cs xs) d
    ∙ ap (λ o. or_at o (at (pick cs xs) d)) (at_found c (at xs c) d)
    ∙ ap (or_at (cond (same_cown c d) (at xs c) None)) (at_pick cs xs d)
    ∙ elim (same_cown c d) as (λ b. same_cown c d ≡ b → or_at (cond b (at xs c) None) (cond (among cs d) (at xs d) None) ≡ cond (b || among cs d) (at xs d) None) [
      | true ↦ λ e. rw (cown_is c d e) (elim (among cs d) as (λ b. or_at (at xs d) (cond b (at xs d) None) ≡ at xs d) [ true ↦ or_same (at xs d) | false ↦ or_none (at xs d) ])
      | false ↦ λ e. refl
    ] refl

pub pick_same : {C : Type 0} (cs : List CownId) (xs ys : List (CownId × C)) → ((c : CownId) → among cs c ≡ true → at xs c ≡ at ys c) → pick cs xs ≡ pick cs ys
pick_same [] xs ys h = refl
pick_same (c ∷ cs) xs ys h =
    let here : at xs c ≡ at ys c = h c (ap (λ b. b || among cs c) (cowns_one c c refl)) in
    let rest : pick cs xs ≡ pick cs ys = pick_same cs xs ys (λ d m. h d (elim (same_cown c d) as (λ b. (b || among cs d) ≡ true) [ true ↦ refl | false ↦ m ])) in
    λ i. found c (here i) ++ rest i

-- ---- membership
pub among_Member : (cs : List CownId) (c : CownId) → among cs c ≡ true → Member c cs
among_Member [] c e = cc
among_Member (d ∷ ds) c e =
    elim (same_cown d c) as (λ b. same_cown d c ≡ b → (b || among ds c) ≡ true → Member c (d ∷ ds)) [
      | true ↦ λ h k. inl (cown_is d c h)
      | false ↦ λ h k. inr (among_Member ds c k)
    ] refl e

pub Member_among : (cs : List CownId) (c : CownId) → Member c cs → among cs c ≡ true
Member_among [] c m = absurd m
Member_among (d ∷ ds) c (inl e) = ap (λ b. (b || among ds c)) (cowns_one d c e)
Member_among (d ∷ ds) c (inr m) = elim (same_cown d c) as (λ b. (b || among ds c) ≡ true) [ true ↦ refl | false ↦ Member_among ds c m ]

pub at_key : {C : Type 0} (xs : List (CownId × C)) (c : CownId) (v : C) → at xs c ≡ Some v → Member (c, v) xs
at_key [] c v e = cc
at_key {C} (x ∷ xs) c v e =
    elim (same_cown x.0 c) as (λ b. same_cown x.0 c ≡ b → cond b (Some (x.1)) (at xs c) ≡ Some v → Member (c, v) (x ∷ xs)) [
      | true ↦ λ h k. let same : x.1 ≡ v = cc in inl (λ i. (cown_is x.0 c h i, same i))
      | false ↦ λ h k. inr (at_key xs c v k)
    ] refl e

-- ---- filters
module _ {X : Type 0} where
  pub filter_filter : (p q r : X → Bool) (xs : List X) → ((x : X) → Member x xs → (q x && p x) ≡ r x) → filter p (filter q xs) ≡ filter r xs
  filter_filter p q r [] h = refl
  filter_filter p q r (x ∷ xs) h =
      let rest : filter p (filter q xs) ≡ filter r xs = filter_filter p q r xs (λ y m. h y (inr m)) in
      elim (q x) as (λ b. (b && p x) ≡ r x → filter p (cond b (x ∷ filter q xs) (filter q xs)) ≡ cond (r x) (x ∷ filter r xs) (filter r xs)) [
        | true ↦ λ e. λ i. cond (e i) (x ∷ rest i) (rest i)
        | false ↦ λ e. rest ∙ ap (λ b. cond b (x ∷ filter r xs) (filter r xs)) e
      ] (h x (inl refl))

  pub filter_all : (p : X → Bool) (xs : List X) → ((x : X) → Member x xs → p x ≡ true) → filter p xs ≡ xs
  filter_all p [] h = refl
  filter_all p (x ∷ xs) h = λ i. cond (h x (inl refl) i) (x ∷ filter_all p xs (λ y m. h y (inr m)) i) (filter_all p xs (λ y m. h y (inr m)) i)
