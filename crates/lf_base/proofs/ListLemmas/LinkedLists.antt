-- Lists that links spell: what a node put last, a node that goes, and links that stay do to them.
use Rattle.std.proofs.Common.{◌≡◌, ℕ, zero, suc, ◌+◌, ◌≤◌, Bool, true, false, not, ◌||◌, cond, List, [], ◌∷◌, ◌++◌, length, Option, Some, None, refl, ap, sym, ◌∙◌, arith, subst}
use Rattle.std.proofs.Math.Bool.{or-false, or-true}
use Rattle.std.specs.Bool.{Decides}
use Rattle.std.specs.List.{slice_get}
use Rattle.std.specs.Option.{option_map}
use Rattle.lf_base.specs.declared.links.Link.{Link}
use Rattle.lf_base.specs.Links.{NodesDiffer, link, head_or, last_or, LinksSpell, next_of, next_from, walk, to_next, to_prev, Lacks, LacksAt, relinked, unlinked, has, without, after, IsList, first_after_push, or_else, first_after_removal, last_after_removal}

pub or_none : (a b : Bool) → (a || b) ≡ false → (a ≡ false) × (b ≡ false)
or_none true b e = cc
or_none false b e = (refl, e)

module _ {N : Type 0} where
  pub LinksSpell-append : (get : N → Option (Link N)) (b : Option N) (xs ys : List N) (a : Option N)
      → LinksSpell get b xs (head_or ys a) → LinksSpell get (last_or b xs) ys a → LinksSpell get b (xs ++ ys) a
  LinksSpell-append get b [] ys a h k = k
  LinksSpell-append get b (x ∷ []) ys a h k = (h.0, k)
  LinksSpell-append get b (x ∷ y ∷ xs) ys a h k = (h.0, LinksSpell-append get (Some x) (y ∷ xs) ys a h.1 k)

  pub LinksSpell-left : (get : N → Option (Link N)) (b : Option N) (xs ys : List N) (a : Option N)
      → LinksSpell get b (xs ++ ys) a → LinksSpell get b xs (head_or ys a)
  LinksSpell-left get b [] ys a h = tt
  LinksSpell-left get b (x ∷ []) ys a h = (h.0, tt)
  LinksSpell-left get b (x ∷ y ∷ xs) ys a h = (h.0, LinksSpell-left get (Some x) (y ∷ xs) ys a h.1)

  pub LinksSpell-right : (get : N → Option (Link N)) (b : Option N) (xs ys : List N) (a : Option N)
      → LinksSpell get b (xs ++ ys) a → LinksSpell get (last_or b xs) ys a
  LinksSpell-right get b [] ys a h = h
  LinksSpell-right get b (x ∷ xs) ys a h = LinksSpell-right get (Some x) xs ys a h.1

  pub walk-LinksSpell : (n : ℕ) (get : N → Option (Link N)) (b : Option N) (xs : List N) → LinksSpell get b xs None → length xs ≤ n → walk n get (head_or xs None) ≡ xs
  walk-LinksSpell zero get b [] h l = refl
  walk-LinksSpell zero get b (x ∷ xs) h l = absurd (omega arith)
  walk-LinksSpell (suc n) get b [] h l = refl
  walk-LinksSpell (suc n) get b (x ∷ xs) h l = ap (λ t. x ∷ walk n get (next_of t)) h.0 ∙ ap (λ t. x ∷ t) (walk-LinksSpell n get (Some x) xs h.1 (omega arith))

  pub first_is : (xs : List N) → slice_get xs 0 ≡ head_or xs None
  first_is [] = refl
  first_is (x ∷ xs) = refl

  -- the node at the next place is the one after that at this place
  pub LinksSpell-step : (get : N → Option (Link N)) (b : Option N) (xs : List N) (i : ℕ) → LinksSpell get b xs None → slice_get xs (suc i) ≡ next_from get (slice_get xs i)
  LinksSpell-step get b [] i h = refl
  LinksSpell-step get b (x ∷ xs) zero h = first_is xs ∙ sym (ap next_of h.0)
  LinksSpell-step get b (x ∷ xs) (suc i) h = LinksSpell-step get (Some x) xs i h.1

  last_some : (x : N) (xs : List N) → (z : N) × (last_or (Some x) xs ≡ Some z)
  last_some x [] = (x, refl)
  last_some x (y ∷ ys) = last_some y ys

  last_or_append : (c : Option N) (xs : List N) (y : N) (ys : List N) → last_or c (xs ++ y ∷ ys) ≡ last_or (Some y) ys
  last_or_append c [] y ys = refl
  last_or_append c (x ∷ xs) y ys = last_or_append (Some x) xs y ys

  last_or_nil : (c : Option N) (xs : List N) → last_or c (xs ++ []) ≡ last_or c xs
  last_or_nil c [] = refl
  last_or_nil c (x ∷ xs) = last_or_nil (Some x) xs

  first_pushed : (xs : List N) (x : N) → first_after_push x (head_or xs None) ≡ head_or (xs ++ x ∷ []) None
  first_pushed [] x = refl
  first_pushed (y ∷ xs) x = refl

  first_cut : (xs ys : List N) (x : N) → or_else (last_or None xs) (head_or (xs ++ x ∷ ys) None) (head_or ys None) ≡ head_or (xs ++ ys) None
  first_cut [] ys x = refl
  first_cut (y ∷ xs) ys x = ap (λ t. or_else t (Some y) (head_or ys None)) (last_some y xs).1

  last_cut : (xs ys : List N) (x : N) → or_else (head_or ys None) (last_or None (xs ++ x ∷ ys)) (last_or None xs) ≡ last_or None (xs ++ ys)
  last_cut xs [] x = sym (last_or_nil None xs)
  last_cut xs (y ∷ ys) x = last_or_append None xs x (y ∷ ys) ∙ sym (last_or_append None xs y ys)

  length_middle : (xs ys : List N) (x : N) → length (xs ++ x ∷ ys) ≡ suc (length (xs ++ ys))
  length_middle [] ys x = refl
  length_middle (y ∷ xs) ys x = ap suc (length_middle xs ys x)

  pub length_push : (xs : List N) (x : N) → length (xs ++ x ∷ []) ≡ suc (length xs)
  length_push [] x = refl
  length_push (y ∷ xs) x = ap suc (length_push xs x)

  module _ (same : N → N → Bool) (decides : (a b : N) → Decides (same a b) (a ≡ b)) where
    -- links that agree on a list spell it alike
    pub LinksSpell-kept : (get new : N → Option (Link N)) (b : Option N) (xs : List N) (a : Option N) (x : N) → Lacks same x xs
        → ((q : N) → same x q ≡ false → new q ≡ get q) → LinksSpell get b xs a → LinksSpell new b xs a
    LinksSpell-kept get new b [] a x l k h = tt
    LinksSpell-kept get new b (y ∷ ys) a x l k h = (k y l.0 ∙ h.0, LinksSpell-kept get new (Some y) ys a x l.1 k h.1)

    relinked_same : (get : N → Option (Link N)) (x : N) (f : Link N → Link N) (l : Link N) → get x ≡ Some l → relinked same get (Some x) f x ≡ Some (f l)
    relinked_same get x f l e = ap (λ b. cond b (option_map f (get x)) (get x)) ((decides x x).1 refl) ∙ ap (option_map f) e

    relinked_other : (get : N → Option (Link N)) (x : N) (f : Link N → Link N) (q : N) → same x q ≡ false → relinked same get (Some x) f q ≡ get q
    relinked_other get x f q e = ap (λ b. cond b (option_map f (get q)) (get q)) e

    pub flipped : (x y : N) → same x y ≡ false → same y x ≡ false
    flipped x y e = elim (same y x) as (λ b. same y x ≡ b → b ≡ false) [
      | true ↦ λ h. let k : same x y ≡ true = (decides x y).1 (sym ((decides y x).0 h)) in cc (k, e)
      | false ↦ λ h. refl
    ] refl

    relinked_last : (get : N → Option (Link N)) (f : Link N → Link N) (x y : N) (ys : List N) → Lacks same x (y ∷ ys) → relinked same get (last_or (Some y) ys) f x ≡ get x
    relinked_last get f x y [] l = relinked_other get y f x (flipped x y l.0)
    relinked_last get f x y (z ∷ zs) l = relinked_last get f x z zs l.1

    -- the last of the list gets another node after it
    pub LinksSpell-to_next : (get : N → Option (Link N)) (b c : Option N) (xs : List N) (a new : Option N) → NodesDiffer same xs → LinksSpell get b xs a
        → LinksSpell (relinked same get (last_or c xs) (to_next new)) b xs new
    LinksSpell-to_next get b c [] a new d h = tt
    LinksSpell-to_next get b c (x ∷ []) a new d h = (relinked_same get x (to_next new) (link b a) h.0, tt)
    LinksSpell-to_next get b c (x ∷ y ∷ ys) a new d h = (relinked_last get (to_next new) x y ys d.0 ∙ h.0, LinksSpell-to_next get (Some x) (Some x) (y ∷ ys) a new d.1 h.1)

    pub LinksSpell-relinked : (get : N → Option (Link N)) (f : Link N → Link N) (at : Option N) (b : Option N) (xs : List N) (a : Option N) → LacksAt same at xs
        → LinksSpell get b xs a → LinksSpell (relinked same get at f) b xs a
    LinksSpell-relinked get f None b xs a l h = h
    LinksSpell-relinked get f (Some x) b xs a l h = LinksSpell-kept get (relinked same get (Some x) f) b xs a x l (λ q e. relinked_other get x f q e) h

    -- the first of the list gets another node before it
    pub LinksSpell-to_prev : (get : N → Option (Link N)) (b c : Option N) (xs : List N) (a new : Option N) → NodesDiffer same xs → LinksSpell get b xs a
        → LinksSpell (relinked same get (head_or xs c) (to_prev new)) new xs a
    LinksSpell-to_prev get b c [] a new d h = tt
    LinksSpell-to_prev get b c (x ∷ xs) a new d h = (relinked_same get x (to_prev new) (link b (head_or xs a)) h.0, LinksSpell-relinked get (to_prev new) (Some x) (Some x) xs a d.0 h.1)

    Lacks-left : (x : N) (xs ys : List N) → Lacks same x (xs ++ ys) → Lacks same x xs
    Lacks-left x [] ys l = tt
    Lacks-left x (y ∷ xs) ys l = (l.0, Lacks-left x xs ys l.1)

    Lacks-right : (x : N) (xs ys : List N) → Lacks same x (xs ++ ys) → Lacks same x ys
    Lacks-right x [] ys l = l
    Lacks-right x (y ∷ xs) ys l = Lacks-right x xs ys l.1

    Lacks-append : (x : N) (xs ys : List N) → Lacks same x xs → Lacks same x ys → Lacks same x (xs ++ ys)
    Lacks-append x [] ys l m = m
    Lacks-append x (y ∷ xs) ys l m = (l.0, Lacks-append x xs ys l.1 m)

    Differ-left : (xs ys : List N) → NodesDiffer same (xs ++ ys) → NodesDiffer same xs
    Differ-left [] ys d = tt
    Differ-left (x ∷ xs) ys d = (Lacks-left x xs ys d.0, Differ-left xs ys d.1)

    Differ-right : (xs ys : List N) → NodesDiffer same (xs ++ ys) → NodesDiffer same ys
    Differ-right [] ys d = d
    Differ-right (x ∷ xs) ys d = Differ-right xs ys d.1

    last_lacks : (c : Option N) (xs ys : List N) → LacksAt same c ys → NodesDiffer same (xs ++ ys) → LacksAt same (last_or c xs) ys
    last_lacks c [] ys l d = l
    last_lacks c (x ∷ xs) ys l d = last_lacks (Some x) xs ys (Lacks-right x xs ys d.0) d.1

    mid_lacks : (xs ys : List N) (y : N) → NodesDiffer same (xs ++ y ∷ ys) → Lacks same y xs
    mid_lacks [] ys y d = tt
    mid_lacks (x ∷ xs) ys y d = (flipped x y (Lacks-right x xs (y ∷ ys) d.0).0, mid_lacks xs ys y d.1)

    pub Differ-without : (xs ys : List N) (y : N) → NodesDiffer same (xs ++ y ∷ ys) → NodesDiffer same (xs ++ ys)
    Differ-without [] ys y d = d.1
    Differ-without (x ∷ xs) ys y d = (Lacks-append x xs ys (Lacks-left x xs (y ∷ ys) d.0) (Lacks-right x xs (y ∷ ys) d.0).1, Differ-without xs ys y d.1)

    head_lacks : (xs ys : List N) → NodesDiffer same (xs ++ ys) → LacksAt same (head_or ys None) xs
    head_lacks xs [] d = tt
    head_lacks xs (y ∷ ys) d = mid_lacks xs ys y d

    -- a node in the middle is taken out
    pub LinksSpell-unlinked : (get : N → Option (Link N)) (xs ys : List N) (x : N) → NodesDiffer same (xs ++ x ∷ ys) → LinksSpell get None (xs ++ x ∷ ys) None
        → LinksSpell (unlinked same get (last_or None xs) (head_or ys None)) None (xs ++ ys) None
    LinksSpell-unlinked get xs ys x d h =
        let p = last_or None xs in
        let n = head_or ys None in
        let one = relinked same get p (to_next n) in
        let rest = Differ-without xs ys x d in
        let left = LinksSpell-to_next get None None xs (Some x) n (Differ-left xs ys rest) (LinksSpell-left get None xs (x ∷ ys) None h) in
        let right = LinksSpell-relinked get (to_next n) p (Some x) ys None (last_lacks None xs ys tt rest) (LinksSpell-right get None xs (x ∷ ys) None h).1 in
        LinksSpell-append (unlinked same get p n) None xs ys None
        (LinksSpell-relinked one (to_prev p) n None xs n (head_lacks xs ys rest) left)
        (LinksSpell-to_prev one (Some x) None ys None p (Differ-right xs ys rest) right)

    -- what the node in the middle has as its neighbours
    pub LinksSpell-at : (get : N → Option (Link N)) (xs ys : List N) (x : N) → LinksSpell get None (xs ++ x ∷ ys) None → get x ≡ Some (link (last_or None xs) (head_or ys None))
    LinksSpell-at get xs ys x h = (LinksSpell-right get None xs (x ∷ ys) None h).0

    -- a new node is put last
    pub LinksSpell-pushed : (get new : N → Option (Link N)) (xs : List N) (x : N) → NodesDiffer same xs → Lacks same x xs → LinksSpell get None xs None
        → new x ≡ Some (link (last_or None xs) None) → ((q : N) → same x q ≡ false → new q ≡ relinked same get (last_or None xs) (to_next (Some x)) q) → LinksSpell new None (xs ++ x ∷ []) None
    LinksSpell-pushed get new xs x d l h e k =
        LinksSpell-append new None xs (x ∷ []) None
        (LinksSpell-kept (relinked same get (last_or None xs) (to_next (Some x))) new None xs (Some x) x l k (LinksSpell-to_next get None None xs None (Some x) d h))
        (e, tt)

    itself : (x : N) → same x x ≡ true
    itself x = (decides x x).1 refl

    pub Lacks-from_has : (x : N) (xs : List N) → has same x xs ≡ false → Lacks same x xs
    Lacks-from_has x [] e = tt
    Lacks-from_has x (y ∷ ys) e = let p = or_none (same x y) (has same x ys) e in (p.0, Lacks-from_has x ys p.1)

    pub has-from_Lacks : (x : N) (xs : List N) → Lacks same x xs → has same x xs ≡ false
    has-from_Lacks x [] l = refl
    has-from_Lacks x (y ∷ ys) l = ap (λ b. b || has same x ys) l.0 ∙ has-from_Lacks x ys l.1

    pub has-append : (q : N) (xs ys : List N) → has same q (xs ++ ys) ≡ (has same q xs || has same q ys)
    has-append q [] ys = refl
    has-append q (x ∷ xs) ys = elim (same q x) as (λ b. (b || has same q (xs ++ ys)) ≡ ((b || has same q xs) || has same q ys)) [
      | true ↦ refl
      | false ↦ has-append q xs ys
    ]

    lacks_push : (x : N) (xs : List N) (y : N) → Lacks same x xs → same x y ≡ false → Lacks same x (xs ++ y ∷ [])
    lacks_push x [] y l e = (e, tt)
    lacks_push x (z ∷ zs) y l e = (l.0, lacks_push x zs y l.1 e)

    Differ-push : (xs : List N) (y : N) → NodesDiffer same xs → Lacks same y xs → NodesDiffer same (xs ++ y ∷ [])
    Differ-push [] y d l = (tt, tt)
    Differ-push (x ∷ xs) y d l = (lacks_push x xs y d.0 (flipped y x l.0), Differ-push xs y d.1 l.1)

    pub without-lacking : (x : N) (xs : List N) → Lacks same x xs → without same x xs ≡ xs
    without-lacking x [] l = refl
    without-lacking x (y ∷ ys) l = ap (λ b. cond (not b) (y ∷ without same x ys) (without same x ys)) l.0 ∙ ap (λ t. y ∷ t) (without-lacking x ys l.1)

    without-middle : (x : N) (xs ys : List N) → NodesDiffer same (xs ++ x ∷ ys) → without same x (xs ++ x ∷ ys) ≡ xs ++ ys
    without-middle x [] ys d = ap (λ b. cond (not b) (x ∷ without same x ys) (without same x ys)) (itself x) ∙ without-lacking x ys d.0
    without-middle x (y ∷ xs) ys d =
        ap (λ b. cond (not b) (y ∷ without same x (xs ++ x ∷ ys)) (without same x (xs ++ x ∷ ys))) (flipped y x (Lacks-right y xs (x ∷ ys) d.0).0) ∙ ap (λ t. y ∷ t) (without-middle x xs ys d.1)

    middle_lacks : (x : N) (xs ys : List N) → NodesDiffer same (xs ++ x ∷ ys) → Lacks same x (xs ++ ys)
    middle_lacks x [] ys d = d.0
    middle_lacks x (y ∷ xs) ys d = (flipped y x (Lacks-right y xs (x ∷ ys) d.0).0, middle_lacks x xs ys d.1)

    record SplitAtNode (x : N) (xs : List N) : Type 0 where
      prefix : List N
      rest : List N
      is : xs ≡ prefix ++ x ∷ rest

    split : (x : N) (xs : List N) → has same x xs ≡ true → SplitAtNode x xs
    split x [] h = cc
    split x (y ∷ ys) h = elim (same x y) as (λ b. same x y ≡ b → (b || has same x ys) ≡ true → SplitAtNode x (y ∷ ys)) [
      | true ↦ λ t _. record { prefix = []; rest = ys; is = ap (λ z. z ∷ ys) (sym ((decides x y).0 t)) }
      | false ↦ λ _ k. let s = split x ys k in record { prefix = y ∷ s.prefix; rest = s.rest; is = ap (λ t. y ∷ t) s.is }
    ] refl h

    LinksSpell-among : (get new : N → Option (Link N)) (b : Option N) (xs : List N) (a : Option N) → ((q : N) → has same q xs ≡ true → new q ≡ get q) → LinksSpell get b xs a → LinksSpell new b xs a
    LinksSpell-among get new b [] a k h = tt
    LinksSpell-among get new b (x ∷ xs) a k h = (
      k x (ap (λ c. c || has same x xs) (itself x)) ∙ h.0,
      LinksSpell-among get new (Some x) xs a (λ q e. k q (ap (λ c. same q x || c) e ∙ or-true (same q x))) h.1,
    )

    has-last : (y : N) (xs : List N) (x : N) → last_or (Some y) xs ≡ Some x → has same x (y ∷ xs) ≡ true
    has-last y [] x e = let p : y ≡ x = cc in ap (λ u. same x u || false) p ∙ ap (λ b. b || false) (itself x)
    has-last y (z ∷ zs) x e = ap (λ b. same x y || b) (has-last z zs x e) ∙ or-true (same x y)

    has-end : (xs : List N) (x : N) → last_or None xs ≡ Some x → has same x xs ≡ true
    has-end [] x e = cc
    has-end (y ∷ xs) x e = has-last y xs x e

    has-head : (xs : List N) (x : N) → head_or xs None ≡ Some x → has same x xs ≡ true
    has-head [] x e = cc
    has-head (y ∷ xs) x e = let p : y ≡ x = cc in ap (λ u. same x u || has same x xs) p ∙ ap (λ b. b || has same x xs) (itself x)

    -- a node that is no member is none of the members
    pub members_apart : (member : N → Bool) (x q : N) → member x ≡ false → member q ≡ true → same x q ≡ false
    members_apart member x q none is = elim (same x q) as (λ b. same x q ≡ b → b ≡ false) [
      | true ↦ λ t. let k : member x ≡ member q = ap member ((decides x q).0 t) in cc
      | false ↦ λ _. refl
    ] refl

    -- only the link of the node `at` changes
    pub relinked_away : (get : N → Option (Link N)) (at : Option N) (f : Link N → Link N) (q : N) → ((x : N) → at ≡ Some x → same x q ≡ false) → relinked same get at f q ≡ get q
    relinked_away get None f q h = refl
    relinked_away get (Some x) f q h = relinked_other get x f q (h x refl)

    -- a list stays where the links of its nodes and its members do
    pub IsList-kept : (get new : N → Option (Link N)) (first_node last_node : Option N) (member now : N → Bool) (xs : List N) → ((q : N) → member q ≡ true → new q ≡ get q) → ((q : N) → now q ≡ member q)
        → IsList same get first_node last_node member xs → IsList same new first_node last_node now xs
    IsList-kept get new first_node last_node member now xs links members old = record {
      links = LinksSpell-among get new None xs None (λ q h. links q (sym (old.members q) ∙ h)) old.links;
      differ = old.differ;
      first = old.first;
      last = old.last;
      members = λ q. old.members q ∙ sym (members q);
    }

    pub IsList-same : (get new : N → Option (Link N)) (first_node last_node : Option N) (member now : N → Bool) (xs : List N) → ((q : N) → new q ≡ get q) → ((q : N) → now q ≡ member q)
        → IsList same get first_node last_node member xs → IsList same new first_node last_node now xs
    IsList-same get new first_node last_node member now xs links members old = IsList-kept get new first_node last_node member now xs (λ q _. links q) members old

    -- a node that isn't there is put last
    pub IsList-pushed : (get new : N → Option (Link N)) (first_node last_node : Option N) (member now : N → Bool) (xs : List N) (x : N) → member x ≡ false
        → new x ≡ Some (link last_node None) → ((q : N) → same x q ≡ false → new q ≡ relinked same get last_node (to_next (Some x)) q) → ((q : N) → now q ≡ cond (same x q) true (member q))
        → IsList same get first_node last_node member xs → IsList same new (first_after_push x first_node) (Some x) now (xs ++ x ∷ [])
    IsList-pushed get new first_node last_node member now xs x fresh here there members old =
        let absent : Lacks same x xs = Lacks-from_has x xs (old.members x ∙ fresh) in
        record {
          links = LinksSpell-pushed get new xs x old.differ absent old.links (here ∙ ap (λ t. Some (link t None)) old.last) (λ q n. there q n ∙ ap (λ t. relinked same get t (to_next (Some x)) q) old.last);
          differ = Differ-push xs x old.differ absent;
          first = ap (first_after_push x) old.first ∙ first_pushed xs x;
          last = sym (last_or_append None xs x []);
          members = λ q. has-append q xs (x ∷ []) ∙ (elim (same x q) as (λ b. same x q ≡ b → (has same q xs || (same q x || false)) ≡ cond b true (member q)) [
            | true ↦ λ t. ap (λ b. has same q xs || (b || false)) (ap (λ u. same u x) (sym ((decides x q).0 t)) ∙ itself x) ∙ or-true (has same q xs)
            | false ↦ λ n. ap (λ b. has same q xs || (b || false)) (flipped x q n) ∙ or-false (has same q xs) ∙ old.members q
          ] refl) ∙ sym (members q);
        }

    -- a node between two parts of the list goes
    cut_at : (get new : N → Option (Link N)) (first_node last_node : Option N) (member now : N → Bool) (xs ys : List N) (x : N) (l : Link N) → get x ≡ Some l
        → ((q : N) → same x q ≡ false → new q ≡ unlinked same get l.prev l.next q) → ((q : N) → now q ≡ cond (same x q) false (member q))
        → IsList same get first_node last_node member (xs ++ x ∷ ys) → IsList same new (first_after_removal l first_node) (last_after_removal l last_node) now (xs ++ ys)
    cut_at get new first_node last_node member now xs ys x l is there members old =
        let e : Some l ≡ Some (link (last_or None xs) (head_or ys None)) = sym is ∙ LinksSpell-at get xs ys x old.links in
        let before : l.prev ≡ last_or None xs = cc in
        let beyond : l.next ≡ head_or ys None = cc in
        let lacks = middle_lacks x xs ys old.differ in
        record {
          links = LinksSpell-kept (unlinked same get (last_or None xs) (head_or ys None)) new None (xs ++ ys) None x lacks
              (λ q n. there q n ∙ (λ i. unlinked same get (before i) (beyond i) q)) (LinksSpell-unlinked get xs ys x old.differ old.links);
          differ = Differ-without xs ys x old.differ;
          first = (λ i. or_else (before i) (old.first i) (beyond i)) ∙ first_cut xs ys x;
          last = (λ i. or_else (beyond i) (old.last i) (before i)) ∙ last_cut xs ys x;
          members = λ q. (elim (same x q) as (λ b. same x q ≡ b → has same q (xs ++ ys) ≡ cond b false (member q)) [
            | true ↦ λ t. ap (λ u. has same u (xs ++ ys)) (sym ((decides x q).0 t)) ∙ has-from_Lacks x (xs ++ ys) lacks
            | false ↦ λ n. has-append q xs ys ∙ ap (λ b. has same q xs || (b || has same q ys)) (sym (flipped x q n)) ∙ sym (has-append q xs (x ∷ ys)) ∙ old.members q
          ] refl) ∙ sym (members q);
        }

    -- a node of the list goes
    pub IsList-unlinked : (get new : N → Option (Link N)) (first_node last_node : Option N) (member now : N → Bool) (xs : List N) (x : N) (l : Link N) → member x ≡ true → get x ≡ Some l
        → ((q : N) → same x q ≡ false → new q ≡ unlinked same get l.prev l.next q) → ((q : N) → now q ≡ cond (same x q) false (member q))
        → IsList same get first_node last_node member xs → IsList same new (first_after_removal l first_node) (last_after_removal l last_node) now (without same x xs)
    IsList-unlinked get new first_node last_node member now xs x l there is links members old =
        let s = split x xs (old.members x ∙ there) in
        let was : IsList same get first_node last_node member (s.prefix ++ x ∷ s.rest) = subst (IsList same get first_node last_node member) s.is old in
        subst (IsList same new (first_after_removal l first_node) (last_after_removal l last_node) now) (sym (ap (without same x) s.is ∙ without-middle x s.prefix s.rest was.differ))
        (cut_at get new first_node last_node member now s.prefix s.rest x l is links members was)

    -- the last node is a member
    pub IsList-end : (get : N → Option (Link N)) (first_node last_node : Option N) (member : N → Bool) (xs : List N) (x : N) → IsList same get first_node last_node member xs → last_node ≡ Some x → member x ≡ true
    IsList-end get first_node last_node member xs x old e = sym (old.members x) ∙ has-end xs x (sym old.last ∙ e)

    -- the neighbours of a member are members
    pub IsList-neighbours : (get : N → Option (Link N)) (first_node last_node : Option N) (member : N → Bool) (xs : List N) (x : N) (l : Link N) → member x ≡ true → get x ≡ Some l
        → IsList same get first_node last_node member xs → (q : N) → (l.prev ≡ Some q → member q ≡ true) × (l.next ≡ Some q → member q ≡ true)
    IsList-neighbours get first_node last_node member xs x l there is old q =
        let s = split x xs (old.members x ∙ there) in
        let e : Some l ≡ Some (link (last_or None s.prefix) (head_or s.rest None)) = sym is ∙ LinksSpell-at get s.prefix s.rest x (subst (λ t. LinksSpell get None t None) s.is old.links) in
        let before : l.prev ≡ last_or None s.prefix = cc in
        let beyond : l.next ≡ head_or s.rest None = cc in
        let among : member q ≡ (has same q s.prefix || (same q x || has same q s.rest)) = sym (old.members q) ∙ ap (has same q) s.is ∙ has-append q s.prefix (x ∷ s.rest) in (
          λ p. among ∙ ap (λ b. b || (same q x || has same q s.rest)) (has-end s.prefix q (sym before ∙ p)),
          λ n. among ∙ ap (λ b. has same q s.prefix || (same q x || b)) (has-head s.rest q (sym beyond ∙ n)) ∙ ap (λ b. has same q s.prefix || b) (or-true (same q x)) ∙ or-true (has same q s.prefix),
        )

    LinksSpell-after : (get : N → Option (Link N)) (b : Option N) (xs : List N) (x : N) (l : Link N) → LinksSpell get b xs None → has same x xs ≡ true → get x ≡ Some l → l.next ≡ after same x xs
    LinksSpell-after get b [] x l s h g = cc
    LinksSpell-after get b (y ∷ ys) x l s h g = elim (same x y) as (λ t. same x y ≡ t → (t || has same x ys) ≡ true → l.next ≡ cond t (head_or ys None) (after same x ys)) [
      | true ↦ λ t _. let k : Some l ≡ Some (link b (head_or ys None)) = sym g ∙ ap get ((decides x y).0 t) ∙ s.0 in cc
      | false ↦ λ _ k. LinksSpell-after get (Some y) ys x l s.1 k g
    ] refl h

    -- what comes after a node of the list
    pub IsList-after : (get : N → Option (Link N)) (first_node last_node : Option N) (member : N → Bool) (xs : List N) (x : N) (l : Link N) → member x ≡ true → get x ≡ Some l
        → IsList same get first_node last_node member xs → l.next ≡ after same x xs
    IsList-after get first_node last_node member xs x l there is old = LinksSpell-after get None xs x l old.links (old.members x ∙ there) is

    after-lacking : (x : N) (xs : List N) → Lacks same x xs → after same x xs ≡ None
    after-lacking x [] l = refl
    after-lacking x (y ∷ ys) l = ap (λ b. cond b (head_or ys None) (after same x ys)) l.0 ∙ after-lacking x ys l.1

    -- nothing comes after a node that isn't there
    pub IsList-after_none : (get : N → Option (Link N)) (first_node last_node : Option N) (member : N → Bool) (xs : List N) (x : N) → member x ≡ false → IsList same get first_node last_node member xs → after same x xs ≡ None
    IsList-after_none get first_node last_node member xs x gone old = after-lacking x xs (Lacks-from_has x xs (old.members x ∙ gone))

    -- a walk from the first node is the list
    pub IsList-walk : (get : N → Option (Link N)) (first_node last_node : Option N) (member : N → Bool) (xs : List N) (n : ℕ) → length xs ≤ n → IsList same get first_node last_node member xs → walk n get first_node ≡ xs
    IsList-walk get first_node last_node member xs n few old = ap (walk n get) old.first ∙ walk-LinksSpell n get None xs old.links few

    -- the node at the next place
    pub IsList-step : (get : N → Option (Link N)) (first_node last_node : Option N) (member : N → Bool) (xs : List N) (i : ℕ) → IsList same get first_node last_node member xs → slice_get xs (i + 1) ≡ next_from get (slice_get xs i)
    IsList-step get first_node last_node member xs i old =
        let e : i + 1 ≡ suc i = omega arith in
        ap (slice_get xs) e ∙ LinksSpell-step get None xs i old.links

    -- a node of the list is one fewer without it
    pub length-without : (x : N) (xs : List N) → NodesDiffer same xs → has same x xs ≡ true → length xs ≡ suc (length (without same x xs))
    length-without x xs d h =
        let s = split x xs h in
        let e : without same x xs ≡ s.prefix ++ s.rest = ap (without same x) s.is ∙ without-middle x s.prefix s.rest (subst (NodesDiffer same) s.is d) in
        ap length s.is ∙ length_middle s.prefix s.rest x ∙ sym (ap (λ t. suc (length t)) e)

    -- the node at a place is in the list
    pub has-at : (xs : List N) (i : ℕ) (x : N) → slice_get xs i ≡ Some x → has same x xs ≡ true
    has-at [] i x e = cc
    has-at (y ∷ ys) zero x e =
        let p : y ≡ x = cc in
        ap (λ u. same x u || has same x ys) p ∙ ap (λ b. b || has same x ys) (itself x)
    has-at (y ∷ ys) (suc i) x e = ap (λ b. same x y || b) (has-at ys i x e) ∙ or-true (same x y)

    -- links that agree at a node agree there after a change
    pub relinked-agree : (get new : N → Option (Link N)) (at : Option N) (f : Link N → Link N) (q : N) → get q ≡ new q → relinked same get at f q ≡ relinked same new at f q
    relinked-agree get new None f q h = h
    relinked-agree get new (Some x) f q h = ap (λ t. cond (same x q) (option_map f t) t) h

    -- what is left of a list from a node on, where all before it are gone
    pub record IsRest (get : N → Option (Link N)) (first_node : Option N) (member : N → Bool) (xs : List N) : Type 0 where
      pub before : Option N
      pub links : LinksSpell get before xs None
      pub differ : NodesDiffer same xs
      pub first : first_node ≡ head_or xs None
      pub members : (q : N) → has same q xs ≡ member q

    -- the first node of the rest goes
    pub IsRest-dropped : (get new : N → Option (Link N)) (first_node : Option N) (member now : N → Bool) (x : N) (xs : List N) → ((q : N) → same x q ≡ false → new q ≡ get q)
        → ((q : N) → now q ≡ cond (same x q) false (member q)) → IsRest get first_node member (x ∷ xs) → IsRest new (next_from get first_node) now xs
    IsRest-dropped get new first_node member now x xs links members old = record {
      before = Some x;
      links = LinksSpell-kept get new (Some x) xs None x old.differ.0 links old.links.1;
      differ = old.differ.1;
      first = ap (next_from get) old.first ∙ ap next_of old.links.0;
      members = λ q. (elim (same x q) as (λ b. same x q ≡ b → has same q xs ≡ cond b false (member q)) [
        | true ↦ λ t. ap (λ u. has same u xs) (sym ((decides x q).0 t)) ∙ has-from_Lacks x xs old.differ.0
        | false ↦ λ n. ap (λ b. b || has same q xs) (sym (flipped x q n)) ∙ old.members q
      ] refl) ∙ sym (members q);
    }
