-- Chains whose first cell knows the last one.
use Rattle.std.proofs.Common.{◌≡◌, ℕ, zero, suc, ◌+◌, ◌≤◌, true, false, ◌||◌, List, [], ◌∷◌, ◌++◌, length, Option, Some, None, refl, ap, sym, ◌∙◌, subst, arith, length-append}
use Rattle.std.specs.Prelude.{eqb}
use Rattle.std.proofs.Math.Bool.{or-true}
use Rattle.std.proofs.lemmas.Bool.Decides.{Decides-eqb}
use Rattle.lf_base.specs.declared.links.Link.{Link}
use Rattle.lf_base.specs.Links.{link, head_or, last_or, LinksSpell, to_next, to_prev, Lacks, LacksAt, NodesDiffer, relinked, has, walk}
use Rattle.lf_base.proofs.ListLemmas.LinkedLists.{LinksSpell-append, LinksSpell-right, LinksSpell-relinked, LinksSpell-to_next, LinksSpell-to_prev, relinked-agree, walk-LinksSpell}
use Rattle.lf_pool.specs.Cells.{IsChain}

abbrev pub Table : Type 0
Table = ℕ → Option (Link ℕ)

Lacks-left : (x : ℕ) (xs ys : List ℕ) → Lacks eqb x (xs ++ ys) → Lacks eqb x xs
Lacks-left x [] ys l = tt
Lacks-left x (y ∷ xs) ys l = (l.0, Lacks-left x xs ys l.1)

pub Lacks-right : (x : ℕ) (xs ys : List ℕ) → Lacks eqb x (xs ++ ys) → Lacks eqb x ys
Lacks-right x [] ys l = l
Lacks-right x (y ∷ xs) ys l = Lacks-right x xs ys l.1

pub NodesDiffer-left : (xs ys : List ℕ) → NodesDiffer eqb (xs ++ ys) → NodesDiffer eqb xs
NodesDiffer-left [] ys d = tt
NodesDiffer-left (x ∷ xs) ys d = (Lacks-left x xs ys d.0, NodesDiffer-left xs ys d.1)

pub NodesDiffer-right : (xs ys : List ℕ) → NodesDiffer eqb (xs ++ ys) → NodesDiffer eqb ys
NodesDiffer-right [] ys d = d
NodesDiffer-right (x ∷ xs) ys d = NodesDiffer-right xs ys d.1

flipped : (x y : ℕ) → eqb x y ≡ false → eqb y x ≡ false
flipped x y e = elim (eqb y x) as (λ b. eqb y x ≡ b → b ≡ false) [
  | true ↦ λ h. let k : eqb x y ≡ true = (Decides-eqb x y).1 (sym ((Decides-eqb y x).0 h)) in cc (k, e)
  | false ↦ λ h. refl
] refl

pub mid_lacks : (xs ys : List ℕ) (y : ℕ) → NodesDiffer eqb (xs ++ y ∷ ys) → Lacks eqb y xs
mid_lacks [] ys y d = tt
mid_lacks (x ∷ xs) ys y d = (flipped x y (Lacks-right x xs (y ∷ ys) d.0).0, mid_lacks xs ys y d.1)

pub last_lacks : (c : Option ℕ) (xs ys : List ℕ) → LacksAt eqb c ys → NodesDiffer eqb (xs ++ ys) → LacksAt eqb (last_or c xs) ys
last_lacks c [] ys l d = l
last_lacks c (x ∷ xs) ys l d = last_lacks (Some x) xs ys (Lacks-right x xs ys d.0) d.1

pub last_or_append : (c : Option ℕ) (xs : List ℕ) (y : ℕ) (ys : List ℕ) → last_or c (xs ++ y ∷ ys) ≡ last_or (Some y) ys
last_or_append c [] y ys = refl
last_or_append c (x ∷ xs) y ys = last_or_append (Some x) xs y ys

-- the links after one chain is joined to the end of another
abbrev pub joined : Table → ℕ → ℕ → Option ℕ → Option ℕ → Table
joined get x y l m = relinked eqb (relinked eqb (relinked eqb get (Some y) (to_prev l)) l (to_next (Some y))) (Some x) (to_prev m)

pub joined_chain : (get : Table) (x : ℕ) (xs : List ℕ) (y : ℕ) (ys : List ℕ) → NodesDiffer eqb ((x ∷ xs) ++ (y ∷ ys)) → IsChain get (x ∷ xs) → IsChain get (y ∷ ys)
    → IsChain (joined get x y (last_or (Some x) xs) (last_or (Some y) ys)) ((x ∷ xs) ++ (y ∷ ys))
joined_chain get x xs y ys d a b =
    let l = last_or (Some x) xs in
    let m = last_or (Some y) ys in
    let one = relinked eqb get (Some y) (to_prev l) in
    let two = relinked eqb one l (to_next (Some y)) in
    let new = relinked eqb two (Some x) (to_prev m) in
    let dx = NodesDiffer-left (x ∷ xs) (y ∷ ys) d in
    let dy = NodesDiffer-right (x ∷ xs) (y ∷ ys) d in
    let a1 : LinksSpell one l (x ∷ xs) None = LinksSpell-relinked eqb Decides-eqb get (to_prev l) (Some y) l (x ∷ xs) None (mid_lacks (x ∷ xs) ys y d) a.links in
    let a2 : LinksSpell two l (x ∷ xs) (Some y) = LinksSpell-to_next eqb Decides-eqb one l None (x ∷ xs) None (Some y) dx a1 in
    let a3 : LinksSpell new m (x ∷ xs) (Some y) = LinksSpell-to_prev eqb Decides-eqb two l None (x ∷ xs) (Some y) m dx a2 in
    let b1 : LinksSpell one l (y ∷ ys) None = LinksSpell-to_prev eqb Decides-eqb get m None (y ∷ ys) None l dy b.links in
    let b2 : LinksSpell two l (y ∷ ys) None = LinksSpell-relinked eqb Decides-eqb one (to_next (Some y)) l l (y ∷ ys) None (last_lacks None (x ∷ xs) (y ∷ ys) tt d) b1 in
    let b3 : LinksSpell new l (y ∷ ys) None = LinksSpell-relinked eqb Decides-eqb two (to_prev m) (Some x) l (y ∷ ys) None (Lacks-right x xs (y ∷ ys) d.0) b2 in
    let whole : LinksSpell new m ((x ∷ xs) ++ (y ∷ ys)) None = LinksSpell-append new m (x ∷ xs) (y ∷ ys) None a3 b3 in
    record { links = subst (λ t. LinksSpell new t ((x ∷ xs) ++ (y ∷ ys)) None) (sym (last_or_append (Some x) xs y ys)) whole; differ = d }

pub joined_other : (get : Table) (x y : ℕ) (l m : Option ℕ) (zs : List ℕ) → Lacks eqb x zs → Lacks eqb y zs → LacksAt eqb l zs → IsChain get zs → IsChain (joined get x y l m) zs
joined_other get x y l m zs lx ly ll c =
    let b = last_or None zs in
    let one = relinked eqb get (Some y) (to_prev l) in
    let two = relinked eqb one l (to_next (Some y)) in
    record {
      links = LinksSpell-relinked eqb Decides-eqb two (to_prev m) (Some x) b zs None lx
          (LinksSpell-relinked eqb Decides-eqb one (to_next (Some y)) l b zs None ll
          (LinksSpell-relinked eqb Decides-eqb get (to_prev l) (Some y) b zs None ly c.links));
      differ = c.differ;
    }

-- Chains that share a cell begin at the same one.
record Snoc (xs : List ℕ) : Type 0 where
  front : List ℕ
  end : ℕ
  is : xs ≡ front ++ end ∷ []

snoc : (x : ℕ) (xs : List ℕ) → Snoc (x ∷ xs)
snoc x [] = record { front = []; end = x; is = refl }
snoc x (y ∷ ys) = let s = snoc y ys in record { front = x ∷ s.front; end = s.end; is = ap (λ t. x ∷ t) s.is }

last_snoc : (c : Option ℕ) (xs : List ℕ) (z : ℕ) → last_or c (xs ++ z ∷ []) ≡ Some z
last_snoc c [] z = refl
last_snoc c (x ∷ xs) z = last_snoc (Some x) xs z

pub node_at : (get : Table) (b : Option ℕ) (xs us : List ℕ) (x : ℕ) → LinksSpell get b (xs ++ x ∷ us) None → get x ≡ Some (link (last_or b xs) (head_or us None))
node_at get b xs us x s = (LinksSpell-right get b xs (x ∷ us) None s).0

abbrev prev_of : Option (Link ℕ) → Option ℕ
prev_of None = None
prev_of (Some l) = l.prev

abbrev next_of : Option (Link ℕ) → Option ℕ
next_of None = None
next_of (Some l) = l.next

regroup : (xs : List ℕ) (z x : ℕ) (us : List ℕ) → (xs ++ z ∷ []) ++ x ∷ us ≡ xs ++ z ∷ x ∷ us
regroup [] z x us = refl
regroup (y ∷ ys) z x us = ap (λ t. y ∷ t) (regroup ys z x us)

-- the cell before the first one of a chain has none after it
end_next : (get : Table) (b : Option ℕ) (xs : List ℕ) (z : ℕ) → LinksSpell get b xs None → last_or None xs ≡ Some z → next_of (get z) ≡ None
end_next get b [] z s e = cc
end_next get b (x ∷ []) z s e = cc
end_next get b (x ∷ y ∷ xs) z s e = end_next get (Some x) (y ∷ xs) z s.1 e

-- what comes before a shared cell is the same in both, where what stands before either chain has none after it
meet : (n : ℕ) (get : Table) (b c : Option ℕ) (xs ys us vs : List ℕ) (x : ℕ) → ((z : ℕ) → b ≡ Some z → next_of (get z) ≡ None) → ((z : ℕ) → c ≡ Some z → next_of (get z) ≡ None)
    → length xs ≤ n → LinksSpell get b (xs ++ x ∷ us) None → LinksSpell get c (ys ++ x ∷ vs) None → xs ≡ ys
meet n get b c [] [] us vs x hb hc l s t = refl
meet n get b c [] (y ∷ ys) us vs x hb hc l s t =
    let q = snoc y ys in
    let right : LinksSpell get c (q.front ++ q.end ∷ x ∷ vs) None = subst (λ w. LinksSpell get c w None) (ap (λ w. w ++ x ∷ vs) q.is ∙ regroup q.front q.end x vs) t in
    let e : b ≡ last_or c (y ∷ ys) = ap prev_of (sym (node_at get b [] us x s) ∙ node_at get c (y ∷ ys) vs x t) in
    let k : last_or c (y ∷ ys) ≡ Some q.end = ap (last_or c) q.is ∙ last_snoc c q.front q.end in
    let end : next_of (get q.end) ≡ None = hb q.end (e ∙ k) in
    let more : next_of (get q.end) ≡ Some x = ap next_of (node_at get c q.front (x ∷ vs) q.end right) in
    cc
meet zero get b c (x' ∷ xs) ys us vs x hb hc l s t = absurd (omega arith)
meet (suc n) get b c (x' ∷ xs) [] us vs x hb hc l s t =
    let q = snoc x' xs in
    let left : LinksSpell get b (q.front ++ q.end ∷ x ∷ us) None = subst (λ w. LinksSpell get b w None) (ap (λ w. w ++ x ∷ us) q.is ∙ regroup q.front q.end x us) s in
    let e : c ≡ last_or b (x' ∷ xs) = ap prev_of (sym (node_at get c [] vs x t) ∙ node_at get b (x' ∷ xs) us x s) in
    let k : last_or b (x' ∷ xs) ≡ Some q.end = ap (last_or b) q.is ∙ last_snoc b q.front q.end in
    let end : next_of (get q.end) ≡ None = hc q.end (e ∙ k) in
    let more : next_of (get q.end) ≡ Some x = ap next_of (node_at get b q.front (x ∷ us) q.end left) in
    cc
meet (suc n) get b c (x' ∷ xs) (y ∷ ys) us vs x hb hc l s t =
    let e : last_or b (x' ∷ xs) ≡ last_or c (y ∷ ys) = ap prev_of (sym (node_at get b (x' ∷ xs) us x s) ∙ node_at get c (y ∷ ys) vs x t) in
    let p = snoc x' xs in
    let q = snoc y ys in
    let j : last_or b (x' ∷ xs) ≡ Some p.end = ap (last_or b) p.is ∙ last_snoc b p.front p.end in
    let k : last_or c (y ∷ ys) ≡ Some q.end = ap (last_or c) q.is ∙ last_snoc c q.front q.end in
    let z : p.end ≡ q.end = cc in
    let long : length (x' ∷ xs) ≡ length p.front + 1 = ap length p.is ∙ length-append p.front (p.end ∷ []) in
    let left : LinksSpell get b (p.front ++ p.end ∷ x ∷ us) None = subst (λ w. LinksSpell get b w None) (ap (λ w. w ++ x ∷ us) p.is ∙ regroup p.front p.end x us) s in
    let right : LinksSpell get c (q.front ++ p.end ∷ x ∷ vs) None = subst (λ w. LinksSpell get c w None) (ap (λ w. w ++ x ∷ vs) q.is ∙ regroup q.front q.end x vs ∙ ap (λ w. q.front ++ w ∷ x ∷ vs) (sym z)) t in
    p.is ∙ (λ i. meet n get b c p.front q.front (x ∷ us) (x ∷ vs) p.end hb hc (omega arith) left right i ++ z i ∷ []) ∙ sym q.is

pub record Split (w : ℕ) (xs : List ℕ) : Type 0 where
  pub front : List ℕ
  pub back : List ℕ
  pub is : xs ≡ front ++ w ∷ back

pub split : (w : ℕ) (xs : List ℕ) → has eqb w xs ≡ true → Split w xs
split w [] h = absurd (cc h)
split w (x ∷ xs) h = elim (eqb w x) as (λ b. eqb w x ≡ b → (b || has eqb w xs) ≡ true → Split w (x ∷ xs)) [
  | true ↦ λ e _. record { front = []; back = xs; is = ap (λ t. t ∷ xs) (sym ((Decides-eqb w x).0 e)) }
  | false ↦ λ _ k. let s = split w xs k in record { front = x ∷ s.front; back = s.back; is = ap (λ t. x ∷ t) s.is }
] refl h

head_in : (xs : List ℕ) (x : ℕ) (us vs : List ℕ) → head_or (xs ++ x ∷ us) None ≡ head_or (xs ++ x ∷ vs) None
head_in [] x us vs = refl
head_in (y ∷ ys) x us vs = refl

-- two chains that share a cell are one
pub same_chain : (get : Table) (xs ys : List ℕ) (w : ℕ) → IsChain get xs → IsChain get ys → has eqb w xs ≡ true → has eqb w ys ≡ true → xs ≡ ys
same_chain get xs ys w a b h k =
    let s = split w xs h in
    let t = split w ys k in
    let left : LinksSpell get (last_or None xs) (s.front ++ w ∷ s.back) None = subst (λ u. LinksSpell get (last_or None xs) u None) s.is a.links in
    let right : LinksSpell get (last_or None ys) (t.front ++ w ∷ t.back) None = subst (λ u. LinksSpell get (last_or None ys) u None) t.is b.links in
    let same : s.front ≡ t.front = meet (length s.front) get (last_or None xs) (last_or None ys) s.front t.front s.back t.back w (λ z e. end_next get (last_or None xs) xs z a.links e) (λ z e. end_next get (last_or None ys) ys z b.links e) (omega arith) left right in
    let heads : head_or xs None ≡ head_or ys None = ap (λ u. head_or u None) s.is ∙ head_in s.front w s.back t.back ∙ ap (λ u. head_or (u ++ w ∷ t.back) None) same ∙ sym (ap (λ u. head_or u None) t.is) in
    sym (walk-LinksSpell (length xs + length ys) get (last_or None xs) xs a.links (omega arith)) ∙ ap (walk (length xs + length ys) get) heads ∙ walk-LinksSpell (length xs + length ys) get (last_or None ys) ys b.links (omega arith)

-- tables that agree spell alike
pub LinksSpell-agree : (get new : Table) (b : Option ℕ) (xs : List ℕ) (a : Option ℕ) → ((q : ℕ) → new q ≡ get q) → LinksSpell get b xs a → LinksSpell new b xs a
LinksSpell-agree get new b [] a k h = tt
LinksSpell-agree get new b (x ∷ xs) a k h = (k x ∙ h.0, LinksSpell-agree get new (Some x) xs a k h.1)

pub chain_agrees : (get new : Table) (xs : List ℕ) → ((q : ℕ) → new q ≡ get q) → IsChain get xs → IsChain new xs
chain_agrees get new xs k c = record { links = LinksSpell-agree get new (last_or None xs) xs None k c.links; differ = c.differ }

-- three writes one after another
pub three_writes : (get one two new : Table) (x y : ℕ) (l m : ℕ) → ((q : ℕ) → one q ≡ relinked eqb get (Some y) (to_prev (Some l)) q) → ((q : ℕ) → two q ≡ relinked eqb one (Some l) (to_next (Some y)) q)
    → ((q : ℕ) → new q ≡ relinked eqb two (Some x) (to_prev (Some m)) q) → (q : ℕ) → new q ≡ joined get x y (Some l) (Some m) q
three_writes get one two new x y l m a b c q =
    c q ∙ relinked-agree eqb Decides-eqb two (relinked eqb (relinked eqb get (Some y) (to_prev (Some l))) (Some l) (to_next (Some y))) (Some x) (to_prev (Some m)) q
    (b q ∙ relinked-agree eqb Decides-eqb one (relinked eqb get (Some y) (to_prev (Some l))) (Some l) (to_next (Some y)) q (a q))

-- a chain that begins at a cell has it as its first
pub begins : (c : ℕ) (xs : List ℕ) → head_or xs None ≡ Some c → has eqb c xs ≡ true
begins c [] e = cc
begins c (x ∷ xs) e = ap (λ b. b || has eqb c xs) ((Decides-eqb c x).1 (cc e))

-- the last cell of a chain lies in it
pub last_in : (xs : List ℕ) (z : ℕ) → last_or None xs ≡ Some z → has eqb z xs ≡ true
last_in [] z e = cc
last_in (x ∷ []) z e = ap (λ b. b || has eqb z []) ((Decides-eqb z x).1 (cc e))
last_in (x ∷ y ∷ xs) z e = ap (λ b. eqb z x || b) (last_in (y ∷ xs) z e) ∙ or-true (eqb z x)
