-- What joining two chains does, said of cells.
use Rattle.std.proofs.Common.{◌≡◌, ◌≢◌, ℕ, zero, suc, ◌<◌, true, false, cond, ◌||◌, List, [], ◌∷◌, ◌++◌, length, Option, Some, None, refl, ap, sym, ◌∙◌, arith, unwrap_or}
use Rattle.std.specs.Prelude.{eqb}
use Rattle.std.proofs.lemmas.Bool.Decides.{Decides-eqb}
use Rattle.lf_base.specs.declared.links.Link.{Link}
use Rattle.lf_base.specs.Links.{link, head_or, last_or, LinksSpell, Lacks, NodesDiffer, has}
use Rattle.lf_base.proofs.ListLemmas.LinkedLists.{Lacks-from_has}
use Rattle.std.proofs.Math.Bool.{or-true}
use Rattle.lf_pool.specs.declared.cell.TheConstants.{NONE}
use Rattle.lf_pool.specs.declared.cell.Cell.{Cell}
use Rattle.lf_pool.specs.Cells.{IsChain, IsChainAt, link_at, node}
use Rattle.lf_pool.proofs.Chains.{Table, joined, joined_chain, joined_other, same_chain, chain_agrees, begins, last_in}

pub some_is : (x y : ℕ) → Some x ≡ Some y → x ≡ y
some_is x y e = ap (λ t. unwrap_or t x) e

-- a cell of a chain has links
pub linked : (get : Table) (b : Option ℕ) (xs : List ℕ) (a : Option ℕ) (q : ℕ) → LinksSpell get b xs a → has eqb q xs ≡ true → (l : Link ℕ) × (get q ≡ Some l)
linked get b [] a q s h = absurd (cc h)
linked get b (x ∷ xs) a q s h = elim (eqb q x) as (λ t. eqb q x ≡ t → (t || has eqb q xs) ≡ true → (l : Link ℕ) × (get q ≡ Some l)) [
  | true ↦ λ e _. (link b (head_or xs a), ap get ((Decides-eqb q x).0 e) ∙ s.0)
  | false ↦ λ _ k. linked get (Some x) xs a q s.1 k
] refl h

-- a cell with links is there
pub in_range : {T : Type 0} (cells : List (Cell T)) (q : ℕ) (l : Link ℕ) → link_at cells q ≡ Some l → q < length cells
in_range [] q l e = absurd (cc e)
in_range (c ∷ cells) zero l e = omega arith
in_range (c ∷ cells) (suc q) l e = let h = in_range cells q l e in omega arith

pub chain_in_range : {T : Type 0} (cells : List (Cell T)) (xs : List ℕ) (q : ℕ) → IsChain (link_at cells) xs → has eqb q xs ≡ true → q < length cells
chain_in_range cells xs q c h = let l = linked (link_at cells) (last_or None xs) xs None q c.links h in in_range cells q l.0 l.1

-- the first cell knows the last one
pub first_link : (get : Table) (c : ℕ) (xs : List ℕ) → IsChainAt get c xs → (l : Link ℕ) × (get c ≡ Some l) × (l.prev ≡ last_or None xs)
first_link get c [] h = absurd (cc h.1)
first_link get c (x ∷ xs) h = (link (last_or None (x ∷ xs)) (head_or xs None), ap get (sym (some_is x c h.1)) ∙ (h.0).links.0, refl)

-- what was read before the first cell is the last one
pub last_read : (get : Table) (c : ℕ) (xs : List ℕ) (z : ℕ) → IsChainAt get c xs → ((l : Link ℕ) → get c ≡ Some l → l.prev ≡ Some z) → last_or None xs ≡ Some z
last_read get c xs z h k = let f = first_link get c xs h in sym f.2 ∙ k f.0 f.1

-- chains that begin apart share no cell
pub apart_lacks : (get : Table) (c d : ℕ) (xs ys : List ℕ) (w : ℕ) → c ≢ d → IsChainAt get c xs → IsChainAt get d ys → has eqb w xs ≡ true → has eqb w ys ≡ false
apart_lacks get c d xs ys w n a b h = elim (has eqb w ys) as (λ t. has eqb w ys ≡ t → t ≡ false) [
  | true ↦ λ k. absurd (n (some_is c d (sym a.1 ∙ ap (λ t. head_or t None) (same_chain get xs ys w a.0 b.0 h k) ∙ b.1)))
  | false ↦ λ _. refl
] refl

pub Lacks-append : (x : ℕ) (xs ys : List ℕ) → Lacks eqb x xs → Lacks eqb x ys → Lacks eqb x (xs ++ ys)
Lacks-append x [] ys l m = m
Lacks-append x (y ∷ xs) ys l m = (l.0, Lacks-append x xs ys l.1 m)

NodesDiffer-append : (xs ys : List ℕ) → NodesDiffer eqb xs → NodesDiffer eqb ys → ((w : ℕ) → has eqb w xs ≡ true → has eqb w ys ≡ false) → NodesDiffer eqb (xs ++ ys)
NodesDiffer-append [] ys d e h = e
NodesDiffer-append (x ∷ xs) ys d e h = (
  Lacks-append x xs ys d.0 (Lacks-from_has eqb Decides-eqb x ys (h x (ap (λ b. b || has eqb x xs) ((Decides-eqb x x).1 refl)))),
  NodesDiffer-append xs ys d.1 e (λ w k. h w (ap (λ b. eqb w x || b) k ∙ or-true (eqb w x))),
)

pub joined_at : (get new : Table) (c d l m : ℕ) (xs ys : List ℕ) → c ≢ d → IsChainAt get c xs → IsChainAt get d ys → last_or None xs ≡ Some l → last_or None ys ≡ Some m
    → ((q : ℕ) → new q ≡ joined get c d (Some l) (Some m) q) → IsChainAt new c (xs ++ ys)
joined_at get new c d l m [] ys n a b el em k = absurd (cc a.1)
joined_at get new c d l m (x ∷ xs) [] n a b el em k = absurd (cc b.1)
joined_at get new c d l m (x ∷ xs) (y ∷ ys) n a b el em k =
    let apart = NodesDiffer-append (x ∷ xs) (y ∷ ys) (a.0).differ (b.0).differ (λ w h. apart_lacks get c d (x ∷ xs) (y ∷ ys) w n a b h) in
    let ex : c ≡ x = sym (some_is x c a.1) in
    let ey : d ≡ y = sym (some_is y d b.1) in (
      chain_agrees (joined get x y (last_or (Some x) xs) (last_or (Some y) ys)) new ((x ∷ xs) ++ (y ∷ ys))
          (λ q. k q ∙ (λ i. joined get (ex i) (ey i) (sym el i) (sym em i) q))
          (joined_chain get x xs y ys apart a.0 b.0),
      a.1,
    )

pub joined_beside : (get new : Table) (c d l m : ℕ) (xs zs : List ℕ) → IsChainAt get c xs → last_or None xs ≡ Some l → has eqb c zs ≡ false → has eqb d zs ≡ false
    → ((q : ℕ) → new q ≡ joined get c d (Some l) (Some m) q) → IsChain get zs → IsChain new zs
joined_beside get new c d l m xs zs a el hc hd k z =
    let out : has eqb l zs ≡ false = elim (has eqb l zs) as (λ t. has eqb l zs ≡ t → t ≡ false) [
      | true ↦ λ h. let e : xs ≡ zs = same_chain get xs zs l a.0 z (last_in xs l el) h in let g : has eqb c zs ≡ true = ap (has eqb c) (sym e) ∙ begins c xs a.1 in absurd (cc (g, hc))
      | false ↦ λ _. refl
    ] refl in
    chain_agrees (joined get c d (Some l) (Some m)) new zs k
    (joined_other get c d (Some l) (Some m) zs (Lacks-from_has eqb Decides-eqb c zs hc) (Lacks-from_has eqb Decides-eqb d zs hd) (Lacks-from_has eqb Decides-eqb l zs out) z)

-- a number below the most cells there may be is a cell's
pub node_is : (n : ℕ) → n < NONE → node n ≡ Some n
node_is n h = elim (eqb n NONE) as (λ t. eqb n NONE ≡ t → cond t None (Some n) ≡ Some n) [
  | true ↦ λ e. let f = (Decides-eqb n NONE).0 e in absurd (omega arith)
  | false ↦ λ _. refl
] refl
