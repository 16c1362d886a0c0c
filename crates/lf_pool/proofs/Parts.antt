-- Each cell stays in one chain.
use Rattle.std.proofs.Common.{◌≡◌, ◌≢◌, ℕ, suc, ◌+◌, ◌-◌, ◌<◌, ◌≤◌, true, false, cond, ◌||◌, List, [], ◌∷◌, ◌++◌, length, min, Option, Some, None, refl, ap, sym, ◌∙◌, subst, arith, length-append}
use Rattle.std.specs.Prelude.{eqb}
use Rattle.std.proofs.lemmas.Bool.Decides.{Decides-eqb}
use Rattle.lf_base.specs.declared.links.Link.{Link}
use Rattle.lf_base.specs.Links.{link, head_or, last_or, LinksSpell, after, has}
use Rattle.lf_base.proofs.ListLemmas.LinkedLists.{has-append}
use Rattle.std.proofs.Math.Bool.{or-true}
use Rattle.lf_pool.specs.declared.cell.TheConstants.{NONE}
use Rattle.lf_pool.specs.declared.cell.Cell.{Cell}
use Rattle.lf_pool.specs.Cells.{Covered, IsChain, IsChainAt, IsParted, link_at, node}
use Rattle.lf_pool.proofs.Chains.{Table, begins, chain_agrees, same_chain}
use Rattle.lf_pool.proofs.Counted.{chain_fits}
use Rattle.lf_pool.proofs.Joins.{apart_lacks, chain_in_range, node_is, some_is}

pub empty_parted : {T : Type 0} → IsParted {T = T} [] NONE 0
empty_parted = record { few = omega arith; covers = λ q l. absurd (omega arith); spare = ([], record { links = tt; differ = tt }, refl, refl) }

has_left : (q : ℕ) (xs ys : List ℕ) → has eqb q xs ≡ true → has eqb q (xs ++ ys) ≡ true
has_left q xs ys h = has-append eqb Decides-eqb q xs ys ∙ ap (λ b. b || has eqb q ys) h

has_right : (q : ℕ) (xs ys : List ℕ) → has eqb q ys ≡ true → has eqb q (xs ++ ys) ≡ true
has_right q xs ys h = has-append eqb Decides-eqb q xs ys ∙ ap (λ b. has eqb q xs || b) h ∙ or-true (has eqb q xs)

module _ (get new : Table) (c d : ℕ) (xs ys : List ℕ) (a : IsChainAt get c xs) (b : IsChainAt get d ys) (whole : IsChain new (xs ++ ys))
    (others : (zs : List ℕ) → IsChain get zs → has eqb c zs ≡ false → has eqb d zs ≡ false → IsChain new zs) where
  pub covered_joined : (q : ℕ) → Covered get q → Covered new q
  covered_joined q (zs, z, h) = elim (has eqb c zs) as (λ t. has eqb c zs ≡ t → Covered new q) [
    | true ↦ λ k. (xs ++ ys, whole, has_left q xs ys (ap (has eqb q) (same_chain get xs zs c a.0 z (begins c xs a.1) k) ∙ h))
    | false ↦ λ n. elim (has eqb d zs) as (λ t. has eqb d zs ≡ t → Covered new q) [
      | true ↦ λ k. (xs ++ ys, whole, has_right q xs ys (ap (has eqb q) (same_chain get ys zs d b.0 z (begins d ys b.1) k) ∙ h))
      | false ↦ λ m. (zs, others zs z n m, h)
    ] refl
  ] refl

-- a chain that begins elsewhere lacks the first cell of this one
pub elsewhere : (get : Table) (c d : ℕ) (xs zs : List ℕ) → IsChainAt get c xs → IsChainAt get d zs → d ≢ c → has eqb c zs ≡ false
elsewhere get c d xs zs a z n = apart_lacks get c d xs zs c (λ e. n (sym e)) a z (begins c xs a.1)

node_back : (n m : ℕ) → node n ≡ Some m → n ≡ m
node_back n m e = elim (eqb n NONE) as (λ t. cond t None (Some n) ≡ Some m → n ≡ m) [
  | true ↦ λ k. absurd (cc k)
  | false ↦ λ k. some_is n m k
] e

pub differs : (a b : ℕ) → a ≢ b → eqb a b ≡ false
differs a b n = elim (eqb a b) as (λ t. eqb a b ≡ t → t ≡ false) [
  | true ↦ λ e. absurd (n ((Decides-eqb a b).0 e))
  | false ↦ λ _. refl
] refl

pub apart_of : (a b : ℕ) → eqb a b ≡ false → a ≢ b
apart_of a b n e = let k = (Decides-eqb a b).1 e in cc (k, n)

-- the free chain begins at no other chain's first cell
pub free_lacks : (get : Table) (free c : ℕ) (xs fs : List ℕ) → IsChainAt get c xs → eqb c free ≡ false → IsChain get fs → head_or fs None ≡ node free → has eqb c fs ≡ false
free_lacks get free c xs fs a n f e = elim (has eqb c fs) as (λ t. has eqb c fs ≡ t → t ≡ false) [
  | true ↦ λ k. absurd (apart_of c free n (sym (node_back free c (sym e ∙ ap (λ t. head_or t None) (sym (same_chain get xs fs c a.0 f (begins c xs a.1) k)) ∙ a.1))))
  | false ↦ λ _. refl
] refl

pub parted_push : {T : Type 0} (old new : List (Cell T)) (free count c d : ℕ) (xs ys : List ℕ) → IsParted old free count → IsChainAt (link_at old) c xs → eqb c free ≡ false → IsChainAt (link_at old) d ys → eqb d free ≡ false
    → IsChainAt (link_at new) c (xs ++ ys) → ((zs : List ℕ) → IsChain (link_at old) zs → has eqb c zs ≡ false → has eqb d zs ≡ false → IsChain (link_at new) zs) → length new ≡ length old → IsParted new free count
parted_push old new free count c d xs ys p a ca b db whole others size =
    record {
      few = subst (λ n. n ≤ NONE) (sym size) p.few;
      covers = λ q l. covered_joined (link_at old) (link_at new) c d xs ys a b whole.0 others q (p.covers q (subst (λ n. q < n) size l));
      spare = (p.spare.0, others p.spare.0 p.spare.1 (free_lacks (link_at old) free c xs p.spare.0 a ca p.spare.1 p.spare.2) (free_lacks (link_at old) free d ys p.spare.0 b db p.spare.1 p.spare.2), p.spare.2, p.spare.3);
    }

-- links that agree on a chain
LinksSpell-kept_on : (get new : Table) (b : Option ℕ) (xs : List ℕ) (a : Option ℕ) → ((q : ℕ) → has eqb q xs ≡ true → new q ≡ get q) → LinksSpell get b xs a → LinksSpell new b xs a
LinksSpell-kept_on get new b [] a k h = tt
LinksSpell-kept_on get new b (x ∷ xs) a k h =
    (k x (ap (λ t. t || has eqb x xs) ((Decides-eqb x x).1 refl)) ∙ h.0, LinksSpell-kept_on get new (Some x) xs a (λ q m. k q (ap (λ t. eqb q x || t) m ∙ or-true (eqb q x))) h.1)

chain_kept : (get new : Table) (xs : List ℕ) → ((q : ℕ) → has eqb q xs ≡ true → new q ≡ get q) → IsChain get xs → IsChain new xs
chain_kept get new xs k c = record { links = LinksSpell-kept_on get new (last_or None xs) xs None k c.links; differ = c.differ }

-- one cell more
module _ {T : Type 0} (old new : List (Cell T)) (at : ℕ) (size : at ≡ length old) (more : length new ≡ at + 1) (mine : link_at new at ≡ Some (link (Some at) None)) (links : (q : ℕ) → q < at → link_at new q ≡ link_at old q) where
  pub fresh_alone : IsChain (link_at new) (at ∷ [])
  fresh_alone = record { links = (mine, tt); differ = (tt, tt) }

  pub fresh_kept : (zs : List ℕ) → IsChain (link_at old) zs → IsChain (link_at new) zs
  fresh_kept zs z = chain_kept (link_at old) (link_at new) zs (λ q h. links q (subst (λ n. q < n) (sym size) (chain_in_range old zs q z h))) z

  pub fresh_lacks : (zs : List ℕ) → IsChain (link_at old) zs → has eqb at zs ≡ false
  fresh_lacks zs z = elim (has eqb at zs) as (λ t. has eqb at zs ≡ t → t ≡ false) [
    | true ↦ λ k. let l = chain_in_range old zs at z k in absurd (omega arith)
    | false ↦ λ _. refl
  ] refl

  pub fresh_parted : (free count : ℕ) → at < NONE → IsParted old free count → IsParted new free count
  fresh_parted free count low p =
      record {
        few = subst (λ n. n ≤ NONE) (sym more) (omega arith);
        covers = λ q l. elim (eqb q at) as (λ t. eqb q at ≡ t → Covered (link_at new) q) [
          | true ↦ λ e. (at ∷ [], fresh_alone, ap (λ b. b || false) e)
          | false ↦ λ e. let n = apart_of q at e in let m : q < at + 1 = subst (λ k. q < k) more l in let c = p.covers q (subst (λ k. q < k) size (omega arith)) in (c.0, fresh_kept c.0 c.1, c.2)
        ] refl;
        spare = (p.spare.0, fresh_kept p.spare.0 p.spare.1, p.spare.2, p.spare.3);
      }

-- the free chain, where it has cells
pub record Frees (get : Table) (free count : ℕ) : Type 0 where
  pub rest : List ℕ
  pub chain : IsChain get (free ∷ rest)
  pub size : suc (length rest) ≡ count

pub frees : {T : Type 0} (cells : List (Cell T)) (free count : ℕ) → IsParted cells free count → 0 < count → Frees (link_at cells) free count
frees cells free count p some = at p.spare.0 p.spare.1 p.spare.2 p.spare.3 where
  at : (fs : List ℕ) → IsChain (link_at cells) fs → head_or fs None ≡ node free → length fs ≡ count → Frees (link_at cells) free count
  at [] f e n = absurd (omega arith)
  at (x ∷ fs) f e n = record { rest = fs; chain = subst (λ y. IsChain (link_at cells) (y ∷ fs)) (sym (node_back free x (sym e))) f; size = n }

-- the first free cell is taken off
module _ {T : Type 0} (old mid new : List (Cell T)) (free count rest : ℕ) (p : IsParted old free count) (some : 0 < count)
    (after : (ys : List ℕ) → IsChain (link_at old) (free ∷ ys) → IsChain (link_at mid) ys × (head_or ys None ≡ node rest))
    (alone : IsChain (link_at mid) (free ∷ []))
    (others : (zs : List ℕ) → IsChain (link_at old) zs → has eqb free zs ≡ false → IsChain (link_at mid) zs)
    (links : (q : ℕ) → link_at new q ≡ link_at mid q) (size : length new ≡ length old) where
  f : Frees (link_at old) free count
  f = frees old free count p some

  mine : has eqb free (free ∷ f.rest) ≡ true
  mine = ap (λ b. b || has eqb free f.rest) ((Decides-eqb free free).1 refl)

  moved : (zs : List ℕ) → IsChain (link_at mid) zs → IsChain (link_at new) zs
  moved zs z = chain_agrees (link_at mid) (link_at new) zs links z

  pub taken_alone : IsChain (link_at new) (free ∷ [])
  taken_alone = moved (free ∷ []) alone

  pub taken_in_range : free < length old
  taken_in_range = chain_in_range old (free ∷ f.rest) free f.chain mine

  pub taken_parted : IsParted new rest (count - 1)
  taken_parted =
      record {
        few = subst (λ n. n ≤ NONE) (sym size) p.few;
        covers = λ q l. let c = p.covers q (subst (λ n. q < n) size l) in elim (has eqb free c.0) as (λ t. has eqb free c.0 ≡ t → Covered (link_at new) q) [
          | true ↦ λ k. let e : has eqb q (free ∷ f.rest) ≡ true = ap (has eqb q) (same_chain (link_at old) (free ∷ f.rest) c.0 free f.chain c.1 mine k) ∙ c.2 in
              elim (eqb q free) as (λ t. eqb q free ≡ t → (t || has eqb q f.rest) ≡ true → Covered (link_at new) q) [
                | true ↦ λ s _. (free ∷ [], taken_alone, ap (λ b. b || false) s)
                | false ↦ λ _ s. (f.rest, moved f.rest (after f.rest f.chain).0, s)
              ] refl e
          | false ↦ λ n. (c.0, moved c.0 (others c.0 c.1 n), c.2)
        ] refl;
        spare = (f.rest, moved f.rest (after f.rest f.chain).0, (after f.rest f.chain).1, omega (arith, f.size));
      }

  lacks : (d : ℕ) (zs : List ℕ) → IsChainAt (link_at old) d zs → eqb d free ≡ false → has eqb free zs ≡ false
  lacks d zs z n = elsewhere (link_at old) free d (free ∷ f.rest) zs (f.chain, refl) z (apart_of d free n)

  not_second : (d : ℕ) (zs : List ℕ) → IsChainAt (link_at old) d zs → eqb d free ≡ false → eqb d rest ≡ false
  not_second d zs z n = differs d rest (λ e.
      let low = chain_in_range old zs d z.0 (begins d zs z.1) in
      let few = p.few in
      let h : head_or f.rest None ≡ Some d = (after f.rest f.chain).1 ∙ ap node (sym e) ∙ node_is d (omega arith) in
      let k : has eqb d (free ∷ f.rest) ≡ true = ap (λ b. eqb d free || b) (begins d f.rest h) ∙ or-true (eqb d free) in
      let s : (free ∷ f.rest) ≡ zs = same_chain (link_at old) (free ∷ f.rest) zs d f.chain z.0 k (begins d zs z.1) in
      let g : has eqb free zs ≡ true = ap (has eqb free) (sym s) ∙ mine in
      let o = lacks d zs z n in cc (g, o))

  pub taken_others : (d : ℕ) (zs : List ℕ) → IsChainAt (link_at old) d zs → eqb d free ≡ false → (IsChainAt (link_at new) d zs × (eqb d rest ≡ false)) × (has eqb free zs ≡ false)
  taken_others d zs z n = (((moved zs (others zs z.0 (lacks d zs z n)), z.1), not_second d zs z n), lacks d zs z n)

pub low_room : (free n capacity : ℕ) → free ≡ 0 → 0 < free + (min capacity NONE - n) → n < NONE
low_room free n capacity e h = let m : min capacity NONE ≤ NONE = omega arith in omega (arith, e, h)

pub some_free : (n : ℕ) → n ≢ 0 → 0 < n
some_free n h = omega (arith, h)

-- a cell that is first in no other chain isn't in one
pub lacks_free : (get : Table) (free d : ℕ) (zs fs : List ℕ) → IsChainAt get d zs → eqb d free ≡ false → IsChain get fs → head_or fs None ≡ node free → has eqb free fs ≡ true → has eqb free zs ≡ false
lacks_free get free d zs fs z n f e h = elim (has eqb free zs) as (λ t. has eqb free zs ≡ t → t ≡ false) [
  | true ↦ λ k. absurd (apart_of d free n (sym (node_back free d (sym e ∙ ap (λ t. head_or t None) (same_chain get fs zs free f z.0 h k) ∙ z.1))))
  | false ↦ λ _. refl
] refl

pub free_begins : {T : Type 0} (cells : List (Cell T)) (free : ℕ) (fs zs : List ℕ) → length cells ≤ NONE → head_or fs None ≡ node free → IsChain (link_at cells) zs → has eqb free zs ≡ true → has eqb free fs ≡ true
free_begins cells free fs zs few e z k = let l = chain_in_range cells zs free z k in begins free fs (e ∙ node_is free (omega arith))

-- a chain is put before the free one
module _ {T : Type 0} (old new : List (Cell T)) (free count c width : ℕ) (xs : List ℕ) (p : IsParted old free count) (a : IsChainAt (link_at old) c xs) (apart : eqb c free ≡ false) (wide : length xs ≡ width)
    (joined : IsChainAt (link_at new) c (xs ++ p.spare.0))
    (others : (zs : List ℕ) → IsChain (link_at old) zs → has eqb c zs ≡ false → has eqb free zs ≡ false → IsChain (link_at new) zs) (size : length new ≡ length old) where
  abbrev fs : List ℕ
  fs = p.spare.0

  pub given_fits : count + width ≤ NONE
  given_fits =
      let all = chain_fits new (xs ++ fs) joined.0 in
      let few = p.few in
      let sum = length-append xs fs in
      omega (arith, all, few, size, sum, wide, p.spare.3)

  pub given_parted : IsParted new c (count + width)
  given_parted =
      record {
        few = subst (λ n. n ≤ NONE) (sym size) p.few;
        covers = λ q l. let z = p.covers q (subst (λ n. q < n) size l) in elim (has eqb c z.0) as (λ t. has eqb c z.0 ≡ t → Covered (link_at new) q) [
          | true ↦ λ k. (xs ++ fs, joined.0, has_left q xs fs (ap (has eqb q) (same_chain (link_at old) xs z.0 c a.0 z.1 (begins c xs a.1) k) ∙ z.2))
          | false ↦ λ n. elim (has eqb free z.0) as (λ t. has eqb free z.0 ≡ t → Covered (link_at new) q) [
            | true ↦ λ k. (xs ++ fs, joined.0, has_right q xs fs (ap (has eqb q) (same_chain (link_at old) fs z.0 free p.spare.1 z.1 (free_begins old free fs z.0 p.few p.spare.2 z.1 k) k) ∙ z.2))
            | false ↦ λ m. (z.0, others z.0 z.1 n m, z.2)
          ] refl
        ] refl;
        spare = (xs ++ fs, joined.0, joined.1 ∙ sym (node_is c first_low), length-append xs fs ∙ counted);
      } where
        first_low : c < NONE
        first_low = let l = chain_in_range old xs c a.0 (begins c xs a.1) in let few = p.few in omega (arith, l, few)

        counted : length xs + length fs ≡ count + width
        counted = omega (arith, wide, p.spare.3)

  pub given_others : (d : ℕ) (zs : List ℕ) → IsChainAt (link_at old) d zs → eqb d free ≡ false → d ≢ c → IsChainAt (link_at new) d zs × (eqb d c ≡ false)
  given_others d zs z n m = ((others zs z.0 (elsewhere (link_at old) c d xs zs a z m) lacking, z.1), differs d c m) where
    lacking : has eqb free zs ≡ false
    lacking = elim (has eqb free zs) as (λ t. has eqb free zs ≡ t → t ≡ false) [
      | true ↦ λ k. let o = lacks_free (link_at old) free d zs fs z n p.spare.1 p.spare.2 (free_begins old free fs zs p.few p.spare.2 z.0 k) in absurd (cc (o, k))
      | false ↦ λ _. refl
    ] refl

-- the links stay
pub same_parted : {T : Type 0} (old new : List (Cell T)) (free count : ℕ) → ((q : ℕ) → link_at new q ≡ link_at old q) → length new ≡ length old → IsParted old free count → IsParted new free count
same_parted old new free count k size p =
    record {
      few = subst (λ n. n ≤ NONE) (sym size) p.few;
      covers = λ q l. let z = p.covers q (subst (λ n. q < n) size l) in (z.0, chain_agrees (link_at old) (link_at new) z.0 k z.1, z.2);
      spare = (p.spare.0, chain_agrees (link_at old) (link_at new) p.spare.0 k p.spare.1, p.spare.2, p.spare.3);
    }

-- what comes after a cell
pub after_is : (get : Table) (b : Option ℕ) (xs : List ℕ) (q : ℕ) → LinksSpell get b xs None → has eqb q xs ≡ true → (l : Link ℕ) × (get q ≡ Some l) × (l.next ≡ after eqb q xs)
after_is get b [] q s h = absurd (cc h)
after_is get b (x ∷ xs) q s h = elim (eqb q x) as (λ t. eqb q x ≡ t → (t || has eqb q xs) ≡ true → (l : Link ℕ) × (get q ≡ Some l) × (l.next ≡ cond t (head_or xs None) (after eqb q xs))) [
  | true ↦ λ e _. (link b (head_or xs None), ap get ((Decides-eqb q x).0 e) ∙ s.0, refl)
  | false ↦ λ _ k. after_is get (Some x) xs q s.1 k
] refl h
