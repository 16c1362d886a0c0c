-- A chain in two parts.
use Rattle.std.proofs.Common.{◌≡◌, ◌≢◌, ℕ, ◌<◌, ◌≤◌, Bool, true, false, cond, not, ◌||◌, List, [], ◌∷◌, ◌++◌, length, Option, Some, None, refl, ap, sym, ◌∙◌, subst, arith}
use Rattle.std.specs.Prelude.{eqb}
use Rattle.std.proofs.lemmas.Bool.Decides.{Decides-eqb}
use Rattle.lf_base.specs.declared.links.Link.{Link}
use Rattle.lf_base.specs.Links.{NodesDiffer, has, head_or, without}
use Rattle.lf_base.proofs.ListLemmas.LinkedLists.{has-append, without-lacking}
use Rattle.std.proofs.Math.Bool.{or-true}
use Rattle.lf_pool.specs.declared.cell.TheConstants.{NONE}
use Rattle.lf_pool.specs.declared.cell.Cell.{Cell}
use Rattle.lf_pool.specs.Cells.{Covered, IsChain, IsChainAt, IsParted, link_at, node}
use Rattle.lf_pool.specs.Pools.{AreParts, Chain}
use Rattle.lf_pool.proofs.Chains.{begins, mid_lacks, same_chain, split}
use Rattle.lf_pool.proofs.Joins.{chain_in_range, node_is, some_is}
use Rattle.lf_pool.proofs.Parts.{differs, free_begins, free_lacks, lacks_free}

module _ {T : Type 0} (old : List (Cell T)) (free count c : ℕ) (xs : List ℕ) (p : IsParted old free count) (a : IsChainAt (link_at old) c xs) (apart : eqb c free ≡ false) where
  -- no cell of a live chain is the first free one
  pub member_live : (w : ℕ) → has eqb w xs ≡ true → eqb w free ≡ false
  member_live w m = differs w free (λ e.
      let k : has eqb free xs ≡ true = ap (λ t. has eqb t xs) (sym e) ∙ m in
      let o = lacks_free (link_at old) free c xs p.spare.0 a apart p.spare.1 p.spare.2 (free_begins old free p.spare.0 xs p.few p.spare.2 a.0 k) in cc (k, o))

  pub split_parted : (new : List (Cell T)) (q : ℕ) (ys : List ℕ) → IsChain (link_at new) (q ∷ []) → IsChain (link_at new) ys → ((w : ℕ) → has eqb w xs ≡ true → eqb w q ≡ false → has eqb w ys ≡ true)
      → ((zs : List ℕ) → IsChain (link_at old) zs → has eqb c zs ≡ false → IsChain (link_at new) zs) → length new ≡ length old → IsParted new free count
  split_parted new q ys alone rest parts others size =
      record {
        few = subst (λ n. n ≤ NONE) (sym size) p.few;
        covers = λ w l. let z = p.covers w (subst (λ n. w < n) size l) in elim (has eqb c z.0) as (λ t. has eqb c z.0 ≡ t → Covered (link_at new) w) [
          | true ↦ λ k. elim (eqb w q) as (λ t. eqb w q ≡ t → Covered (link_at new) w) [
            | true ↦ λ e. (q ∷ [], alone, ap (λ b. b || false) e)
            | false ↦ λ e. (ys, rest, parts w (ap (has eqb w) (same_chain (link_at old) xs z.0 c a.0 z.1 (begins c xs a.1) k) ∙ z.2) e)
          ] refl
          | false ↦ λ n. (z.0, others z.0 z.1 n, z.2)
        ] refl;
        spare = (p.spare.0, others p.spare.0 p.spare.1 (free_lacks (link_at old) free c xs p.spare.0 a apart p.spare.1 p.spare.2), p.spare.2, p.spare.3);
      }

-- each cell lies in exactly one chain
pub parts_of : {T : Type 0} (cells : List (Cell T)) (free count spare : ℕ) → IsParted cells free count → AreParts (record { cells = cells; free = free; spare = spare })
parts_of cells free count spare p =
    record {
      covered = p.covers;
      one = λ q xs ys a b h k. same_chain (link_at cells) xs ys q a b h k;
      free_chain = (p.spare.0, p.spare.1, p.spare.2, λ c xs z q h. lacks c xs z q h (has eqb q p.spare.0) refl);
    }
  where
    lacks : (c : ℕ) (xs : List ℕ) → Chain (record { cells = cells; free = free; spare = spare }) c xs → (q : ℕ) → has eqb q xs ≡ true → (b : Bool) → has eqb q p.spare.0 ≡ b → b ≡ false
    lacks c xs z q h false e = refl
    lacks c xs z q h true e =
        let out = free_lacks (link_at cells) free c xs p.spare.0 z.0 z.1 p.spare.1 p.spare.2 in
        let here : has eqb c p.spare.0 ≡ true = ap (has eqb c) (sym (same_chain (link_at cells) xs p.spare.0 q z.0.0 p.spare.1 h e)) ∙ begins c xs z.0.1 in
        cc

-- a cell of a chain has the number of a cell
pub member_number : {T : Type 0} (cells : List (Cell T)) (free count : ℕ) → IsParted cells free count → (q : ℕ) (xs : List ℕ) → IsChain (link_at cells) xs → has eqb q xs ≡ true → node q ≡ Some q
member_number cells free count p q xs a h =
    let there = chain_in_range cells xs q a h in
    let few = p.few in
    node_is q (omega (arith, there, few))

-- and so has its first cell
pub chain_number : {T : Type 0} (cells : List (Cell T)) (free count : ℕ) → IsParted cells free count → (c : ℕ) (xs : List ℕ) → IsChainAt (link_at cells) c xs → node c ≡ Some c
chain_number cells free count p c xs a = member_number cells free count p c xs a.0 (begins c xs a.1)

-- a chain is its first cell and the rest
pub record Headed (c : ℕ) (xs : List ℕ) : Type 0 where
  pub rest : List ℕ
  pub is : xs ≡ c ∷ rest

pub headed : (c : ℕ) (xs : List ℕ) → head_or xs None ≡ Some c → Headed c xs
headed c [] e = absurd (cc e)
headed c (x ∷ xs) e = record { rest = xs; is = ap (λ t. t ∷ xs) (some_is x c e) }

pub without_first : (c : ℕ) (ys : List ℕ) → NodesDiffer eqb (c ∷ ys) → without eqb c (c ∷ ys) ≡ ys
without_first c ys d = ap (λ b. cond (not b) (c ∷ without eqb c ys) (without eqb c ys)) ((Decides-eqb c c).1 refl) ∙ without-lacking eqb Decides-eqb c ys d.0

pub first_parts : (c : ℕ) (ys : List ℕ) (w : ℕ) → has eqb w (c ∷ ys) ≡ true → eqb w c ≡ false → has eqb w ys ≡ true
first_parts c ys w h e = sym (ap (λ b. b || has eqb w ys) e) ∙ h

-- a later cell stands between two parts
pub record Middle (c q : ℕ) (xs : List ℕ) : Type 0 where
  pub before : List ℕ
  pub behind : List ℕ
  pub is : xs ≡ (c ∷ before) ++ q ∷ behind

pub middle : (c q : ℕ) (xs : List ℕ) → head_or xs None ≡ Some c → q ≢ c → has eqb q xs ≡ true → Middle c q xs
middle c q xs e n h = let s = split q xs h in go s.front s.back s.is where
  go : (front back : List ℕ) → xs ≡ front ++ q ∷ back → Middle c q xs
  go [] back i = absurd (n (some_is q c (sym (ap (λ t. head_or t None) i) ∙ e)))
  go (f ∷ front) back i = record { before = front; behind = back; is = i ∙ ap (λ t. (t ∷ front) ++ q ∷ back) (some_is f c (sym (ap (λ t. head_or t None) i) ∙ e)) }

pub without_middle : (q : ℕ) (xs ys : List ℕ) → NodesDiffer eqb (xs ++ q ∷ ys) → without eqb q (xs ++ q ∷ ys) ≡ xs ++ ys
without_middle q [] ys d = without_first q ys d
without_middle q (x ∷ xs) ys d =
    ap (λ b. cond (not b) (x ∷ without eqb q (xs ++ q ∷ ys)) (without eqb q (xs ++ q ∷ ys))) (has_not q x ((mid_lacks (x ∷ xs) ys q d).0)) ∙ ap (λ t. x ∷ t) (without_middle q xs ys d.1) where
      has_not : (a b : ℕ) → eqb a b ≡ false → eqb a b ≡ false
      has_not a b e = e

pub middle_parts : (q : ℕ) (xs ys : List ℕ) (w : ℕ) → has eqb w (xs ++ q ∷ ys) ≡ true → eqb w q ≡ false → has eqb w (xs ++ ys) ≡ true
middle_parts q xs ys w h e = has-append eqb Decides-eqb w xs ys ∙ ap (λ b. has eqb w xs || b) (sym (ap (λ b. b || has eqb w ys) e)) ∙ sym (has-append eqb Decides-eqb w xs (q ∷ ys)) ∙ h

pub later : (w x : ℕ) (ys : List ℕ) → has eqb w ys ≡ true → has eqb w (x ∷ ys) ≡ true
later w x ys h = ap (λ b. eqb w x || b) h ∙ or-true (eqb w x)

pub one_chain : (get : ℕ → Option (Link ℕ)) (c q : ℕ) (xs ys : List ℕ) → IsChainAt get c xs → IsChainAt get c ys → has eqb q xs ≡ true → has eqb q ys ≡ true
one_chain get c q xs ys a b h = ap (has eqb q) (sym (same_chain get xs ys c a.0 b.0 (begins c xs a.1) (begins c ys b.1))) ∙ h
