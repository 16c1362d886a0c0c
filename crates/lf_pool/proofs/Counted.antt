-- A chain has no more cells than there are.
use Rattle.std.proofs.Common.{◌≡◌, ◌≢◌, ℕ, zero, suc, ◌<◌, ◌≤◌, true, false, cond, not, ◌||◌, List, [], ◌∷◌, length, refl, ap, sym, ◌∙◌, arith}
use Rattle.std.specs.Prelude.{eqb}
use Rattle.std.proofs.lemmas.Bool.Decides.{Decides-eqb}
use Rattle.lf_base.specs.Links.{Lacks, NodesDiffer, has, without}
use Rattle.lf_base.proofs.ListLemmas.LinkedLists.{length-without}
use Rattle.std.proofs.Math.Bool.{or-true}
use Rattle.lf_pool.specs.declared.cell.Cell.{Cell}
use Rattle.lf_pool.specs.Cells.{IsChain, link_at}
use Rattle.lf_pool.proofs.Joins.{chain_in_range}

lacks_fewer : (n x : ℕ) (xs : List ℕ) → Lacks eqb x xs → Lacks eqb x (without eqb n xs)
lacks_fewer n x [] l = tt
lacks_fewer n x (y ∷ ys) l = elim (eqb n y) as (λ b. Lacks eqb x (cond (not b) (y ∷ without eqb n ys) (without eqb n ys))) [
  | true ↦ lacks_fewer n x ys l.1
  | false ↦ (l.0, lacks_fewer n x ys l.1)
]

differ_fewer : (n : ℕ) (xs : List ℕ) → NodesDiffer eqb xs → NodesDiffer eqb (without eqb n xs)
differ_fewer n [] d = tt
differ_fewer n (y ∷ ys) d = elim (eqb n y) as (λ b. NodesDiffer eqb (cond (not b) (y ∷ without eqb n ys) (without eqb n ys))) [
  | true ↦ differ_fewer n ys d.1
  | false ↦ (lacks_fewer n y ys d.0, differ_fewer n ys d.1)
]

has_fewer : (n q : ℕ) (xs : List ℕ) → has eqb q (without eqb n xs) ≡ true → (has eqb q xs ≡ true) × (n ≢ q)
has_fewer n q [] h = absurd (cc h)
has_fewer n q (y ∷ ys) h = elim (eqb n y) as (λ b. eqb n y ≡ b → has eqb q (cond (not b) (y ∷ without eqb n ys) (without eqb n ys)) ≡ true → (has eqb q (y ∷ ys) ≡ true) × (n ≢ q)) [
  | true ↦ λ _ k. let r = has_fewer n q ys k in (ap (λ b. eqb q y || b) r.0 ∙ or-true (eqb q y), r.1)
  | false ↦ λ e k. elim (eqb q y) as (λ b. eqb q y ≡ b → (b || has eqb q (without eqb n ys)) ≡ true → ((b || has eqb q ys) ≡ true) × (n ≢ q)) [
    | true ↦ λ t _. (refl, λ s. let u : eqb n y ≡ true = (Decides-eqb n y).1 (s ∙ (Decides-eqb q y).0 t) in cc (u, e))
    | false ↦ λ _ m. has_fewer n q ys m
  ] refl k
] refl h

below : (q n : ℕ) → q < suc n → n ≢ q → q < n
below q n l d = let e : q ≢ n = λ e. d (sym e) in omega (arith, l, e)

bounded : (n : ℕ) (xs : List ℕ) → NodesDiffer eqb xs → ((q : ℕ) → has eqb q xs ≡ true → q < n) → length xs ≤ n
bounded zero [] d h = omega arith
bounded zero (x ∷ xs) d h = let l = h x (ap (λ b. b || has eqb x xs) ((Decides-eqb x x).1 refl)) in absurd (omega arith)
bounded (suc n) xs d h = elim (has eqb n xs) as (λ b. has eqb n xs ≡ b → length xs ≤ suc n) [
  | true ↦ λ k.
      let e = length-without eqb Decides-eqb n xs d k in
      let r : length (without eqb n xs) ≤ n = bounded n (without eqb n xs) (differ_fewer n xs d) (λ q m. below q n (h q (has_fewer n q xs m).0) (has_fewer n q xs m).1) in
      omega (arith, e, r)
  | false ↦ λ k. let r : length xs ≤ n = bounded n xs d (λ q m. below q n (h q m) (λ e. cc (ap (λ w. has eqb w xs) e ∙ m, k))) in omega (arith, r)
] refl

pub chain_fits : {T : Type 0} (cells : List (Cell T)) (xs : List ℕ) → IsChain (link_at cells) xs → length xs ≤ length cells
chain_fits cells xs c = bounded (length cells) xs c.differ (λ q h. chain_in_range cells xs q c h)
