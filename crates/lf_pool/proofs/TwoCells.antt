-- Two cells in a chain, of which the first one is taken out.
use Rattle.std.proofs.Common.{◌≡◌, ◌≢◌, ℕ, true, false, cond, not, ◌||◌, [], ◌∷◌, Option, Some, None, refl, ap, sym, ◌∙◌, subst}
use Rattle.std.specs.Prelude.{eqb}
use Rattle.std.proofs.lemmas.Bool.Decides.{Decides-eqb}
use Rattle.lf_base.specs.Links.{has, head_or, without}
use Rattle.lf_base.proofs.ListLemmas.LinkedLists.{flipped}
use Rattle.lf_pool.specs.Cells.{IsChain, link_at}
use Rattle.lf_pool.specs.Pools.{Chain, IsLeft, PoolView}

-- a number that isn't in the list of one is another
pub not_first : (a b : ℕ) → has eqb b (a ∷ []) ≡ false → eqb b a ≡ false
not_first a b h = elim (eqb b a) as (λ t. (t || false) ≡ false → t ≡ false) [
  | true ↦ λ k. k
  | false ↦ λ k. k
] h

pub apart : (a b : ℕ) → has eqb b (a ∷ []) ≡ false → a ≢ b
apart a b h e = let t : eqb b a ≡ true = (Decides-eqb b a).1 (sym e) in let f = not_first a b h in cc (t, f)

pub second_left : (a b : ℕ) → has eqb b (a ∷ []) ≡ false → without eqb a (a ∷ b ∷ []) ≡ b ∷ []
second_left a b h =
    ap (λ t. cond (not t) (a ∷ without eqb a (b ∷ [])) (without eqb a (b ∷ []))) ((Decides-eqb a a).1 refl)
    ∙ ap (λ t. cond (not t) (b ∷ []) []) (flipped eqb Decides-eqb b a (not_first a b h))

-- the second one is a chain of its own once the first one is out
pub second_chain : {T : Type 0} (p : PoolView T) (a b : ℕ) (first : Option ℕ) → has eqb b (a ∷ []) ≡ false → IsLeft p first (without eqb a (a ∷ b ∷ [])) → Chain p b (b ∷ [])
second_chain p a b first h l =
    let e = second_left a b h in
    let begins : Some b ≡ first = ap (λ t. head_or t None) (sym e) ∙ l.begins in
    ((subst (IsChain (link_at p.cells)) e l.chain, refl), l.live b (sym begins))
