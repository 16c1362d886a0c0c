-- A walk along a chain to a key.
use Rattle.std.proofs.Common.{◌≡◌, ℕ, suc, ◌+◌, ◌<◌, ◌≤◌, true, false, cond, ◌||◌, List, [], ◌∷◌, ◌++◌, length, Some, None, refl, ap, sym, ◌∙◌, subst, arith, length-append}
use Rattle.std.specs.Prelude.{eqb}
use Rattle.std.proofs.lemmas.Bool.Decides.{Decides-eqb}
use Rattle.std.proofs.Math.Bool.{or-true}
use Rattle.lf_base.specs.declared.links.Link.{Link}
use Rattle.lf_base.specs.declared.values.Key.{Key}
use Rattle.lf_base.specs.declared.values.Value.{Value}
use Rattle.lf_base.specs.Links.{LinksSpell, after, head_or, last_or, has, link, next_of, walk}
use Rattle.lf_base.proofs.ListLemmas.LinkedLists.{LinksSpell-right, has-append, walk-LinksSpell}
use Rattle.lf_pool.specs.declared.cell.Cell.{Cell}
use Rattle.lf_pool.specs.Cells.{IsChain, item_at, link_at, node}
use Rattle.lf_pool.specs.Fields.{first_with, is_keyed}
use Rattle.lf_pool.proofs.Counted.{chain_fits}
use Rattle.lf_pool.proofs.Joins.{chain_in_range, some_is}
use Rattle.lf_pool.proofs.Parts.{after_is}

abbrev Fields : Type 0
Fields = List (Cell (Key × Value))

-- how many cells come at that cell and behind it
abbrev pub cells_left : Fields → ℕ → ℕ
cells_left cells at = length (walk (length cells) (link_at cells) (Some at))

-- the chain from a cell on, where no cell before it has the key
pub record From (cells : Fields) (k : Key) (xs : List ℕ) (at : ℕ) : Type 0 where
  pub front : List ℕ
  pub back : List ℕ
  pub is : xs ≡ front ++ at ∷ back
  pub none : first_with cells k xs ≡ first_with cells k (at ∷ back)

pub from_first : (cells : Fields) (k : Key) (xs : List ℕ) (at : ℕ) → head_or xs None ≡ Some at → From cells k xs at
from_first cells k [] at h = cc
from_first cells k (x ∷ xs) at h =
    let e : x ≡ at = some_is x at h in
    record { front = []; back = xs; is = ap (λ t. t ∷ xs) e; none = ap (λ t. first_with cells k (t ∷ xs)) e }

module _ (cells : Fields) (k : Key) (xs : List ℕ) (at : ℕ) (z : IsChain (link_at cells) xs) (r : From cells k xs at) where
  pub from_member : has eqb at xs ≡ true
  from_member =
      ap (has eqb at) r.is ∙ has-append eqb Decides-eqb at r.front (at ∷ r.back) ∙ ap (λ b. has eqb at r.front || (b || has eqb at r.back)) ((Decides-eqb at at).1 refl) ∙ or-true (has eqb at r.front)

  pub from_in_range : at < length cells
  from_in_range = chain_in_range cells xs at z from_member

  pub from_found : is_keyed k (item_at cells at) ≡ true → node at ≡ Some at → node at ≡ first_with cells k xs
  from_found h n = n ∙ sym (r.none ∙ ap (λ b. cond b (Some at) (first_with cells k r.back)) h)

  spelled : LinksSpell (link_at cells) (last_or (last_or None xs) r.front) (at ∷ r.back) None
  spelled = LinksSpell-right (link_at cells) (last_or None xs) r.front (at ∷ r.back) None (subst (λ t. LinksSpell (link_at cells) (last_or None xs) t None) r.is z.links)

  fits : length (at ∷ r.back) ≤ length cells
  fits =
      let all = chain_fits cells xs z in
      let sum : length xs ≡ length r.front + length (at ∷ r.back) = ap length r.is ∙ length-append r.front (at ∷ r.back) in
      omega (arith, all, sum)

  pub left_is : cells_left cells at ≡ length (at ∷ r.back)
  left_is = ap length (walk-LinksSpell (length cells) (link_at cells) (last_or (last_or None xs) r.front) (at ∷ r.back) spelled fits)

  next_is : after eqb at xs ≡ head_or r.back None
  next_is =
      let a = after_is (link_at cells) (last_or None xs) xs at z.links from_member in
      sym a.2 ∙ some_next a.0 (sym a.1 ∙ spelled.0)
    where
      some_next : (l : Link ℕ) → Some l ≡ Some (link (last_or (last_or None xs) r.front) (head_or r.back None)) → l.next ≡ head_or r.back None
      some_next l e = ap next_of e

  module _ (on : ℕ) (step : node on ≡ after eqb at xs) (other : is_keyed k (item_at cells at) ≡ false) where
    skipped : first_with cells k xs ≡ first_with cells k r.back
    skipped = r.none ∙ ap (λ b. cond b (Some at) (first_with cells k r.back)) other

    pub from_over : node on ≡ None → None ≡ first_with cells k xs
    from_over n = sym (skipped ∙ empty r.back (sym next_is ∙ sym step ∙ n)) where
      empty : (ys : List ℕ) → head_or ys None ≡ None → first_with cells k ys ≡ None
      empty [] h = refl
      empty (y ∷ ys) h = cc

    -- the chain from the next cell on, which is shorter
    pub from_next : node on ≡ Some on → (s : From cells k xs on) × (suc (length s.back) ≡ length r.back)
    from_next n = go r.back r.is skipped (sym next_is ∙ sym step ∙ n) where
      regroup : (us : List ℕ) (w : ℕ) (vs : List ℕ) → us ++ w ∷ vs ≡ (us ++ w ∷ []) ++ vs
      regroup [] w vs = refl
      regroup (u ∷ us) w vs = ap (λ t. u ∷ t) (regroup us w vs)

      go : (back : List ℕ) → xs ≡ r.front ++ at ∷ back → first_with cells k xs ≡ first_with cells k back → head_or back None ≡ Some on → (s : From cells k xs on) × (suc (length s.back) ≡ length back)
      go [] i s h = cc
      go (y ∷ ys) i s h =
          let e : y ≡ on = some_is y on h in
          (record { front = r.front ++ at ∷ []; back = ys; is = i ∙ regroup r.front at (y ∷ ys) ∙ ap (λ t. (r.front ++ at ∷ []) ++ t ∷ ys) e; none = s ∙ ap (λ t. first_with cells k (t ∷ ys)) e }, refl)

    -- fewer cells are left
    pub fewer_left : node on ≡ Some on → cells_left cells on < cells_left cells at
    fewer_left n =
        let s = from_next n in
        let a = left_is in
        let b : cells_left cells on ≡ suc (length (s.0).back) = tail_left (s.0) in
        omega (arith, a, b, s.1)
      where
        tail_left : (t : From cells k xs on) → cells_left cells on ≡ suc (length t.back)
        tail_left t =
            let all = chain_fits cells xs z in
            let sum : length xs ≡ length t.front + suc (length t.back) = ap length t.is ∙ length-append t.front (on ∷ t.back) in
            ap length (walk-LinksSpell (length cells) (link_at cells) (last_or (last_or None xs) t.front) (on ∷ t.back)
            (LinksSpell-right (link_at cells) (last_or None xs) t.front (on ∷ t.back) None (subst (λ u. LinksSpell (link_at cells) (last_or None xs) u None) t.is z.links)) (omega (arith, all, sum)))
