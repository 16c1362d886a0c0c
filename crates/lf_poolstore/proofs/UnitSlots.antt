-- Slots of units: one taken out, another one changed, and the first one put back.
use Rattle.std.proofs.Common.{◌≡◌, ℕ, Bool, true, false, cond, Some, None, ap, sym, ◌∙◌, refl}
use Rattle.std.specs.Prelude.{eqb}
use Rattle.std.proofs.lemmas.Bool.Decides.{Decides-eqb}
use Rattle.slab.specs.Slab.{Slab, Updates, get, with_value}
use Rattle.lf_poolstore.specs.Units.{UnitView}
use Rattle.lf_poolstore.proofs.PoolChanges.{slot_set}

module _ (before out back : Slab UnitView) (n k key : ℕ) (apart : eqb n k ≡ false) (u left taken : UnitView) (removed : Updates before out k None) (here : get out n ≡ Some u) (is_key : key ≡ k) (put : Updates (with_value out n left) back key (Some taken)) where
  pub three_slots : (m : ℕ) → get back m ≡ cond (eqb k m) (Some taken) (cond (eqb n m) (Some left) (get before m))
  three_slots m = elim (eqb k m) as (λ b. eqb k m ≡ b → get back m ≡ cond b (Some taken) (cond (eqb n m) (Some left) (get before m))) [
    | true ↦ λ e. ap (get back) (sym ((Decides-eqb k m).0 e) ∙ sym is_key) ∙ put.changed
    | false ↦ λ e.
        put.others m (λ z. let y : eqb k m ≡ true = (Decides-eqb k m).1 (sym (z ∙ is_key)) in cc (y, e)) ∙ slot_set out.slots n u left here m
        ∙ ap (cond (eqb n m) (Some left)) (removed.others m (λ z. let y : eqb k m ≡ true = (Decides-eqb k m).1 (sym z) in cc (y, e)))
  ] refl

  pub here_before : get before n ≡ Some u
  here_before = sym (removed.others n (λ z. let y : eqb n k ≡ true = (Decides-eqb n k).1 z in cc (y, apart))) ∙ here

-- two slots changed, one after the other
module _ (before : Slab UnitView) (n k : ℕ) (apart : eqb n k ≡ false) (u t taken left : UnitView) (at_u : get before n ≡ Some u) (at_t : get before k ≡ Some t) where
  mid : (m : ℕ) → get (with_value before k taken) m ≡ cond (eqb k m) (Some taken) (get before m)
  mid m = slot_set before.slots k t taken at_t m

  other_way : eqb k n ≡ false
  other_way = go (eqb k n) refl where
    go : (b : Bool) → eqb k n ≡ b → b ≡ false
    go false e = refl
    go true e = let y : eqb n k ≡ true = (Decides-eqb n k).1 (sym ((Decides-eqb k n).0 e)) in absurd (cc (y, apart))

  pub still_here : get (with_value before k taken) n ≡ Some u
  still_here = mid n ∙ ap (λ b. cond b (Some taken) (get before n)) other_way ∙ at_u

  pub two_slots : (m : ℕ) → get (with_value (with_value before k taken) n left) m ≡ cond (eqb k m) (Some taken) (cond (eqb n m) (Some left) (get before m))
  two_slots m = slot_set (with_value before k taken).slots n u left still_here m ∙ ap (cond (eqb n m) (Some left)) (mid m) ∙ go (eqb k m) refl where
    go : (b : Bool) → eqb k m ≡ b → cond (eqb n m) (Some left) (cond b (Some taken) (get before m)) ≡ cond b (Some taken) (cond (eqb n m) (Some left) (get before m))
    go false e = refl
    go true e = ap (λ b. cond b (Some left) (Some taken)) (ap (eqb n) (sym ((Decides-eqb k m).0 e)) ∙ apart)
