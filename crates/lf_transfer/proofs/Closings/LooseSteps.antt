-- One edge less: which inner rows are let loose then, and that the list has room for each of them.
use Rattle.std.proofs.Common.{Bool, List, ap, arith, cond, eqb, false, ltb, subst, sym, true, ℕ, ◌&&◌, ◌+◌, ◌<◌, ◌∙◌, ◌∷◌, ◌≡◌, ◌≤◌, ◌||◌}
use Rattle.std.proofs.Math.Bool.{and-false}
use Rattle.std.proofs.lemmas.Bool.{eqb-true, false_from_ne_true}
use Rattle.lf_base.specs.declared.ids.ObjId.{ObjId}
use Rattle.lf_base.specs.Names.{same_name}
use Rattle.lf_base.specs.Owners.{has_name, owner_in}
use Rattle.lf_base.specs.PlainState.{State}
use Rattle.lf_base.specs.WalkCounts.{refs}
use Rattle.lf_base.proofs.ListLemmas.Tests.{by_test}
use Rattle.lf_base.proofs.NameLemmas.SameNames.{same_name_is, same_name_itself}
use Rattle.lf_laws.proofs.Losses.CountsFall.{positive_test}
use Rattle.lf_transfer.specs.Closing.{LetsLoose, is_inner, is_let_loose}

pub no_zero : (n : ℕ) → 0 < n → eqb n 0 ≡ false
no_zero n some = false_from_ne_true (eqb n 0) (λ h. omega (arith, some, eqb-true n 0 h))

-- an object to which an edge leads isn't let loose
pub not_loose : (s t : State) (o : ObjId) → 0 < refs t o → is_let_loose s t o ≡ false
not_loose s t o some =
    ap (λ b. is_inner o (owner_in s.rows o) && (ltb 0 (refs s o) && b)) (no_zero (refs t o) some)
    ∙ ap (λ b. is_inner o (owner_in s.rows o) && b) (and-false (ltb 0 (refs s o))) ∙ and-false (is_inner o (owner_in s.rows o))

module _ (s t u : State) (o : ObjId) (lost : (q : ObjId) → refs t q ≡ refs u q + cond (same_name o q) 1 0) where
  abbrev inner : ObjId → Bool
  inner q = is_inner q (owner_in s.rows q)

  pub loose_elsewhere : (q : ObjId) → same_name o q ≡ false → is_let_loose s u q ≡ is_let_loose s t q
  loose_elsewhere q e =
      let same : refs u q ≡ refs t q = sym (lost q ∙ ap (λ b. refs u q + cond b 1 0) e ∙ omega arith) in
      ap (λ n. inner q && (ltb 0 (refs s q) && eqb n 0)) same

  pub one_more : refs t o ≡ refs u o + 1
  one_more = lost o ∙ ap (λ b. refs u o + cond b 1 0) (same_name_itself o)

  -- before its edge was lost, o wasn't let loose
  not_yet : is_let_loose s t o ≡ false
  not_yet = not_loose s t o (omega (arith, one_more))

  still_held : (inner o && eqb (refs u o) 0) ≡ false → is_let_loose s u o ≡ false
  still_held none = by_test (inner o)
      (λ i. let n : eqb (refs u o) 0 ≡ false = ap (λ b. b && eqb (refs u o) 0) (sym i) ∙ none in
      ap (λ b. inner o && (ltb 0 (refs s o) && b)) n ∙ ap (λ b. inner o && b) (and-false (ltb 0 (refs s o))) ∙ and-false (inner o))
      (λ i. ap (λ b. b && (ltb 0 (refs s o) && eqb (refs u o) 0)) i)

  -- where o isn't one that is let loose now, none is that wasn't before
  pub none_here : (inner o && eqb (refs u o) 0) ≡ false → (q : ObjId) → is_let_loose s u q ≡ is_let_loose s t q
  none_here none q = by_test (same_name o q)
      (λ e. subst (λ p. is_let_loose s u p ≡ is_let_loose s t p) (same_name_is o q e) (still_held none ∙ sym not_yet))
      (loose_elsewhere q)

  module _ (some : 0 < refs s o) (loose : (inner o && eqb (refs u o) 0) ≡ true) where
    here : is_let_loose s u o ≡ true
    here = ap (λ b. inner o && (b && eqb (refs u o) 0)) (positive_test (refs s o) some) ∙ loose

    pub one_here : (more : List ObjId) → ((q : ObjId) → has_name more q ≡ is_let_loose s t q) → (q : ObjId)
        → has_name (o ∷ more) q ≡ is_let_loose s u q
    one_here more each q = by_test (same_name o q)
        (λ e. ap (λ b. b || has_name more q) e ∙ sym (ap (is_let_loose s u) (sym (same_name_is o q e)) ∙ here))
        (λ e. ap (λ b. b || has_name more q) e ∙ each q ∙ sym (loose_elsewhere q e))

  module _ (fewer : (q : ObjId) → refs t q ≤ refs s q) (old mid new : List ObjId) (so_far : LetsLoose s t old mid) where
    abbrev is_loose : Bool
    is_loose = inner o && eqb (refs u o) 0

    lets_none : is_loose ≡ false → new ≡ mid → LetsLoose s u old new
    lets_none none is = record {
      more = so_far.more;
      grows = is ∙ so_far.grows;
      once = so_far.once;
      each = λ q. so_far.each q ∙ sym (none_here none q);
    }

    lets_one : is_loose ≡ true → new ≡ o ∷ mid → LetsLoose s u old new
    lets_one loose is = record {
      more = o ∷ so_far.more;
      grows = is ∙ ap (λ l. o ∷ l) so_far.grows;
      once = (so_far.each o ∙ not_yet, so_far.once);
      each = one_here (omega (arith, one_more, fewer o)) loose so_far.more so_far.each;
    }

    pub lets_loose : new ≡ cond is_loose (o ∷ mid) mid → LetsLoose s u old new
    lets_loose is = by_test is_loose
        (λ e. lets_one e (is ∙ ap (λ b. cond b (o ∷ mid) mid) e))
        (λ e. lets_none e (is ∙ ap (λ b. cond b (o ∷ mid) mid) e))
