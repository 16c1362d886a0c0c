-- Names that stand in a list once, told by counts and by tests.
use Rattle.std.proofs.Common.{List, [], ap, arith, cond, false, refl, sym, true, ℕ, ◌+◌, ◌∙◌, ◌∷◌, ◌≡◌, ◌≤◌}
use Rattle.std.specs.List.Sorted.{IsPermutation}
use Rattle.std.proofs.lemmas.List.Sorted.{sum_by-IsPermutation}
use Rattle.std.proofs.lemmas.List.Sums.{sum_by-cons}
use Rattle.lf_base.specs.declared.ids.ObjId.{ObjId}
use Rattle.lf_base.specs.Names.{same_name}
use Rattle.lf_base.specs.Sets.{Differ}
use Rattle.lf_base.proofs.ListLemmas.Tests.{any_none, count_none, none_any, none_count}
use Rattle.lf_base.proofs.NameLemmas.SameNames.{same_name_is, same_name_itself}
use Rattle.lf_heap.proofs.RegionWalks.OwnedOnce.{Once, times}

pub once_differ : (os : List ObjId) → Differ same_name os → Once os
once_differ [] d t = omega arith
once_differ (o ∷ os) d t = elim (same_name o t) as (λ b. same_name o t ≡ b → times t (o ∷ os) ≤ 1) [
  | true ↦ λ e.
      let none : times t os ≡ 0 = none_count (λ p. same_name p t) os (λ p m. ap (same_name p) (sym (same_name_is o t e)) ∙ none_any (λ p. same_name p o) os d.0 p m) in
      omega (arith, none, sum_by-cons (λ p. cond (same_name p t) 1 0) o os, ap {B = ℕ} (λ b. cond b 1 0) e)
  | false ↦ λ e. omega (arith, once_differ os d.1 t, sum_by-cons (λ p. cond (same_name p t) 1 0) o os, ap {B = ℕ} (λ b. cond b 1 0) e)
] refl

pub differ_once : (os : List ObjId) → Once os → Differ same_name os
differ_once [] once = tt
differ_once (o ∷ os) once =
    let more : (t : ObjId) → times t (o ∷ os) ≡ cond (same_name o t) 1 0 + times t os = λ t. sum_by-cons (λ p. cond (same_name p t) 1 0) o os in
    let none : times o os ≡ 0 = omega (arith, once o, more o, ap {B = ℕ} (λ b. cond b 1 0) (same_name_itself o)) in
    (any_none (λ p. same_name p o) os (count_none (λ p. same_name p o) os none), differ_once os (λ t. omega (arith, once t, more t)))

pub differ_permuted : (os ps : List ObjId) → IsPermutation os ps → Differ same_name os → Differ same_name ps
differ_permuted os ps s d = differ_once ps (λ t. omega (arith, sum_by-IsPermutation (λ o. cond (same_name o t) 1 0) os ps s, once_differ os d t))
