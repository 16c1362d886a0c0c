-- Cells of a chain by their place.
use Rattle.std.proofs.Common.{◌≡◌, ℕ, true, false, cond, ◌||◌, ◌≤◌, List, [], ◌∷◌, slice_get, Some, None, refl, ap, sym, ◌∙◌, zero, suc, arith}
use Rattle.std.specs.Prelude.{eqb}
use Rattle.std.proofs.lemmas.Bool.Decides.{Decides-eqb}
use Rattle.lf_base.specs.Links.{Lacks, NodesDiffer, after, has, head_or}
use Rattle.lf_base.proofs.ListLemmas.LinkedLists.{first_is, has-at}
use Rattle.lf_pool.specs.declared.cell.TheConstants.{NONE}
use Rattle.lf_pool.specs.Cells.{node}
use Rattle.lf_pool.proofs.Joins.{some_is}

-- a member of a list is none of those that the list lacks
pub member_apart : (x q : ℕ) (xs : List ℕ) → has eqb q xs ≡ true → Lacks eqb x xs → eqb x q ≡ false
member_apart x q [] h l = absurd (cc h)
member_apart x q (y ∷ ys) h l = elim (eqb q y) as (λ b. eqb q y ≡ b → (b || has eqb q ys) ≡ true → eqb x q ≡ false) [
  | true ↦ λ e _. ap (eqb x) ((Decides-eqb q y).0 e) ∙ l.0
  | false ↦ λ _ g. member_apart x q ys g l.1
] refl h

pub apart_of_member : (q x : ℕ) (xs : List ℕ) → has eqb q xs ≡ true → Lacks eqb x xs → eqb q x ≡ false
apart_of_member q x xs h l = elim (eqb q x) as (λ b. eqb q x ≡ b → b ≡ false) [
  | true ↦ λ e. let k : eqb x q ≡ true = (Decides-eqb x q).1 (sym ((Decides-eqb q x).0 e)) in let n = member_apart x q xs h l in cc (k, n)
  | false ↦ λ _. refl
] refl

-- the cell behind the one at a place
pub after_at : (xs : List ℕ) (x : ℕ) (i : ℕ) → NodesDiffer eqb xs → slice_get xs i ≡ Some x → after eqb x xs ≡ slice_get xs (suc i)
after_at [] x i d e = cc
after_at (y ∷ ys) x zero d e = ap (λ b. cond b (head_or ys None) (after eqb x ys)) ((Decides-eqb x y).1 (sym (some_is y x e))) ∙ sym (first_is ys)
after_at (y ∷ ys) x (suc i) d e =
    ap (λ b. cond b (head_or ys None) (after eqb x ys)) (apart_of_member x y ys (has-at eqb Decides-eqb ys i x e) d.0) ∙ after_at ys x i d.1 e

-- nothing stands past the end
pub past_end : (xs : List ℕ) (i j : ℕ) → slice_get xs i ≡ None → i ≤ j → slice_get xs j ≡ None
past_end [] i j e l = refl
past_end (y ∷ ys) zero j e l = cc
past_end (y ∷ ys) (suc i) zero e l = absurd (omega (arith, l))
past_end (y ∷ ys) (suc i) (suc j) e l = past_end ys i j e (omega (arith, l))

-- the number that is no cell's
pub no_number : (n : ℕ) → n ≡ NONE → node n ≡ None
no_number n e = ap (λ b. cond b None (Some n)) ((Decides-eqb n NONE).1 e)
