-- Fields of a row by their place.
use Rattle.std.proofs.Common.{◌≡◌, ℕ, true, ◌<◌, List, [], ◌∷◌, length, slice_get, Some, refl, ap, sym, ◌∙◌, zero, suc, ◌||◌}
use Rattle.std.specs.Prelude.{eqb}
use Rattle.std.specs.List.{cons_option}
use Rattle.std.proofs.Math.Bool.{or-true}
use Rattle.std.proofs.lemmas.Bool.Decides.{Decides-eqb}
use Rattle.lf_base.specs.declared.values.Key.{Key}
use Rattle.lf_base.specs.declared.values.Value.{Value}
use Rattle.lf_base.specs.Links.{has}
use Rattle.lf_base.proofs.ListLemmas.LinkedLists.{has-at}
use Rattle.lf_pool.specs.Cells.{item_at, node}
use Rattle.lf_pool.specs.Pools.{IsLeft}
use Rattle.lf_pool.proofs.Joins.{chain_in_range}
use Rattle.lf_poolstore.specs.Units.{FieldPool, items_in, pair_by}
use Rattle.lf_poolstore.proofs.CellFields.{item_there}

-- the field at a place is the one in the cell at that place
pub pair_at : (m : FieldPool) (xs : List ℕ) (i : ℕ) → ((q : ℕ) → has eqb q xs ≡ true → q < length m.cells) → pair_by m (slice_get xs i) ≡ slice_get (items_in m xs) i
pair_at m [] i k = refl
pair_at m (x ∷ xs) i k = go (λ j. pair_at m xs j later) (item_there m.cells x (k x (ap (λ b. b || has eqb x xs) ((Decides-eqb x x).1 refl)))) i where
  later : (q : ℕ) → has eqb q xs ≡ true → q < length m.cells
  later q g = k q (ap (λ b. eqb q x || b) g ∙ or-true (eqb q x))

  go : ((j : ℕ) → pair_by m (slice_get xs j) ≡ slice_get (items_in m xs) j) → (t : Key × Value) × (item_at m.cells x ≡ Some t) → (j : ℕ) → pair_by m (slice_get (x ∷ xs) j) ≡ slice_get (cons_option (item_at m.cells x) (items_in m xs)) j
  go ih t zero = t.1 ∙ sym (ap (λ w. slice_get (cons_option w (items_in m xs)) zero) t.1)
  go ih t (suc j) = ih j ∙ sym (ap (λ w. slice_get (cons_option w (items_in m xs)) (suc j)) t.1)

pub place_in_range : (m : FieldPool) (first : ℕ) (xs : List ℕ) (i x : ℕ) → IsLeft m (node first) xs → slice_get xs i ≡ Some x → x < length m.cells
place_in_range m first xs i x l e = chain_in_range m.cells xs x l.chain (has-at eqb Decides-eqb xs i x e)
