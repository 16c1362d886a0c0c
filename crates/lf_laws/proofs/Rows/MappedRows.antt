-- Rows changed one by one: what keeps names keeps the names of all, and what keeps owners too keeps the owner of each name.
use Rattle.std.proofs.Common.{List, Some, [], ap, cond, false, map, refl, true, ◌∙◌, ◌∷◌, ◌≡◌}
use Rattle.lf_base.specs.Names.{same_name}
use Rattle.lf_base.specs.Owners.{names, owner_in, row_at, row_owner}
use Rattle.lf_base.specs.PlainState.{Row}
use Rattle.lf_base.specs.declared.ids.ObjId.{ObjId}

module _ (f : Row → Row) (name : (r : Row) → (f r).name ≡ r.name) where
  pub mapped_names : (rows : List Row) → names (map f rows) ≡ names rows
  mapped_names [] = refl
  mapped_names (r ∷ rs) = (λ i. name r i ∷ mapped_names rs i)

  pub mapped_owner : ((r : Row) → (f r).owner ≡ r.owner) → (rows : List Row) (o : ObjId) → owner_in (map f rows) o ≡ owner_in rows o
  mapped_owner owner [] o = refl
  mapped_owner owner (r ∷ rs) o =
      ap (λ n. row_owner (cond (same_name n o) (Some (f r)) (row_at (map f rs) o))) (name r)
      ∙ elim (same_name r.name o) as (λ b. row_owner (cond b (Some (f r)) (row_at (map f rs) o)) ≡ row_owner (cond b (Some r) (row_at rs o))) [
        | true ↦ ap Some (owner r)
        | false ↦ mapped_owner owner rs o
      ]
