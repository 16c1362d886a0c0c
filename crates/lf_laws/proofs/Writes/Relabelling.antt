-- The owners after some rows were given to another owner.
use Rattle.std.proofs.Common.{Bool, List, None, Option, Some, [], ap, cond, false, refl, sym, true, ◌∙◌, ◌∷◌, ◌≡◌}
use Rattle.lf_base.specs.declared.ids.ObjId.{ObjId}
use Rattle.lf_base.specs.declared.values.Owner.{Owner}
use Rattle.lf_base.specs.Names.{same_name}
use Rattle.lf_base.specs.Owners.{has_name, owner_in, row_at, row_owner}
use Rattle.lf_base.specs.PlainState.{Row}
use Rattle.lf_base.specs.WriteResult.{relabel}
use Rattle.lf_base.proofs.NameLemmas.SameNames.{same_name_is}

abbrev pub owner_over : Bool → Owner → Option Owner → Option Owner
owner_over b w None = None
owner_over true w (Some v) = Some w
owner_over false w (Some v) = Some v

pub owner_relabel : (rows : List Row) (os : List ObjId) (w : Owner) (o : ObjId) → owner_in (relabel rows os w) o ≡ owner_over (has_name os o) w (owner_in rows o)
owner_relabel [] os w o = refl
owner_relabel (r ∷ rs) os w o =
    elim (has_name os r.name) as (λ b. has_name os r.name ≡ b → owner_in (cond b (record r { owner = w }) r ∷ relabel rs os w) o ≡ owner_over (has_name os o) w (owner_in (r ∷ rs) o)) [
      | true ↦ λ e. elim (same_name r.name o) as (λ c. same_name r.name o ≡ c → row_owner (cond c (Some (record r { owner = w })) (row_at (relabel rs os w) o)) ≡ owner_over (has_name os o) w (row_owner (cond c (Some r) (row_at rs o)))) [
        | true ↦ λ h. ap (λ b. owner_over b w (Some (r.owner))) (sym e ∙ ap (has_name os) (same_name_is r.name o h))
        | false ↦ λ h. owner_relabel rs os w o
      ] refl
      | false ↦ λ e. elim (same_name r.name o) as (λ c. same_name r.name o ≡ c → row_owner (cond c (Some r) (row_at (relabel rs os w) o)) ≡ owner_over (has_name os o) w (row_owner (cond c (Some r) (row_at rs o)))) [
        | true ↦ λ h. ap (λ b. owner_over b w (Some (r.owner))) (sym e ∙ ap (has_name os) (same_name_is r.name o h))
        | false ↦ λ h. owner_relabel rs os w o
      ] refl
    ] refl
