-- What is seen of a unit is whole.
use Rattle.std.proofs.Common.{◌≡◌, Bool, true, false, cond, is_some, [], ◌∷◌, Some, refl, ap, ◌∙◌}
use Rattle.std.specs.Map.{lookup}
use Rattle.lf_base.specs.declared.ids.ObjId.{ObjId}
use Rattle.lf_base.specs.declared.values.Owner.{Owner}
use Rattle.lf_base.specs.Names.{same_name, same_owner}
use Rattle.lf_base.proofs.NameLemmas.SameNames.{same_name_flips}
use Rattle.lf_graph.specs.StoredRows.{row_named, rows_of}
use Rattle.lf_poolstore.specs.RowLists.{ListView}
use Rattle.lf_poolstore.specs.Units.{FieldPool, IsWhole, places_in, rows_in, unit_view, whole}
use Rattle.lf_poolstore.proofs.Entries.{Entries}

module _ (owner : Owner) (cells : FieldPool) where
  all_under : (w : Owner) (es : Entries) → rows_of w (rows_in owner cells es) ≡ cond (same_owner owner w) (rows_in owner cells es) []
  all_under w es = go (same_owner owner w) refl es where
    go : (b : Bool) → same_owner owner w ≡ b → (us : Entries) → rows_of w (rows_in owner cells us) ≡ cond b (rows_in owner cells us) []
    go true e [] = refl
    go false e [] = refl
    go true e (u ∷ us) = ap (λ t. cond t (whole owner cells u.1 ∷ rows_of w (rows_in owner cells us)) (rows_of w (rows_in owner cells us))) e ∙ ap (λ t. whole owner cells u.1 ∷ t) (go true e us)
    go false e (u ∷ us) = ap (λ t. cond t (whole owner cells u.1 ∷ rows_of w (rows_in owner cells us)) (rows_of w (rows_in owner cells us))) e ∙ go false e us

  all_placed : (o : ObjId) (es : Entries) → is_some (row_named (rows_in owner cells es) o) ≡ is_some (lookup (same_name o) (places_in es))
  all_placed o [] = refl
  all_placed o (e ∷ es) =
      ap (λ b. is_some (cond b (Some (whole owner cells e.1)) (row_named (rows_in owner cells es) o))) (same_name_flips (e.1).name o)
      ∙ (elim (same_name o (e.1).name) as (λ b. is_some (cond b (Some (whole owner cells e.1)) (row_named (rows_in owner cells es) o)) ≡ is_some (cond b (Some e.0) (lookup (same_name o) (places_in es)))) [
        | true ↦ refl
        | false ↦ all_placed o es
      ])

pub whole_view : (owner : Owner) (l : ListView) (cells : FieldPool) → IsWhole (unit_view owner l cells)
whole_view owner l cells = record { under = λ w. all_under owner cells w l.entries; placed = λ o. all_placed owner cells o l.entries }
