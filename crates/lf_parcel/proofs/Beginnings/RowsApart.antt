-- Rows that were put among others by rising name: where the result has each name once, the rows were apart.
use Rattle.std.proofs.Common.{List, [], cond, false, inl, inr, refl, subst, sym, true, ◌∙◌, ◌∷◌, ◌≡◌}
use Rattle.std.proofs.lemmas.Bool.{or_from, or_parts}
use Rattle.lf_base.specs.FreezeResult.{insert_rows}
use Rattle.lf_base.specs.Names.{name_below, same_name}
use Rattle.lf_base.specs.Owners.{has_row}
use Rattle.lf_base.specs.PlainChanges.{insert_row}
use Rattle.lf_base.specs.PlainState.{Row}
use Rattle.lf_base.specs.Sets.{Member}
use Rattle.lf_base.proofs.NameLemmas.RowNames.{has_inserted}
use Rattle.lf_base.proofs.NameLemmas.SameNames.{other_way}
use Rattle.lf_laws.proofs.Rows.InsertedRows.{has_all}
use Rattle.lf_laws.proofs.Rows.RowsByName.{Distinct}

one_apart : (x : Row) (ys : List Row) → Distinct (insert_row x ys) → (has_row ys x.name ≡ false) × Distinct ys
one_apart x [] d = (refl, tt)
one_apart x (y ∷ ys) d = elim (name_below x.name y.name) as (λ b. Distinct (cond b (x ∷ (y ∷ ys)) (y ∷ insert_row x ys)) → (has_row (y ∷ ys) x.name ≡ false) × Distinct (y ∷ ys)) [
  | true ↦ λ d. d
  | false ↦ λ d.
      let r = one_apart x ys d.1 in
      let n = or_parts (same_name x.name y.name) (has_row ys y.name) (sym (has_inserted x ys y.name) ∙ d.0) in
      (or_from _ _ (other_way x.name y.name n.0) r.0, (n.1, r.1))
] d

pub rows_apart : (xs ys : List Row) → Distinct (insert_rows xs ys) → ((x : Row) → Member x xs → has_row ys x.name ≡ false) × Distinct ys
rows_apart [] ys d = ((λ x m. absurd m), d)
rows_apart (x ∷ xs) ys d =
    let r = one_apart x (insert_rows xs ys) d in
    let s = rows_apart xs ys r.1 in
    ((λ z m. elim m [ inl e ↦ subst (λ (w : Row). has_row ys w.name ≡ false) e (or_parts (has_row xs x.name) (has_row ys x.name) (sym (has_all xs ys x.name) ∙ r.0)).1 | inr k ↦ s.0 z k ]), s.1)
