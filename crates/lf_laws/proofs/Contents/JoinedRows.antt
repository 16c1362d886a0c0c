-- The rows of all contents: each is a row of a content, and each content has its rows there.
use Rattle.std.proofs.Common.{List, [], cond, false, inl, inr, refl, subst, sym, true, ◌∷◌, ◌≡◌, ◌⊎◌}
use Rattle.lf_base.specs.declared.ids.CownId.{CownId}
use Rattle.lf_base.specs.Contents.{Parked, joined_rows}
use Rattle.lf_base.specs.FreezeResult.{insert_rows}
use Rattle.lf_base.specs.Names.{name_below}
use Rattle.lf_base.specs.PlainChanges.{insert_row}
use Rattle.lf_base.specs.PlainState.{Row}
use Rattle.lf_base.specs.Sets.{Member}
use Rattle.lf_base.proofs.ListLemmas.Members.{Within}
use Rattle.lf_laws.proofs.Rows.InsertedRows.{all_inserted}

into : (y : Row) (ys : List Row) (x : Row) → (y ≡ x) ⊎ Member x ys → Member x (insert_row y ys)
into y [] x k = k
into y (z ∷ zs) x k = elim (name_below y.name z.name) as (λ b. Member x (cond b (y ∷ (z ∷ zs)) (z ∷ insert_row y zs))) [
  | true ↦ k
  | false ↦ elim k [ inl q ↦ inr (into y zs x (inl q)) | inr q ↦ elim q [ inl r ↦ inl r | inr r ↦ inr (into y zs x (inr r)) ] ]
]

-- rows that are put among others are there, and the others too
pub into_all : (xs ys : List Row) (x : Row) → Member x xs ⊎ Member x ys → Member x (insert_rows xs ys)
into_all [] ys x (inl q) = absurd q
into_all [] ys x (inr q) = q
into_all (y ∷ xs) ys x (inl (inl q)) = into y (insert_rows xs ys) x (inl q)
into_all (y ∷ xs) ys x (inl (inr q)) = into y (insert_rows xs ys) x (inr (into_all xs ys x (inl q)))
into_all (y ∷ xs) ys x (inr q) = into y (insert_rows xs ys) x (inr (into_all xs ys x (inr q)))

pub rows_in : (cs : List (CownId × Parked)) (c : CownId × Parked) → Member c cs → Within (c.1).rows (joined_rows cs)
rows_in [] c m x k = absurd m
rows_in (d ∷ ds) c (inl e) x k = into_all (d.1).rows (joined_rows ds) x (inl (subst (λ (y : CownId × Parked). Member x (y.1).rows) (sym e) k))
rows_in (d ∷ ds) c (inr m) x k = into_all (d.1).rows (joined_rows ds) x (inr (rows_in ds c m x k))

pub joined_in : (cs : List (CownId × Parked)) (x : Row) → Member x (joined_rows cs) → (c : CownId × Parked) × (Member c cs × Member x (c.1).rows)
joined_in [] x m = absurd m
joined_in (c ∷ cs) x m = elim (all_inserted (c.1).rows (joined_rows cs) x m) [
  | inl n ↦ (c, (inl refl, n))
  | inr n ↦ let y = joined_in cs x n in (y.0, (inr y.1.0, y.1.1))
]
