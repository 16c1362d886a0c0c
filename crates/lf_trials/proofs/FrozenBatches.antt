-- Batches of frozen rows with rising births, one batch for each number.
use Rattle.std.proofs.Common.{List, [], ap, arith, eqb, false, inl, inr, refl, subst, sym, true, ℕ, ◌+◌, ◌++◌, ◌<◌, ◌∙◌, ◌∷◌, ◌≡◌}
use Rattle.std.proofs.lemmas.Bool.{both_ways, false_from_ne_true}
use Rattle.lf_base.specs.declared.ids.ObjId.{ObjId}
use Rattle.lf_base.specs.Names.{name_below, same_name}
use Rattle.lf_base.specs.Sets.{Differ, Member}
use Rattle.lf_base.proofs.ListLemmas.Members.{Member_of_append, Member_of_map}
use Rattle.lf_base.proofs.ListLemmas.Sublists.{differ_push}
use Rattle.lf_base.proofs.ListLemmas.Tests.{any_none}
use Rattle.lf_base.proofs.NameLemmas.SameNames.{same_name_is}
use Rattle.lf_frozen.specs.declared.row.FrozenRow.{FrozenRow}
use Rattle.lf_frozen.specs.FrozenRows.{FrozenNamesDiffer, frozen_names, has_frozen_row, with_all_frozen}
use Rattle.lf_frozen.proofs.RowLaws.{added_row}
use Rattle.lf_trials.specs.FrozenBatches.{AreNumbered, HaveLesserBirths, HaveLesserNumbers}

names_push : (rows : List FrozenRow) (row : FrozenRow) → frozen_names (rows ++ row ∷ []) ≡ frozen_names rows ++ row.id ∷ []
names_push [] row = refl
names_push (x ∷ xs) row = ap (λ l. x.id ∷ l) (names_push xs row)

other_name : (a b : ObjId) → (a ≡ b → ⊥) → same_name a b ≡ false
other_name a b differ = false_from_ne_true (same_name a b) (λ e. differ (same_name_is a b e))

-- a further row of a greater birth
pub apart_push : (rows : List FrozenRow) (row : FrozenRow) (birth : ℕ) → HaveLesserBirths birth rows → row.id.birth ≡ birth → FrozenNamesDiffer rows → FrozenNamesDiffer (rows ++ row ∷ [])
apart_push rows row birth lesser is apart =
    subst (λ names. Differ same_name names) (sym (names_push rows row))
    (differ_push same_name (frozen_names rows) row.id apart
    (any_none (same_name row.id) (frozen_names rows) (λ n m.
    let there = Member_of_map (λ (x : FrozenRow). x.id) n rows m in
    other_name row.id n (λ e. omega (arith, lesser there.0 there.1.0, is, ap (λ (o : ObjId). o.birth) (e ∙ sym there.1.1))))))

pub births_push : (rows : List FrozenRow) (row : FrozenRow) (birth : ℕ) → HaveLesserBirths birth rows → row.id.birth ≡ birth → HaveLesserBirths (birth + 1) (rows ++ row ∷ [])
births_push rows row birth lesser is x m = elim (Member_of_append x rows (row ∷ []) m) [
  | inl k ↦ omega (arith, lesser x k)
  | inr k ↦ elim k [ inl e ↦ omega (arith, is, ap (λ (y : FrozenRow). y.id.birth) e) | inr absent ↦ absurd absent ]
]

pub numbered_push : (rows : List FrozenRow) (row : FrozenRow) (seq : ℕ) → AreNumbered seq rows → row.id.seq ≡ seq → AreNumbered seq (rows ++ row ∷ [])
numbered_push rows row seq numbered is x m = elim (Member_of_append x rows (row ∷ []) m) [
  | inl k ↦ numbered x k
  | inr k ↦ elim k [ inl e ↦ sym (ap (λ (y : FrozenRow). y.id.seq) e) ∙ is | inr absent ↦ absurd absent ]
]

-- a batch of a greater number is new
pub batch_is_new : (more rows : List FrozenRow) (seq : ℕ) → AreNumbered seq more → HaveLesserNumbers seq rows → (row : FrozenRow) → Member row more → has_frozen_row rows row.id ≡ false
batch_is_new more rows seq numbered lesser row m =
    any_none (λ (x : FrozenRow). same_name x.id row.id) rows
    (λ x k. other_name x.id row.id (λ e. omega (arith, numbered row m, lesser x k, ap (λ (o : ObjId). o.seq) e)))

pub batch_added : (more rows : List FrozenRow) (seq : ℕ) → AreNumbered seq more → HaveLesserNumbers seq rows → HaveLesserNumbers (seq + 1) (with_all_frozen more rows)
batch_added more rows seq numbered lesser row m = elim (added_row more rows row m) [
  | inl k ↦ omega (arith, numbered row k)
  | inr k ↦ omega (arith, lesser row k)
]
