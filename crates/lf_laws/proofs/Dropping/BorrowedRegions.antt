-- A row in a region to which a slot or a kept local row points stays, and its bridge with it.
use Rattle.std.proofs.Common.{List, Some, ap, ap₂, cond, false, inl, inr, length, refl, subst, sym, true, ◌&&◌, ◌++◌, ◌||◌, ◌∙◌, ◌∷◌, ◌≡◌}
use Rattle.lf_base.specs.declared.ids.ObjId.{ObjId}
use Rattle.lf_base.specs.declared.values.Owner.TheVariants.{In}
use Rattle.lf_base.specs.Edges.{Edge, row_edges, rows_edges, slot_edges}
use Rattle.lf_base.specs.Kept.{is_owned_by, kept_rows, points, points_into, stays, stays_by_owner}
use Rattle.lf_base.specs.Names.{same_name}
use Rattle.lf_base.specs.Owners.{has_row, is_in, owner_in}
use Rattle.lf_base.specs.PlainState.{Row, State}
use Rattle.lf_base.specs.Sets.{Member}
use Rattle.lf_base.specs.WalkCounts.{is_borrower}
use Rattle.lf_laws.proofs.Rows.RowsByName.{Distinct, mem_has, row_of}
use Rattle.lf_base.proofs.ListLemmas.Members.{Member_any, Within_append, Within_flat_map, Within}
use Rattle.std.proofs.Math.Bool.{or-true}
use Rattle.lf_base.proofs.NameLemmas.SameNames.{same_name_itself}
use Rattle.lf_base.proofs.ListLemmas.GreatestSets.{Meets}
use Rattle.lf_laws.proofs.Dropping.KeptRows.{kept_has, kept_meets, stays_more}
use Rattle.lf_base.proofs.ListLemmas.Sublists.{sub_shrink, sub_within}
use Rattle.std.proofs.lemmas.Bool.{and_from}

pub record Bridged (s : State) : Type 0 where
  pub distinct : Distinct s.rows
  pub bridge : (o r : ObjId) → owner_in s.rows o ≡ Some (In r) → owner_in s.rows r ≡ Some (In r)

three_within : (s : State) (x y : Row) → Member x s.rows → Member y s.rows → Within (x ∷ (y ∷ kept_rows s)) s.rows
three_within s x y a b z (inl e) = subst (λ w. Member w s.rows) e a
three_within s x y a b z (inr (inl e)) = subst (λ w. Member w s.rows) e b
three_within s x y a b z (inr (inr m)) = sub_within (sub_shrink (stays s) (length s.rows) s.rows) z m

more_meets : (s : State) (x y : Row) (rows : List Row) → stays s (x ∷ (y ∷ rows)) x ≡ true → stays s (x ∷ (y ∷ rows)) y ≡ true → Meets (stays s) rows → Meets (stays s) (x ∷ (y ∷ rows))
more_meets s x y rows a b m z (inl e) = subst (λ w. stays s (x ∷ (y ∷ rows)) w ≡ true) e a
more_meets s x y rows a b m z (inr (inl e)) = subst (λ w. stays s (x ∷ (y ∷ rows)) w ≡ true) e b
more_meets s x y rows a b m z (inr (inr k)) = stays_more s rows (x ∷ (y ∷ rows)) z (λ w n. inr (inr n)) (m z k)

-- a row of region r to which a slot or kept local row points stays
pub leans : (s : State) (b : Bridged s) (r : ObjId) (e : Edge) → Member e (slot_edges s.slots ++ rows_edges (kept_rows s)) → is_borrower s.rows e.from ≡ true → owner_in s.rows e.to ≡ Some (In r) → has_row (kept_rows s) e.to ≡ true
leans s b r e m near inside =
    let bridge = row_of s.rows r (In r) (b.bridge e.to r inside) in
    let row = row_of s.rows e.to (In r) inside in
    let more : List Row = bridge.row ∷ (row.row ∷ kept_rows s) in
    let up : Within (kept_rows s) more = λ x k. inr (inr k) in
    let m2 : Member e (slot_edges s.slots ++ rows_edges more) = Within_append (slot_edges s.slots) (slot_edges s.slots) (rows_edges (kept_rows s)) (rows_edges more) (λ x k. k) (Within_flat_map row_edges (kept_rows s) more up) e m in
    let into : points_into more s r ≡ true = Member_any _ e (slot_edges s.slots ++ rows_edges more) m2 (and_from _ _ near (ap (is_in r) inside ∙ same_name_itself r)) in
    let to : points more s e.to ≡ true = Member_any _ e (slot_edges s.slots ++ rows_edges more) m2 (same_name_itself e.to) in
    let one : stays_by_owner s more r (In r) ≡ true = ap (λ c. cond c (is_owned_by more s r || points_into more s r) (has_row more r && points more s r)) (same_name_itself r) ∙ ap (λ c. is_owned_by more s r || c) into ∙ or-true (is_owned_by more s r) in
    let there : has_row more r ≡ true = ap (λ c. c || has_row (row.row ∷ kept_rows s) r) (ap (λ n. same_name n r) bridge.name ∙ same_name_itself r) in
    let two : stays_by_owner s more e.to (In r) ≡ true = elim (same_name r e.to) as (λ c. cond c (is_owned_by more s r || points_into more s r) (has_row more r && points more s e.to) ≡ true) [
      | true ↦ ap (λ c. is_owned_by more s r || c) into ∙ or-true (is_owned_by more s r)
      | false ↦ and_from _ _ there to
    ] in
    let meets : Meets (stays s) more = more_meets s bridge.row row.row (kept_rows s) (ap₂ (stays_by_owner s more) bridge.name bridge.owner ∙ one) (ap₂ (stays_by_owner s more) row.name row.owner ∙ two) (kept_meets s) in
    let kept : Member row.row (kept_rows s) = kept_has s more meets (three_within s bridge.row row.row bridge.mem row.mem) row.row (inr (inl refl)) in
    sym (ap (has_row (kept_rows s)) row.name) ∙ mem_has row.row (kept_rows s) kept
