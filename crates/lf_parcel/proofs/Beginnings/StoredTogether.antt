-- The stored rows of contents together are those of the contents' rows, put in order.
use Rattle.std.proofs.Common.{List, None, Option, Some, [], false, inl, inr, is_some, refl, subst, sym, true, ◌++◌, ◌∙◌, ◌∷◌, ◌≡◌}
use Rattle.std.proofs.lemmas.Bool.{both_ways}
use Rattle.std.proofs.lemmas.List.{append-nil}
use Rattle.lf_base.specs.declared.ids.ObjId.{ObjId}
use Rattle.lf_base.specs.Contents.{joined_rows}
use Rattle.lf_base.specs.FreezeResult.{insert_rows}
use Rattle.lf_base.specs.Names.{name_below, same_name}
use Rattle.lf_base.specs.Owners.{has_name, has_row, names}
use Rattle.lf_base.specs.PlainState.{Row}
use Rattle.lf_base.specs.Sets.{Differ, InOrder, Member}
use Rattle.lf_base.proofs.NameLemmas.RowNames.{has_names}
use Rattle.lf_domain.proofs.StoreEdges.{row_told}
use Rattle.lf_graph.specs.Parts.{AllNew}
use Rattle.lf_graph.specs.StoredRows.{AreRowsOf, CountedRow, HasRow, IsNewName, plain, row_named}
use Rattle.lf_graph.proofs.Stores.StateRows.{part_store}
use Rattle.lf_laws.proofs.Contents.JoinedRows.{into_all}
use Rattle.lf_laws.proofs.Rows.InsertedRows.{all_inserted, all_order}
use Rattle.lf_laws.proofs.Rows.RowsByName.{Distinct, differ_rows, row_there}
use Rattle.lf_laws.proofs.Rows.RowsInOrder.{rise_distinct, same_rows}
use Rattle.lf_parcel.specs.Packed.{EachPacked, Packed, all_stored, packed_contents}
use Rattle.lf_parcel.proofs.Beginnings.RowsApart.{rows_apart}

-- ---- rows found
pub stored_there : (rows : List CountedRow) (of : List Row) (o : ObjId) → AreRowsOf rows of → HasRow rows o → has_row of o ≡ true
stored_there rows of o a h = sym (row_told rows of o a) ∙ h

not_found : (found : Option CountedRow) → is_some found ≡ false → found ≡ None
not_found (Some c) e = absurd (both_ways _ e refl)
not_found None e = refl

new_there : (rows : List CountedRow) (of : List Row) (o : ObjId) → AreRowsOf rows of → has_row of o ≡ false → IsNewName rows o
new_there rows of o a h = not_found (row_named rows o) (row_told rows of o a ∙ h)

-- ---- stored rows that are put among others, and the rows that they are of
same_inserted : (stored : List CountedRow) (rows ys : List Row) → AreRowsOf stored rows → InOrder name_below (names rows) → InOrder name_below (names ys) → ((x : Row) → Member x rows → has_row ys x.name ≡ false)
    → insert_rows (plain stored) ys ≡ insert_rows rows ys
same_inserted stored rows ys a o p apart =
    same_rows (insert_rows (plain stored) ys) (insert_rows rows ys)
    (all_order (plain stored) ys distinct (λ x m. no_name x (plain_in x m)) p)
    (all_order rows ys (rise_distinct rows o) no_name p)
    (λ x m. into_all rows ys x (elim (all_inserted (plain stored) ys x m) [ inl k ↦ inl (plain_in x k) | inr k ↦ inr k ]))
    (λ x m. into_all (plain stored) ys x (elim (all_inserted rows ys x m) [ inl k ↦ inl (in_plain x k) | inr k ↦ inr k ]))
  where
    plain_in : (x : Row) → Member x (plain stored) → Member x rows
    plain_in x m = subst (Member x) a.rise (into_all (plain stored) [] x (inl m))

    in_plain : (x : Row) → Member x rows → Member x (plain stored)
    in_plain x m = elim (all_inserted (plain stored) [] x (subst (Member x) (sym a.rise) m)) [ inl k ↦ k | inr k ↦ absurd k ]

    distinct : Distinct (plain stored)
    distinct = differ_rows (plain stored) [] (subst (Differ same_name) (sym (append-nil (names (plain stored)))) a.differ)

    no_name : (x : Row) → Member x rows → has_name (names ys) x.name ≡ false
    no_name x m = has_names ys x.name ∙ apart x m

joined_rise : (ps : List Packed) → EachPacked ps → Distinct (joined_rows (packed_contents ps)) → InOrder name_below (names (joined_rows (packed_contents ps)))
joined_rise [] h d = tt
joined_rise (p ∷ ps) h d =
    let apart = rows_apart (p.content).rows (joined_rows (packed_contents ps)) d in
    all_order (p.content).rows (joined_rows (packed_contents ps)) (rise_distinct (p.content).rows ((h p (inl refl)).stands).rise)
    (λ x m. has_names (joined_rows (packed_contents ps)) x.name ∙ apart.0 x m) (joined_rise ps (λ q m. h q (inr m)) apart.1)

pub joined_are : (ps : List Packed) → EachPacked ps → Distinct (joined_rows (packed_contents ps)) → AreRowsOf (all_stored ps) (joined_rows (packed_contents ps))
joined_are [] h d = record { differ = tt; rise = refl }
joined_are (p ∷ ps) h d =
    let rows = (p.content).rows in
    let others = joined_rows (packed_contents ps) in
    let apart = rows_apart rows others d in
    let front = h p (inl refl) in
    let rest = joined_are ps (λ q m. h q (inr m)) apart.1 in
    let new : AllNew p.stored (all_stored ps) = λ o m.
    let x = row_there rows o (stored_there p.stored rows o front.are m) in
    new_there (all_stored ps) others o rest (subst (λ n. has_row others n ≡ false) x.1.1 (apart.0 x.0 x.1.0)) in
    subst (AreRowsOf (all_stored ps ++ p.stored)) (same_inserted p.stored rows others front.are (front.stands).rise (joined_rise ps (λ q m. h q (inr m)) apart.1) apart.0)
    (part_store p.stored (all_stored ps) others rest (front.are).differ new)
