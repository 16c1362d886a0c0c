-- What the callers of `callers.rt` know after two calls, from the clauses of each.
use Rattle.std.proofs.Common.{List, None, Some, [], ap, arith, cond, false, length, refl, slice_get, subst, sym, ℕ, ◌+◌, ◌++◌, ◌-◌, ◌∙◌, ◌∷◌, ◌≡◌, ◌≤◌}
use Rattle.std.specs.Option.{is_some, option_map}
use Rattle.lf_base.specs.declared.ids.ObjId.{ObjId}
use Rattle.lf_base.specs.declared.values.Owner.{Owner}
use Rattle.lf_base.specs.Names.{same_name}
use Rattle.lf_graph.specs.declared.store.RowHead.{RowHead}
use Rattle.lf_graph.specs.Parts.{row_head}
use Rattle.lf_graph.specs.RowChanges.{lowered, moved_last, with_refs}
use Rattle.lf_graph.specs.StoredRows.{CountedRow, HasRow, IsNewName, NamesDiffer, SameByOwner, fields_at, fields_by, first_name, row_named, rows_of, rows_outside}
use Rattle.lf_base.specs.Sets.{Differ}
use Rattle.lf_graph.proofs.Stores.Changes.{at_keeps_name, found_changed, same_append, same_moved}
use Rattle.lf_graph.proofs.Stores.Reordered.{found_reordered, reordered_by_owner, turned}
use Rattle.lf_graph.proofs.Stores.StateRows.{names_map}
use Rattle.lf_graph.proofs.Stores.Walks.{round_again}

pub found_after : (new old : List CountedRow) (o : ObjId) → SameByOwner new old → NamesDiffer old → row_named new o ≡ row_named old o
found_after new old o same d = sym (found_reordered o (turned (reordered_by_owner new old same)) d)

pub has_after : (new old : List CountedRow) (o : ObjId) → SameByOwner new old → NamesDiffer old → HasRow old o → HasRow new o
has_after new old o same d h = ap is_some (found_after new old o same d) ∙ h

-- the room that was made is what the row needs
pub room_after : (new old : List CountedRow) (o : ObjId) (width spare : ℕ) → SameByOwner new old → NamesDiffer old → width ≡ length (fields_at old o) → width + 1 ≤ spare → 1 + length (fields_at new o) ≤ spare
room_after new old o width spare same d w h =
    let e : length (fields_at new o) ≡ length (fields_at old o) = ap (λ t. length (fields_by t)) (found_after new old o same d) in
    omega (arith, e, w, h)

pub moved_after : (last new old : List CountedRow) (o : ObjId) (w : Owner) → SameByOwner new old → NamesDiffer old → SameByOwner last (moved_last new o w) → SameByOwner last (moved_last old o w)
moved_after last new old o w same d moved v = moved v ∙ same_moved new old o w same (found_after new old o same d) v

-- a new store's names are all new
pub new_in_empty : (new old : List CountedRow) (o : ObjId) → SameByOwner new old → old ≡ [] → IsNewName new o
new_in_empty new old o same e = found_after new [] o (λ w. same w ∙ ap (rows_of w) e) tt

-- one row counts less, and the others stay
lowered_differ : (rows : List CountedRow) (o : ObjId) → NamesDiffer rows → NamesDiffer (lowered rows o)
lowered_differ rows o d = subst (Differ same_name) (sym (names_map _ (at_keeps_name o (λ r. with_refs (r.refs - 1) r) (λ r. refl)) rows)) d

pub other_after : (new old : List CountedRow) (o q : ObjId) → NamesDiffer old → same_name q o ≡ false → SameByOwner new (lowered old o) → row_named new q ≡ row_named old q
other_after new old o q d other same =
    found_after new (lowered old o) q same (lowered_differ old o d)
    ∙ found_changed o (λ r. with_refs (r.refs - 1) r) (λ r. refl) old q
    ∙ ap (λ b. cond b (option_map (λ r. with_refs (r.refs - 1) r) (row_named old q)) (row_named old q)) other

-- a part that comes back
pub back_again : (last rest old part : List CountedRow) (w : Owner) → part ≡ rows_of w old → SameByOwner rest (rows_outside w old) → SameByOwner last (rest ++ part) → SameByOwner last old
back_again last rest old part w is same rows v =
    rows v ∙ ap (λ l. rows_of v (rest ++ l)) is ∙ same_append rest (rows_outside w old) same (rows_of w old) v ∙ round_again old w v

pub first_head : (xs : List CountedRow) (head : RowHead) → Some head ≡ option_map row_head (slice_get xs 0) → Some (head.name) ≡ first_name xs
first_head [] head e = cc
first_head (x ∷ xs) head e = let same : head ≡ row_head x = cc in ap (λ (h : RowHead). Some (h.name)) same

pub no_head : (xs : List CountedRow) → None ≡ option_map row_head (slice_get xs 0) → None ≡ first_name xs
no_head [] e = refl
no_head (x ∷ xs) e = cc
