-- Changes by a list of names, one after the other, as one change.
use Rattle.std.proofs.Common.{Bool, List, [], ap, cond, false, not, refl, subst, sym, true, ◌&&◌, ◌||◌, ◌∙◌, ◌∷◌, ◌≡◌}
use Rattle.std.specs.List.{filter}
use Rattle.lf_base.specs.declared.ids.ObjId.{ObjId}
use Rattle.lf_base.specs.declared.values.Owner.{Owner}
use Rattle.lf_base.specs.Names.{same_name}
use Rattle.lf_base.specs.Owners.{has_name}
use Rattle.lf_base.specs.PlainState.{Row}
use Rattle.lf_base.specs.Sets.{Differ}
use Rattle.lf_base.specs.WriteResult.{relabel}
use Rattle.lf_base.proofs.NameLemmas.SameNames.{same_name_flips}
use Rattle.lf_graph.specs.RowChanges.{moved_last, moved_rows, with_owner, without_row, without_rows}
use Rattle.lf_graph.specs.StoredRows.{AreRowsOf, CountedRow, NamesDiffer, SameByOwner, is_named, rows_of}
use Rattle.lf_graph.proofs.ListLemmas.{cond_same}
use Rattle.lf_graph.proofs.Stores.Changes.{at_keeps_name, same_filter, same_moved}
use Rattle.lf_graph.proofs.Stores.Reordered.{differ_reordered, found_reordered, reordered_by_owner}
use Rattle.lf_graph.proofs.Stores.StateRows.{filtered_store, moved_is_changed, moved_store, names_map, same_store}

-- ---- rows that go
filter_every : {X : Type 0} (xs : List X) → filter (λ _. true) xs ≡ xs
filter_every [] = refl
filter_every (x ∷ xs) = ap (λ l. x ∷ l) (filter_every xs)

filter_both : {X : Type 0} (p q r : X → Bool) → ((x : X) → (q x && p x) ≡ r x) → (xs : List X) → filter p (filter q xs) ≡ filter r xs
filter_both p q r both [] = refl
filter_both p q r both (x ∷ xs) =
    elim (q x) as (λ b. filter p (cond b (x ∷ filter q xs) (filter q xs)) ≡ cond (b && p x) (x ∷ filter r xs) (filter r xs)) [
      | true ↦ ap (λ l. cond (p x) (x ∷ l) l) (filter_both p q r both xs)
      | false ↦ filter_both p q r both xs
    ]
    ∙ ap (λ b. cond b (x ∷ filter r xs) (filter r xs)) (both x)

neither : (a b : Bool) → (not a && not b) ≡ not (a || b)
neither true b = refl
neither false b = refl

abbrev pub is_left : List ObjId → CountedRow → Bool
is_left os c = not (has_name os (c.row).name)

pub dropped_at_once : (rows : List CountedRow) (os : List ObjId) → without_rows rows os ≡ filter (is_left os) rows
dropped_at_once rows [] = sym (filter_every rows)
dropped_at_once rows (o ∷ os) =
    dropped_at_once (without_row rows o) os
    ∙ filter_both (is_left os) (λ c. not (is_named o c)) (is_left (o ∷ os))
    (λ c. ap (λ b. not b && is_left os c) (same_name_flips (c.row).name o) ∙ neither (same_name o (c.row).name) (has_name os (c.row).name)) rows

pub same_dropped : (xs ys : List CountedRow) (os : List ObjId) → SameByOwner xs ys → SameByOwner (without_rows xs os) (without_rows ys os)
same_dropped xs ys os same w =
    ap (rows_of w) (dropped_at_once xs os) ∙ same_filter xs ys same (is_left os) w ∙ ap (rows_of w) (sym (dropped_at_once ys os))

pub state_dropped : (rows new : List CountedRow) (of : List Row) (os : List ObjId) → AreRowsOf rows of → SameByOwner new (without_rows rows os)
    → AreRowsOf new (filter (λ r. not (has_name os r.name)) of)
state_dropped rows new of os a same =
    same_store (filter (is_left os) rows) new (filter (λ r. not (has_name os r.name)) of) (filtered_store rows of a (λ r. not (has_name os r.name)))
    (λ w. same w ∙ ap (rows_of w) (dropped_at_once rows os))

-- ---- rows that move
moved_differ : (rows : List CountedRow) (o : ObjId) (w : Owner) → NamesDiffer rows → NamesDiffer (moved_last rows o w)
moved_differ rows o w d =
    differ_reordered (moved_is_changed rows o w d)
    (subst (Differ same_name) (sym (names_map (λ c. cond (is_named o c) (with_owner w c) c) (at_keeps_name o (with_owner w) (λ _. refl)) rows)) d)

pub same_moved_rows : (xs ys : List CountedRow) (os : List ObjId) (w : Owner) → SameByOwner xs ys → NamesDiffer xs → SameByOwner (moved_rows xs os w) (moved_rows ys os w)
same_moved_rows xs ys [] w same d = same
same_moved_rows xs ys (o ∷ os) w same d =
    same_moved_rows (moved_last xs o w) (moved_last ys o w) os w
    (same_moved xs ys o w same (found_reordered o (reordered_by_owner xs ys same) d)) (moved_differ xs o w d)

-- a row under w where its name is one of these
abbrev given : List ObjId → Owner → Row → Row
given os w r = cond (has_name os r.name) (record r { owner = w }) r

given_twice : (o : ObjId) (os : List ObjId) (w : Owner) (r : Row) → given os w (given (o ∷ []) w r) ≡ given (o ∷ os) w r
given_twice o os w r = elim (same_name o r.name) as (λ b. given os w (cond (b || false) (record r { owner = w }) r) ≡ cond (b || has_name os r.name) (record r { owner = w }) r) [
  | true ↦ cond_same (has_name os r.name) (record r { owner = w })
  | false ↦ refl
]

pub relabel_twice : (of : List Row) (o : ObjId) (os : List ObjId) (w : Owner) → relabel (relabel of (o ∷ []) w) os w ≡ relabel of (o ∷ os) w
relabel_twice [] o os w = refl
relabel_twice (r ∷ rs) o os w = λ i. given_twice o os w r i ∷ relabel_twice rs o os w i

pub relabel_none : (of : List Row) (w : Owner) → of ≡ relabel of [] w
relabel_none [] w = refl
relabel_none (r ∷ rs) w = ap (λ l. r ∷ l) (relabel_none rs w)

moved_at_once : (rows : List CountedRow) (of : List Row) (os : List ObjId) (w : Owner) → AreRowsOf rows of → AreRowsOf (moved_rows rows os w) (relabel of os w)
moved_at_once rows of [] w a = subst (AreRowsOf rows) (relabel_none of w) a
moved_at_once rows of (o ∷ os) w a =
    subst (AreRowsOf (moved_rows (moved_last rows o w) os w)) (relabel_twice of o os w)
    (moved_at_once (moved_last rows o w) (relabel of (o ∷ []) w) os w (moved_store rows of o w a))

pub state_moved : (rows new : List CountedRow) (of : List Row) (os : List ObjId) (w : Owner) → AreRowsOf rows of → SameByOwner new (moved_rows rows os w) → AreRowsOf new (relabel of os w)
state_moved rows new of os w a same = same_store (moved_rows rows os w) new (relabel of os w) (moved_at_once rows of os w a) same
