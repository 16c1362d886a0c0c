-- Rows that go out of a store and come back into it, one after the other.
use Rattle.std.proofs.Common.{List, None, Option, Some, [], ap, arith, cond, false, is_some, map, not, refl, slice_get, subst, sym, take, true, ℕ, suc, zero, ◌+◌, ◌≤◌, ◌||◌, ◌++◌, ◌∙◌, ◌∷◌, ◌≡◌}
use Rattle.std.specs.Option.{IfSome, IsSome, option_or}
use Rattle.std.proofs.Math.Bool.{or-true}
use Rattle.std.proofs.lemmas.List.{append-nil, append_assoc, map-append}
use Rattle.lf_base.specs.declared.ids.ObjId.{ObjId}
use Rattle.lf_base.specs.declared.values.Owner.{Owner}
use Rattle.lf_base.specs.declared.values.Owner.TheVariants.{In}
use Rattle.lf_base.specs.Links.{Lacks, NodesDiffer, has, without}
use Rattle.lf_base.specs.Names.{same_name, same_owner}
use Rattle.lf_base.proofs.ListLemmas.LinkedLists.{Lacks-from_has, without-lacking}
use Rattle.lf_base.proofs.NameLemmas.SameNames.{Decides-same_name, same_name_itself}
use Rattle.lf_graph.specs.declared.cells.Cells.{Cells}
use Rattle.lf_graph.specs.declared.chains.Chains.{Chains}
use Rattle.lf_graph.specs.declared.flat_part.PartRow.{PartRow}
use Rattle.lf_graph.specs.Cells.{cells_of}
use Rattle.lf_graph.specs.ChainMaps.{heads_of}
use Rattle.lf_graph.specs.Chains.{left_without, linked_owner_at}
use Rattle.lf_graph.specs.FlatParts.{part_row, rows_cells}
use Rattle.lf_graph.specs.FlatRows.{StoreView, chain_of, rows_under, whole_row_at}
use Rattle.lf_graph.specs.Parts.{AllNew}
use Rattle.lf_graph.specs.RowChanges.{without_row, without_rows}
use Rattle.lf_graph.specs.StoredRows.{CountedRow, HasRow, IsNewName, SameByOwner, is_named, is_under, row_named, rows_of, rows_outside}
use Rattle.lf_graph.proofs.Stores.Changes.{found_append, same_append, same_filter}
use Rattle.lf_graph.proofs.FlatStores.FlatView.{owner_flips, row_names}
use Rattle.lf_graph.proofs.Stores.RowsByOwner.{RowsAreListed, RowsAreNamed, listed_without, under_its_owner}
use Rattle.lf_graph.proofs.Stores.Walks.{no_name_filter, none_outside}
use Rattle.lf_graph.proofs.ListLemmas.{filter_within, take_next}
use Rattle.lf_graph.proofs.FlatStores.FlatFound.{SeenAs, rows_listed}
use Rattle.lf_graph.proofs.Stores.Reordered.{same_owner_is}
use Rattle.lf_graph.proofs.LinkedRows.ChainLemmas.{not_of_other_owner}

-- a new name is new where each owner has the same rows
pub same_new : (xs ys : List CountedRow) (o : ObjId) → SameByOwner xs ys → IsNewName ys o → IsNewName xs o
same_new xs ys o same new = go (row_named xs o) refl where
  go : (t : Option CountedRow) → row_named xs o ≡ t → t ≡ None
  go None e = refl
  go (Some c) e =
      let here : row_named (rows_of (c.row).owner xs) o ≡ Some c = under_its_owner xs o c e in
      let gone : row_named (rows_of (c.row).owner xs) o ≡ None = ap (λ l. row_named l o) (same (c.row).owner) ∙ no_name_filter (is_under (c.row).owner) ys o new in
      cc

-- ---- out
without_push : (rows : List CountedRow) (os : List ObjId) (o : ObjId) → without_rows rows (os ++ o ∷ []) ≡ without_row (without_rows rows os) o
without_push rows [] o = refl
without_push rows (x ∷ xs) o = without_push (without_row rows x) xs o

pub one_row_dropped : (old now new : List CountedRow) (rows : List PartRow) (i : ℕ) (r : PartRow) → slice_get rows i ≡ Some r → SameByOwner now (without_rows old (map (λ (x : PartRow). x.name) (take i rows))) → SameByOwner new (without_row now r.name)
    → SameByOwner new (without_rows old (map (λ (x : PartRow). x.name) (take (i + 1) rows)))
one_row_dropped old now new rows i r here was step w =
    step w ∙ same_filter now (without_rows old (map (λ (x : PartRow). x.name) (take i rows))) was (λ c. not (is_named r.name c)) w
    ∙ ap (rows_of w) (sym (without_push old (map (λ (x : PartRow). x.name) (take i rows)) r.name) ∙ ap (without_rows old) (sym (ap (map (λ (x : PartRow). x.name)) (take_next rows i r here) ∙ map-append (λ (x : PartRow). x.name) (take i rows) (r ∷ []))))

pub no_row_dropped : (old : List CountedRow) (rows : List PartRow) → SameByOwner old (without_rows old (map (λ (x : PartRow). x.name) (take 0 rows)))
no_row_dropped old [] w = refl
no_row_dropped old (r ∷ rs) w = refl

-- the lists without several names
abbrev without_all : List ObjId → List ObjId → List ObjId
without_all [] xs = xs
without_all (o ∷ os) xs = without_all os (without same_name o xs)

module _ (row : ObjId → CountedRow) (named : RowsAreNamed row) where
  listed_without_all : (rows : List CountedRow) (lists : Owner → List ObjId) (os : List ObjId) → RowsAreListed rows lists row → RowsAreListed (without_rows rows os) (λ w. without_all os (lists w)) row
  listed_without_all rows lists [] s = s
  listed_without_all rows lists (o ∷ os) s = listed_without_all (without_row rows o) (left_without lists o) os (listed_without rows lists row row o s named (λ x _. refl))

lacks_none : (os xs : List ObjId) → ((o : ObjId) → has same_name o os ≡ true → has same_name o xs ≡ false) → without_all os xs ≡ xs
lacks_none [] xs h = refl
lacks_none (o ∷ os) xs h =
    ap (without_all os) (without-lacking same_name Decides-same_name o xs (Lacks-from_has same_name Decides-same_name o xs (h o (ap (λ b. b || has same_name o os) (same_name_itself o)))))
    ∙ lacks_none os xs (λ q e. h q (ap (λ b. same_name q o || b) e ∙ or-true (same_name q o)))

all_gone : (xs : List ObjId) → NodesDiffer same_name xs → without_all xs xs ≡ []
all_gone [] d = refl
all_gone (x ∷ xs) d =
    ap (without_all xs) (ap (λ b. cond (not b) (x ∷ without same_name x xs) (without same_name x xs)) (same_name_itself x) ∙ without-lacking same_name Decides-same_name x xs d.0) ∙ all_gone xs d.1

outside_other : (v w : Owner) (rows : List CountedRow) → same_owner v w ≡ false → rows_of w (rows_outside v rows) ≡ rows_of w rows
outside_other v w rows n = filter_within (is_under w) (λ c. not (is_under v c)) each rows where
  each : (c : CountedRow) → is_under w c ≡ true → not (is_under v c) ≡ true
  each c e = let p : (c.row).owner ≡ w = same_owner_is (c.row).owner w e in ap not (ap (λ u. same_owner u v) p ∙ owner_flips v w n)

module _ {t : Chains} {cells : Cells} {v : StoreView} (before : SeenAs t cells v) (region : ObjId) where
  abbrev row : ObjId → CountedRow
  row = whole_row_at (heads_of t.rows) (cells_of cells)

  names_are : (xs : List ObjId) → map (λ (c : CountedRow). (c.row).name) (map row xs) ≡ xs
  names_are [] = refl
  names_are (x ∷ xs) = λ i. row_names t cells x i ∷ names_are xs i

  part_names : (rows : List PartRow) → map (λ (r : PartRow). r.name) rows ≡ map (λ (c : CountedRow). (c.row).name) (map (part_row region) rows)
  part_names [] = refl
  part_names (r ∷ rs) = ap (λ l. r.name ∷ l) (part_names rs)

  -- the rows of a part are the region's
  pub part_is : rows_under t cells (In region) ≡ rows_of (In region) v.rows
  part_is = sym (rows_listed before (In region))

  -- where those of the region went, the others are left
  pub rows_parted : (rows : List PartRow) → map (part_row region) rows ≡ rows_under t cells (In region) → (new : List CountedRow) → SameByOwner new (without_rows v.rows (map (λ (r : PartRow). r.name) rows)) → SameByOwner new (rows_outside (In region) v.rows)
  rows_parted rows copies new step w =
      let ns : map (λ (r : PartRow). r.name) rows ≡ chain_of t (In region) = part_names rows ∙ ap (map (λ (c : CountedRow). (c.row).name)) copies ∙ names_are (chain_of t (In region)) in
      step w ∙ ap (λ os. rows_of w (without_rows v.rows os)) ns ∙ listed_without_all row (row_names t cells) v.rows (chain_of t) (chain_of t (In region)) (rows_listed before) w
      ∙ (elim (same_owner (In region) w) as (λ b. same_owner (In region) w ≡ b → map row (without_all (chain_of t (In region)) (chain_of t w)) ≡ rows_of w (rows_outside (In region) v.rows)) [
        | true ↦ λ e. subst (λ u. map row (without_all (chain_of t (In region)) (chain_of t u)) ≡ rows_of u (rows_outside (In region) v.rows)) (same_owner_is (In region) w e)
            (ap (map row) (all_gone (chain_of t (In region)) (before.flat.chains (In region)).differ) ∙ sym (none_outside (In region) v.rows))
        | false ↦ λ n. ap (map row) (lacks_none (chain_of t (In region)) (chain_of t w) (λ o k. (before.flat.chains w).members o ∙ not_of_other_owner (In region) w (linked_owner_at (heads_of t.rows) o) n (sym ((before.flat.chains (In region)).members o) ∙ k)))
            ∙ sym (rows_listed before w) ∙ sym (outside_other (In region) w v.rows n)
      ] refl)

-- ---- in
both_none : (t u : Option CountedRow) → t ≡ None → u ≡ None → option_or t u ≡ None
both_none t u e f = ap (λ x. option_or x u) e ∙ f

-- the number of cells, where there is one, is enough room
pub enough_room : (cells : Option ℕ) (n room : ℕ) → IfSome cells (λ c. c ≡ n) → IfSome cells (λ c. c ≤ room) → IsSome cells → n ≤ room
enough_room None n room a b s = cc
enough_room (Some c) n room a b s = subst (λ x. x ≤ room) a b

-- a part is new where each owner has the same rows
pub same_all_new : (part xs ys : List CountedRow) → SameByOwner xs ys → AllNew part ys → AllNew part xs
same_all_new part xs ys same new o h = same_new xs ys o same (new o h)

module _ (region : ObjId) where
  has_at : (rows : List PartRow) (i : ℕ) (r : PartRow) → slice_get rows i ≡ Some r → HasRow (map (part_row region) rows) r.name
  has_at [] i r e = cc
  has_at (x ∷ xs) zero r e = let same : x ≡ r = cc in ap (λ b. is_some (cond b (Some (part_row region x)) (row_named (map (part_row region) xs) r.name))) (ap (λ (y : PartRow). same_name y.name r.name) same ∙ same_name_itself r.name)
  has_at (x ∷ xs) (suc i) r e = elim (same_name x.name r.name) as (λ b. is_some (cond b (Some (part_row region x)) (row_named (map (part_row region) xs) r.name)) ≡ true) [
    | true ↦ refl
    | false ↦ has_at xs i r e
  ]

  lacks_found : (x : ObjId) (rows : List PartRow) (i : ℕ) (r : PartRow) → Lacks same_name x (map (λ (y : PartRow). y.name) rows) → slice_get rows i ≡ Some r → same_name x r.name ≡ false
  lacks_found x [] i r l e = cc
  lacks_found x (y ∷ ys) zero r l e = let same : y ≡ r = cc in ap (λ (z : PartRow). same_name x z.name) (sym same) ∙ l.0
  lacks_found x (y ∷ ys) (suc i) r l e = lacks_found x ys i r l.1 e

  new_among : (rows : List PartRow) (i : ℕ) (r : PartRow) → NodesDiffer same_name (map (λ (y : PartRow). y.name) rows) → slice_get rows i ≡ Some r → IsNewName (map (part_row region) (take i rows)) r.name
  new_among [] i r d e = cc
  new_among (x ∷ xs) zero r d e = refl
  new_among (x ∷ xs) (suc i) r d e = ap (λ b. cond b (Some (part_row region x)) (row_named (map (part_row region) (take i xs)) r.name)) (lacks_found x.name xs i r d.0 e) ∙ new_among xs i r d.1 e

  module _ (old now : List CountedRow) (rows : List PartRow) (i : ℕ) (r : PartRow) (here : slice_get rows i ≡ Some r) (was : SameByOwner now (old ++ map (part_row region) (take i rows))) where
    pub name_is_new : AllNew (map (part_row region) rows) old → NodesDiffer same_name (map (λ (y : PartRow). y.name) rows) → IsNewName now r.name
    name_is_new new d = same_new now (old ++ map (part_row region) (take i rows)) r.name was
        (found_append old (map (part_row region) (take i rows)) r.name
        ∙ both_none (row_named old r.name) (row_named (map (part_row region) (take i rows)) r.name) (new r.name (has_at rows i r here)) (new_among rows i r d here))

    pub one_row_put : (new : List CountedRow) → SameByOwner new (now ++ part_row region r ∷ []) → SameByOwner new (old ++ map (part_row region) (take (i + 1) rows))
    one_row_put new step w = step w ∙ same_append now (old ++ map (part_row region) (take i rows)) was (part_row region r ∷ []) w
        ∙ ap (rows_of w) (append_assoc old (map (part_row region) (take i rows)) (part_row region r ∷ []) ∙ ap (λ l. old ++ l) (sym (ap (map (part_row region)) (take_next rows i r here) ∙ map-append (part_row region) (take i rows) (r ∷ []))))

  pub no_row_put : (old : List CountedRow) (rows : List PartRow) → SameByOwner old (old ++ map (part_row region) (take 0 rows))
  no_row_put old rows w = ap (rows_of w) (sym (append-nil old) ∙ ap (λ l. old ++ map (part_row region) l) (nothing rows)) where
    nothing : (xs : List PartRow) → [] ≡ take 0 xs
    nothing [] = refl
    nothing (x ∷ xs) = refl

-- the cells of the first rows are no more than those of all
pub cells_within : (rows : List PartRow) (i : ℕ) → rows_cells (take i rows) ≤ rows_cells rows
cells_within [] zero = omega arith
cells_within [] (suc i) = omega arith
cells_within (r ∷ rs) zero = omega arith
cells_within (r ∷ rs) (suc i) = let l = cells_within rs i in omega arith
