-- Rows that a list of names for each owner gives, in order: what each change makes of them, and what is found.
use Rattle.std.proofs.Common.{Bool, List, None, Option, Some, [], ap, cond, false, is_some, map, not, refl, sym, true, ◌||◌, ◌++◌, ◌∙◌, ◌∷◌, ◌≡◌}
use Rattle.std.specs.List.{filter}
use Rattle.std.proofs.lemmas.Bool.{or_parts}
use Rattle.std.proofs.lemmas.List.{append-nil, map-append}
use Rattle.lf_base.specs.declared.ids.ObjId.{ObjId}
use Rattle.lf_base.specs.declared.values.Owner.{Owner}
use Rattle.lf_base.specs.Links.{after, has, head_or, without}
use Rattle.lf_base.specs.Names.{same_name, same_owner}
use Rattle.lf_base.proofs.NameLemmas.SameNames.{same_name_flips, same_name_is}
use Rattle.lf_graph.specs.Chains.{is_this_owner, left_without, list_pushed}
use Rattle.lf_graph.specs.RowChanges.{changed, without_row}
use Rattle.lf_graph.specs.StoredRows.{CountedRow, SameByOwner, first_name, is_named, is_under, name_after, row_named, rows_of}
use Rattle.lf_graph.proofs.Stores.Changes.{KeepsOwner, at_keeps_owner, rows_of_map}
use Rattle.lf_graph.proofs.Stores.Reordered.{rows_append, same_owner_itself}
use Rattle.lf_graph.proofs.Stores.Walks.{no_name_filter}
use Rattle.lf_graph.proofs.ListLemmas.{filter_turns}

-- each owner's rows are those of its names
abbrev pub RowsAreListed : List CountedRow → (Owner → List ObjId) → (ObjId → CountedRow) → Type 0
RowsAreListed rows lists row = (w : Owner) → rows_of w rows ≡ map row (lists w)

-- the row of a name has that name
abbrev pub RowsAreNamed : (ObjId → CountedRow) → Type 0
RowsAreNamed row = (x : ObjId) → ((row x).row).name ≡ x

pub listed_same : (xs ys : List CountedRow) (lists : Owner → List ObjId) (row : ObjId → CountedRow) → RowsAreListed xs lists row → RowsAreListed ys lists row → SameByOwner xs ys
listed_same xs ys lists row s t w = s w ∙ sym (t w)

-- rows of names other than o
others_agree : (g h : ObjId → CountedRow) (o : ObjId) → ((x : ObjId) → same_name o x ≡ false → h x ≡ g x) → (xs : List ObjId) → has same_name o xs ≡ false → map h xs ≡ map g xs
others_agree g h o agree [] l = refl
others_agree g h o agree (x ∷ xs) l = let p = or_parts (same_name o x) (has same_name o xs) l in λ i. agree x p.0 i ∷ others_agree g h o agree xs p.1 i

module _ (rows : List CountedRow) (lists : Owner → List ObjId) (g h : ObjId → CountedRow) (o : ObjId) (shown : RowsAreListed rows lists g) (named : RowsAreNamed g) where
  -- one row is changed
  module _ (f : CountedRow → CountedRow) (agree : (x : ObjId) → h x ≡ cond (same_name x o) (f (g x)) (g x)) where
    each_changed : (xs : List ObjId) → map (λ c. cond (is_named o c) (f c) c) (map g xs) ≡ map h xs
    each_changed [] = refl
    each_changed (x ∷ xs) = λ i. (ap (λ n. cond (same_name n o) (f (g x)) (g x)) (named x) ∙ sym (agree x)) i ∷ each_changed xs i

    pub listed_changed : KeepsOwner f → RowsAreListed (changed rows o f) lists h
    listed_changed keeps w = rows_of_map w (λ c. cond (is_named o c) (f c) c) (at_keeps_owner o f keeps) rows ∙ ap (map (λ c. cond (is_named o c) (f c) c)) (shown w) ∙ each_changed (lists w)

  module _ (agree : (x : ObjId) → same_name o x ≡ false → h x ≡ g x) where
    each_without : (xs : List ObjId) → filter (λ c. not (is_named o c)) (map g xs) ≡ map h (without same_name o xs)
    each_without [] = refl
    each_without (x ∷ xs) =
        ap (λ n. cond (not (same_name n o)) (g x ∷ filter (λ c. not (is_named o c)) (map g xs)) (filter (λ c. not (is_named o c)) (map g xs))) (named x)
        ∙ ap (λ b. cond (not b) (g x ∷ filter (λ c. not (is_named o c)) (map g xs)) (filter (λ c. not (is_named o c)) (map g xs))) (same_name_flips x o)
        ∙ (elim (same_name o x) as (λ b. same_name o x ≡ b → cond (not b) (g x ∷ filter (λ c. not (is_named o c)) (map g xs)) (filter (λ c. not (is_named o c)) (map g xs)) ≡ map h (cond (not b) (x ∷ without same_name o xs) (without same_name o xs))) [
          | true ↦ λ _. each_without xs
          | false ↦ λ n. λ i. sym (agree x n) i ∷ each_without xs i
        ] refl)

    -- one row goes
    pub listed_without : RowsAreListed (without_row rows o) (left_without lists o) h
    listed_without w = filter_turns (is_under w) (λ c. not (is_named o c)) rows ∙ ap (filter (λ c. not (is_named o c))) (shown w) ∙ each_without (lists w)

    -- a row comes last under its owner
    pub listed_pushed : (v : Owner) (c : CountedRow) → (c.row).owner ≡ v → h o ≡ c → ((w : Owner) → has same_name o (lists w) ≡ false) → RowsAreListed (rows ++ c ∷ []) (list_pushed lists v o) h
    listed_pushed v c owned here absent w =
        rows_append w rows (c ∷ []) ∙ ap (λ l. l ++ cond (same_owner (c.row).owner w) (c ∷ []) []) (shown w)
        ∙ ap (λ u. map g (lists w) ++ cond (same_owner u w) (c ∷ []) []) owned
        ∙ (elim (same_owner v w) as (λ b. map g (lists w) ++ cond b (c ∷ []) [] ≡ map h (cond b (lists w ++ o ∷ []) (lists w))) [
          | true ↦ ap (λ l. l ++ c ∷ []) (sym (others_agree g h o agree (lists w) (absent w))) ∙ ap (λ r. map h (lists w) ++ r ∷ []) (sym here) ∙ sym (map-append h (lists w) (o ∷ []))
          | false ↦ append-nil (map g (lists w)) ∙ sym (others_agree g h o agree (lists w) (absent w))
        ])

-- ---- what is found

module _ (row : ObjId → CountedRow) (named : RowsAreNamed row) where
  named_among : (o : ObjId) (xs : List ObjId) → row_named (map row xs) o ≡ cond (has same_name o xs) (Some (row o)) None
  named_among o [] = refl
  named_among o (x ∷ xs) =
      ap (λ n. cond (same_name n o) (Some (row x)) (row_named (map row xs) o)) (named x) ∙ ap (λ b. cond b (Some (row x)) (row_named (map row xs) o)) (same_name_flips x o)
      ∙ (elim (same_name o x) as (λ b. same_name o x ≡ b → cond b (Some (row x)) (row_named (map row xs) o) ≡ cond (b || has same_name o xs) (Some (row o)) None) [
        | true ↦ λ t. ap (λ u. Some (row u)) (sym (same_name_is o x t))
        | false ↦ λ _. named_among o xs
      ] refl)

  pub first_among : (xs : List ObjId) → first_name (map row xs) ≡ head_or xs None
  first_among [] = refl
  first_among (x ∷ xs) = ap Some (named x)

  pub after_among : (o : ObjId) (xs : List ObjId) → name_after (map row xs) o ≡ after same_name o xs
  after_among o [] = refl
  after_among o (x ∷ xs) = λ i. cond ((ap (λ n. same_name n o) (named x) ∙ same_name_flips x o) i) (first_among xs i) (after_among o xs i)

-- the first row of a name is the first one among its owner's
pub under_its_owner : (rows : List CountedRow) (o : ObjId) (c : CountedRow) → row_named rows o ≡ Some c → row_named (rows_of (c.row).owner rows) o ≡ Some c
under_its_owner [] o c e = cc
under_its_owner (x ∷ xs) o c e = elim (is_named o x) as (λ b. is_named o x ≡ b → cond b (Some x) (row_named xs o) ≡ Some c → row_named (rows_of (c.row).owner (x ∷ xs)) o ≡ Some c) [
  | true ↦ λ t e. let same : x ≡ c = cc in
      ap (λ b. row_named (cond b (x ∷ rows_of (c.row).owner xs) (rows_of (c.row).owner xs)) o) (ap (λ (r : CountedRow). same_owner (r.row).owner (c.row).owner) same ∙ same_owner_itself (c.row).owner)
      ∙ ap (λ b. cond b (Some x) (row_named (rows_of (c.row).owner xs) o)) t ∙ ap Some same
  | false ↦ λ n e. elim (same_owner (x.row).owner (c.row).owner) as (λ b. row_named (cond b (x ∷ rows_of (c.row).owner xs) (rows_of (c.row).owner xs)) o ≡ Some c) [
    | true ↦ ap (λ b. cond b (Some x) (row_named (rows_of (c.row).owner xs) o)) n ∙ under_its_owner xs o c e
    | false ↦ under_its_owner xs o c e
  ]
] refl e

module _ (rows : List CountedRow) (lists : Owner → List ObjId) (row : ObjId → CountedRow) (shown : RowsAreListed rows lists row) (named : RowsAreNamed row) (o : ObjId) (own : Option Owner) (members : (w : Owner) → has same_name o (lists w) ≡ is_this_owner w own) where
  found_under : (w : Owner) → row_named (rows_of w rows) o ≡ cond (is_this_owner w own) (Some (row o)) None
  found_under w = ap (λ l. row_named l o) (shown w) ∙ named_among row named o (lists w) ∙ ap (λ b. cond b (Some (row o)) None) (members w)

  -- a name that has an owner is found with its row, and another isn't
  pub found_listed : row_named rows o ≡ cond (is_some own) (Some (row o)) None
  found_listed = go (row_named rows o) refl own refl where
    go : (t : Option CountedRow) → row_named rows o ≡ t → (u : Option Owner) → own ≡ u → t ≡ cond (is_some u) (Some (row o)) None
    go None e None k = refl
    go None e (Some v) k =
        let here : row_named (rows_of v rows) o ≡ Some (row o) = found_under v ∙ ap (λ x. cond (is_this_owner v x) (Some (row o)) None) k ∙ ap (λ b. cond b (Some (row o)) None) (same_owner_itself v) in
        let gone : row_named (rows_of v rows) o ≡ None = no_name_filter (is_under v) rows o e in
        cc
    go (Some c) e None k =
        let here : row_named (rows_of (c.row).owner rows) o ≡ Some c = under_its_owner rows o c e in
        let gone : row_named (rows_of (c.row).owner rows) o ≡ None = found_under (c.row).owner ∙ ap (λ x. cond (is_this_owner (c.row).owner x) (Some (row o)) None) k in
        cc
    go (Some c) e (Some v) k =
        sym (under_its_owner rows o c e) ∙ found_under (c.row).owner ∙ some_one (is_this_owner (c.row).owner own) (sym (found_under (c.row).owner) ∙ under_its_owner rows o c e)
      where
        some_one : (b : Bool) → cond b (Some (row o)) None ≡ Some c → cond b (Some (row o)) None ≡ Some (row o)
        some_one true e = refl
        some_one false e = cc
