-- A flat store after one row of it was changed, has come or has gone.
use Rattle.std.proofs.Common.{List, None, Option, Some, [], ap, cond, false, is_some, map, not, option_map, refl, subst, sym, true, ℕ, ◌||◌, ◌++◌, ◌∙◌, ◌∷◌, ◌≡◌}
use Rattle.lf_base.specs.declared.ids.ObjId.{ObjId}
use Rattle.lf_base.specs.declared.values.Key.{Key}
use Rattle.lf_base.specs.declared.values.Owner.{Owner}
use Rattle.lf_base.specs.declared.values.Owner.TheVariants.{Frozen, In, Local}
use Rattle.lf_base.specs.declared.values.Value.{Value}
use Rattle.lf_base.specs.Links.{has, without}
use Rattle.lf_base.specs.Names.{same_key, same_name}
use Rattle.lf_base.specs.TakeResult.{drop_field}
use Rattle.lf_base.proofs.ListLemmas.LinkedLists.{Lacks-from_has, without-lacking}
use Rattle.lf_base.proofs.NameLemmas.SameNames.{other_way, same_key_is, same_name_is, same_name_itself}
use Rattle.lf_graph.specs.declared.cells.Cell.{Cell}
use Rattle.lf_graph.specs.declared.cells.Cells.{Cells}
use Rattle.lf_graph.specs.declared.cells.FieldEnds.{FieldEnds}
use Rattle.lf_graph.specs.declared.chains.Chains.{Chains}
use Rattle.lf_graph.specs.declared.ends.Ends.{Ends}
use Rattle.lf_graph.specs.declared.stored_row.StoredRow.{StoredRow}
use Rattle.lf_graph.specs.Cells.{CellsAt, IsFieldList, OnlyValueAt, OthersStay, cell_value, cells_of, pairs, walked_keys}
use Rattle.lf_graph.specs.ChainMaps.{HasLists, ends_of, heads_of}
use Rattle.lf_graph.specs.Chains.{ChangesStoredAt, HeadsAt, IsChain, OnlyStoredAt, is_this_owner, left_without, linked_row_at, list_pushed, reown}
use Rattle.lf_graph.specs.FlatRows.{IsFlat, KeepsFields, StoreView, chain_of, flat_rows, region_rows, whole_row, whole_row_at, whole_row_by}
use Rattle.lf_graph.specs.RowChanges.{changed, moved_last, moved_under, with_fields, with_refs, without_row}
use Rattle.lf_graph.specs.StoredRows.{CountedRow, SameByOwner}
use Rattle.lf_graph.proofs.FieldTable.CellLists.{IsFieldList-same}
use Rattle.lf_graph.proofs.Stores.Changes.{KeepsOwner}
use Rattle.lf_graph.proofs.FieldTable.FieldPairs.{fields_without, pairs_same, walked_keys_are}
use Rattle.lf_graph.proofs.FieldTable.CellMaps.{Decides-same_key}
use Rattle.lf_graph.proofs.FlatStores.FlatFound.{SeenAs, found, list_here, rows_listed}
use Rattle.lf_graph.proofs.FlatStores.FlatView.{chain_is, flat_listed, row_names}
use Rattle.lf_graph.proofs.Stores.StateRows.{new_has_no_name, no_name_stays}
use Rattle.lf_graph.proofs.Stores.RowsByOwner.{RowsAreListed, listed_changed, listed_pushed, listed_same, listed_without}

-- ---- rows that stay
-- where the cells of a row are as before, so are its fields
module _ (m n : CellsAt) (x : ObjId) (same : (k : Key) → n x k ≡ m x k) where
  pub keeps_same : (r : Option StoredRow) → KeepsFields m x r → KeepsFields n x r
  keeps_same None old = λ k. same k ∙ old k
  keeps_same (Some r) old =
      let now : IsFieldList n x r.fields (walked_keys m x r.fields) = IsFieldList-same m n x r.fields (walked_keys m x r.fields) same old in
      subst (IsFieldList n x r.fields) (sym (walked_keys_are n x r.fields (walked_keys m x r.fields) now)) now

  pub whole_row_same : (r : Option StoredRow) → KeepsFields m x r → whole_row_by n x r ≡ whole_row_by m x r
  whole_row_same None old = refl
  whole_row_same (Some r) old =
      let now : IsFieldList n x r.fields (walked_keys m x r.fields) = IsFieldList-same m n x r.fields (walked_keys m x r.fields) same old in
      let keys : walked_keys n x r.fields ≡ walked_keys m x r.fields = walked_keys_are n x r.fields (walked_keys m x r.fields) now in
      λ i. record { row = record { name = x; owner = r.owner; fields = (ap (pairs n x) keys ∙ pairs_same m n x (walked_keys m x r.fields) same) i }; refs = r.refs }

-- the list that the keys spell is what the walk gives
pub keeps_list : (m : CellsAt) (o : ObjId) (r : StoredRow) (keys : List Key) → IsFieldList m o r.fields keys → KeepsFields m o (Some r)
keeps_list m o r keys list = subst (IsFieldList m o r.fields) (sym (walked_keys_are m o r.fields keys list)) list

-- a row of that owner, count and fields
abbrev pub row_as : ObjId → StoredRow → List (Key × Value) → CountedRow
row_as o r fields = record { row = record { name = o; owner = r.owner; fields = fields }; refs = r.refs }

pub whole_row_list : (m : CellsAt) (o : ObjId) (r : StoredRow) (keys : List Key) → IsFieldList m o r.fields keys → whole_row m o r ≡ row_as o r (pairs m o keys)
whole_row_list m o r keys list = ap (λ l. row_as o r (pairs m o l)) (walked_keys_are m o r.fields keys list)

-- ---- one row was touched
-- the lists afterwards, what is stored of the row, its fields, and that the cells of all others are as before
pub record Touched (t u : Chains) (cells now : Cells) (o : ObjId) (s : Option StoredRow) (lists : Owner → List ObjId) : Type 0 where
  pub lists_are : HasLists u lists
  pub stored : OnlyStoredAt (heads_of t.rows) (heads_of u.rows) o s
  pub others : OthersStay (cells_of cells) (cells_of now) o
  pub here : KeepsFields (cells_of now) o s

module _ {t u : Chains} {cells now : Cells} (flat : IsFlat t cells) {o : ObjId} {s : Option StoredRow} {lists : Owner → List ObjId} (touched : Touched t u cells now o s lists) where
  abbrev row_before : ObjId → CountedRow
  row_before = whole_row_at (heads_of t.rows) (cells_of cells)

  abbrev row_after : ObjId → CountedRow
  row_after = whole_row_at (heads_of u.rows) (cells_of now)

  stored_here : linked_row_at (heads_of u.rows) o ≡ s
  stored_here = touched.stored o ∙ ap (λ b. cond b s (linked_row_at (heads_of t.rows) o)) (same_name_itself o)

  stored_there : (x : ObjId) → same_name o x ≡ false → linked_row_at (heads_of u.rows) x ≡ linked_row_at (heads_of t.rows) x
  stored_there x n = touched.stored x ∙ ap (λ b. cond b s (linked_row_at (heads_of t.rows) x)) n

  keeps_each : (x : ObjId) → KeepsFields (cells_of now) x (linked_row_at (heads_of u.rows) x)
  keeps_each x = elim (same_name o x) as (λ b. same_name o x ≡ b → KeepsFields (cells_of now) x (linked_row_at (heads_of u.rows) x)) [
    | true ↦ λ e. subst (λ y. KeepsFields (cells_of now) y (linked_row_at (heads_of u.rows) y)) (same_name_is o x e) (subst (KeepsFields (cells_of now) o) (sym stored_here) touched.here)
    | false ↦ λ n. subst (KeepsFields (cells_of now) x) (sym (stored_there x n)) (keeps_same (cells_of cells) (cells_of now) x (λ k. touched.others x k n) (linked_row_at (heads_of t.rows) x) (flat.fields x))
  ] refl

  pub flat_after : IsFlat u now
  flat_after = record {
    chains = λ w. subst (IsChain (heads_of u.rows) (ends_of u.ends) w) (sym (chain_is u w (lists w) (touched.lists_are w))) (touched.lists_are w);
    fields = keeps_each;
  }

  pub here_after : row_after o ≡ whole_row_by (cells_of now) o s
  here_after = ap (whole_row_by (cells_of now) o) stored_here

  pub there_after : (x : ObjId) → same_name o x ≡ false → row_after x ≡ row_before x
  there_after x n = ap (whole_row_by (cells_of now) x) (stored_there x n) ∙ whole_row_same (cells_of cells) (cells_of now) x (λ k. touched.others x k n) (linked_row_at (heads_of t.rows) x) (flat.fields x)

  pub listed_after : RowsAreListed (flat_rows u now) lists row_after
  listed_after w = flat_listed u now flat_after.chains w ∙ ap (map row_after) (chain_is u w (lists w) (touched.lists_are w))

-- ---- what the calls make of the rows
module _ {t : Chains} (u : Chains) {cells : Cells} (now : Cells) {v : StoreView} (before : SeenAs t cells v) (o : ObjId) where
  -- a row is changed in its place
  module _ (old : StoredRow) (s : StoredRow) (kept : linked_row_at (heads_of t.rows) o ≡ Some old) (touched : Touched t u cells now o (Some s) (chain_of t)) where
    pub flat_changed : IsFlat u now
    flat_changed = flat_after before.flat touched

    pub rows_changed : (f : CountedRow → CountedRow) → KeepsOwner f → whole_row (cells_of now) o s ≡ f (whole_row (cells_of cells) o old) → SameByOwner (flat_rows u now) (changed v.rows o f)
    rows_changed f keeps is_f = listed_same (flat_rows u now) (changed v.rows o f) (chain_of t) (whole_row_at (heads_of u.rows) (cells_of now))
        (listed_after before.flat touched)
        (listed_changed v.rows (chain_of t) (whole_row_at (heads_of t.rows) (cells_of cells)) (whole_row_at (heads_of u.rows) (cells_of now)) o (rows_listed before) (row_names t cells) f agree keeps)
      where
        agree : (x : ObjId) → whole_row_at (heads_of u.rows) (cells_of now) x ≡ cond (same_name x o) (f (whole_row_at (heads_of t.rows) (cells_of cells) x)) (whole_row_at (heads_of t.rows) (cells_of cells) x)
        agree x = elim (same_name x o) as (λ b. same_name x o ≡ b → whole_row_at (heads_of u.rows) (cells_of now) x ≡ cond b (f (whole_row_at (heads_of t.rows) (cells_of cells) x)) (whole_row_at (heads_of t.rows) (cells_of cells) x)) [
          | true ↦ λ e. subst (λ y. whole_row_at (heads_of u.rows) (cells_of now) y ≡ f (whole_row_at (heads_of t.rows) (cells_of cells) y)) (sym (same_name_is x o e))
              (here_after before.flat touched ∙ is_f ∙ ap f (ap (whole_row_by (cells_of cells) o) (sym kept)))
          | false ↦ λ n. there_after before.flat touched x (other_way x o n)
        ] refl

  -- a new row comes last
  module _ (s : StoredRow) (absent : linked_row_at (heads_of t.rows) o ≡ None) (touched : Touched t u cells now o (Some s) (list_pushed (chain_of t) s.owner o)) where
    pub flat_pushed : IsFlat u now
    flat_pushed = flat_after before.flat touched

    pub rows_pushed : SameByOwner (flat_rows u now) (v.rows ++ whole_row (cells_of now) o s ∷ [])
    rows_pushed = listed_same (flat_rows u now) (v.rows ++ whole_row (cells_of now) o s ∷ []) (list_pushed (chain_of t) s.owner o) (whole_row_at (heads_of u.rows) (cells_of now))
        (listed_after before.flat touched)
        (listed_pushed v.rows (chain_of t) (whole_row_at (heads_of t.rows) (cells_of cells)) (whole_row_at (heads_of u.rows) (cells_of now)) o (rows_listed before) (row_names t cells)
        (there_after before.flat touched) s.owner (whole_row (cells_of now) o s) refl
        (here_after before.flat touched) lacks)
      where
        lacks : (w : Owner) → has same_name o (chain_of t w) ≡ false
        lacks w = (before.flat.chains w).members o ∙ ap (λ r. is_this_owner w (option_map (λ (x : StoredRow). x.owner) r)) absent

  -- a row goes
  module _ (touched : Touched t u cells now o None (left_without (chain_of t) o)) where
    pub flat_left : IsFlat u now
    flat_left = flat_after before.flat touched

    pub rows_left : SameByOwner (flat_rows u now) (without_row v.rows o)
    rows_left = listed_same (flat_rows u now) (without_row v.rows o) (left_without (chain_of t) o) (whole_row_at (heads_of u.rows) (cells_of now))
        (listed_after before.flat touched)
        (listed_without v.rows (chain_of t) (whole_row_at (heads_of t.rows) (cells_of cells)) (whole_row_at (heads_of u.rows) (cells_of now)) o (rows_listed before) (row_names t cells)
        (there_after before.flat touched))

-- ---- by calls
-- a row that is there is changed
pub stored_changed : (m n : HeadsAt) (o : ObjId) (r : StoredRow) (f : StoredRow → StoredRow) → linked_row_at m o ≡ Some r → ChangesStoredAt m n o f → OnlyStoredAt m n o (Some (f r))
stored_changed m n o r f kept step q = step q ∙ ap (λ t. cond (same_name o q) (option_map f t) (linked_row_at m q)) kept

-- what is kept of one row, where nothing of it changes
pub stored_same : (heads : HeadsAt) (o : ObjId) (r : StoredRow) → linked_row_at heads o ≡ Some r → OnlyStoredAt heads heads o (Some r)
stored_same heads o r kept q = elim (same_name o q) as (λ b. same_name o q ≡ b → linked_row_at heads q ≡ cond b (Some r) (linked_row_at heads q)) [
  | true ↦ λ e. ap (linked_row_at heads) (sym (same_name_is o q e)) ∙ kept
  | false ↦ λ _. refl
] refl

module _ {t : Chains} (u : Chains) {cells : Cells} (now : Cells) {v : StoreView} (before : SeenAs t cells v) (o : ObjId) (r : StoredRow) (kept : linked_row_at (heads_of t.rows) o ≡ Some r)
    (chains : HasLists u (chain_of t)) (others : OthersStay (cells_of cells) (cells_of now) o) where
  -- the fields of a row change
  module _ (ends : FieldEnds) (keys : List Key) (list : IsFieldList (cells_of now) o ends keys) (stored : OnlyStoredAt (heads_of t.rows) (heads_of u.rows) o (Some (record r { fields = ends }))) where
    refielded : Touched t u cells now o (Some (record r { fields = ends })) (chain_of t)
    refielded = record { lists_are = chains; stored = stored; others = others; here = keeps_list (cells_of now) o (record r { fields = ends }) keys list }

    pub flat_refielded : IsFlat u now
    flat_refielded = flat_changed u now before o r (record r { fields = ends }) kept refielded

    pub rows_refielded : (f : List (Key × Value) → List (Key × Value)) → pairs (cells_of now) o keys ≡ f (pairs (cells_of cells) o (walked_keys (cells_of cells) o r.fields))
        → SameByOwner (flat_rows u now) (changed v.rows o (λ c. with_fields (f (c.row).fields) c))
    rows_refielded f is_f = rows_changed u now before o r (record r { fields = ends }) kept refielded
        (λ c. with_fields (f (c.row).fields) c) (λ c. refl) (whole_row_list (cells_of now) o (record r { fields = ends }) keys list ∙ ap (row_as o r) is_f)

-- a field that the row hasn't is taken out of it
module _ {t : Chains} {cells : Cells} {v : StoreView} (before : SeenAs t cells v) (o : ObjId) (r : StoredRow) (kept : linked_row_at (heads_of t.rows) o ≡ Some r) (key : Key) (absent : cells_of cells o key ≡ None) where
  abbrev keys : List Key
  keys = walked_keys (cells_of cells) o r.fields

  no_value_at : OnlyValueAt (cells_of cells) (cells_of cells) o key None
  no_value_at k = elim (same_key key k) as (λ b. same_key key k ≡ b → cell_value (cells_of cells) o k ≡ cond b None (cell_value (cells_of cells) o k)) [
    | true ↦ λ e. ap (cell_value (cells_of cells) o) (sym (same_key_is key k e)) ∙ ap (option_map (λ (c : Cell). c.value)) absent
    | false ↦ λ _. refl
  ] refl

  pub rows_untouched : SameByOwner v.rows (changed v.rows o (λ c. with_fields (drop_field (c.row).fields key) c))
  rows_untouched =
      let list = list_here before o r kept in
      let gone : without same_key key keys ≡ keys = without-lacking same_key Decides-same_key key keys (Lacks-from_has same_key Decides-same_key key keys (list.list.members key ∙ ap is_some absent)) in
      subst (λ l. SameByOwner l (changed v.rows o (λ c. with_fields (drop_field (c.row).fields key) c))) (ap (λ (x : StoreView). x.rows) before.is)
      (rows_refielded t cells before o r kept before.flat.chains (λ q k _. refl) r.fields keys list (stored_same (heads_of t.rows) o r kept) (λ fields. drop_field fields key)
      (ap (pairs (cells_of cells) o) (sym gone) ∙ fields_without (cells_of cells) (cells_of cells) o key r.fields keys no_value_at list))

-- a row that isn't there goes
module _ {t : Chains} {cells : Cells} {v : StoreView} (before : SeenAs t cells v) (o : ObjId) (absent : linked_row_at (heads_of t.rows) o ≡ None) where
  pub rows_unmissed : SameByOwner v.rows (without_row v.rows o)
  rows_unmissed = subst (λ l. SameByOwner v.rows l) (sym (no_name_stays v.rows o (new_has_no_name v.rows o (found before o ∙ ap (option_map (whole_row (cells_of cells) o)) absent)))) (λ w. refl)

-- the count of a row changes
module _ {t : Chains} (u : Chains) {cells : Cells} {v : StoreView} (before : SeenAs t cells v) (o : ObjId) (r : StoredRow) (kept : linked_row_at (heads_of t.rows) o ≡ Some r) where
  module _ (chains : HasLists u (chain_of t)) (n : ℕ) (stored : OnlyStoredAt (heads_of t.rows) (heads_of u.rows) o (Some (record r { refs = n }))) where
    recounted : Touched t u cells cells o (Some (record r { refs = n })) (chain_of t)
    recounted = record { lists_are = chains; stored = stored; others = λ q k _. refl; here = subst (KeepsFields (cells_of cells) o) kept (before.flat.fields o) }

    pub flat_recounted : IsFlat u cells
    flat_recounted = flat_changed u cells before o r (record r { refs = n }) kept recounted

    pub rows_recounted : (f : ℕ → ℕ) → n ≡ f r.refs → SameByOwner (flat_rows u cells) (changed v.rows o (λ c. with_refs (f c.refs) c))
    rows_recounted f is_f = rows_changed u cells before o r (record r { refs = n }) kept recounted
        (λ c. with_refs (f c.refs) c) (λ c. refl) (ap (λ m. with_refs m (whole_row (cells_of cells) o r)) is_f)

  -- a row comes last under another owner
  module _ (w : Owner) (chains : HasLists u (list_pushed (left_without (chain_of t) o) w o)) (stored : ChangesStoredAt (heads_of t.rows) (heads_of u.rows) o (reown w)) where
    moved : Touched t u cells cells o (Some (record r { owner = w })) (list_pushed (left_without (chain_of t) o) w o)
    moved = record { lists_are = chains; stored = stored_changed (heads_of t.rows) (heads_of u.rows) o r (reown w) kept stored; others = λ q k _. refl; here = subst (KeepsFields (cells_of cells) o) kept (before.flat.fields o) }

    pub flat_moved : IsFlat u cells
    flat_moved = flat_after before.flat moved

    pub rows_moved : SameByOwner (flat_rows u cells) (moved_last v.rows o w)
    rows_moved = subst (λ x. SameByOwner (flat_rows u cells) (without_row v.rows o ++ moved_under w x)) (sym (found before o ∙ ap (option_map (whole_row (cells_of cells) o)) kept))
        (listed_same (flat_rows u cells) (without_row v.rows o ++ whole_row (cells_of cells) o (record r { owner = w }) ∷ []) (list_pushed (left_without (chain_of t) o) w o) now_row
        (listed_after before.flat moved)
        (listed_pushed (without_row v.rows o) (left_without (chain_of t) o) now_row now_row o
        (listed_without v.rows (chain_of t) (whole_row_at (heads_of t.rows) (cells_of cells)) now_row o (rows_listed before) (row_names t cells) agree)
        (row_names u cells) (λ x _. refl) w (whole_row (cells_of cells) o (record r { owner = w })) refl
        (here_after before.flat moved)
        (λ x. has_without o (chain_of t x))))
      where
        now_row : ObjId → CountedRow
        now_row = whole_row_at (heads_of u.rows) (cells_of cells)

        agree : (x : ObjId) → same_name o x ≡ false → now_row x ≡ whole_row_at (heads_of t.rows) (cells_of cells) x
        agree = there_after before.flat moved

        has_without : (o : ObjId) (xs : List ObjId) → has same_name o (without same_name o xs) ≡ false
        has_without o [] = refl
        has_without o (x ∷ xs) = elim (same_name o x) as (λ b. same_name o x ≡ b → has same_name o (cond (not b) (x ∷ without same_name o xs) (without same_name o xs)) ≡ false) [
          | true ↦ λ _. has_without o xs
          | false ↦ λ n. ap (λ b. b || has same_name o (without same_name o xs)) n ∙ has_without o xs
        ] refl

-- no row changes
module _ {t : Chains} (u : Chains) {cells : Cells} (now : Cells) {v : StoreView} (before : SeenAs t cells v)
    (chains : HasLists u (chain_of t)) (stored : (o : ObjId) → linked_row_at (heads_of u.rows) o ≡ linked_row_at (heads_of t.rows) o) (same : (o : ObjId) (k : Key) → cells_of now o k ≡ cells_of cells o k) where
  pub flat_kept : IsFlat u now
  flat_kept = record {
    chains = λ w. subst (IsChain (heads_of u.rows) (ends_of u.ends) w) (sym (chain_is u w (chain_of t w) (chains w))) (chains w);
    fields = λ o. subst (KeepsFields (cells_of now) o) (sym (stored o)) (keeps_same (cells_of cells) (cells_of now) o (same o) (linked_row_at (heads_of t.rows) o) (before.flat.fields o));
  }

  pub rows_kept : SameByOwner (flat_rows u now) v.rows
  rows_kept w = flat_listed u now flat_kept.chains w ∙ ap (map (whole_row_at (heads_of u.rows) (cells_of now))) (chain_is u w (chain_of t w) (chains w)) ∙ each (chain_of t w) ∙ sym (rows_listed before w) where
    each : (xs : List ObjId) → map (whole_row_at (heads_of u.rows) (cells_of now)) xs ≡ map (whole_row_at (heads_of t.rows) (cells_of cells)) xs
    each [] = refl
    each (x ∷ xs) = λ i. (ap (whole_row_by (cells_of now) x) (stored x) ∙ whole_row_same (cells_of cells) (cells_of now) x (same x) (linked_row_at (heads_of t.rows) x) (before.flat.fields x)) i ∷ each xs i

-- a store without rows
module _ (t : Chains) (cells : Cells) (chains : HasLists t (λ _. [])) (rows : (o : ObjId) → linked_row_at (heads_of t.rows) o ≡ None) (none : (o : ObjId) (k : Key) → cells_of cells o k ≡ None) where
  no_chain : (w : Owner) → chain_of t w ≡ []
  no_chain w = chain_is t w [] (chains w)

  pub flat_empty : IsFlat t cells
  flat_empty = record {
    chains = λ w. subst (IsChain (heads_of t.rows) (ends_of t.ends) w) (sym (no_chain w)) (chains w);
    fields = λ o. subst (KeepsFields (cells_of cells) o) (sym (rows o)) (none o);
  }

  pub rows_empty : flat_rows t cells ≡ []
  rows_empty = (λ i. map (whole_row_at (heads_of t.rows) (cells_of cells)) (no_chain Local i) ++ (map (whole_row_at (heads_of t.rows) (cells_of cells)) (no_chain Frozen i) ++ region_rows t cells ((t.ends).regions).ends.entries)) ∙ none_under ((t.ends).regions).ends.entries where
    none_under : (es : List (ObjId × Ends)) → region_rows t cells es ≡ []
    none_under [] = refl
    none_under (e ∷ es) = ap (λ l. map (whole_row_at (heads_of t.rows) (cells_of cells)) l ++ region_rows t cells es) (no_chain (In e.0)) ∙ none_under es
