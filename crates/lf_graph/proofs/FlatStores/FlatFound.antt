-- What is found in the rows of a flat store, from its tables.
use Rattle.std.proofs.Common.{None, Option, Some, ap, cond, is_some, length, option_map, refl, subst, sym, true, ℕ, ◌∙◌, ◌≡◌, ◌≤◌}
use Rattle.std.specs.Option.{IfSome, IsSome}
use Rattle.lf_base.specs.declared.ids.ObjId.{ObjId}
use Rattle.lf_base.specs.declared.values.Key.{Key}
use Rattle.lf_base.specs.declared.values.Owner.{Owner}
use Rattle.lf_base.specs.Links.{after, head_or}
use Rattle.lf_base.specs.Names.{same_name}
use Rattle.lf_base.specs.TakeResult.{field_at}
use Rattle.lf_graph.specs.declared.cells.Cell.{Cell}
use Rattle.lf_graph.specs.declared.cells.Cells.{Cells}
use Rattle.lf_graph.specs.declared.chains.Chains.{Chains}
use Rattle.lf_graph.specs.declared.stored_row.StoredRow.{StoredRow}
use Rattle.lf_graph.specs.Cells.{IsFieldList, cell_value, cells_of, pairs, walked_keys}
use Rattle.lf_graph.specs.ChainMaps.{heads_of}
use Rattle.lf_graph.specs.Chains.{linked_owner_at, linked_row_at}
use Rattle.lf_graph.specs.FlatRows.{IsFlat, KeepsFields, StoreView, chain_of, flat_room, flat_rows, whole_row, whole_row_at, whole_row_by}
use Rattle.lf_graph.specs.Room.{OwnerHasRoom, room_for_field}
use Rattle.lf_graph.specs.StoredRows.{HasRow, field_value_at, fields_at, fields_by, first_name, name_after, owner_at as owner_in, owner_by, refs_at, refs_by, row_named, rows_beside, rows_of, rows_of_maybe}
use Rattle.lf_graph.proofs.FieldTable.FieldPairs.{field_found, length_pairs}
use Rattle.lf_graph.proofs.FlatStores.FlatView.{flat_listed, row_names}
use Rattle.lf_graph.proofs.Stores.RowsByOwner.{RowsAreListed, after_among, first_among, found_listed}

-- the tables of a flat store, which callers see as v
pub record SeenAs (t : Chains) (cells : Cells) (v : StoreView) : Type 0 where
  pub flat : IsFlat t cells
  pub is : record { rows = flat_rows t cells; spare = flat_room t cells } ≡ v

pub seen_as : {t : Chains} {cells : Cells} {v : StoreView} → IsFlat t cells → record { rows = flat_rows t cells; spare = flat_room t cells } ≡ v → SeenAs t cells v
seen_as flat is = record { flat = flat; is = is }

module _ {t : Chains} {cells : Cells} {v : StoreView} (s : SeenAs t cells v) where
  abbrev kept : ObjId → Option StoredRow
  kept o = linked_row_at (heads_of t.rows) o

  rows_is : flat_rows t cells ≡ v.rows
  rows_is = ap (λ (x : StoreView). x.rows) s.is

  pub rows_listed : RowsAreListed v.rows (chain_of t) (whole_row_at (heads_of t.rows) (cells_of cells))
  rows_listed = subst (λ l. RowsAreListed l (chain_of t) (whole_row_at (heads_of t.rows) (cells_of cells))) rows_is (flat_listed t cells s.flat.chains)

  -- a row is found by its name
  pub found : (o : ObjId) → row_named v.rows o ≡ option_map (whole_row (cells_of cells) o) (kept o)
  found o = found_listed v.rows (chain_of t) (whole_row_at (heads_of t.rows) (cells_of cells)) rows_listed (row_names t cells) o (linked_owner_at (heads_of t.rows) o) (λ w. (s.flat.chains w).members o) ∙ each (kept o) where
    each : (r : Option StoredRow) → cond (is_some (option_map (λ (x : StoredRow). x.owner) r)) (Some (whole_row_by (cells_of cells) o r)) None ≡ option_map (whole_row (cells_of cells) o) r
    each None = refl
    each (Some r) = refl

  pub row_is_there : (o : ObjId) → HasRow v.rows o → IsSome (kept o)
  row_is_there o h = go (kept o) (ap is_some (sym (found o)) ∙ h) where
    go : (r : Option StoredRow) → is_some (option_map (whole_row (cells_of cells) o) r) ≡ true → IsSome r
    go None e = cc
    go (Some r) e = refl

  -- and so is its owner
  pub record There (o : ObjId) : Type 0 where
    pub row : StoredRow
    pub kept_is : kept o ≡ Some row

  pub there : (o : ObjId) → HasRow v.rows o → There o
  there o h = go (kept o) refl (row_is_there o h) where
    go : (r : Option StoredRow) → kept o ≡ r → IsSome r → There o
    go None e some = cc
    go (Some r) e some = record { row = r; kept_is = e }

  pub record Owned (o : ObjId) : Type 0 where
    pub owner : Owner
    pub owner_is : linked_owner_at (heads_of t.rows) o ≡ Some owner

  pub has_owner : (o : ObjId) → HasRow v.rows o → Owned o
  has_owner o h = let r = there o h in record { owner = r.row.owner; owner_is = ap (option_map (λ (x : StoredRow). x.owner)) r.kept_is }

  pub is_new : (o : ObjId) → row_named v.rows o ≡ None → kept o ≡ None
  is_new o h = go (kept o) (sym (found o) ∙ h) where
    go : (r : Option StoredRow) → option_map (whole_row (cells_of cells) o) r ≡ None → r ≡ None
    go None e = refl
    go (Some r) e = cc

  -- its owner
  pub owner_found : (o : ObjId) → owner_in v.rows o ≡ option_map (λ (r : StoredRow). r.owner) (kept o)
  owner_found o = ap owner_by (found o) ∙ each (kept o) where
    each : (r : Option StoredRow) → owner_by (option_map (whole_row (cells_of cells) o) r) ≡ option_map (λ (r : StoredRow). r.owner) r
    each None = refl
    each (Some r) = refl

  -- the first row of an owner, and the next one
  pub first_found : (w : Owner) → head_or (chain_of t w) None ≡ first_name (rows_of w v.rows)
  first_found w = sym (first_among (whole_row_at (heads_of t.rows) (cells_of cells)) (row_names t cells) (chain_of t w)) ∙ ap first_name (sym (rows_listed w))

  pub next_found : (o : ObjId) (w : Owner) → linked_owner_at (heads_of t.rows) o ≡ Some w → after same_name o (chain_of t w) ≡ name_after (rows_beside v.rows o) o
  next_found o w e =
      sym (after_among (whole_row_at (heads_of t.rows) (cells_of cells)) (row_names t cells) o (chain_of t w)) ∙ ap (λ l. name_after l o) (sym (rows_listed w))
      ∙ ap (λ x. name_after (rows_of_maybe x v.rows) o) (sym (owner_found o ∙ e))

  module _ (o : ObjId) (r : StoredRow) (here : kept o ≡ Some r) where
    pub list_here : IsFieldList (cells_of cells) o r.fields (walked_keys (cells_of cells) o r.fields)
    list_here = subst (KeepsFields (cells_of cells) o) here (s.flat.fields o)

    row_here : row_named v.rows o ≡ Some (whole_row (cells_of cells) o r)
    row_here = found o ∙ ap (option_map (whole_row (cells_of cells) o)) here

    -- its fields, their number, and the value of one
    pub fields_found : fields_at v.rows o ≡ pairs (cells_of cells) o (walked_keys (cells_of cells) o r.fields)
    fields_found = ap fields_by row_here

    pub width_found : length (fields_at v.rows o) ≡ r.fields.width
    width_found = ap length fields_found ∙ length_pairs (cells_of cells) o r.fields (walked_keys (cells_of cells) o r.fields) list_here

    pub value_found : (k : Key) → field_value_at v.rows o k ≡ cell_value (cells_of cells) o k
    value_found k = ap (λ f. field_at f k) fields_found ∙ field_found (cells_of cells) o r.fields (walked_keys (cells_of cells) o r.fields) list_here k

    pub refs_found : refs_at v.rows o ≡ r.refs
    refs_found = ap refs_by row_here

  -- what holds of its count holds of the one that is kept
  pub count_kept_is : (P : ℕ → Type 0) (o : ObjId) → HasRow v.rows o → P (refs_at v.rows o) → IfSome (kept o) (λ (r : StoredRow). P r.refs)
  count_kept_is P o h p = let r = there o h in subst (λ t. IfSome t (λ (x : StoredRow). P x.refs)) (sym r.kept_is) (subst P (refs_found o r.row r.kept_is) p)

  -- a row that is kept is there
  pub kept_has_row : (o : ObjId) → IsSome (kept o) → HasRow v.rows o
  kept_has_row o some = ap is_some (found o) ∙ go (kept o) some where
    go : (r : Option StoredRow) → IsSome r → is_some (option_map (whole_row (cells_of cells) o) r) ≡ true
    go None e = cc
    go (Some r) e = refl

  -- a field that the row hasn't
  pub no_value : (o : ObjId) → HasRow v.rows o → (k : Key) → cells_of cells o k ≡ None → field_value_at v.rows o k ≡ None
  no_value o h k n = let r = there o h in value_found o r.row r.kept_is k ∙ ap (option_map (λ (c : Cell). c.value)) n

  -- a new field needs room, wherever the row is
  pub room_needed : (o : ObjId) → HasRow v.rows o → (k : Key) → cells_of cells o k ≡ None → OwnerHasRoom (λ _. v.spare) v.rows o (room_for_field v.rows o k) → 1 ≤ v.spare
  room_needed o h k n room =
      let own = has_owner o h in
      subst (λ x. cond (is_some x) 0 1 ≤ v.spare) (no_value o h k n) (room own.owner (owner_found o ∙ own.owner_is))

  -- a name without a row has no fields
  pub no_fields : (o : ObjId) → kept o ≡ None → (k : Key) → cells_of cells o k ≡ None
  no_fields o n = subst (KeepsFields (cells_of cells) o) n (s.flat.fields o)
