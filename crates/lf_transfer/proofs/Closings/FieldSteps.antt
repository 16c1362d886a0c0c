-- A field of a local row that is shut.
use Rattle.std.proofs.Common.{List, None, Option, Some, [], ap, cond, false, inl, inr, length, map, refl, subst, sym, true, ℕ, ◌+◌, ◌++◌, ◌∙◌, ◌∷◌, ◌≡◌, ◌≤◌, ◌⊎◌}
use Rattle.std.specs.Option.{is_some, option_map}
use Rattle.lf_base.specs.declared.ids.ObjId.{ObjId}
use Rattle.lf_base.specs.declared.values.Key.{Key}
use Rattle.lf_base.specs.declared.values.Owner.{Owner}
use Rattle.lf_base.specs.declared.values.Owner.TheVariants.{Local}
use Rattle.lf_base.specs.declared.values.Value.{Value}
use Rattle.lf_base.specs.declared.values.Value.TheVariants as value
use Rattle.lf_base.specs.CloseResult.{leads_into}
use Rattle.lf_base.specs.EdgeLists.{SameEdges, near_edges}
use Rattle.lf_base.specs.Edges.{Field, edges, edges_by, field_targets, slot_targets}
use Rattle.lf_base.specs.Names.{is_local, same_key, same_name, targets_of_value}
use Rattle.lf_base.specs.Owners.{is_local_at, names, owner_in, row_at, row_owner}
use Rattle.lf_base.specs.PlainChanges.{put_slot, slot_at}
use Rattle.lf_base.specs.PlainState.{Row, State}
use Rattle.lf_base.specs.Sets.{Differ, Member}
use Rattle.lf_base.specs.TakeResult.{field_at, row_field}
use Rattle.lf_base.specs.TouchedEdges.{row_fields}
use Rattle.lf_base.specs.WellFormed.{WellFormed}
use Rattle.lf_base.specs.WriteResult.{is_at, put_field, write_fields}
use Rattle.lf_base.proofs.ListLemmas.Sublists.{Sub, none, sub_all, sub_append, sub_before}
use Rattle.lf_base.proofs.ListLemmas.Tests.{some_is}
use Rattle.lf_base.proofs.NameLemmas.SameNames.{same_name_is, same_name_itself}
use Rattle.lf_barrier.specs.MovingEdges.{fields_in}
use Rattle.lf_barrier.proofs.MovingEdges.FieldLoops.{fields_told}
use Rattle.lf_barrier.proofs.MovingEdges.RowLoops.{found_in_map}
use Rattle.lf_domain.specs.Counts.{Counts, CountsOf}
use Rattle.lf_domain.specs.OneEdge.{MayUncount}
use Rattle.lf_domain.proofs.FieldCounts.{refilled_counts}
use Rattle.lf_domain.proofs.StateEdges.{may_uncount}
use Rattle.lf_domain.proofs.StoreEdges.{field_told, owned_has_row, owner_told}
use Rattle.lf_graph.specs.Room.{room_for_field}
use Rattle.lf_graph.specs.RowChanges.{with_field_of, with_fields}
use Rattle.lf_graph.specs.RowOrder.{SameOrder}
use Rattle.lf_graph.specs.StoredRows.{CountedRow, HasRow, SameByOwner, field_value_at, fields_at, plain, rows_of}
use Rattle.lf_graph.proofs.Stores.Changes.{at_keeps_name, at_keeps_owner, rows_of_map}
use Rattle.lf_graph.proofs.Stores.StateRows.{names_map}
use Rattle.lf_laws.proofs.Changes.FewerFields.{NamesNothing, Trims, trim_keeps}
use Rattle.lf_laws.proofs.Dropping.RowsInPlace.{rows_in_place}
use Rattle.lf_laws.proofs.Edges.EdgeParts.{all_from_near, near_rows}
use Rattle.lf_laws.proofs.Edges.FieldEdges.{name_of_found, write_rows}
use Rattle.lf_laws.proofs.Rows.RowsByName.{at_mem, owner_mem}
use Rattle.lf_laws.proofs.Writes.MovedRows.{keys_put}
use Rattle.lf_laws.proofs.Writes.WrittenEdges.{owner_write}
use Rattle.lf_regions.specs.declared.region.Region.{Region}
use Rattle.lf_transfer.specs.Closing.{Closing, come_to, leads_within, shut_slot, with_loose}
use Rattle.lf_transfer.specs.LooseNames.{LooseNames}
use Rattle.lf_transfer.proofs.Closings.ClosedSteps.{one_less, owners_stay, room_here, stored_owner}
use Rattle.lf_transfer.proofs.Closings.ShutStates.{field_is_shut}
use Rattle.lf_transfer.proofs.Closings.SlotSteps.{LeadsTo, leads_to}

-- ---- None written to a field takes at most an edge away
fewer_targets : (fields : List (Key × Value)) (k : Key) → Sub (field_targets (put_field fields k value.None)) (field_targets fields)
fewer_targets [] k = none
fewer_targets (f ∷ fs) k = elim (same_key f.0 k) as (λ b. Sub (field_targets (cond b ((k, value.None) ∷ fs) (f ∷ put_field fs k value.None))) (field_targets (f ∷ fs))) [
  | true ↦ sub_before (targets_of_value f.1) (sub_all (field_targets fs))
  | false ↦ sub_append (sub_all (targets_of_value f.1)) (fewer_targets fs k)
]

values_then : (fields : List (Key × Value)) (k : Key) (w : Value) → Member w (map (λ f. f.1) (put_field fields k value.None)) → Member w (map (λ f. f.1) fields) ⊎ NamesNothing w
values_then [] k w (inl e) = inr (subst NamesNothing e (refl, refl))
values_then [] k w (inr m) = absurd m
values_then (f ∷ fs) k w m = elim (same_key f.0 k) as (λ b. Member w (map (λ f. f.1) (cond b ((k, value.None) ∷ fs) (f ∷ put_field fs k value.None))) → Member w (f.1 ∷ map (λ f. f.1) fs) ⊎ NamesNothing w) [
  | true ↦ λ n. elim n [ inl e ↦ inr (subst NamesNothing e (refl, refl)) | inr h ↦ inl (inr h) ]
  | false ↦ λ n. elim n [ inl e ↦ inl (inl e) | inr h ↦ elim (values_then fs k w h) [ inl j ↦ inl (inr j) | inr j ↦ inr j ] ]
] m

module _ (p : ObjId) (k : Key) where
  abbrev pub emptied : Row → Row
  emptied row = cond (is_at p row) (record row { fields = put_field row.fields k value.None }) row

  emptied_name : (row : Row) → (emptied row).name ≡ row.name
  emptied_name row = elim (is_at p row) as (λ b. (cond b (record row { fields = put_field row.fields k value.None }) row).name ≡ row.name) [ true ↦ refl | false ↦ refl ]

  -- ---- the fields of the rows then
  pub fields_here : (rows : List Row) (row : Row) → row_at rows p ≡ Some row → fields_in (write_fields rows p k value.None) p ≡ put_field (fields_in rows p) k value.None
  fields_here rows row found =
      ap row_fields (found_in_map emptied emptied_name rows p ∙ ap (option_map emptied) found)
      ∙ ap (λ b. (cond b (record row { fields = put_field row.fields k value.None }) row).fields) (ap (λ n. same_name n p) (name_of_found rows p row found) ∙ same_name_itself p)
      ∙ ap (λ t. put_field (row_fields t) k value.None) (sym found)

  pub fields_elsewhere : (rows : List Row) (q : ObjId) → same_name q p ≡ false → fields_in (write_fields rows p k value.None) q ≡ fields_in rows q
  fields_elsewhere rows q other = ap row_fields (found_in_map emptied emptied_name rows q) ∙ go (row_at rows q) refl where
    go : (t : Option Row) → row_at rows q ≡ t → row_fields (option_map emptied t) ≡ row_fields t
    go None e = refl
    go (Some row) e = ap (λ b. (cond b (record row { fields = put_field row.fields k value.None }) row).fields) (ap (λ n. same_name n p) (name_of_found rows q row e) ∙ other)

  pub emptied_trims : Trims emptied
  emptied_trims = record {
    name = emptied_name;
    owner = λ row. elim (is_at p row) as (λ b. (cond b (record row { fields = put_field row.fields k value.None }) row).owner ≡ row.owner) [ true ↦ refl | false ↦ refl ];
    keys = λ row d. elim (is_at p row) as (λ b. Differ same_key (map (λ f. f.0) (cond b (record row { fields = put_field row.fields k value.None }) row).fields)) [ true ↦ keys_put row.fields k value.None d | false ↦ d ];
    less = λ row. elim (is_at p row) as (λ b. Sub (field_targets (cond b (record row { fields = put_field row.fields k value.None }) row).fields) (field_targets row.fields)) [ true ↦ fewer_targets row.fields k | false ↦ sub_all (field_targets row.fields) ];
    values = λ row w m. elim (is_at p row) as (λ b. Member w (map (λ f. f.1) (cond b (record row { fields = put_field row.fields k value.None }) row).fields) → Member w (map (λ f. f.1) row.fields) ⊎ NamesNothing w) [ true ↦ values_then row.fields k w | false ↦ λ n. inl n ] m;
  }

-- a field that is set leaves the order of rows
pub set_order : (rows new : List CountedRow) (o : ObjId) (k : Key) (v : Value) → SameByOwner new (with_field_of rows o k v) → SameOrder new rows
set_order rows new o k v same w =
    let f : CountedRow → CountedRow = λ c. with_fields (put_field (c.row).fields k v) c in
    ap (λ l. names (plain l)) (same w ∙ rows_of_map w _ (at_keeps_owner o f (λ c. refl)) rows)
    ∙ names_map _ (at_keeps_name o f (λ c. refl)) (rows_of w rows)

found_row : (t : Option Row) (w : Owner) → row_owner t ≡ Some w → (row : Row) × (t ≡ Some row)
found_row None w e = absurd (cc)
found_row (Some row) w e = (row, refl)

-- ---- the step
module _ (s : State) (at : ℕ) (r : ObjId) (within : List ObjId) (before : LooseNames)
    (rows : List CountedRow) (regions : List Region) (slots : List (Option Value)) (mid : LooseNames)
    (c : Closing s at r within before rows regions slots mid) (p : ObjId) (local : owner_in s.rows p ≡ Some Local) (k : Key) (v : Value) (has : field_value_at rows p k ≡ Some v) where
  abbrev here : State
  here = come_to s rows slots

  abbrev pub then_state : State
  then_state = record here { rows = write_fields here.rows p k value.None }

  well : WellFormed here
  well = (c.domain).well_formed

  local_here : owner_in here.rows p ≡ Some Local
  local_here = owners_stay s at r within before rows regions slots mid c p ∙ local

  pub the_row : (row : Row) × (row_at here.rows p ≡ Some row)
  the_row = found_row (row_at here.rows p) Local local_here

  the_field : field_at (the_row.0).fields k ≡ Some v
  the_field = ap (λ t. row_field t k) (sym the_row.1) ∙ sym (field_told rows here.rows p k (((c.domain).counts).store).rows) ∙ has

  field_near : SameEdges (near_edges here) (edges_by (Field p) (targets_of_value v) ++ near_edges then_state)
  field_near = subst (λ w. SameEdges (near_edges here) (edges_by (Field p) (slot_targets w) ++ near_edges then_state)) the_field
      (near_rows here (write_fields here.rows p k value.None) [] (edges_by (Field p) (slot_targets (field_at (the_row.0).fields k)))
      (write_rows p k here.rows the_row.0 (rows_in_place here well).distinct the_row.1 value.None))

  field_all : SameEdges (edges here) (edges_by (Field p) (targets_of_value v) ++ edges then_state)
  field_all = all_from_near here then_state [] (edges_by (Field p) (targets_of_value v)) refl field_near

  -- its edge may be taken out of the counts
  pub field_may : MayUncount rows regions here.rows (near_edges here) (near_edges then_state) (Field p) (targets_of_value v)
  field_may = may_uncount rows regions here c.domain (Field p) (targets_of_value v) (near_edges then_state) field_near (ap is_local_at local_here)

  -- the row of that name is the one
  one_row : (row : Row) → Member row here.rows → is_at p row ≡ true → row_at here.rows p ≡ Some row
  one_row row m e = ap (row_at here.rows) (sym (same_name_is row.name p e)) ∙ at_mem here.rows (rows_in_place here well).distinct row m

  row_has : (row : Row) → Member row here.rows → is_at p row ≡ true → field_at row.fields k ≡ Some v
  row_has row m e = ap (λ (x : Row). field_at x.fields k) (some_is row the_row.0 (sym (one_row row m e) ∙ the_row.1)) ∙ the_field

  row_local : (row : Row) → Member row here.rows → is_at p row ≡ true → is_local row.owner ≡ true
  row_local row m e = ap is_local (some_is row.owner Local (sym (owner_mem here.rows (rows_in_place here well).distinct row m) ∙ ap (owner_in here.rows) (same_name_is row.name p e) ∙ local_here))

  then_well : WellFormed then_state
  then_well = trim_keeps (emptied p k) (emptied_trims p k) here here.slots well (λ w m. inl m)

  module _ (into : leads_within rows within v ≡ true) where
    abbrev led : LeadsTo rows v
    led = leads_to rows within v into

    owned : owner_in s.rows led.object ≡ Some led.owner
    owned = sym (stored_owner s at r within before rows regions slots mid c led.object) ∙ led.owned

    near_one : SameEdges (near_edges here) (edges_by (Field p) (led.object ∷ []) ++ near_edges then_state)
    near_one = subst (λ os. SameEdges (near_edges here) (edges_by (Field p) os ++ near_edges then_state)) led.targets field_near

    all_one : SameEdges (edges here) (edges_by (Field p) (led.object ∷ []) ++ edges then_state)
    all_one = subst (λ os. SameEdges (edges here) (edges_by (Field p) os ++ edges then_state)) led.targets field_all

    pub field_room : 1 ≤ mid.spare
    field_room = room_here s at r within before rows regions slots mid c then_state (Field p) led.object led.owner owned near_one all_one

    module _ (next : List CountedRow) (table : List Region) (counts : Counts next table here.rows (near_edges then_state)) where
      -- the row is there still, and has the field
      pub field_there : HasRow next p
      field_there = owned_has_row next p Local (sym (owner_told next here.rows p (counts.store).rows) ∙ local_here)

      pub field_needs_none : room_for_field next p k ≡ 0
      field_needs_none = ap (λ t. cond (is_some t) 0 1) (field_told next here.rows p k (counts.store).rows ∙ sym (field_told rows here.rows p k (((c.domain).counts).store).rows) ∙ has)

      module _ (last : List CountedRow) (written : SameByOwner last (with_field_of next p k value.None)) where
        last_counts : CountsOf last table then_state
        last_counts = refilled_counts p (λ fs. put_field fs k value.None) next last table here.rows (near_edges then_state) counts written

        pub fields_then : fields_at last p ≡ put_field (fields_at rows p) k value.None
        fields_then =
            fields_told last then_state.rows p ((last_counts.store).rows)
            ∙ fields_here p k here.rows the_row.0 the_row.1
            ∙ ap (λ fs. put_field fs k value.None) (sym (fields_told rows here.rows p (((c.domain).counts).store).rows))

        pub other_fields : (q : ObjId) → same_name q p ≡ false → fields_at last q ≡ fields_at rows q
        other_fields q other =
            fields_told last then_state.rows q ((last_counts.store).rows)
            ∙ fields_elsewhere p k here.rows q other
            ∙ sym (fields_told rows here.rows q (((c.domain).counts).store).rows)

        module _ (names : LooseNames) (named : names.names ≡ with_loose next (targets_of_value v) mid.names)
            (room : names.spare + length names.names ≡ mid.spare + length mid.names) where
          pub field_closed : Closing s at r within before last table slots names
          field_closed =
              one_less s at r within before rows regions slots mid c then_state (Field p) led.object led.owner owned near_one all_one
              (owner_write here.rows p k value.None) then_well
              (ap (λ l. record here { slots = put_slot (map (shut_slot (leads_into s r)) slots) at (slot_at slots at); rows = l })
              (field_is_shut (leads_into s r) p k v (sym (c.leads v) ∙ into) here.rows (λ row m e. (row_local row m e, row_has row m e))))
              next table here.rows counts (owners_stay s at r within before rows regions slots mid c)
              last table slots names
              (ap (λ x. record s { slots = slots; rows = x }) (sym ((last_counts.store).rows).rise)) last_counts
              (named ∙ ap (λ os. with_loose next os mid.names) led.targets) room
