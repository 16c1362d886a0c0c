-- The frozen rows that a plan has, and that the plan is of the freeze of its value.
use Rattle.std.proofs.Common.{List, None, Some, [], ap, cond, false, inl, inr, map, refl, subst, sym, true, ◌||◌, ◌∙◌, ◌∷◌, ◌≡◌, ◌⊎◌}
use Rattle.std.proofs.lemmas.Bool.{false_from_ne_true}
use Rattle.std.proofs.lemmas.List.{append-nil}
use Rattle.std.specs.List.{list_any}
use Rattle.lf_base.specs.declared.ids.ObjId.{ObjId}
use Rattle.lf_base.specs.declared.values.Owner.TheVariants.{Frozen}
use Rattle.lf_base.specs.declared.values.Value.{Value}
use Rattle.lf_base.specs.FreezeResult.{freeze_set, frozen_row, insert_rows}
use Rattle.lf_base.specs.Names.{name_below, same_name}
use Rattle.lf_base.specs.Owners.{has_name, has_row, is_in, names, owner_in}
use Rattle.lf_base.specs.PlainChanges.{insert_row}
use Rattle.lf_base.specs.PlainState.{Row, State}
use Rattle.lf_base.specs.Sets.{Differ, InOrder, Member}
use Rattle.lf_base.proofs.ListLemmas.Members.{Member_any, Member_map, Member_of_map, any_Member}
use Rattle.lf_base.proofs.NameLemmas.SameNames.{same_name_is}
use Rattle.lf_domain.specs.Counts.{IsDomain}
use Rattle.lf_domain.proofs.StoreEdges.{row_told}
use Rattle.lf_frozen.specs.declared.row.FrozenRow.{FrozenRow}
use Rattle.lf_frozen.specs.FrozenRows.{FrozenNamesDiffer, RiseByName, as_row, frozen_names, has_frozen_row, with_all_frozen}
use Rattle.lf_frozen.proofs.RowLaws.{rows_put}
use Rattle.lf_graph.specs.StoredRows.{AreRowsOf, CountedRow, HasRow, owner_at}
use Rattle.lf_laws.proofs.Dropping.RowsInPlace.{rows_in_place}
use Rattle.lf_laws.proofs.Edges.EdgeParts.{same_by}
use Rattle.lf_laws.proofs.Owners.PathsOfSets.{freeze_part, freeze_within}
use Rattle.lf_laws.proofs.Rows.InsertedRows.{RowsApart, all_inserted, all_order, distinct_frozen}
use Rattle.lf_laws.proofs.Rows.RowsByName.{Distinct, Member_has_name, differ_rows, distinct_sub, has_name_Member, mem_has, owner_there, row_there}
use Rattle.lf_laws.proofs.Rows.RowsInOrder.{same_rows}
use Rattle.lf_regions.specs.declared.region.Region.{Region}
use Rattle.lf_transfer.specs.declared.taking.Taking.{Taking}
use Rattle.lf_transfer.specs.Freezing.{AreFrozenIn, IsFreezeOf}
use Rattle.lf_transfer.specs.Taking.{IsTaking, frozen_of}
use Rattle.lf_transfer.proofs.Taken.TakenRows.{all_found, fields_is, owner_is_at}

-- ---- rows that were put among others
put_in : (x : Row) (ys : List Row) (z : Row) → (x ≡ z) ⊎ Member z ys → Member z (insert_row x ys)
put_in x [] z (inl e) = inl e
put_in x [] z (inr m) = absurd m
put_in x (y ∷ ys) z h = elim (name_below x.name y.name) as (λ b. Member z (cond b (x ∷ (y ∷ ys)) (y ∷ insert_row x ys))) [
  | true ↦ h
  | false ↦ elim h as (λ _. Member z (y ∷ insert_row x ys)) [
    | inl e ↦ inr (put_in x ys z (inl e))
    | inr m ↦ elim m as (λ _. Member z (y ∷ insert_row x ys)) [ inl e ↦ inl e | inr k ↦ inr (put_in x ys z (inr k)) ]
  ]
]

all_put : (xs ys : List Row) (z : Row) → Member z xs ⊎ Member z ys → Member z (insert_rows xs ys)
all_put [] ys z (inl m) = absurd m
all_put [] ys z (inr m) = m
all_put (x ∷ xs) ys z (inl m) = put_in x (insert_rows xs ys) z (elim m as (λ _. (x ≡ z) ⊎ Member z (insert_rows xs ys)) [ inl e ↦ inl e | inr k ↦ inr (all_put xs ys z (inl k)) ])
all_put (x ∷ xs) ys z (inr m) = put_in x (insert_rows xs ys) z (inr (all_put xs ys z (inr m)))

-- ---- names of frozen rows
names_as : (fs : List FrozenRow) → names (map as_row fs) ≡ frozen_names fs
names_as [] = refl
names_as (f ∷ fs) = ap (λ l. f.id ∷ l) (names_as fs)

has_ids : (fs : List FrozenRow) (o : ObjId) → has_name (names (map as_row fs)) o ≡ has_frozen_row fs o
has_ids [] o = refl
has_ids (f ∷ fs) o = ap (λ b. same_name f.id o || b) (has_ids fs o)

ids_of : (rows : List CountedRow) (os : List ObjId) → frozen_names (map (frozen_of rows) os) ≡ os
ids_of rows [] = refl
ids_of rows (o ∷ os) = ap (λ l. o ∷ l) (ids_of rows os)

pub batch_differs : (rows : List CountedRow) (os : List ObjId) → Differ same_name os → FrozenNamesDiffer (map (frozen_of rows) os)
batch_differs rows os d = subst (Differ same_name) (sym (ids_of rows os)) d

module _ (rows : List CountedRow) (regions : List Region) (s : State) (d : IsDomain rows regions s) (before : List FrozenRow) (known : AreFrozenIn s before) where
  abbrev a : AreRowsOf rows s.rows
  a = ((d.counts).store).rows

  -- a row of the store isn't among the frozen ones
  not_frozen : (o : ObjId) → HasRow rows o → has_frozen_row before o ≡ false
  not_frozen o there = false_from_ne_true _ (λ h.
      let f = any_Member (λ (row : FrozenRow). same_name row.id o) before h in
      let none : owner_in s.rows o ≡ None = (rows_in_place s d.well_formed).apart o (subst (λ n. (has_row s.given n || has_row s.own n) ≡ true) (same_name_is (f.0).id o f.1.1) (known f.0 f.1.0)) in
      let w = owner_there s.rows (rows_in_place s d.well_formed).distinct o (sym (row_told rows s.rows o a) ∙ there) in
      let z : None ≡ Some (w.owner) = sym none ∙ w.is in cc)

  pub batch_is_new : (os : List ObjId) → ((o : ObjId) → has_name os o ≡ true → HasRow rows o) → (row : FrozenRow) → Member row (map (frozen_of rows) os) → has_frozen_row before row.id ≡ false
  batch_is_new os there row m =
      let o = Member_of_map (frozen_of rows) row os m in
      subst (λ (f : FrozenRow). has_frozen_row before f.id ≡ false) o.1.1 (not_frozen o.0 (there o.0 (Member_has_name o.0 os o.1.0)))

  module _ (rise : RiseByName before) (v : Value) (taken : List ObjId) (differ : Differ same_name taken) (there : (o : ObjId) → has_name taken o ≡ true → HasRow rows o)
      (takes : (o : ObjId) → has_name taken o ≡ has_row (freeze_set s v) o) where
    abbrev batch : List Row
    batch = map as_row (map (frozen_of rows) taken)

    abbrev set : List Row
    set = map frozen_row (freeze_set s v)

    abbrev old : List Row
    old = map as_row before

    batch_names : names batch ≡ taken
    batch_names = names_as (map (frozen_of rows) taken) ∙ ids_of rows taken

    old_rises : InOrder name_below (names old)
    old_rises = subst (InOrder name_below) (sym (names_as before)) rise

    batch_distinct : Distinct batch
    batch_distinct = differ_rows batch [] (subst (Differ same_name) (sym (append-nil (names batch) ∙ batch_names)) differ)

    set_distinct : Distinct set
    set_distinct = distinct_frozen (freeze_set s v) (distinct_sub (freeze_part s v) (rows_in_place s d.well_formed).distinct)

    batch_apart : RowsApart batch (names old)
    batch_apart x m =
        let named : Member x.name taken = subst (Member x.name) batch_names (Member_map (λ (r : Row). r.name) x batch m) in
        has_ids before x.name ∙ not_frozen x.name (there x.name (Member_has_name x.name taken named))

    in_state : (x : Row) → Member x (freeze_set s v) → HasRow rows x.name
    in_state x m = row_told rows s.rows x.name a ∙ mem_has x s.rows (freeze_within s v x m)

    set_apart : RowsApart set (names old)
    set_apart x m =
        let r = Member_of_map frozen_row x (freeze_set s v) m in
        subst (λ (y : Row). has_name (names old) y.name ≡ false) r.1.1 (has_ids before (r.0).name ∙ not_frozen (r.0).name (in_state r.0 r.1.0))

    frozen_is : (x : Row) → Member x (freeze_set s v) → as_row (frozen_of rows x.name) ≡ frozen_row x
    frozen_is x m = λ i. record { name = x.name; owner = Frozen; fields = fields_is rows regions s d x (freeze_within s v x m) i }

    from_batch : (z : Row) → Member z batch → Member z set
    from_batch z m =
        let f = Member_of_map as_row z (map (frozen_of rows) taken) m in
        let o = Member_of_map (frozen_of rows) f.0 taken f.1.0 in
        let r = row_there (freeze_set s v) o.0 (sym (takes o.0) ∙ Member_has_name o.0 taken o.1.0) in
        let is : frozen_row r.0 ≡ z = sym (frozen_is r.0 r.1.0) ∙ ap (λ n. as_row (frozen_of rows n)) r.1.1 ∙ ap as_row o.1.1 ∙ f.1.1 in
        subst (λ y. Member y set) is (Member_map frozen_row r.0 (freeze_set s v) r.1.0)

    from_set : (z : Row) → Member z set → Member z batch
    from_set z m =
        let r = Member_of_map frozen_row z (freeze_set s v) m in
        let named : Member (r.0).name taken = has_name_Member (r.0).name taken (takes (r.0).name ∙ mem_has r.0 (freeze_set s v) r.1.0) in
        subst (λ y. Member y batch) (frozen_is r.0 r.1.0 ∙ r.1.1)
        (Member_map as_row (frozen_of rows (r.0).name) (map (frozen_of rows) taken) (Member_map (frozen_of rows) (r.0).name taken named))

    within : (xs ys : List Row) → ((z : Row) → Member z xs → Member z ys) → (z : Row) → Member z (insert_rows xs old) → Member z (insert_rows ys old)
    within xs ys f z m = elim (all_inserted xs old z m) as (λ _. Member z (insert_rows ys old)) [ inl k ↦ all_put ys old z (inl (f z k)) | inr k ↦ all_put ys old z (inr k) ]

    pub frozen_rows : (after : List FrozenRow) → after ≡ with_all_frozen (map (frozen_of rows) taken) before → map as_row after ≡ insert_rows (map frozen_row (freeze_set s v)) (map as_row before)
    frozen_rows after is =
        ap (map as_row) is ∙ rows_put (map (frozen_of rows) taken) before
        ∙ same_rows (insert_rows batch old) (insert_rows set old) (all_order batch old batch_distinct batch_apart old_rises) (all_order set old set_distinct set_apart old_rises) (within batch set from_batch) (within set batch from_set)

    pub lies_is : (q : ObjId) → list_any (λ o. is_in q (owner_at rows o)) taken ≡ list_any (λ (x : Row). is_in q (Some (x.owner))) (freeze_set s v)
    lies_is q = same_by (list_any (λ o. is_in q (owner_at rows o)) taken) (list_any (λ (x : Row). is_in q (Some (x.owner))) (freeze_set s v))
        (λ h.
        let o = any_Member (λ o. is_in q (owner_at rows o)) taken h in
        let r = row_there (freeze_set s v) o.0 (sym (takes o.0) ∙ Member_has_name o.0 taken o.1.0) in
        Member_any (λ (x : Row). is_in q (Some (x.owner))) r.0 (freeze_set s v) r.1.0
        (ap (is_in q) (sym (owner_is_at rows regions s d r.0 (freeze_within s v r.0 r.1.0)) ∙ ap (owner_at rows) r.1.1) ∙ o.1.1))
        (λ h.
        let r = any_Member (λ (x : Row). is_in q (Some (x.owner))) (freeze_set s v) h in
        Member_any (λ o. is_in q (owner_at rows o)) (r.0).name taken (has_name_Member (r.0).name taken (takes (r.0).name ∙ mem_has r.0 (freeze_set s v) r.1.0))
        (ap (is_in q) (owner_is_at rows regions s d r.0 (freeze_within s v r.0 r.1.0)) ∙ r.1.1))

pub is_planned : (rows : List CountedRow) (regions : List Region) (s : State) → IsDomain rows regions s → (before : List FrozenRow) → AreFrozenIn s before → RiseByName before → (v : Value) (found : Taking)
    → IsTaking rows v found → ((o : ObjId) → has_name (found.taken).keys o ≡ true → has_row (freeze_set s v) o ≡ true) → (after : List FrozenRow) → after ≡ with_all_frozen found.rows before
    → IsFreezeOf s before v (record { taken = (found.taken).keys; regions = (found.regions).keys; frozen = after })
is_planned rows regions s d before known rise v found is within after added =
    let taken : List ObjId = (found.taken).keys in
    let takes : (o : ObjId) → has_name (found.taken).keys o ≡ has_row (freeze_set s v) o = λ o.
    same_by (has_name (found.taken).keys o) (has_row (freeze_set s v) o) (within o) (all_found rows regions s d v (found.taken).keys is.first is.next o) in
    record {
      differ = is.differ;
      takes = takes;
      once = is.once;
      loses = λ q. is.lies q ∙ lies_is rows regions s d before known rise v (found.taken).keys is.differ is.there takes q;
      frozen = frozen_rows rows regions s d before known rise v (found.taken).keys is.differ is.there takes after (added ∙ ap (λ l. with_all_frozen l before) is.copied);
    }
