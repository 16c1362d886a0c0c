-- The bridges of other regions to which a region's rows refer, put into a set that has room for them.
use Rattle.std.proofs.Common.{Bool, List, None, Option, Some, [], ap, arith, cond, false, filter, flat_map, inl, inr, is_some, length, not, refl, subst, sym, true, ℕ, ◌+◌, ◌++◌, ◌<◌, ◌∙◌, ◌∷◌, ◌≡◌, ◌≤◌}
use Rattle.std.proofs.lemmas.Bool.{or_cases}
use Rattle.std.proofs.lemmas.List.{length-append}
use Rattle.indexmap.specs.IndexSet.{IndexSet, spare}
use Rattle.lf_base.specs.declared.ids.ObjId.{ObjId}
use Rattle.lf_base.specs.declared.values.Key.{Key}
use Rattle.lf_base.specs.declared.values.Owner.{Owner}
use Rattle.lf_base.specs.declared.values.Owner.TheVariants.{In}
use Rattle.lf_base.specs.declared.values.Value.{Value}
use Rattle.lf_base.specs.Edges.{field_targets}
use Rattle.lf_base.specs.FieldOrder.{field_after}
use Rattle.lf_base.specs.Names.{same_name, targets_of_value}
use Rattle.lf_base.specs.Owners.{has_name}
use Rattle.lf_base.specs.Sets.{Differ, Member}
use Rattle.lf_base.proofs.ListLemmas.Filters.{Member_filter, Member_of_filter, filter_full, full_or_less}
use Rattle.lf_base.proofs.ListLemmas.Tests.{none_any}
use Rattle.lf_base.proofs.NameLemmas.SameNames.{same_name_is, same_name_itself}
use Rattle.lf_barrier.specs.Descents.{is_child, region_targets}
use Rattle.lf_barrier.specs.Surveys.{names_with}
use Rattle.lf_barrier.proofs.Surveys.SurveySteps.{flat_more, has_if}
use Rattle.lf_graph.specs.StoredRows.{CountedRow, HasRow, NamesDiffer, first_name, fields_at, name_after, owner_at, owner_by, row_named, rows_beside, rows_of}
use Rattle.lf_graph.proofs.Stores.FieldWalks.{FieldKeysDiffer}
use Rattle.lf_laws.proofs.Rows.RowsByName.{Member_has_name}
use Rattle.lf_transfer.specs.Below.{FindsBridges, HoldsRowNames, is_bridge_beside}
use Rattle.lf_transfer.specs.Taking.{Takes}
use Rattle.lf_transfer.proofs.Taken.TakenObjects.{FieldsTaken, differ_with, fields_begin, fields_on, fields_taken, takes_absent, takes_none, takes_on, takes_one}
use Rattle.lf_transfer.proofs.Taken.TakenRows.{name_found, row_found_member}
use Rattle.lf_transfer.proofs.Walks.RegionWalk.{RegionWalk, fields_here, region_begins, region_goes_on, region_over, this_row}
use Rattle.lf_transfer.proofs.Walks.References.{row_targets}

pub new_is_longer : (before after : List ObjId) (o : ObjId) → has_name before o ≡ false → after ≡ names_with before o → length after ≡ length before + 1
new_is_longer before after o none is = ap length is ∙ ap (λ b. length (cond b before (before ++ o ∷ []))) none ∙ length-append before (o ∷ [])

-- ---- names that differ are no more than the rows that they name
some_row : (t : Option CountedRow) → is_some t ≡ true → (c : CountedRow) × (t ≡ Some c)
some_row None h = absurd (let z : false ≡ true = h in cc)
some_row (Some c) h = (c, refl)

abbrev Named : List CountedRow → List ObjId → Type 0
Named rows os = (o : ObjId) → Member o os → (c : CountedRow) × (Member c rows × ((c.row).name ≡ o))

fewer_without : (rows : List CountedRow) (c : CountedRow) (o : ObjId) → Member c rows → (c.row).name ≡ o → length (filter (λ x. not (same_name (x.row).name o)) rows) < length rows
fewer_without rows c o m name = elim (full_or_less (λ x. not (same_name (x.row).name o)) rows) as (λ _. length (filter (λ x. not (same_name (x.row).name o)) rows) < length rows) [
  | inl full ↦ absurd (
      let kept = Member_of_filter (λ (x : CountedRow). not (same_name (x.row).name o)) c rows (subst (Member c) (sym (filter_full (λ (x : CountedRow). not (same_name (x.row).name o)) rows full)) m) in
      let z : true ≡ false = sym kept.1 ∙ ap not (ap (λ n. same_name n o) name ∙ same_name_itself o) in cc)
  | inr less ↦ less
]

no_more_names : (os : List ObjId) (rows : List CountedRow) → Differ same_name os → Named rows os → length os ≤ length rows
no_more_names [] rows d named = omega arith
no_more_names (o ∷ os) rows d named =
    let here = named o (inl refl) in
    let others : Named (filter (λ x. not (same_name (x.row).name o)) rows) os = λ p m.
    let x = named p (inr m) in (
      x.0,
      (
        Member_filter (λ (y : CountedRow). not (same_name (y.row).name o)) x.0 rows x.1.0
            (ap (λ n. not (same_name n o)) x.1.1 ∙ ap not (none_any (λ q. same_name q o) os d.0 p m)),
        x.1.1,
      ),
    ) in
    omega (arith, fewer_without rows here.0 o here.1.0 here.1.1, no_more_names os (filter (λ x. not (same_name (x.row).name o)) rows) d.1 others)

row_of_name : (rows : List CountedRow) (o : ObjId) → HasRow rows o → (c : CountedRow) × (Member c rows × ((c.row).name ≡ o))
row_of_name rows o h = let x = some_row (row_named rows o) h in (x.0, (row_found_member rows o x.0 x.1, name_found rows o x.0 x.1))

pub no_more_than_stored : (rows : List CountedRow) (os : List ObjId) → Differ same_name os → ((o : ObjId) → has_name os o ≡ true → HasRow rows o) → length os ≤ length rows
no_more_than_stored rows os d there = no_more_names os rows d (λ o m. row_of_name rows o (there o (Member_has_name o os m)))

-- ---- a bridge is a row
pub child_row : (rows : List CountedRow) (q o : ObjId) → is_bridge_beside rows q o ≡ true → HasRow rows o
child_row rows q o h = go (row_named rows o) h where
  go : (t : Option CountedRow) → is_child q o (owner_by t) ≡ true → is_some t ≡ true
  go None h = absurd (let z : false ≡ true = h in cc)
  go (Some c) h = refl

pub bridge_told : (rows : List CountedRow) (q o : ObjId) (w : Option Owner) (b : Bool) → w ≡ owner_at rows o → b ≡ is_child q o w → b ≡ true → is_bridge_beside rows q o ≡ true
bridge_told rows q o w b e f h = ap (is_child q o) (sym e) ∙ sym f ∙ h

module _ {H : Type 0} (rows : List CountedRow) where
  -- where a name isn't there yet, there is room for it
  pub room_for : (names : IndexSet ObjId H) → HoldsRowNames rows names → (o : ObjId) → HasRow rows o → has_name names.keys o ≡ false → 0 < spare names
  room_for names g o there none =
      let all_there : (t : ObjId) → has_name (names_with names.keys o) t ≡ true → HasRow rows t = λ t h.
      elim (or_cases (has_name names.keys t) (same_name o t) (sym (has_if true names.keys o t) ∙ h)) as (λ _. HasRow rows t) [
        | inl k ↦ g.there t k
        | inr k ↦ subst (HasRow rows) (same_name_is o t k) there
      ] in
      omega (arith, no_more_than_stored rows (names_with names.keys o) (differ_with names.keys o g.differ) all_there, g.room, new_is_longer names.keys (names_with names.keys o) o none refl)

  pub holds_on : (q : ObjId) (os : List ObjId) (before after : IndexSet ObjId H) → HoldsRowNames rows before → FindsBridges rows q os before after → HoldsRowNames rows after
  holds_on q os before after g e = record {
    differ = (e.takes).differ g.differ;
    there = λ o h. elim ((e.takes).only o h) as (λ _. HasRow rows o) [ inl k ↦ g.there o k | inr k ↦ child_row rows q o k.1 ];
    room = omega (arith, g.room, e.capacity);
  }

  module _ (q : ObjId) where
    pub finds_none : (names : IndexSet ObjId H) → FindsBridges rows q [] names names
    finds_none names = record { takes = takes_none (is_bridge_beside rows q) names.keys; capacity = omega arith }

    pub finds_one : (o : ObjId) (before after : IndexSet ObjId H) → is_bridge_beside rows q o ≡ true → after.keys ≡ names_with before.keys o → length before.keys + spare before ≤ length after.keys + spare after
        → FindsBridges rows q (o ∷ []) before after
    finds_one o before after is e c = record { takes = takes_one (is_bridge_beside rows q) o before.keys after.keys is e; capacity = c }

    pub finds_no_bridge : (o : ObjId) (names : IndexSet ObjId H) → is_bridge_beside rows q o ≡ false → FindsBridges rows q (o ∷ []) names names
    finds_no_bridge o names none = record { takes = takes_absent (is_bridge_beside rows q) o names.keys (λ h. let z : false ≡ true = sym none ∙ h in cc); capacity = omega arith }

    -- ---- the fields of a row
    pub record FieldsFound (all : List (Key × Value)) (last : Option Key) (turn : ℕ) (before now : IndexSet ObjId H) : Type 0 where
      pub fields : List (Key × Value)
      pub taken : FieldsTaken (is_bridge_beside rows q) all last turn fields before.keys now.keys
      pub capacity : length before.keys + spare before ≤ length now.keys + spare now

    pub no_field_yet : (all : List (Key × Value)) (names : IndexSet ObjId H) → FieldsFound all None 0 names names
    no_field_yet all names = record { fields = []; taken = fields_begin (is_bridge_beside rows q) all [] names.keys refl; capacity = omega arith }

    module _ (all : List (Key × Value)) (last : Option Key) (turn : ℕ) (before now : IndexSet ObjId H) (g : FieldsFound all last turn before now) where
      pub holds_after_fields : HoldsRowNames rows before → HoldsRowNames rows now
      holds_after_fields h = holds_on q (field_targets (((g.taken).walk).so_far)) before now h (record { takes = (g.taken).takes; capacity = g.capacity })

      pub field_found : FieldKeysDiffer all → (k : Key) (v : Value) → Some (k, v) ≡ field_after all last → (after : IndexSet ObjId H) → FindsBridges rows q (targets_of_value v) now after
          → FieldsFound all (Some k) (turn + 1) before after
      field_found d k v found after e = record {
        fields = g.fields ++ (k, v) ∷ [];
        taken = fields_on (is_bridge_beside rows q) all last turn g.fields before.keys now.keys g.taken d k v found after.keys e.takes (g.fields ++ (k, v) ∷ []) refl;
        capacity = omega (arith, g.capacity, e.capacity);
      }

      pub fields_found : length all ≤ turn → FindsBridges rows q (field_targets all) before now
      fields_found most = record { takes = fields_taken (is_bridge_beside rows q) all last turn g.fields before.keys now.keys g.taken most; capacity = g.capacity }

    -- ---- the rows of a region
    pub record RowsFound (next : Option ObjId) (before now : IndexSet ObjId H) : Type 0 where
      pub walk : RegionWalk rows q next
      pub found : FindsBridges rows q (flat_map row_targets walk.done) before now

    module _ (next : Option ObjId) where
      pub no_row_yet : (names : IndexSet ObjId H) → next ≡ first_name (rows_of (In q) rows) → RowsFound next names names
      no_row_yet names e = record { walk = region_begins rows q next e; found = finds_none names }

      module _ (before now : IndexSet ObjId H) (g : RowsFound next before now) where
        pub holds_after_rows : HoldsRowNames rows before → HoldsRowNames rows now
        holds_after_rows h = holds_on q (flat_map row_targets (g.walk).done) before now h g.found

        pub region_found : next ≡ None → FindsBridges rows q (region_targets rows q) before now
        region_found none = subst (λ l. FindsBridges rows q (flat_map row_targets l) before now) (region_over rows q next g.walk none) g.found

        pub row_found : (differ : NamesDiffer rows) (p : ObjId) (is : next ≡ Some p) → (then_next : Option ObjId) → then_next ≡ name_after (rows_beside rows p) p
            → (after : IndexSet ObjId H) → FindsBridges rows q (field_targets (fields_at rows p)) now after → RowsFound then_next before after
        row_found differ p is then_next then_is after e =
            let t = this_row rows q differ next g.walk p is in
            record {
              walk = region_goes_on rows q differ next g.walk p is then_next then_is;
              found = record {
                takes = subst (λ l. Takes (is_bridge_beside rows q) l before.keys after.keys) (sym (flat_more row_targets (g.walk).done t.row))
                    (takes_on (is_bridge_beside rows q) (flat_map row_targets (g.walk).done) (row_targets t.row) before.keys now.keys after.keys (g.found).takes
                    (subst (λ l. Takes (is_bridge_beside rows q) (field_targets l) now.keys after.keys) (fields_here rows q differ next g.walk p is) e.takes));
                capacity = omega (arith, (g.found).capacity, e.capacity);
              };
            }
