-- The rows of a region and the fields of a row, gone over one by one.
use Rattle.std.proofs.Common.{Bool, List, None, Option, Some, [], ap, arith, cond, false, flat_map, inl, length, refl, subst, sym, ℕ, ◌+◌, ◌++◌, ◌<◌, ◌||◌, ◌∙◌, ◌∷◌, ◌≡◌, ◌≤◌}
use Rattle.std.proofs.lemmas.List.{append-nil, append_assoc}
use Rattle.std.proofs.lemmas.Grind.{flat_map-append}
use Rattle.std.specs.Option.{is_some}
use Rattle.lf_base.specs.declared.ids.ObjId.{ObjId}
use Rattle.lf_base.specs.declared.values.Key.{Key}
use Rattle.lf_base.specs.declared.values.Owner.TheVariants.{In}
use Rattle.lf_base.specs.declared.values.Value.{Value}
use Rattle.lf_base.specs.Edges.{field_targets}
use Rattle.lf_base.specs.FieldOrder.{field_after}
use Rattle.lf_base.specs.Links.{head_or}
use Rattle.lf_base.specs.Names.{same_name, targets_of_value}
use Rattle.lf_base.specs.Owners.{names}
use Rattle.lf_base.specs.Sets.{Member}
use Rattle.lf_base.proofs.ListLemmas.Filters.{Member_of_filter}
use Rattle.lf_base.proofs.ListLemmas.Members.{Member_map, Member_right}
use Rattle.lf_base.proofs.ListLemmas.Tests.{none_any}
use Rattle.lf_base.proofs.NameLemmas.SameNames.{same_name_flips, same_name_itself}
use Rattle.lf_base.specs.PlainState.{Row}
use Rattle.lf_barrier.specs.Descents.{region_targets}
use Rattle.lf_barrier.proofs.MovingEdges.FieldLoops.{FieldWalk, walk_begins, walk_goes_on, walk_over}
use Rattle.lf_barrier.proofs.Surveys.SurveySteps.{flat_more, targets_more}
use Rattle.lf_graph.specs.StoredRows.{CountedRow, HasRow, NamesDiffer, fields_at, fields_by, first_name, is_named, is_under, name_after, plain, row_named, rows_beside, rows_of}
use Rattle.lf_graph.proofs.Stores.FieldWalks.{FieldKeysDiffer}
use Rattle.lf_graph.proofs.Stores.Walks.{differ_filter, next_in_walk}
use Rattle.lf_regions.specs.declared.region.Region.{Region}
use Rattle.lf_settle.specs.WorkLists.{WorkList}
use Rattle.lf_settle.proofs.RowsDropped.EmptiedRegion.{member_found}
use Rattle.lf_heap.specs.Openness.{HasChildRoom, Looks}
use Rattle.lf_heap.proofs.RegionWalks.FoundLists.{looks_none, looks_on, room_left}

-- the rows from the one of that name on, where it is among them
abbrev pub rows_onward : Option ObjId → List CountedRow → List CountedRow
rows_onward None rows = []
rows_onward (Some o) [] = []
rows_onward (Some o) (c ∷ cs) = cond (is_named o c) (c ∷ cs) (rows_onward (Some o) cs)

rows_onward_first : (done rest : List CountedRow) → NamesDiffer (done ++ rest) → rows_onward (first_name rest) (done ++ rest) ≡ rest
rows_onward_first [] [] d = refl
rows_onward_first (x ∷ done) [] d = refl
rows_onward_first [] (c ∷ cs) d = ap (λ b. cond b (c ∷ cs) (rows_onward (Some ((c.row).name)) cs)) (same_name_itself (c.row).name)
rows_onward_first (x ∷ done) (c ∷ cs) d =
    let member : Member (c.row).name (names (plain (done ++ c ∷ cs))) = Member_map (λ (r : Row). r.name) c.row (plain (done ++ c ∷ cs)) (Member_map (λ (z : CountedRow). z.row) c (done ++ c ∷ cs) (Member_right c done (c ∷ cs) (inl refl))) in
    let other : same_name (x.row).name (c.row).name ≡ false = same_name_flips (x.row).name (c.row).name ∙ none_any (λ (n : ObjId). same_name n (x.row).name) (names (plain (done ++ c ∷ cs))) d.0 (c.row).name member in
    ap (λ b. cond b (x ∷ (done ++ c ∷ cs)) (rows_onward (Some ((c.row).name)) (done ++ c ∷ cs))) other ∙ rows_onward_first done (c ∷ cs) d.1

module _ (rows : List CountedRow) (regions : List Region) (r : ObjId) where
  -- ---- the fields of a row
  pub record FieldsLooked (all : List (Key × Value)) (last : Option Key) (turn : ℕ) (before now : WorkList) (found : Bool) : Type 0 where
    pub rest : List (Key × Value)
    pub walk : FieldWalk all rest last turn
    pub looks : Looks rows regions r (field_targets walk.so_far) before now found

  pub fields_begin : (all : List (Key × Value)) (before : WorkList) → FieldsLooked all None 0 before before false
  fields_begin all before = record { rest = all; walk = walk_begins all; looks = looks_none rows regions r before }

  module _ (all : List (Key × Value)) (last : Option Key) (turn : ℕ) (before now : WorkList) (found : Bool) (g : FieldsLooked all last turn before now found) (k : Key) (v : Value) (at : Some (k, v) ≡ field_after all last) where
    this_field : (later : List (Key × Value)) × (g.rest ≡ (k, v) ∷ later)
    this_field = go g.rest (at ∙ (g.walk).next) where
      go : (rest : List (Key × Value)) → Some (k, v) ≡ head_or rest None → (later : List (Key × Value)) × (rest ≡ (k, v) ∷ later)
      go [] e = absurd (cc)
      go (f ∷ fs) e = let same : f ≡ (k, v) = cc in (fs, ap (λ h. h ∷ fs) same)

    pub room_for_field : HasChildRoom rows r (field_targets all) before → HasChildRoom rows r (targets_of_value v) now
    room_for_field room =
        let split : field_targets all ≡ field_targets (g.walk).so_far ++ (targets_of_value v ++ field_targets (this_field).0) =
        ap field_targets ((g.walk).split ∙ ap (λ l. (g.walk).so_far ++ l) (this_field).1) ∙ flat_map-append (λ (f : Key × Value). targets_of_value f.1) (g.walk).so_far ((k, v) ∷ (this_field).0) in
        room_left rows regions r (field_targets (g.walk).so_far) (targets_of_value v) (field_targets (this_field).0) before now found g.looks (subst (λ l. HasChildRoom rows r l before) split room)

    walk_here : FieldWalk all ((k, v) ∷ (this_field).0) last turn
    walk_here = record {
      so_far = (g.walk).so_far;
      split = (g.walk).split ∙ ap (λ l. (g.walk).so_far ++ l) (this_field).1;
      next = (g.walk).next ∙ ap (λ l. head_or l None) (this_field).1;
      count = (g.walk).count;
    }

    pub fields_on : FieldKeysDiffer all → (after : WorkList) (child : Bool) → Looks rows regions r (targets_of_value v) now after child → FieldsLooked all (Some k) (turn + 1) before after (found || child)
    unfolding walk_here
    fields_on d after child e = record {
      rest = (this_field).0;
      walk = walk_goes_on all (this_field).0 (k, v) last turn d walk_here;
      looks = subst (λ l. Looks rows regions r l before after (found || child)) (sym (targets_more (g.walk).so_far (k, v)))
          (looks_on rows regions r (field_targets (g.walk).so_far) (targets_of_value v) before now after found child g.looks e);
    }

  pub fields_over : (all : List (Key × Value)) (last : Option Key) (turn : ℕ) (before now : WorkList) (found : Bool) → FieldsLooked all last turn before now found → length all ≤ turn → Looks rows regions r (field_targets all) before now found
  fields_over all last turn before now found g most =
      let none : g.rest ≡ [] = walk_over all g.rest last turn g.walk most in
      subst (λ l. Looks rows regions r (field_targets l) before now found) (sym ((g.walk).split ∙ ap (λ l. (g.walk).so_far ++ l) none ∙ append-nil (g.walk).so_far)) g.looks

  -- ---- the rows of a region
  pub record RowsLooked (next : Option ObjId) (before now : WorkList) (found : Bool) : Type 0 where
    pub done : List CountedRow
    pub rest : List CountedRow
    pub split : rows_of (In r) rows ≡ done ++ rest
    pub at : next ≡ first_name rest
    pub looks : Looks rows regions r (flat_map (λ c. field_targets (c.row).fields) done) before now found

  pub rows_begin : (next : Option ObjId) (before : WorkList) → next ≡ first_name (rows_of (In r) rows) → RowsLooked next before before false
  rows_begin next before e = record { done = []; rest = rows_of (In r) rows; split = refl; at = e; looks = looks_none rows regions r before }

  module _ (differ : NamesDiffer rows) (next : Option ObjId) (before now : WorkList) (found : Bool) (g : RowsLooked next before now found) where
    pub rows_over : next ≡ None → Looks rows regions r (region_targets rows r) before now found
    rows_over none = go g.rest g.split (sym none ∙ g.at) where
      go : (rest : List CountedRow) → rows_of (In r) rows ≡ g.done ++ rest → None ≡ first_name rest → Looks rows regions r (region_targets rows r) before now found
      go [] split n = subst (λ l. Looks rows regions r (flat_map (λ c. field_targets (c.row).fields) l) before now found) (sym (split ∙ append-nil g.done)) g.looks
      go (c ∷ cs) split n = absurd (cc)

    rows_left : (new_next : Option ObjId) (done rest : List CountedRow) → rows_of (In r) rows ≡ done ++ rest → new_next ≡ first_name rest → length (rows_onward new_next (rows_of (In r) rows)) ≡ length rest
    rows_left new_next done rest split at =
        (λ i. length (rows_onward (at i) (split i))) ∙ ap length (rows_onward_first done rest (subst NamesDiffer split (differ_filter (is_under (In r)) rows differ)))

    module _ (p : ObjId) (is : next ≡ Some p) where
      record ThisRow : Type 0 where
        pub row : CountedRow
        pub later : List CountedRow
        pub rest : g.rest ≡ row ∷ later
        pub name : (row.row).name ≡ p

      this_row : ThisRow
      this_row = go g.rest refl (sym is ∙ g.at) where
        go : (rest : List CountedRow) → g.rest ≡ rest → Some p ≡ first_name rest → ThisRow
        go [] e n = absurd (cc)
        go (c ∷ cs) e n = let same : (c.row).name ≡ p = cc in record { row = c; later = cs; rest = e; name = same }

      split_here : rows_of (In r) rows ≡ g.done ++ (this_row).row ∷ (this_row).later
      split_here = g.split ∙ ap (λ l. g.done ++ l) (this_row).rest

      row_here : row_named rows p ≡ Some (this_row).row
      row_here =
          let inside : Member (this_row).row (rows_of (In r) rows) = subst (Member (this_row).row) (sym split_here) (Member_right (this_row).row g.done ((this_row).row ∷ (this_row).later) (inl refl)) in
          ap (row_named rows) (sym (this_row).name) ∙ member_found (this_row).row rows differ (Member_of_filter (is_under (In r)) (this_row).row rows inside).0

      pub row_there : HasRow rows p
      row_there = ap is_some row_here

      pub room_for_row : HasChildRoom rows r (region_targets rows r) before → HasChildRoom rows r (field_targets (fields_at rows p)) now
      room_for_row room =
          let split : region_targets rows r ≡ flat_map (λ (c : CountedRow). field_targets (c.row).fields) g.done ++ (field_targets (fields_at rows p) ++ flat_map (λ (c : CountedRow). field_targets (c.row).fields) (this_row).later) =
          ap (flat_map (λ (c : CountedRow). field_targets (c.row).fields)) split_here ∙ flat_map-append (λ (c : CountedRow). field_targets (c.row).fields) g.done ((this_row).row ∷ (this_row).later)
          ∙ ap (λ t. flat_map (λ (c : CountedRow). field_targets (c.row).fields) g.done ++ (field_targets (fields_by t) ++ flat_map (λ (c : CountedRow). field_targets (c.row).fields) (this_row).later)) (sym row_here) in
          room_left rows regions r (flat_map (λ (c : CountedRow). field_targets (c.row).fields) g.done) (field_targets (fields_at rows p)) (flat_map (λ (c : CountedRow). field_targets (c.row).fields) (this_row).later) before now found
          g.looks (subst (λ l. HasChildRoom rows r l before) split room)

      module _ (new_next : Option ObjId) (after_is : new_next ≡ name_after (rows_beside rows p) p) where
        next_is : new_next ≡ first_name (this_row).later
        next_is = after_is ∙ ap (λ q. name_after (rows_beside rows q) q) (sym (this_row).name) ∙ next_in_walk rows g.done (this_row).later (In r) (this_row).row differ split_here

        split_next : rows_of (In r) rows ≡ (g.done ++ (this_row).row ∷ []) ++ (this_row).later
        split_next = split_here ∙ sym (append_assoc g.done ((this_row).row ∷ []) (this_row).later)

        pub rows_on : (after : WorkList) (child : Bool) → Looks rows regions r (field_targets (fields_at rows p)) now after child → RowsLooked new_next before after (found || child)
        rows_on after child e = record {
          done = g.done ++ (this_row).row ∷ [];
          rest = (this_row).later;
          split = split_next;
          at = next_is;
          looks = subst (λ l. Looks rows regions r l before after (found || child)) (sym (flat_more (λ (c : CountedRow). field_targets (c.row).fields) g.done (this_row).row))
              (looks_on rows regions r (flat_map (λ (c : CountedRow). field_targets (c.row).fields) g.done) (field_targets (((this_row).row).row).fields) before now after found child g.looks
              (subst (λ t. Looks rows regions r (field_targets (fields_by t)) now after child) row_here e));
        }

        pub rows_fewer : length (rows_onward new_next (rows_of (In r) rows)) < length (rows_onward next (rows_of (In r) rows))
        rows_fewer = omega (
          arith,
          rows_left new_next (g.done ++ (this_row).row ∷ []) (this_row).later split_next next_is,
          rows_left next g.done g.rest g.split g.at,
          ap length (this_row).rest,
        )
