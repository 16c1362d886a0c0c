-- The references of a row's fields, and of a region's rows, that turn local.
use Rattle.std.proofs.Common.{List, None, Option, Some, [], ap, arith, flat_map, length, subst, sym, ℕ, ◌*◌, ◌+◌, ◌++◌, ◌∙◌, ◌∷◌, ◌≡◌, ◌≤◌}
use Rattle.std.proofs.lemmas.Grind.{flat_map-append}
use Rattle.std.proofs.lemmas.List.{append-nil, length-append}
use Rattle.std.specs.List.{sum_by}
use Rattle.lf_base.specs.declared.ids.ObjId.{ObjId}
use Rattle.lf_base.specs.declared.values.Key.{Key}
use Rattle.lf_base.specs.declared.values.Owner.TheVariants.{In}
use Rattle.lf_base.specs.declared.values.Value.{Value}
use Rattle.lf_base.specs.EdgeLists.{near_edges}
use Rattle.lf_base.specs.Edges.{field_targets}
use Rattle.lf_base.specs.FieldOrder.{field_after}
use Rattle.lf_base.specs.Names.{targets_of_value}
use Rattle.lf_base.specs.PlainState.{State}
use Rattle.lf_barrier.specs.Descents.{region_targets}
use Rattle.lf_barrier.proofs.MovingEdges.FieldLoops.{FieldWalk, walk_begins, walk_over}
use Rattle.lf_barrier.proofs.Surveys.SurveySteps.{flat_more, targets_more}
use Rattle.lf_domain.specs.Counts.{IsDomain}
use Rattle.lf_domain.proofs.CountedEdges.{region_there}
use Rattle.lf_graph.specs.StoredRows.{CountedRow, NamesDiffer, fields_at, first_name, name_after, rows_beside, rows_of}
use Rattle.lf_graph.proofs.Stores.FieldWalks.{FieldKeysDiffer}
use Rattle.lf_regions.specs.declared.region.Region.{Region}
use Rattle.lf_transfer.specs.RegionRows.{HasBorrowRoom, RegionsThere, TurnsLocal, region_cells}
use Rattle.lf_transfer.proofs.GivenRegions.RegionCells.{cells_more, row_cells}
use Rattle.lf_transfer.proofs.Tables.LocalReferences.{room_left, turns_none, turns_on}
use Rattle.lf_transfer.proofs.Walks.References.{field_walk_on, row_targets, targets_split, this_field}
use Rattle.lf_transfer.proofs.Walks.RegionWalk.{RegionWalk, fields_here, region_begins, region_goes_on, region_over, split_here, this_row}

pub regions_there : (rows : List CountedRow) (regions : List Region) (s : State) → IsDomain rows regions s → RegionsThere rows regions
regions_there rows regions s d o q k = region_there rows regions s.rows (near_edges s) o d.counts (d.well_formed).bridge q k

module _ (rows : List CountedRow) (r : ObjId) where
  -- ---- the fields of a row
  pub record RowLocal (all : List (Key × Value)) (last : Option Key) (turn : ℕ) (before now : List Region) : Type 0 where
    pub rest : List (Key × Value)
    pub walk : FieldWalk all rest last turn
    pub turns : TurnsLocal rows r (field_targets walk.so_far) before now

  pub row_begins : (all : List (Key × Value)) (before : List Region) → RowLocal all None 0 before before
  row_begins all before = record { rest = all; walk = walk_begins all; turns = turns_none rows r before }

  module _ (all : List (Key × Value)) (last : Option Key) (turn : ℕ) (before now : List Region) (g : RowLocal all last turn before now) where
    module _ (k : Key) (v : Value) (found : Some (k, v) ≡ field_after all last) where
      pub room_for_value : HasBorrowRoom before (length (field_targets all)) → HasBorrowRoom now (length (targets_of_value v))
      room_for_value room =
          let later : List ObjId = field_targets (this_field all g.rest last turn g.walk k v found).0 in
          let fits : length (field_targets (g.walk).so_far) + length (targets_of_value v) ≤ length (field_targets all) = omega (
            arith,
            ap length (targets_split all g.rest last turn g.walk k v found),
            length-append (field_targets (g.walk).so_far) (targets_of_value v ++ later),
            length-append (targets_of_value v) later,
          ) in
          room_left rows r (field_targets (g.walk).so_far) (length (targets_of_value v)) (length (field_targets all)) before now g.turns fits room

      pub row_on : FieldKeysDiffer all → (after : List Region) → TurnsLocal rows r (targets_of_value v) now after → RowLocal all (Some k) (turn + 1) before after
      row_on d after e = record {
        rest = (this_field all g.rest last turn g.walk k v found).0;
        walk = field_walk_on all g.rest last turn g.walk k v found d;
        turns = subst (λ l. TurnsLocal rows r l before after) (sym (targets_more (g.walk).so_far (k, v)))
            (turns_on rows r (field_targets (g.walk).so_far) (targets_of_value v) before now after g.turns e);
      }

    pub row_turned : length all ≤ turn → TurnsLocal rows r (field_targets all) before now
    row_turned most =
        let none : g.rest ≡ [] = walk_over all g.rest last turn g.walk most in
        subst (λ l. TurnsLocal rows r (field_targets l) before now) (sym ((g.walk).split ∙ ap (λ l. (g.walk).so_far ++ l) none ∙ append-nil (g.walk).so_far)) g.turns

  -- ---- the rows of the region
  pub record RegionLocal (next : Option ObjId) (before now : List Region) (first steps : ℕ) : Type 0 where
    pub walk : RegionWalk rows r next
    pub turns : TurnsLocal rows r (flat_map row_targets walk.done) before now
    pub cost : steps ≤ first + (1 + 2 * sum_by row_cells walk.done)

  pub rows_begin : (next : Option ObjId) (before : List Region) (first steps : ℕ) → next ≡ first_name (rows_of (In r) rows) → steps ≡ first + 1 → RegionLocal next before before first steps
  rows_begin next before first steps e f = record { walk = region_begins rows r next e; turns = turns_none rows r before; cost = omega (arith, f) }

  module _ (next : Option ObjId) (before now : List Region) (first steps : ℕ) (g : RegionLocal next before now first steps) where
    pub rows_turned : next ≡ None → TurnsLocal rows r (region_targets rows r) before now
    rows_turned none = subst (λ l. TurnsLocal rows r (flat_map row_targets l) before now) (region_over rows r next g.walk none) g.turns

    pub rows_cost : next ≡ None → steps ≤ first + (1 + 2 * region_cells rows r)
    rows_cost none = omega (arith, g.cost, ap (sum_by row_cells) (region_over rows r next g.walk none))

    module _ (differ : NamesDiffer rows) (p : ObjId) (is : next ≡ Some p) where
      pub room_for_row : HasBorrowRoom before (length (region_targets rows r)) → HasBorrowRoom now (length (field_targets (fields_at rows p)))
      room_for_row room =
          let t = this_row rows r differ next g.walk p is in
          let fits : length (flat_map row_targets (g.walk).done) + length (field_targets (fields_at rows p)) ≤ length (region_targets rows r) = omega (
            arith,
            ap (λ l. length (flat_map row_targets l)) (split_here rows r differ next g.walk p is),
            ap length (flat_map-append row_targets (g.walk).done (t.row ∷ t.later)),
            length-append (flat_map row_targets (g.walk).done) (row_targets t.row ++ flat_map row_targets t.later),
            length-append (row_targets t.row) (flat_map row_targets t.later),
            ap (λ l. length (field_targets l)) (fields_here rows r differ next g.walk p is),
          ) in
          room_left rows r (flat_map row_targets (g.walk).done) (length (field_targets (fields_at rows p))) (length (region_targets rows r)) before now g.turns fits room

      pub rows_on : (after : Option ObjId) → after ≡ name_after (rows_beside rows p) p → (table : List Region) → TurnsLocal rows r (field_targets (fields_at rows p)) now table
          → (last : ℕ) → last ≤ steps + (2 + 2 * length (fields_at rows p)) → RegionLocal after before table first last
      rows_on after after_is table e last most =
          let t = this_row rows r differ next g.walk p is in
          record {
            walk = region_goes_on rows r differ next g.walk p is after after_is;
            turns = subst (λ l. TurnsLocal rows r l before table) (sym (flat_more row_targets (g.walk).done t.row))
                (turns_on rows r (flat_map row_targets (g.walk).done) (row_targets t.row) before now table g.turns
                (subst (λ l. TurnsLocal rows r (field_targets l) now table) (fields_here rows r differ next g.walk p is) e));
            cost = omega (arith, g.cost, most, cells_more (g.walk).done t.row, ap length (fields_here rows r differ next g.walk p is));
          }
