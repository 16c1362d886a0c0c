-- The cells of a region's rows, counted one row after the other.
use Rattle.std.proofs.Common.{List, None, Option, Some, [], ap, arith, length, refl, ℕ, ◌+◌, ◌++◌, ◌∙◌, ◌∷◌, ◌≡◌, ◌≤◌}
use Rattle.std.proofs.lemmas.List.Sums.{sum_by-append, sum_by-cons}
use Rattle.std.specs.List.{sum_by}
use Rattle.lf_base.specs.declared.ids.ObjId.{ObjId}
use Rattle.lf_base.specs.declared.values.Owner.TheVariants.{In}
use Rattle.lf_graph.specs.StoredRows.{CountedRow, NamesDiffer, fields_at, first_name, name_after, rows_beside, rows_of}
use Rattle.lf_transfer.specs.RegionRows.{region_cells}
use Rattle.lf_transfer.proofs.Walks.RegionWalk.{RegionWalk, fields_here, region_begins, region_goes_on, region_over, this_row}

abbrev pub row_cells : CountedRow → ℕ
row_cells c = 1 + length (c.row).fields

pub cells_more : (cs : List CountedRow) (c : CountedRow) → sum_by row_cells (cs ++ c ∷ []) ≡ sum_by row_cells cs + row_cells c
cells_more cs c = omega (arith, sum_by-append row_cells cs (c ∷ []), sum_by-cons row_cells c [])

-- no more rows than cells
pub rows_fit : (cs : List CountedRow) → length cs ≤ sum_by row_cells cs
rows_fit [] = omega arith
rows_fit (c ∷ cs) = omega (arith, rows_fit cs, sum_by-cons row_cells c cs)

pub record CellsCounted (rows : List CountedRow) (r : ObjId) (next : Option ObjId) (cells : ℕ) : Type 0 where
  pub walk : RegionWalk rows r next
  pub counted : cells ≡ sum_by row_cells walk.done

module _ (rows : List CountedRow) (r : ObjId) where
  pub cells_begin : (next : Option ObjId) → next ≡ first_name (rows_of (In r) rows) → CellsCounted rows r next 0
  cells_begin next e = record { walk = region_begins rows r next e; counted = refl }

  pub cells_over : (next : Option ObjId) (cells : ℕ) → CellsCounted rows r next cells → next ≡ None → cells ≡ region_cells rows r
  cells_over next cells g none = g.counted ∙ ap (sum_by row_cells) (region_over rows r next g.walk none)

  module _ (differ : NamesDiffer rows) (next : Option ObjId) (cells : ℕ) (g : CellsCounted rows r next cells) (p : ObjId) (is : next ≡ Some p) where
    pub cells_on : (after : Option ObjId) → after ≡ name_after (rows_beside rows p) p → (width : ℕ) → width ≡ length (fields_at rows p) → (more : ℕ) → more ≡ cells + width + 1 → CellsCounted rows r after more
    cells_on after after_is width w more m =
        let t = this_row rows r differ next g.walk p is in
        record {
          walk = region_goes_on rows r differ next g.walk p is after after_is;
          counted = omega (arith, m, g.counted, w, ap length (fields_here rows r differ next g.walk p is), cells_more (g.walk).done t.row);
        }
