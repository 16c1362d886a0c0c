-- What is left after one suspect.
use Rattle.std.proofs.Common.{Bool, List, arith, refl, subst, sym, ◌≡◌}
use Rattle.lf_base.specs.declared.ids.ObjId.{ObjId}
use Rattle.lf_base.specs.Losses.{of_region}
use Rattle.lf_base.specs.PlainState.{State}
use Rattle.lf_base.specs.Settling.{CanGo, Idle, Spent, without}
use Rattle.lf_base.specs.Suspects.{Suspect}
use Rattle.lf_graph.specs.StoredRows.{CountedRow}
use Rattle.lf_laws.proofs.Dropping.RowsInPlace.{rows_in_place}
use Rattle.lf_laws.proofs.Dropping.RowsWithout.{kept_without, watched_forget}
use Rattle.lf_laws.proofs.Losses.DroppedSets.{bare_counts, region_can_go}
use Rattle.lf_regions.specs.declared.region.Region.{Region}
use Rattle.lf_settle.specs.Drops.{Drops, Settles, stored_state}
use Rattle.lf_settle.specs.SettledStates.{CanDrop}
use Rattle.lf_settle.specs.Verdicts.{GoesWhole}
use Rattle.lf_settle.specs.WorkLists.{WorkList}
use Rattle.lf_settle.proofs.Counting.CountsTell.{are_rows}
use Rattle.lf_settle.proofs.RowsDropped.EmptiedRow.{stored_is}

module _ (s : State) (rows : List CountedRow) (regions : List Region) (work : WorkList) (can : CanDrop rows regions work s) where
  pub settles_idle : (u : Suspect) → Idle s u → Settles s (stored_state s rows) u work work rows regions
  settles_idle u idle =
      subst (λ t. Settles s t u work work rows regions) (sym (stored_is s rows (are_rows rows regions s can.counted)))
      (record { can = can; same = refl; watched = watched_forget s u work.suspects idle; less = omega arith })

  pub left_is : (gone : ObjId → Bool) (new : WorkList) (rows1 : List CountedRow) (regions1 : List Region) → Drops s gone work new rows1 regions1 → stored_state s rows1 ≡ without s gone
  left_is gone new rows1 regions1 drops = stored_is (without s gone) rows1 (are_rows rows1 regions1 (without s gone) drops.can.counted)

  pub settles_drop : (u : Suspect) (gone : ObjId → Bool) (new : WorkList) (rows1 : List CountedRow) (regions1 : List Region) → CanGo s gone → Spent gone u → Drops s gone work new rows1 regions1
      → Settles s (stored_state s rows1) u work new rows1 regions1
  settles_drop u gone new rows1 regions1 go spent drops =
      subst (λ t. Settles s t u work new rows1 regions1) (sym (left_is gone new rows1 regions1 drops))
      (record { can = drops.can; same = kept_without s (rows_in_place s can.counted.well_formed) gone go; watched = drops.watched u spent; less = drops.less })

  pub whole_can_go : (r : ObjId) → GoesWhole s r → CanGo s (of_region s r)
  whole_can_go r goes =
      let z = (bare_counts s can.counted.well_formed r).0 goes.bare in
      region_can_go s can.counted.well_formed r goes.bridge z.0 z.1
