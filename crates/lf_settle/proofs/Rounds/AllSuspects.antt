-- The loop over the suspects.
use Rattle.std.proofs.Common.{List, [], ap, arith, length, subst, sym, ℕ, ◌*◌, ◌+◌, ◌∙◌, ◌∷◌, ◌≡◌, ◌≤◌}
use Rattle.lf_base.specs.Kept.{kept, kept_rows}
use Rattle.lf_base.specs.Losses.{dropped, size}
use Rattle.lf_base.specs.Owners.{bridges}
use Rattle.lf_base.specs.PlainState.{State}
use Rattle.lf_base.specs.Settling.{Watched}
use Rattle.lf_base.specs.Suspects.{AllHang, Suspect}
use Rattle.lf_domain.specs.Counts.{CountsOf}
use Rattle.lf_graph.specs.StoredRows.{CountedRow}
use Rattle.lf_laws.proofs.Dropping.HangingIsWatched.{hang_watched}
use Rattle.lf_laws.proofs.Dropping.HangingRows.{settled}
use Rattle.lf_laws.proofs.Dropping.RowsInPlace.{rows_in_place}
use Rattle.lf_laws.proofs.Losses.DroppedSets.{justified_most}
use Rattle.lf_regions.specs.declared.region.Region.{Region}
use Rattle.lf_settle.specs.Drops.{Settles, owed, stored_state}
use Rattle.lf_settle.specs.SettledStates.{CanDrop, CanSettle, IsCounted}
use Rattle.lf_settle.specs.Walks.{Going}
use Rattle.lf_settle.specs.WorkLists.{WorkList}
use Rattle.lf_settle.proofs.Counting.CountsTell.{are_rows}
use Rattle.lf_settle.proofs.RowsDropped.EmptiedRow.{stored_is}
use Rattle.lf_settle.proofs.RowsDropped.RegionDropped.{ordered_length}

pub hanging_can_settle : (rows : List CountedRow) (regions : List Region) (work : WorkList) (s : State) → IsCounted rows regions s → AllHang s work.suspects
    → length s.rows + length (bridges s) ≤ work.spare → CanSettle rows regions work s
hanging_can_settle rows regions work s counted hang room = record {
  can_drop = record { counted = counted; room = omega (arith, justified_most s, room) };
  watched = hang_watched s (rows_in_place s counted.well_formed) work.suspects hang;
}

pub as_many_stored : (rows : List CountedRow) (regions : List Region) (s : State) → CountsOf rows regions s → length s.rows ≡ length rows
as_many_stored rows regions s c = sym (ap length ((c.store).rows).rise) ∙ ordered_length rows

module _ (s : State) (rows0 : List CountedRow) (regions0 : List Region) (old : WorkList) (can : CanSettle rows0 regions0 old s) (before : ℕ) where
  pub going_init : Going s rows0 regions0 old old before before
  going_init =
      let is : s ≡ stored_state s rows0 = sym (stored_is s rows0 (are_rows rows0 regions0 s can.can_drop.counted)) in
      record {
        can = subst (CanDrop rows0 regions0 old) is can.can_drop;
        watched = subst (λ t. Watched t old.suspects) is can.watched;
        same = ap kept_rows (sym is);
        cost = omega (arith, ap (λ (t : State). size t.rows) is);
      }

  module _ (rows : List CountedRow) (regions : List Region) (work : WorkList) (after : ℕ) (going : Going s rows regions old work before after) where
    -- a suspect is taken off the list
    module _ (u : Suspect) (popped : WorkList) (last : work.suspects ≡ u ∷ popped.suspects) (more : popped.spare ≡ work.spare + 1) where
      pub can_next : CanDrop rows regions popped (stored_state s rows)
      can_next = record { counted = going.can.counted; room = omega (arith, going.can.room, more) }

      pub going_on : (rows1 : List CountedRow) (regions1 : List Region) (new : WorkList) (end : ℕ) → Settles (stored_state s rows) (stored_state s rows1) u popped new rows1 regions1
          → owed end new (stored_state s rows1).rows ≤ owed after popped (stored_state s rows).rows + 2 → Going s rows1 regions1 old new before end
      going_on rows1 regions1 new end settles cost = record {
        can = settles.can;
        watched = settles.watched (subst (Watched (stored_state s rows)) last going.watched);
        same = settles.same ∙ going.same;
        cost = omega (arith, cost, ap length last, going.cost);
      }

    -- no suspect is left
    module _ (none : work.suspects ≡ []) where
      all_stay : kept_rows (stored_state s rows) ≡ (stored_state s rows).rows
      all_stay =
          let well = going.can.counted.well_formed in
          settled (stored_state s rows) (rows_in_place (stored_state s rows) well) (subst (Watched (stored_state s rows)) none going.watched) well.no_round

      pub is_kept : stored_state s rows ≡ kept s
      is_kept = ap (λ l. record s { rows = l }) (sym all_stay ∙ going.same)

      pub counts_kept : CountsOf rows regions (kept s)
      counts_kept = subst (CountsOf rows regions) is_kept going.can.counted.counts

      pub steps_bounded : after ≤ before + 64 * (1 + length old.suspects + dropped s)
      steps_bounded = omega (arith, going.cost, ap (λ (t : State). size t.rows) is_kept)
