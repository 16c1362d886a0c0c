-- The settling at the end of a call.
use Rattle.std.proofs.Common.{List, [], arith, length, ℕ, ◌*◌, ◌≤◌}
use Rattle.std.proofs.lemmas.List.Sums.{sum_by-cons}
use Rattle.std.proofs.lemmas.List.{length-map}
use Rattle.std.specs.List.{sum_by}
use Rattle.lf_base.specs.EdgeLists.{cells}
use Rattle.lf_base.specs.Kept.{kept, kept_rows, stays}
use Rattle.lf_base.specs.Losses.{justified}
use Rattle.lf_base.specs.Noticing.{Noticed}
use Rattle.lf_base.specs.Owners.{bridges, is_bridge, names}
use Rattle.lf_base.specs.PlainChanges.{with_slots}
use Rattle.lf_base.specs.PlainState.{Row, State}
use Rattle.lf_base.specs.SettledStates.{Settled}
use Rattle.lf_base.proofs.ListLemmas.Filters.{length_filter_le}
use Rattle.lf_base.proofs.ListLemmas.Sublists.{Sub, none, pass, sub_shrink, take}
use Rattle.lf_domain.specs.Counts.{CountsOf}
use Rattle.lf_graph.specs.StoredRows.{CountedRow}
use Rattle.lf_laws.proofs.Dropping.KeptState.{kept_again, well_formed_kept}
use Rattle.lf_laws.proofs.Losses.DroppedSets.{justified_most}
use Rattle.lf_laws.proofs.Losses.LossesNoticed.{noticed_watched}
use Rattle.lf_regions.specs.declared.region.Region.{Region}
use Rattle.lf_settle.specs.SettledStates.{CanSettle}
use Rattle.lf_settle.specs.WorkLists.{WorkList}
use Rattle.lf_heap.specs.Heaps.{HasParts}
use Rattle.lf_heap.proofs.States.StoredStates.{Reached, reached}

sub_sum : {X : Type 0} (f : X → ℕ) {xs ys : List X} → Sub xs ys → sum_by f xs ≤ sum_by f ys
sub_sum f none = omega arith
sub_sum f (take {x = x} {xs = xs} {ys = ys} p) = omega (arith, sum_by-cons f x xs, sum_by-cons f x ys, sub_sum f p)
sub_sum f (pass {x = x} {xs = xs} {ys = ys} p) = omega (arith, sum_by-cons f x ys, sub_sum f p)

sub_length : {X : Type 0} {xs ys : List X} → Sub xs ys → length xs ≤ length ys
sub_length none = omega arith
sub_length (take p) = omega (arith, sub_length p)
sub_length (pass p) = omega (arith, sub_length p)

module _ (s : State) where
  kept_sub : Sub (kept_rows s) s.rows
  kept_sub = sub_shrink (stays s) (length s.rows) s.rows

  pub no_more_rows : length (kept s).rows ≤ length s.rows
  no_more_rows = sub_length kept_sub

  no_more_cells : cells (with_slots (kept s) []) ≤ cells (with_slots s [])
  no_more_cells = omega (arith, sub_sum (λ (r : Row). length r.fields) kept_sub)

  -- fewer regions than rows
  pub few_bridges : length (bridges s) ≤ length s.rows
  few_bridges = omega (arith, length_filter_le (is_bridge s.rows) (names s.rows), length-map s.rows (λ (r : Row). r.name))

  -- room for two suspects for each row is room for all that is justified
  pub room_for_all : (n : ℕ) → 2 * length s.rows ≤ n → justified s ≤ n
  room_for_all n room = omega (arith, justified_most s, few_bridges, room)

module _ (rows : List CountedRow) (regions : List Region) (most : ℕ) (s : State) (h : HasParts rows regions most s) where
  pub settled : Settled (kept s)
  settled = record { well_formed = well_formed_kept s h.counted.well_formed; all_stay = kept_again s h.counted.well_formed }

  pub can_settle : (work : WorkList) → Noticed s work.suspects → 2 * length s.rows ≤ work.spare → CanSettle rows regions work s
  can_settle work noticed room = record {
    can_drop = record { counted = h.counted; room = room_for_all s work.spare room };
    watched = noticed_watched s work.suspects noticed;
  }

  pub kept_reached : (next : List CountedRow) (table : List Region) → CountsOf next table (kept s) → Reached next table most (kept s)
  kept_reached next table counts = reached next table most (kept s) (record {
    counted = record { counts = counts; well_formed = well_formed_kept s h.counted.well_formed };
    cells = omega (arith, no_more_cells s, h.cells);
    few = h.few;
    slots = h.slots;
  })
