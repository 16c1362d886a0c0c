-- What the parts keep where a slot comes, goes, or changes.
use Rattle.std.proofs.Common.{List, None, Option, Some, [], ap, arith, inl, length, length-append, refl, subst, sym, ℕ, ◌++◌, ◌+◌, ◌<◌, ◌^◌, ◌∙◌, ◌∷◌, ◌≡◌, ◌≤◌}
use Rattle.lf_base.specs.declared.values.Value.{Value}
use Rattle.lf_base.specs.EdgeLists.{near_edges}
use Rattle.lf_base.specs.Edges.{Slot, edges_by, slot_targets}
use Rattle.lf_base.specs.PlainChanges.{put_slot, slot_at, with_slot, with_slot_at, with_slots}
use Rattle.lf_base.specs.Operands.{slot_below, without_last}
use Rattle.lf_base.specs.PlainState.{State}
use Rattle.lf_base.specs.Sets.{Member}
use Rattle.lf_base.specs.WellFormed.{WellFormed}
use Rattle.lf_base.proofs.ListLemmas.Members.{Member_right}
use Rattle.lf_domain.specs.Counts.{Counts, CountsOf}
use Rattle.lf_domain.specs.OneEdge.{MayCount}
use Rattle.lf_domain.proofs.CountedEdges.{same_counts}
use Rattle.lf_domain.proofs.StateEdges.{may_count}
use Rattle.lf_graph.specs.StoredRows.{CountedRow}
use Rattle.lf_laws.proofs.Edges.SlotEdges.{near_push, near_put_slot}
use Rattle.lf_regions.specs.declared.region.Region.{Region}
use Rattle.lf_settle.specs.Drops.{SameCapacity}
use Rattle.lf_settle.specs.LostEdges.{CanLose, LosesPlace, NoticesLoss}
use Rattle.lf_settle.specs.WorkLists.{WorkList}
use Rattle.lf_heap.specs.Following.{Follows}
use Rattle.lf_heap.specs.Heaps.{HasParts}
use Rattle.lf_heap.proofs.Slots.SlotLosses.{MayHold, drop_loses, drop_well_formed, held_value, lifted_well_formed, push_well_formed, put_loses, put_well_formed}
use Rattle.lf_heap.proofs.Slots.SlotPlaces.{last_goes, last_is, put_length}
use Rattle.lf_heap.proofs.States.Steps.{loss_follows, push_follows, room_for_one, steps_follow}
use Rattle.lf_heap.proofs.States.StoredStates.{Reached, domain_of, slots_reached}

module _ (rows : List CountedRow) (regions : List Region) (most : ℕ) (s : State) (h : HasParts rows regions most s) where
  abbrev well : WellFormed s
  well = h.counted.well_formed

  -- one more edge may be counted
  pub slot_may_count : MayCount rows regions s.rows (near_edges s)
  slot_may_count = may_count rows regions s (domain_of rows regions most s h)

  -- ---- a slot more
  module _ (next : List CountedRow) (table : List Region) (w : Option Value) (c : Counts next table s.rows (edges_by Slot (slot_targets w) ++ near_edges s)) (may : MayHold s w) where
    pub pushed_counts : CountsOf next table (with_slot s w)
    pushed_counts = same_counts next table s.rows _ _ (λ p. sym (near_push s w p)) c

    pub pushed_reached : length (s.slots ++ w ∷ []) ≤ 2 ^ 62 → Reached next table most (with_slot s w)
    pushed_reached few = slots_reached rows regions most s h next table (s.slots ++ w ∷ []) pushed_counts (push_well_formed s well w may) few

    -- ---- and the one at a place replaced
    module _ (n : ℕ) (there : n < length s.slots) (old : Option Value) (is : slot_at s.slots n ≡ old) where
      pub put_can_lose : (work : WorkList) → 1 ≤ work.spare → CanLose next table work (with_slot s w) (with_slot_at s n w) Slot (slot_targets old)
      put_can_lose work room = record {
        loses = subst (λ u. LosesPlace (with_slot s w) (with_slot_at s n w) Slot (slot_targets u)) is (put_loses s well n w there may);
        counts = pushed_counts;
        room = room_for_one (with_slot s w) (with_slot_at s n w) (slot_targets old) work room;
      }

      pub put_reached : (last : List CountedRow) (end : List Region) → CountsOf last end (with_slot_at s n w) → Reached last end most (with_slot_at s n w)
      put_reached last end counts =
          slots_reached rows regions most s h last end (put_slot s.slots n w) counts (put_well_formed s well n w may) (subst (λ k. k ≤ 2 ^ 62) (sym (put_length s.slots n w)) h.slots)

      pub put_steps : (work new : WorkList) → 1 ≤ work.spare → NoticesLoss (with_slot s w) (with_slot_at s n w) (slot_targets old) work.suspects new.suspects
          → SameCapacity work new → length new.suspects ≤ length work.suspects + 1 → Follows s (with_slot_at s n w) work new 1
      put_steps work new room notices sum one =
          steps_follow s (with_slot s w) (with_slot_at s n w) work work new 0 1 (push_follows s w work (push_well_formed s well w may))
          (loss_follows (with_slot s w) (with_slot_at s n w) Slot old work new (put_can_lose work room).loses notices sum one refl)

  -- ---- a slot less
  module _ (xs : List (Option Value)) (w : Option Value) (e : s.slots ≡ xs ++ w ∷ []) where
    pub drop_can_lose : (work : WorkList) → 1 ≤ work.spare → CanLose rows regions work s (with_slots s xs) Slot (slot_targets w)
    drop_can_lose work room = record { loses = drop_loses s well xs w e; counts = (h.counted).counts; room = room_for_one s (with_slots s xs) _ work room }

    fewer : length xs ≤ 2 ^ 62
    fewer = omega (arith, ap length e, length-append xs (w ∷ []), h.slots)

    pub drop_reached : (next : List CountedRow) (table : List Region) → CountsOf next table (with_slots s xs) → Reached next table most (with_slots s xs)
    drop_reached next table counts = slots_reached rows regions most s h next table xs counts (drop_well_formed s well xs w e) fewer

    pub drop_steps : (work new : WorkList) → NoticesLoss s (with_slots s xs) (slot_targets w) work.suspects new.suspects → SameCapacity work new
        → length new.suspects ≤ length work.suspects + 1 → Follows s (with_slots s xs) work new 1
    drop_steps work new notices sum one = loss_follows s (with_slots s xs) Slot w work new (drop_loses s well xs w e) notices sum one refl

    -- ---- that goes to a place below it
    module _ (n : ℕ) (there : n < length xs) (old : Option Value) (is : slot_at xs n ≡ old) where
      abbrev moved : State
      moved = with_slots s (put_slot xs n w)

      below_well : WellFormed (with_slots s xs)
      below_well = drop_well_formed s well xs w e

      below_may : MayHold (with_slots s xs) w
      below_may v k =
          let m = held_value s well v (subst (Member (Some v)) (sym e) (Member_right (Some v) xs (w ∷ []) (inl k))) in
          record { object_there = m.object_there; cown_numbered = m.cown_numbered }

      move_loses : LosesPlace s moved Slot (slot_targets old)
      move_loses =
          subst (λ u. LosesPlace s moved Slot (slot_targets u)) is
          (subst (λ u. LosesPlace u moved Slot (slot_targets (slot_at xs n))) (ap (with_slots s) (sym e)) (put_loses (with_slots s xs) below_well n w there below_may))

      pub move_can_lose : (work : WorkList) → 1 ≤ work.spare → CanLose rows regions work s moved Slot (slot_targets old)
      move_can_lose work room = record { loses = move_loses; counts = (h.counted).counts; room = room_for_one s moved (slot_targets old) work room }

      pub move_reached : (next : List CountedRow) (table : List Region) → CountsOf next table moved → Reached next table most moved
      move_reached next table counts =
          slots_reached rows regions most s h next table (put_slot xs n w) counts (put_well_formed (with_slots s xs) below_well n w below_may) (subst (λ k. k ≤ 2 ^ 62) (sym (put_length xs n w)) fewer)

      pub move_steps : (work new : WorkList) → NoticesLoss s moved (slot_targets old) work.suspects new.suspects → SameCapacity work new
          → length new.suspects ≤ length work.suspects + 1 → Follows s moved work new 1
      move_steps work new notices sum one = loss_follows s moved Slot old work new move_loses notices sum one refl

      pub moved_is : with_slot_at (without_last 1 s) n (slot_below s 0) ≡ moved
      moved_is = ap (λ t. with_slot_at t n (slot_below s 0)) (last_goes s xs w e) ∙ ap (λ u. with_slots s (put_slot xs n u)) (last_is s xs w e)

  -- ---- a slot lifted
  module _ (n : ℕ) (there : n < length s.slots) where
    abbrev lifted : State
    lifted = with_slot (with_slot_at s n None) (slot_at s.slots n)

    pub lift_reached : length s.slots + 1 ≤ 2 ^ 62 → Reached rows regions most lifted
    lift_reached few =
        slots_reached rows regions most s h rows regions (put_slot s.slots n None ++ slot_at s.slots n ∷ [])
        (same_counts rows regions s.rows (near_edges s) (near_edges lifted) (λ p. near_put_slot s n None there p ∙ sym (near_push (with_slot_at s n None) (slot_at s.slots n) p)) (h.counted).counts) (lifted_well_formed s well n)
        (omega (arith, length-append (put_slot s.slots n None) (slot_at s.slots n ∷ []), put_length s.slots n None, few))
