-- A slot that is unset: what may be lost, and what may be settled then.
use Rattle.std.proofs.Common.{List, None, Option, Some, arith, inl, inr, subst, ℕ}
use Rattle.std.proofs.lemmas.Option.{none-some}
use Rattle.lf_base.specs.declared.values.Value.{Value}
use Rattle.lf_base.specs.Edges.{Slot, slot_targets}
use Rattle.lf_base.specs.Losses.{Loses}
use Rattle.lf_base.specs.PlainChanges.{put_slot, with_slot_at}
use Rattle.lf_base.specs.PlainState.{State}
use Rattle.lf_base.specs.WellFormed.{WellFormed}
use Rattle.lf_domain.specs.Counts.{CountsOf}
use Rattle.lf_graph.specs.StoredRows.{CountedRow}
use Rattle.lf_laws.proofs.Changes.FewerFields.{put_member}
use Rattle.lf_laws.proofs.Changes.FurtherSlot.{slot_held}
use Rattle.lf_laws.proofs.Changes.SameOwners.{slots_keep, value_may_be_held}
use Rattle.lf_laws.proofs.Edges.SlotEdges.{near_put_slot}
use Rattle.lf_laws.proofs.Losses.LossesNoticed.{losses_watched}
use Rattle.lf_laws.proofs.Losses.LostEdges.{unset_loses}
use Rattle.lf_regions.specs.declared.region.Region.{Region}
use Rattle.lf_settle.specs.Drops.{SameCapacity}
use Rattle.lf_settle.specs.LostEdges.{CanLose, LosesPlace, NoticesLoss}
use Rattle.lf_settle.specs.SettledStates.{CanSettle, MayUnset}
use Rattle.lf_settle.specs.WorkLists.{WorkList}
use Rattle.lf_settle.proofs.Counting.EdgeNoticed.{value_loses}
use Rattle.lf_settle.proofs.RowsDropped.FieldsDropped.{units_are_room}

module _ (rows : List CountedRow) (regions : List Region) (work : WorkList) (s : State) (n : ℕ) (v : Option Value) (may : MayUnset rows regions work s n v) where
  abbrev t : State
  t = with_slot_at s n None

  before : WellFormed s
  before = may.can_drop.counted.well_formed

  after : WellFormed t
  after = slots_keep s (put_slot s.slots n None) before (λ w m. elim (put_member s.slots n None (Some w) m) [
    | inl k ↦ value_may_be_held s w before (slot_held s w k)
    | inr e ↦ absurd (none-some w e)
  ])

  loses : LosesPlace s t Slot (slot_targets v)
  loses = subst (λ w. LosesPlace s t Slot (slot_targets w)) may.holds (record {
    before = before;
    after = after;
    lost = unset_loses s n may.there;
    near = near_put_slot s n None may.there;
  })

  pub can_lose_slot : CanLose rows regions work s t Slot (slot_targets v)
  can_lose_slot = record { loses = loses; counts = may.can_drop.counted.counts; room = units_are_room s t Slot v work loses may.can_drop.room }

  module _ (next : List CountedRow) (table : List Region) (new : WorkList) (counts : CountsOf next table t) (noticed : NoticesLoss s t (slot_targets v) work.suspects new.suspects) (sum : SameCapacity work new) where
    lost : Loses s t work.suspects new.suspects
    lost = value_loses s t Slot v work.suspects new.suspects loses noticed

    pub unset_can_settle : CanSettle next table new t
    unset_can_settle = record {
      can_drop = record { counted = record { counts = counts; well_formed = after }; room = omega (arith, lost.paid, sum, may.can_drop.room) };
      watched = losses_watched s t work.suspects new.suspects before after may.all_stay lost;
    }
