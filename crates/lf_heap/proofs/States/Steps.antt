-- From a state to the next within a call, and the settling at its end.
use Rattle.std.proofs.Common.{List, Option, arith, length, refl, ℕ, ◌+◌, ◌∙◌, ◌≡◌, ◌≤◌}
use Rattle.lf_base.specs.declared.ids.ObjId.{ObjId}
use Rattle.lf_base.specs.declared.values.Value.{Value}
use Rattle.lf_base.specs.Edges.{Source, slot_targets}
use Rattle.lf_base.specs.Losses.{Loses}
use Rattle.lf_base.specs.PlainChanges.{with_slot}
use Rattle.lf_base.specs.PlainState.{State}
use Rattle.lf_base.specs.WellFormed.{WellFormed}
use Rattle.lf_laws.proofs.Losses.LossesNoticed.{losses_noticed}
use Rattle.lf_laws.proofs.Losses.SlotsNoticed.{push_noticed}
use Rattle.lf_settle.specs.Drops.{SameCapacity}
use Rattle.lf_settle.specs.LostEdges.{HasRoom, LosesPlace, NoticesLoss}
use Rattle.lf_settle.specs.WorkLists.{WorkList}
use Rattle.lf_settle.proofs.Counting.EdgeNoticed.{value_loses}
use Rattle.lf_heap.specs.Following.{Follows}

-- steps that follow each other
pub steps_follow : (s t u : State) (first middle last : WorkList) (n m : ℕ) → Follows s t first middle n → Follows t u middle last m
    → Follows s u first last (n + m)
steps_follow s t u first middle last n m a b = record {
  well_formed = b.well_formed;
  noticed = λ w. b.noticed (a.noticed w);
  as_many = b.as_many ∙ a.as_many;
  room = omega (arith, a.room, b.room);
  capacity = omega (arith, a.capacity, b.capacity);
}

-- room for one suspect is enough for one edge
pub room_for_one : (s t : State) (os : List ObjId) (work : WorkList) → 1 ≤ work.spare → HasRoom s t os work
room_for_one s t os work room o w m h l = room

-- edges are lost, with at most one suspect
pub losses_follow : (s t : State) (old new : WorkList) → WellFormed s → WellFormed t → Loses s t old.suspects new.suspects → SameCapacity old new
    → length new.suspects ≤ length old.suspects + 1 → length t.rows ≡ length s.rows → Follows s t old new 1
losses_follow s t old new before after loses sum one same = record {
  well_formed = after;
  noticed = λ w. losses_noticed s t old.suspects new.suspects before after w loses;
  as_many = same;
  room = omega (arith, sum, one);
  capacity = sum;
}

-- the edge of one place
pub loss_follows : (s t : State) (from : Source) (v : Option Value) (old new : WorkList) → LosesPlace s t from (slot_targets v)
    → NoticesLoss s t (slot_targets v) old.suspects new.suspects → SameCapacity old new → length new.suspects ≤ length old.suspects + 1
    → length t.rows ≡ length s.rows → Follows s t old new 1
loss_follows s t from v old new loses notices sum one same =
    losses_follow s t old new loses.before loses.after (value_loses s t from v old.suspects new.suspects loses notices) sum one same

-- a slot more needs no suspect
pub push_follows : (s : State) (w : Option Value) (work : WorkList) → WellFormed (with_slot s w) → Follows s (with_slot s w) work work 0
push_follows s w work well = record {
  well_formed = well;
  noticed = λ n. push_noticed s w work.suspects n;
  as_many = refl;
  room = omega arith;
  capacity = refl;
}
