-- A slot that is shut.
use Rattle.std.proofs.Common.{List, Option, Some, [], ap, arith, false, inl, inr, length, map, refl, subst, sym, suc, true, zero, ℕ, ◌+◌, ◌++◌, ◌<◌, ◌∙◌, ◌∷◌, ◌≡◌, ◌≤◌}
use Rattle.lf_base.specs.declared.ids.ObjId.{ObjId}
use Rattle.lf_base.specs.declared.values.Owner.{Owner}
use Rattle.lf_base.specs.declared.values.Value.{Value}
use Rattle.lf_base.specs.declared.values.Value.TheVariants.{Obj}
use Rattle.lf_base.specs.declared.values.Value.TheVariants as value
use Rattle.lf_base.specs.CloseResult.{leads_into}
use Rattle.lf_base.specs.EdgeLists.{SameEdges, near_edges}
use Rattle.lf_base.specs.Edges.{Slot, edges, edges_by, slot_targets}
use Rattle.std.specs.List.{list_any}
use Rattle.std.specs.Prelude.{option_to_list}
use Rattle.lf_base.specs.Names.{targets_of_value}
use Rattle.lf_base.specs.Owners.{owner_in}
use Rattle.lf_base.specs.PlainChanges.{put_slot, slot_at, with_slot_at}
use Rattle.lf_base.specs.PlainState.{State}
use Rattle.lf_base.specs.WellFormed.{SlotMayHold, WellFormed, slot_values}
use Rattle.lf_base.proofs.ListLemmas.Members.{Member_flat_map, Member_left}
use Rattle.lf_base.proofs.ListLemmas.Tests.{or_first, some_is}
use Rattle.lf_domain.specs.Counts.{Counts}
use Rattle.lf_domain.specs.OneEdge.{MayUncount}
use Rattle.lf_domain.proofs.StateEdges.{may_uncount}
use Rattle.lf_graph.specs.StoredRows.{CountedRow, owner_at}
use Rattle.lf_laws.proofs.Changes.FewerFields.{put_member}
use Rattle.lf_laws.proofs.Changes.SameOwners.{slots_keep, value_may_be_held}
use Rattle.lf_laws.proofs.Edges.SlotEdges.{all_put_slot, near_put_slot}
use Rattle.lf_regions.specs.declared.region.Region.{Region}
use Rattle.lf_transfer.specs.Closing.{Closing, come_to, leads_within, lies_within, shut_fields, with_loose}
use Rattle.lf_transfer.specs.LooseNames.{LooseNames}
use Rattle.lf_transfer.proofs.Closings.ClosedSteps.{one_less, owners_stay, room_here, stored_owner}
use Rattle.lf_transfer.proofs.Closings.LooseRows.{lies_there}
use Rattle.lf_transfer.proofs.Closings.ShutStates.{slot_is_shut}

one_target : (v : Value) (o p : ObjId) (os : List ObjId) → targets_of_value v ≡ o ∷ (p ∷ os) → ⊥
one_target (Obj q) o p os t = absurd (cc)
one_target value.None o p os t = absurd (cc)
one_target (value.Bool b) o p os t = absurd (cc)
one_target (value.Int n) o p os t = absurd (cc)
one_target (value.Text n) o p os t = absurd (cc)
one_target (value.Cown q) o p os t = absurd (cc)

-- a value that leads into one of the regions refers to an object of that owner
pub record LeadsTo (rows : List CountedRow) (v : Value) : Type 0 where
  pub object : ObjId
  pub targets : targets_of_value v ≡ object ∷ []
  pub owner : Owner
  pub owned : owner_at rows object ≡ Some owner

pub leads_to : (rows : List CountedRow) (within : List ObjId) (v : Value) → leads_within rows within v ≡ true → LeadsTo rows v
leads_to rows within v = go (targets_of_value v) refl where
  go : (os : List ObjId) → targets_of_value v ≡ os → list_any (λ o. lies_within within (owner_at rows o)) os ≡ true → LeadsTo rows v
  go [] t e = absurd (cc)
  go (o ∷ []) t e = let w = lies_there within (owner_at rows o) (or_first _ false e refl) in record { object = o; targets = t; owner = w.0; owned = w.1 }
  go (o ∷ (p ∷ os)) t e = absurd (one_target v o p os t)

module _ (s : State) (well : WellFormed s) where
  none_may_be_held : SlotMayHold s value.None
  none_may_be_held = record { object_there = λ o m. absurd m; cown_numbered = λ c m. absurd m }

  pub shut_well_formed : (n : ℕ) → WellFormed (with_slot_at s n (Some value.None))
  shut_well_formed n = slots_keep s (put_slot s.slots n (Some value.None)) well (λ v m. elim (put_member s.slots n (Some value.None) (Some v) m) [
    | inl k ↦ value_may_be_held s v well (Member_left v (slot_values s.slots) _ (Member_flat_map option_to_list (Some v) v s.slots k (inl refl)))
    | inr e ↦ subst (SlotMayHold s) (some_is value.None v e) none_may_be_held
  ])

pub slot_there : (slots : List (Option Value)) (n : ℕ) (v : Value) → slot_at slots n ≡ Some v → n < length slots
slot_there [] n v e = absurd (cc)
slot_there (x ∷ xs) zero v e = omega arith
slot_there (x ∷ xs) (suc n) v e = omega (arith, slot_there xs n v e)

module _ (s : State) (at : ℕ) (r : ObjId) (within : List ObjId) (before : LooseNames)
    (rows : List CountedRow) (regions : List Region) (slots : List (Option Value)) (mid : LooseNames)
    (c : Closing s at r within before rows regions slots mid) (n : ℕ) (v : Value) (held : slot_at slots n ≡ Some v) where
  abbrev before_it : State
  before_it = come_to s rows slots

  abbrev pub after_it : State
  after_it = with_slot_at before_it n (Some value.None)

  edges_then : edges_by Slot (slot_targets (slot_at slots n)) ≡ edges_by Slot (targets_of_value v)
  edges_then = ap (λ w. edges_by Slot (slot_targets w)) held

  pub slot_near : SameEdges (near_edges before_it) (edges_by Slot (targets_of_value v) ++ near_edges after_it)
  slot_near = subst (λ es. SameEdges (near_edges before_it) (es ++ near_edges after_it)) edges_then (near_put_slot before_it n (Some value.None) (slot_there slots n v held))

  slot_all : SameEdges (edges before_it) (edges_by Slot (targets_of_value v) ++ edges after_it)
  slot_all = subst (λ es. SameEdges (edges before_it) (es ++ edges after_it)) edges_then (all_put_slot before_it n (Some value.None) (slot_there slots n v held))

  -- its edge may be taken out of the counts
  pub slot_may : MayUncount rows regions before_it.rows (near_edges before_it) (near_edges after_it) Slot (targets_of_value v)
  slot_may = may_uncount rows regions before_it c.domain Slot (targets_of_value v) (near_edges after_it) slot_near refl

  module _ (into : leads_within rows within v ≡ true) where
    abbrev led : LeadsTo rows v
    led = leads_to rows within v into

    owned : owner_in s.rows led.object ≡ Some led.owner
    owned = sym (stored_owner s at r within before rows regions slots mid c led.object) ∙ led.owned

    near_one : SameEdges (near_edges before_it) (edges_by Slot (led.object ∷ []) ++ near_edges after_it)
    near_one = subst (λ os. SameEdges (near_edges before_it) (edges_by Slot os ++ near_edges after_it)) led.targets slot_near

    all_one : SameEdges (edges before_it) (edges_by Slot (led.object ∷ []) ++ edges after_it)
    all_one = subst (λ os. SameEdges (edges before_it) (edges_by Slot os ++ edges after_it)) led.targets slot_all

    pub slot_room : 1 ≤ mid.spare
    slot_room = room_here s at r within before rows regions slots mid c after_it Slot led.object led.owner owned near_one all_one

    module _ (other : at ≡ n → ⊥) (next : List CountedRow) (table : List Region) (counts : Counts next table before_it.rows (near_edges after_it))
        (names : LooseNames) (named : names.names ≡ with_loose next (targets_of_value v) mid.names)
        (room : names.spare + length names.names ≡ mid.spare + length mid.names) where
      stands : after_it ≡ come_to s next (put_slot slots n (Some value.None))
      stands = ap (λ x. record s { slots = put_slot slots n (Some value.None); rows = x }) (sym ((counts.store).rows).rise)

      pub slot_closed : Closing s at r within before next table (put_slot slots n (Some value.None)) names
      slot_closed =
          one_less s at r within before rows regions slots mid c after_it Slot led.object led.owner owned near_one all_one
          (λ q. refl) (shut_well_formed before_it (c.domain).well_formed n)
          (ap (λ l. record before_it { slots = l; rows = map (shut_fields (leads_into s r)) before_it.rows }) (slot_is_shut (leads_into s r) slots n v held (sym (c.leads v) ∙ into) at other))
          next table before_it.rows counts (owners_stay s at r within before rows regions slots mid c)
          next table (put_slot slots n (Some value.None)) names stands counts
          (named ∙ ap (λ os. with_loose next os mid.names) led.targets) room
