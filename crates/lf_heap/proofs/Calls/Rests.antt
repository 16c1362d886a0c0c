-- A heap at rest, through a call and at rest again.
use Rattle.std.proofs.Common.{List, None, Option, Some, [], ap, arith, cond, false, inl, inr, is_some, length, refl, subst, suc, sym, true, zero, ℕ, ◌*◌, ◌+◌, ◌++◌, ◌^◌, ◌∙◌, ◌∷◌, ◌≡◌, ◌≤◌}
use Rattle.lf_base.specs.declared.faults.Fault.{Fault}
use Rattle.lf_base.specs.declared.faults.Fault.TheVariants.{Unset}
use Rattle.lf_base.specs.declared.ids.ObjId.{ObjId}
use Rattle.lf_base.specs.declared.values.Owner.{Owner}
use Rattle.lf_base.specs.declared.values.Value.{Value}
use Rattle.lf_base.specs.declared.values.Value.TheVariants.{Obj}
use Rattle.lf_base.specs.HeapCalls.{Done, Refused, unless_refused, unset_refusal}
use Rattle.lf_base.specs.Kept.{kept}
use Rattle.lf_base.specs.Names.{name_below}
use Rattle.lf_base.specs.Noticing.{Noticed}
use Rattle.lf_base.specs.Operands.{pushed}
use Rattle.lf_base.specs.PlainChanges.{insert_row, next_object, put_slot, slot_at, with_row, with_slot, with_slot_at}
use Rattle.lf_base.specs.PlainState.{Row, State}
use Rattle.lf_base.specs.SettledStates.{Settled}
use Rattle.lf_base.specs.Sets.{Member}
use Rattle.lf_base.specs.WellFormed.{SlotMayHold}
use Rattle.lf_base.proofs.ListLemmas.Members.{Member_left, Member_right}
use Rattle.lf_base.proofs.ListLemmas.Tests.{some_is}
use Rattle.lf_laws.proofs.Changes.NewRows.{NewOwner, new_row_keeps}
use Rattle.lf_laws.proofs.KeptStates.NothingDropped.{more_slots, new_row_stays, slot_more}
use Rattle.lf_laws.proofs.Losses.LossesNoticed.{kept_notices}
use Rattle.lf_settle.specs.WorkLists.{WorkList}
use Rattle.lf_transfer.specs.LooseNames.{LooseNames}
use Rattle.lf_heap.specs.Following.{Follows}
use Rattle.lf_heap.specs.Heaps.{IsAtRest}
use Rattle.lf_heap.proofs.Slots.SlotLosses.{MayHold, lifted_well_formed, push_well_formed}
use Rattle.lf_heap.proofs.States.NewRows.{new_may_be_held}

-- ---- what a call answers
pub done : (r : Option Fault) (t u : State) → r ≡ None → u ≡ kept t → unless_refused r t ≡ Done u
done r t u e f = ap (λ x. unless_refused x t) e ∙ ap Done (sym f)

pub refused : (r : Option Fault) (t : State) (f : Fault) → r ≡ Some f → unless_refused r t ≡ Refused f
refused r t f e = ap (λ x. unless_refused x t) e

insert_length : (x : Row) (rows : List Row) → length (insert_row x rows) ≡ length rows + 1
insert_length x [] = refl
insert_length x (y ∷ ys) = elim (name_below x.name y.name) as (λ b. length (cond b (x ∷ (y ∷ ys)) (y ∷ insert_row x ys)) ≡ length (y ∷ ys) + 1) [
  | true ↦ omega arith
  | false ↦ omega (arith, insert_length x ys)
]

module _ {loose : LooseNames} (s : State) (work : WorkList) (most : ℕ) (rest : IsAtRest s work loose most) where
  -- nothing is to be noticed
  pub notices : Noticed s work.suspects
  notices = kept_notices s rest.settled.well_formed (ap (λ (t : State). t.rows) rest.settled.all_stay) work.suspects

  pub has_room : 3 * length s.rows + 4 ≤ work.spare
  has_room = omega (arith, rest.rows, rest.room)

  -- ---- after the steps of a call
  module _ (t : State) (middle : WorkList) (n : ℕ) (few : n ≤ length s.rows + 4) (f : Follows s t work middle n) where
    pub notices_then : Noticed t middle.suspects
    notices_then = f.noticed notices

    pub room_then : 2 * length t.rows ≤ middle.spare
    room_then = omega (arith, few, f.room, f.as_many, has_room)

    -- ---- and settled
    pub rests_again : (u : State) (new : WorkList) → Settled u → new.suspects ≡ [] → length u.rows ≤ length t.rows
        → new.spare ≡ middle.spare + length middle.suspects → IsAtRest u new loose most
    rests_again u new settled none fewer spare = record {
      settled = settled;
      none_left = none;
      none_loose = rest.none_loose;
      rows = omega (arith, fewer, f.as_many, rest.rows);
      few = rest.few;
      room = omega (arith, rest.room, spare, f.capacity);
      listed = rest.listed;
    }

  -- ---- with other slots alone, of which none goes
  rests_on : (u : State) → Settled u → length u.rows ≤ length s.rows → IsAtRest u work loose most
  rests_on u settled fewer = record { settled = settled; none_left = rest.none_left; none_loose = rest.none_loose; rows = omega (arith, fewer, rest.rows); few = rest.few; room = rest.room; listed = rest.listed }

  pub push_rests : (w : Option Value) → MayHold s w → IsAtRest (with_slot s w) work loose most
  push_rests w may = rests_on (with_slot s w) (record { well_formed = push_well_formed s rest.settled.well_formed w may; all_stay = slot_more s w rest.settled.all_stay }) (omega arith)

  pub pushed_is : (w : Option Value) → with_slot s w ≡ pushed w s
  pushed_is w = sym (slot_more s w rest.settled.all_stay)

  abbrev lifted : ℕ → State
  lifted n = with_slot (with_slot_at s n None) (slot_at s.slots n)

  still_in : (xs : List (Option Value)) (n : ℕ) (v : Value) → Member (Some v) xs → Member (Some v) (put_slot xs n None ++ slot_at xs n ∷ [])
  still_in [] n v m = absurd m
  still_in (x ∷ xs) zero v (inl e) = inr (Member_right (Some v) xs (x ∷ []) (inl e))
  still_in (x ∷ xs) zero v (inr m) = inr (Member_left (Some v) xs (x ∷ []) m)
  still_in (x ∷ xs) (suc n) v (inl e) = inl e
  still_in (x ∷ xs) (suc n) v (inr m) = inr (still_in xs n v m)

  lift_stays : (n : ℕ) → kept (lifted n) ≡ lifted n
  lift_stays n = more_slots s (put_slot s.slots n None ++ slot_at s.slots n ∷ []) rest.settled.all_stay (λ v m. still_in s.slots n v m)

  pub lift_rests : (n : ℕ) → IsAtRest (lifted n) work loose most
  lift_rests n = rests_on (lifted n) (record { well_formed = lifted_well_formed s rest.settled.well_formed n; all_stay = lift_stays n }) (omega arith)

  pub lifted_is : (n : ℕ) → lifted n ≡ kept (lifted n)
  lifted_is n = sym (lift_stays n)

  -- ---- with a row more and its slot
  module _ (w : Owner) (kind : NewOwner s w) (t u : State) (o : ObjId) (made : t ≡ with_row s w) (name : o ≡ next_object s) (end : u ≡ with_slot t (Some (Obj o))) where
    abbrev after : State
    after = with_slot (with_row s w) (Some (Obj (next_object s)))

    reached : u ≡ after
    reached = end ∙ ap (λ x. with_slot x (Some (Obj o))) made ∙ ap (λ n. with_slot (with_row s w) (Some (Obj n))) name

    stays : kept after ≡ after
    stays = new_row_stays s w rest.settled.well_formed kind rest.settled.all_stay

    pub made_is : u ≡ kept after
    made_is = reached ∙ sym stays

    may : MayHold (with_row s w) (Some (Obj (next_object s)))
    may v e = subst (SlotMayHold (with_row s w)) (some_is (Obj (next_object s)) v e) (new_may_be_held s w rest.settled.well_formed kind)

    pub made_rests : (new : WorkList) (list : LooseNames) (rows : ℕ) → new.suspects ≡ work.suspects → list.names ≡ loose.names → rows ≡ most + 1 → rows ≤ 2 ^ 61
        → 3 * rows + 4 ≤ new.spare → rows ≤ list.spare → IsAtRest u new list rows
    made_rests new list rows none no_name one few room listed =
        subst (λ x. IsAtRest x new list rows) (sym reached) (record {
          settled = record { well_formed = push_well_formed (with_row s w) (new_row_keeps s w rest.settled.well_formed kind) (Some (Obj (next_object s))) may; all_stay = stays };
          none_left = none ∙ rest.none_left;
          none_loose = no_name ∙ rest.none_loose;
          rows = omega (arith, insert_length (record { name = next_object s; owner = w; fields = [] }) s.rows, rest.rows, one);
          few = few;
          room = room;
          listed = listed;
        })

-- a slot that is set, and one that isn't
pub set_is : (w : Option Value) → is_some w ≡ true → unset_refusal w ≡ None
set_is None e = absurd (cc)
set_is (Some v) e = refl

pub unset_is : (w : Option Value) → is_some w ≡ false → unset_refusal w ≡ Some Unset
unset_is None e = refl
unset_is (Some v) e = absurd (cc)
