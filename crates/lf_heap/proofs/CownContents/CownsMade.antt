-- A cown that is made: what it is refused for, and what the parts keep.
use Rattle.std.proofs.Common.{Bool, List, None, Option, Some, [], ap, arith, cond, count_by, false, inr, length, ltb, refl, subst, sym, take, true, ℕ, ◌&&◌, ◌++◌, ◌+◌, ◌-◌, ◌<◌, ◌^◌, ◌∙◌, ◌∷◌, ◌≡◌, ◌≤◌}
use Rattle.std.proofs.lemmas.List.{length-append, take_all, take_more}
use Rattle.std.proofs.lemmas.Grind.{flat_map-append}
use Rattle.std.proofs.lemmas.List.Sums.{sum_by-append}
use Rattle.lf_base.specs.declared.faults.Fault.{Fault}
use Rattle.lf_base.specs.declared.faults.Fault.TheVariants.{Interior, SecondOwner}
use Rattle.lf_base.specs.declared.ids.CownId.{CownId}
use Rattle.lf_base.specs.declared.ids.ObjId.{ObjId}
use Rattle.lf_base.specs.declared.values.Owner.{Owner}
use Rattle.lf_base.specs.declared.values.Owner.TheVariants.{Frozen, In, Local}
use Rattle.lf_base.specs.declared.values.Value.{Value}
use Rattle.lf_base.specs.declared.values.Value.TheVariants as value
use Rattle.lf_base.specs.ContentRefusal.{refusal_as_content, refused_target}
use Rattle.lf_base.specs.ContentResult.{content_fault}
use Rattle.lf_base.specs.Edges.{Edge, Slot, edges, edges_by, slot_edges, slot_targets}
use Rattle.lf_base.specs.Names.{same_name, targets_of_value}
use Rattle.lf_base.specs.NewCown.{is_open_region, made_result, new_cown_refusal, next_cown, or_open}
use Rattle.lf_base.specs.Operands.{operand, set_value, slot_below, without_last}
use Rattle.lf_base.specs.Owners.{bridge_of, is_bridge, owner_of}
use Rattle.lf_base.specs.PlainChanges.{slot_at, with_slots}
use Rattle.lf_base.specs.PlainState.{State}
use Rattle.lf_base.specs.WalkCounts.{is_open}
use Rattle.lf_base.specs.WellFormed.{SlotMayHold, WellFormed}
use Rattle.lf_barrier.specs.ContentWrites.{IsContentWrite}
use Rattle.lf_domain.specs.Counts.{CountsOf}
use Rattle.lf_graph.specs.StoredRows.{CountedRow}
use Rattle.lf_heap.specs.declared.contents.CownContents.{CownContents}
use Rattle.lf_heap.specs.declared.frozen.FrozenParts.{FrozenParts}
use Rattle.lf_heap.specs.Following.{Follows}
use Rattle.lf_heap.specs.Heaps.{HasParts, heap_state}
use Rattle.lf_heap.specs.Openness.{LackOneSlot}
use Rattle.lf_laws.proofs.Changes.SameOwners.{owning_slots}
use Rattle.lf_heap.proofs.Slots.SlotPlaces.{slot_is}
use Rattle.lf_heap.proofs.States.StoredStates.{Reached, reached}
use Rattle.lf_laws.proofs.Changes.ContentLaw.{made_law}
use Rattle.lf_laws.proofs.Edges.Cells.{cells_made}
use Rattle.lf_laws.proofs.Edges.SlotEdges.{all_slots}
use Rattle.lf_laws.proofs.Judging.Contents.{made_refusal}
use Rattle.lf_laws.proofs.Losses.ContentNoticed.{made_noticed}
use Rattle.lf_regions.specs.declared.region.Region.{Region}
use Rattle.lf_settle.specs.Drops.{stored_state}
use Rattle.lf_settle.specs.WorkLists.{WorkList}

-- slots own nothing, and no content is as good as the content `None`
module _ (s : State) (slots : List (Option Value)) where
  by_owner : (o : ObjId) (w : Option Owner) → refused_target s (Some value.None) o w ≡ refused_target (with_slots s slots) None o w
  by_owner o None = refl
  by_owner o (Some Local) = refl
  by_owner o (Some Frozen) = refl
  by_owner o (Some (In q)) = ap (λ n. cond (same_name q o) (cond (ltb 0 n) (Some SecondOwner) None) (Some Interior)) (sym (owning_slots s slots o))

  no_content_before : (v : Value) → refusal_as_content s (Some value.None) v ≡ refusal_as_content (with_slots s slots) None v
  no_content_before value.None = refl
  no_content_before (value.Bool b) = refl
  no_content_before (value.Int n) = refl
  no_content_before (value.Text x) = refl
  no_content_before (value.Cown c) = refl
  no_content_before (value.Obj o) = by_owner o (owner_of s o)

  content_judged : (v : Value) → refusal_as_content s (Some value.None) v ≡ content_fault (made_result (with_slots s slots) v) v
  content_judged v = no_content_before v ∙ sym (made_refusal (with_slots s slots) v)

-- ---- what it is refused for, but for how many were made
module _ (s : State) where
  -- the state without the operand's slot
  abbrev t : State
  t = without_last 1 s

  -- a content that is refused
  pub cown_refused : (v : Value) (f : Fault) → Some f ≡ refusal_as_content s (Some value.None) v → Some f ≡ new_cown_refusal t v
  cown_refused v f e = ap (λ w. or_open w (is_open_region t (targets_of_value v))) (e ∙ content_judged s t.slots v)

  -- and one that isn't: then its region is judged
  no_bridge : (v : Value) → None ≡ bridge_of s v → is_open_region t (targets_of_value v) ≡ false
  no_bridge value.None e = refl
  no_bridge (value.Bool b) e = refl
  no_bridge (value.Int n) e = refl
  no_bridge (value.Text x) e = refl
  no_bridge (value.Cown c) e = refl
  no_bridge (value.Obj o) e = by (is_bridge s.rows o) e where
    by : (b : Bool) → None ≡ cond b (Some o) None → (b && is_open t o) ≡ false
    by true k = absurd (cc)
    by false k = refl

  bridge_judged : (v : Value) (r : ObjId) → Some r ≡ bridge_of s v → is_open_region t (targets_of_value v) ≡ is_open t r
  bridge_judged value.None r e = absurd (cc)
  bridge_judged (value.Bool b) r e = absurd (cc)
  bridge_judged (value.Int n) r e = absurd (cc)
  bridge_judged (value.Text x) r e = absurd (cc)
  bridge_judged (value.Cown c) r e = absurd (cc)
  bridge_judged (value.Obj o) r e = by (is_bridge s.rows o) e where
    by : (b : Bool) → Some r ≡ cond b (Some o) None → (b && is_open t o) ≡ is_open t r
    by true k = let same : r ≡ o = cc in ap (is_open t) (sym same)
    by false k = absurd (cc)

  abbrev opened : Bool → Option Fault
  opened b = or_open None b

  pub cown_unbridged : (v : Value) → None ≡ refusal_as_content s (Some value.None) v → None ≡ bridge_of s v → None ≡ new_cown_refusal t v
  cown_unbridged v e k =
      ap opened (sym (no_bridge v k)) ∙ ap (λ w. or_open w (is_open_region t (targets_of_value v))) (e ∙ content_judged s t.slots v)

  pub cown_judged : (v : Value) (r : ObjId) (b : Bool) → None ≡ refusal_as_content s (Some value.None) v → Some r ≡ bridge_of s v → b ≡ is_open t r
      → opened b ≡ new_cown_refusal t v
  cown_judged v r b e k is =
      ap opened (is ∙ sym (bridge_judged v r k)) ∙ ap (λ w. or_open w (is_open_region t (targets_of_value v))) (e ∙ content_judged s t.slots v)

-- ---- the last slot holds a bridge
set_object : (w : Option Value) (r : ObjId) → set_value w ≡ value.Obj r → w ≡ Some (value.Obj r)
set_object None r e = absurd (cc)
set_object (Some v) r e = ap Some e

pub lack_last : (s : State) (r : ObjId) → 1 ≤ length s.slots → operand s 0 ≡ value.Obj r → LackOneSlot s (without_last 1 s).slots r
lack_last s r there is test =
    let n = length s.slots - 1 in
    let xs = take n s.slots in
    let f : Edge → ℕ = λ e. cond (test e) 1 0 in
    let held : slot_at s.slots n ≡ Some (value.Obj r) = set_object (slot_below s 0) r is in
    let all : length s.slots ≤ n + 1 = omega (arith, there) in
    let short : n < length s.slots = omega (arith, there) in
    let split : s.slots ≡ xs ++ Some (value.Obj r) ∷ [] =
    sym (take_all (n + 1) s.slots all) ∙ take_more s.slots n None short ∙ ap (λ w. xs ++ w ∷ []) (sym (slot_is s.slots n None short) ∙ held) in
    let parted : slot_edges s.slots ≡ slot_edges xs ++ record { from = Slot; to = r } ∷ [] =
    ap slot_edges split ∙ flat_map-append (λ slot. edges_by Slot (slot_targets slot)) xs (Some (value.Obj r) ∷ []) in
    omega (
      arith,
      ap (count_by test) parted,
      sum_by-append f (slot_edges xs) (record { from = Slot; to = r } ∷ []),
      all_slots s xs test,
      sum_by-append f (slot_edges xs) (edges s),
      sum_by-append f (slot_edges s.slots) (edges (with_slots s xs)),
    )

-- ---- what comes of it
-- a cown that isn't refused has a content that isn't
unrefused : (w : Option Fault) (b : Bool) → or_open w b ≡ None → w ≡ None
unrefused None b e = refl
unrefused (Some f) b e = absurd (cc)

pub made_unrefused : (s : State) (v : Value) → None ≡ new_cown_refusal (without_last 1 s) v → refusal_as_content s (Some value.None) v ≡ None
made_unrefused s v e =
    let t = without_last 1 s in
    content_judged s t.slots v ∙ unrefused (content_fault (made_result t v) v) (is_open_region t (targets_of_value v)) (sym e)

pub may_make : (s : State) (c : CownId) (v : Value) → c ≡ next_cown s → refusal_as_content s (Some value.None) v ≡ None → IsContentWrite s c value.None v
may_make s c v name allowed = record { was = inr (name, refl); allowed = allowed }

-- the parts in which a cown was made, and whose store and table count its content
module _ (birth objects : ℕ) (contents later : CownContents) (frozen : FrozenParts) (slots : List (Option Value)) (rows next : List CountedRow) (regions table : List Region) (most : ℕ)
    (c : CownId) (v : Value) where
  abbrev before : State
  before = heap_state birth objects contents frozen rows slots

  abbrev after : State
  after = heap_state birth objects later frozen next slots

  module _ (h : HasParts rows regions most before) (may : SlotMayHold before v) (allowed : refusal_as_content before (Some value.None) v ≡ None) (few : most + 1 < 2 ^ 62)
      (counts : CountsOf next table (made_result before v)) (name : c ≡ next_cown before) (held : later.held ≡ contents.held) (made : later.made ≡ contents.made ++ (c, v) ∷ []) where
    well_made : WellFormed (made_result before v)
    well_made = (made_law before v (h.counted).well_formed may).0 (sym (content_judged before slots v) ∙ allowed)

    reached_made : Reached next table (most + 1) (made_result before v)
    reached_made = reached next table (most + 1) (made_result before v) (record {
      counted = record { counts = counts; well_formed = well_made };
      cells = omega (arith, cells_made (with_slots before []) v, h.cells);
      few = few;
      slots = h.slots;
    })

    -- the contents with that of the cown after the others
    with_cown : after ≡ stored_state (made_result before v) next
    with_cown =
        ap (λ m. heap_state birth objects (record { held = later.held; made = m }) frozen next slots) (made ∙ ap (λ n. contents.made ++ (n, v) ∷ []) name)
        ∙ ap (λ hs. heap_state birth objects (record { held = hs; made = contents.made ++ (next_cown before, v) ∷ [] }) frozen next slots) held
        ∙ ap (λ n. record (stored_state (made_result before v) next) { cowns = n }) (length-append contents.made ((next_cown before, v) ∷ []))

    pub made_is : after ≡ made_result before v
    made_is = with_cown ∙ reached_made.is

    pub made_parts : HasParts next table (most + 1) after
    made_parts = subst (HasParts next table (most + 1)) (sym with_cown) reached_made.parts

    pub made_follows : (work new : WorkList) → new ≡ work → Follows before after work new 0
    made_follows work new same =
        subst (λ u. Follows before u work new 0) (sym made_is)
        (subst (λ w. Follows before (made_result before v) work w 0) (sym same)
        (record { well_formed = well_made; noticed = made_noticed before v work.suspects; as_many = refl; room = omega arith; capacity = refl }))
