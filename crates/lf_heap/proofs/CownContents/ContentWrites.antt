-- A content that is read or written: what it is refused for, and what the parts keep.
use Rattle.std.proofs.Common.{Bool, List, None, Option, Some, [], ap, arith, cond, false, inl, length, map, refl, subst, sym, true, ℕ, ◌++◌, ◌∙◌, ◌∷◌, ◌≡◌, ◌||◌}
use Rattle.std.proofs.lemmas.List.{length-append, length-map}
use Rattle.std.specs.Option.{option_or}
use Rattle.lf_base.specs.declared.faults.Fault.{Fault}
use Rattle.lf_base.specs.declared.faults.Fault.TheVariants.{NoField, NotAcquired}
use Rattle.lf_base.specs.declared.ids.CownId.{CownId}
use Rattle.lf_base.specs.declared.values.Key.{Key}
use Rattle.lf_base.specs.declared.values.Key.TheVariants.{Int, Text}
use Rattle.lf_base.specs.declared.values.Value.{Value}
use Rattle.lf_base.specs.ContentRefusal.{refusal_as_content}
use Rattle.lf_base.specs.ContentResult.{content_at, content_refusal, content_result, has_cown, put_content}
use Rattle.lf_base.specs.Edges.{slot_targets}
use Rattle.lf_base.specs.Names.{same_cown, same_key, targets_of_value}
use Rattle.lf_base.specs.Noticing.{Noticed}
use Rattle.lf_base.specs.PlainChanges.{with_slots}
use Rattle.lf_base.specs.PlainChecks.{cown_refusal, is_content_key}
use Rattle.lf_base.specs.PlainState.{State}
use Rattle.lf_base.specs.Suspects.{Object, Suspect}
use Rattle.lf_base.specs.WellFormed.{SlotMayHold, WellFormed}
use Rattle.lf_base.proofs.ListLemmas.Members.{Member_left, Member_map, Member_right}
use Rattle.lf_barrier.specs.ContentWrites.{IsContentWrite}
use Rattle.lf_domain.specs.Counts.{CountsOf}
use Rattle.lf_graph.specs.StoredRows.{CountedRow}
use Rattle.lf_heap.specs.declared.contents.CownContents.{CownContents}
use Rattle.lf_heap.specs.declared.frozen.FrozenParts.{FrozenParts}
use Rattle.lf_heap.specs.declared.parts.TheConstants.{CONTENT_KEY}
use Rattle.lf_heap.specs.Following.{Follows}
use Rattle.lf_heap.specs.Heaps.{HasParts, heap_state}
use Rattle.lf_heap.proofs.Fields.FieldWrites.{one_target}
use Rattle.lf_heap.proofs.States.StoredStates.{Reached, reached}
use Rattle.lf_laws.proofs.Changes.ContentLaw.{content_law}
use Rattle.lf_laws.proofs.Edges.Cells.{cells_content}
use Rattle.lf_laws.proofs.Judging.Contents.{held_refusal}
use Rattle.lf_laws.proofs.Losses.ContentNoticed.{content_noticed}
use Rattle.lf_regions.specs.declared.region.Region.{Region}
use Rattle.lf_settle.specs.Drops.{SameCapacity, stored_state}
use Rattle.lf_settle.specs.WorkLists.{WorkList}

-- the key of a content is that key
pub content_key : (k : Key) → same_key k CONTENT_KEY ≡ is_content_key k
content_key (Text t) = refl
content_key (Int n) = refl

-- a cown is held that has a content
pub held_has : (hs : List (CownId × Value)) (c : CownId) (v : Value) → content_at hs c ≡ Some v → has_cown hs c ≡ true
held_has [] c v e = absurd (cc)
held_has (h ∷ hs) c v e = elim (same_cown h.0 c) as (λ b. cond b (Some h.1) (content_at hs c) ≡ Some v → (b || has_cown hs c) ≡ true) [
  | true ↦ λ k. refl
  | false ↦ λ k. held_has hs c v k
] e

pub not_held : (hs : List (CownId × Value)) (c : CownId) → content_at hs c ≡ None → has_cown hs c ≡ false
not_held [] c e = refl
not_held (h ∷ hs) c e = elim (same_cown h.0 c) as (λ b. cond b (Some h.1) (content_at hs c) ≡ None → (b || has_cown hs c) ≡ false) [
  | true ↦ λ k. absurd (cc)
  | false ↦ λ k. not_held hs c k
] e

module _ (s : State) (c : CownId) (k : Key) where
  pub refused_unheld : content_at s.held c ≡ None → cown_refusal s c k ≡ Some NotAcquired
  refused_unheld e = ap (λ b. cond b (cond (is_content_key k) None (Some NoField)) (Some NotAcquired)) (not_held s.held c e)

  -- of a cown that is held the key tells
  pub judged_by_key : (v : Value) (b : Bool) → content_at s.held c ≡ Some v → b ≡ same_key k CONTENT_KEY → cown_refusal s c k ≡ cond b None (Some NoField)
  judged_by_key v b e told =
      ap (λ h. cond h (cond (is_content_key k) None (Some NoField)) (Some NotAcquired)) (held_has s.held c v e)
      ∙ ap (λ x. cond x None (Some NoField)) (sym (told ∙ content_key k))

-- what a slot may hold it may still, whatever the contents are
pub still_may : (s : State) (c : CownId) (v w : Value) → SlotMayHold s w → SlotMayHold (content_result s c v) w
still_may s c v w may = record { object_there = may.object_there; cown_numbered = may.cown_numbered }

-- what a content is refused for comes after what the cown is
pub refused_after : (s : State) (c : CownId) (k : Key) (old v : Value) (f : Option Fault) → content_at s.held c ≡ Some old → None ≡ cown_refusal s c k
    → f ≡ refusal_as_content s (Some old) v → f ≡ option_or (cown_refusal s c k) (content_refusal s c v)
refused_after s c k old v f was plain e = e ∙ sym (held_refusal s c old was v) ∙ ap (λ w. option_or w (content_refusal s c v)) plain

-- a content that isn't refused may be written
pub may_write : (s : State) (c : CownId) (old v : Value) → content_at s.held c ≡ Some old → content_refusal s c v ≡ None → IsContentWrite s c old v
may_write s c old v was allowed = record { was = inl was; allowed = sym (held_refusal s c old was v) ∙ allowed }

module _ (rows : List CountedRow) (regions : List Region) (most : ℕ) (s : State) (h : HasParts rows regions most s)
    (c : CownId) (old v : Value) (was : content_at s.held c ≡ Some old) (may : SlotMayHold s v) (allowed : content_refusal s c v ≡ None) where
  abbrev well : WellFormed s
  well = (h.counted).well_formed

  abbrev t : State
  t = content_result s c v

  pub well_written : WellFormed t
  well_written = (content_law s c v (held_has s.held c old was) well may).0 allowed

  pub written_reached : (next : List CountedRow) (table : List Region) → CountsOf next table t → Reached next table most t
  written_reached next table counts = reached next table most t (record {
    counted = record { counts = counts; well_formed = well_written };
    cells = omega (arith, cells_content (with_slots s []) c v, h.cells);
    few = h.few;
    slots = h.slots;
  })

  -- with the old content as a suspect
  module _ (work new : WorkList) (noted : new.suspects ≡ map Object (slot_targets (Some old)) ++ work.suspects) (sum : SameCapacity work new) where
    abbrev olds : List Suspect
    olds = map Object (slot_targets (Some old))

    pub written_follows : Follows s t work new 1
    written_follows = record {
      well_formed = well_written;
      noticed = λ n. subst (Noticed t) (sym noted) (content_noticed s c v old was work.suspects (olds ++ work.suspects) n (λ x m. Member_right x olds work.suspects m)
          (λ o m bare. Member_left (Object o) olds work.suspects (Member_map Object o (targets_of_value old) m)));
      as_many = refl;
      room = omega (arith, sum, ap length noted, length-append olds work.suspects, length-map (slot_targets (Some old)) Object, one_target (Some old));
      capacity = sum;
    }

-- the parts in which a content was put, and whose store and table count it
module _ (birth objects : ℕ) (contents later : CownContents) (frozen : FrozenParts) (slots : List (Option Value)) (rows next : List CountedRow) (regions table : List Region) (most : ℕ)
    (c : CownId) (old v : Value) where
  abbrev before : State
  before = heap_state birth objects contents frozen rows slots

  abbrev after : State
  after = heap_state birth objects later frozen next slots

  module _ (h : HasParts rows regions most before) (was : content_at contents.held c ≡ Some old) (may : SlotMayHold before v) (allowed : content_refusal before c v ≡ None)
      (counts : CountsOf next table (content_result before c v)) (held : later.held ≡ put_content contents.held c v) (made : later.made ≡ contents.made) where
    written : Reached next table most (content_result before c v)
    written = written_reached rows regions most before h c old v was may allowed next table counts

    -- the contents with that of the cown put in
    with_content : after ≡ stored_state (content_result before c v) next
    with_content =
        ap (λ m. heap_state birth objects (record { held = later.held; made = m }) frozen next slots) made
        ∙ ap (λ hs. heap_state birth objects (record { held = hs; made = contents.made }) frozen next slots) held

    pub put_is : after ≡ content_result before c v
    put_is = with_content ∙ written.is

    pub put_parts : HasParts next table most after
    put_parts = subst (HasParts next table most) (sym with_content) written.parts

    pub put_follows : (work new : WorkList) → new.suspects ≡ map Object (slot_targets (Some old)) ++ work.suspects → SameCapacity work new → Follows before after work new 1
    put_follows work new noted sum =
        subst (λ u. Follows before u work new 1) (sym put_is) (written_follows rows regions most before h c old v was may allowed work new noted sum)
