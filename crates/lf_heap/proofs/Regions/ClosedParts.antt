-- A region that was closed: what the parts keep, and what is noticed.
use Rattle.std.proofs.Common.{List, None, Option, Some, [], ap, append-nil, arith, cond, drop, inl, inr, is_some, length, map, refl, reverse, subst, sym, take, true, ℕ, ◌++◌, ◌∙◌, ◌∷◌, ◌≡◌, ◌≤◌}
use Rattle.std.proofs.Math.Seq.{take-append_seam}
use Rattle.std.proofs.lemmas.Bool.{and_parts}
use Rattle.std.proofs.lemmas.List.{length-append, length-map, length-reverse, reverse-append}
use Rattle.lf_base.specs.declared.faults.Fault.TheVariants.{NotBridge}
use Rattle.lf_base.specs.declared.ids.ObjId.{ObjId}
use Rattle.lf_base.specs.declared.values.Owner.{Owner}
use Rattle.lf_base.specs.declared.values.Value.{Value}
use Rattle.lf_base.specs.CloseResult.{close_refusal, close_refusal_by, close_result}
use Rattle.lf_base.specs.HeapCalls.{on_bridge}
use Rattle.lf_base.specs.Noticing.{Noticed}
use Rattle.lf_base.specs.Operands.{set_value}
use Rattle.lf_base.specs.Owners.{bridge_of, has_name, owner_in}
use Rattle.lf_base.specs.PlainChanges.{slot_at}
use Rattle.lf_base.specs.PlainState.{Row, State}
use Rattle.lf_base.specs.Sets.{Member}
use Rattle.lf_base.specs.Suspects.{Object}
use Rattle.lf_base.specs.WellFormed.{WellFormed}
use Rattle.lf_base.proofs.ListLemmas.Members.{Member_left, Member_map, Member_right}
use Rattle.lf_domain.specs.Counts.{CountsOf}
use Rattle.lf_graph.specs.StoredRows.{CountedRow}
use Rattle.lf_laws.proofs.Changes.FewerFields.{close_keeps}
use Rattle.lf_laws.proofs.Edges.Cells.{cells_close}
use Rattle.lf_laws.proofs.Rows.RowsByName.{Member_has_name, has_name_Member, owner_has, row_there}
use Rattle.lf_regions.specs.declared.region.Region.{Region}
use Rattle.lf_settle.specs.Drops.{SameCapacity, stored_state}
use Rattle.lf_settle.specs.WorkLists.{WorkList}
use Rattle.lf_transfer.specs.Closing.{HoldsBridge, IsOpenedBy, LetsLoose, is_inner, is_let_loose}
use Rattle.lf_transfer.proofs.Closings.ClosedSteps.{no_more_than_rows, ordered_length}
use Rattle.lf_transfer.proofs.Closings.LooseSuspects.{loosened_noticed}
use Rattle.lf_heap.specs.declared.contents.CownContents.{CownContents}
use Rattle.lf_heap.specs.declared.frozen.FrozenParts.{FrozenParts}
use Rattle.lf_heap.specs.Following.{Follows, closed_at}
use Rattle.lf_heap.specs.Heaps.{HasParts, heap_state}
use Rattle.lf_heap.proofs.Calls.SlotsAfter.{closed_slots}
use Rattle.lf_heap.proofs.States.StoredStates.{Reached, cells_parted, domain_of, reached}

-- ---- the bridge of a close that isn't refused
module _ (s : State) (at : ℕ) where
  bridge_there : (v : Value) → slot_at s.slots at ≡ Some v → (b : Option ObjId) → bridge_of s v ≡ b → cond (is_some b) None (Some NotBridge) ≡ None → (r : ObjId) × HoldsBridge s at r
  bridge_there v here None e n = absurd (cc)
  bridge_there v here (Some r) e n = (r, record { value = v; held = here; bridge = e })

  slot_there : (w : Option Value) → slot_at s.slots at ≡ w → close_refusal_by s w ≡ None → (r : ObjId) × HoldsBridge s at r
  slot_there None e n = absurd (cc)
  slot_there (Some v) e n = bridge_there v e (bridge_of s v) refl n

  pub held_bridge : close_refusal s at ≡ None → (r : ObjId) × HoldsBridge s at r
  held_bridge n = slot_there (slot_at s.slots at) refl n

in_reverse : (o : ObjId) (os : List ObjId) → Member o os → Member o (reverse os)
in_reverse o [] m = absurd m
in_reverse o (p ∷ ps) (inl e) = subst (Member o) (sym (reverse-append (p ∷ []) ps)) (Member_right o (reverse ps) (p ∷ []) (inl e))
in_reverse o (p ∷ ps) (inr m) = subst (Member o) (sym (reverse-append (p ∷ []) ps)) (Member_left o (reverse ps) (p ∷ []) (in_reverse o ps m))

inner_owner : (o : ObjId) (w : Option Owner) → is_inner o w ≡ true → (u : Owner) × (w ≡ Some u)
inner_owner o None e = absurd (cc)
inner_owner o (Some u) e = (u, refl)

-- a whole list that was written in place of one as long
pub written_back : (old new : List (Option Value)) (n : ℕ) → n ≡ length old → length new ≡ length old → take n (new ++ drop (length new) old) ≡ new
written_back old new n many same = ap (λ k. take k (new ++ drop (length new) old)) (many ∙ sym same) ∙ take-append_seam new (drop (length new) old)

module _ (birth objects : ℕ) (contents : CownContents) (frozen : FrozenParts) (rows : List CountedRow) (slots : List (Option Value)) (regions : List Region) (most : ℕ)
    (h : HasParts rows regions most (heap_state birth objects contents frozen rows slots)) where
  abbrev s : State
  s = heap_state birth objects contents frozen rows slots

  pub opened : (seen : List (Option Value)) → seen ≡ slots → IsOpenedBy rows regions seen s
  opened seen same = record { domain = domain_of rows regions most s h; in_slots = sym same }

  pub rows_are : length s.rows ≡ length rows
  rows_are = ordered_length rows

  -- ---- a close that was made
  module _ (at : ℕ) (r : ObjId) (held : HoldsBridge s at r) where
    abbrev t : State
    t = close_result s at r

    same_length : length t.slots ≡ length slots
    same_length = closed_slots at (Some r) s

    pub closed_is : t ≡ closed_at at s
    closed_is = sym (ap (λ w. on_bridge (bridge_of s (set_value w)) (close_result s at) s) held.held ∙ ap (λ b. on_bridge b (close_result s at) s) held.bridge)

    well_after : WellFormed t
    well_after = close_keeps s at r h.counted.well_formed

    -- ---- what the parts keep
    module _ (next : List CountedRow) (table : List Region) (counts : CountsOf next table t) (now : List (Option Value)) (put : now ≡ t.slots) where
      stored : Reached next table most t
      stored = reached next table most t (record {
        counted = record { counts = counts; well_formed = well_after };
        cells = omega (arith, cells_close s at r, cells_parted s, cells_parted t, same_length, h.cells);
        few = h.few;
        slots = omega (arith, same_length, h.slots);
      })

      with_them : heap_state birth objects contents frozen next now ≡ stored_state t next
      with_them = ap (heap_state birth objects contents frozen next) put

      pub close_is : heap_state birth objects contents frozen next now ≡ t
      close_is = with_them ∙ stored.is

      pub close_parts : HasParts next table most (heap_state birth objects contents frozen next now)
      close_parts = subst (HasParts next table most) (sym with_them) stored.parts

    -- ---- what is noticed
    module _ (old names : List ObjId) (none : old ≡ []) (loose : LetsLoose s t old names) where
      all_are : names ≡ loose.more
      all_are = loose.grows ∙ ap (λ os. loose.more ++ os) none ∙ append-nil loose.more

      row_named : (o : ObjId) → Member o loose.more → (x : Row) × (Member x s.rows × (x.name ≡ o))
      row_named o m =
          let w = inner_owner o (owner_in s.rows o) (and_parts _ _ (sym (loose.each o) ∙ Member_has_name o loose.more m)).0 in
          row_there s.rows o (owner_has s.rows o w.0 w.1)

      -- they are no more than the rows
      pub few_loose : length names ≤ length s.rows
      few_loose = omega (arith, ap length all_are, no_more_than_rows s.rows loose.more loose.once row_named)

      suspected : (o : ObjId) → is_let_loose s t o ≡ true → Member (Object o) (map Object (reverse names))
      suspected o e = Member_map Object o (reverse names) (in_reverse o names (has_name_Member o names (ap (λ os. has_name os o) all_are ∙ loose.each o ∙ e)))

      pub close_follows : (work new : WorkList) → new.suspects ≡ map Object (reverse names) ++ work.suspects → SameCapacity work new
          → Follows s t work new (length s.rows)
      close_follows work new noted sum =
          let more = map Object (reverse names) in
          record {
            well_formed = well_after;
            noticed = λ n. subst (Noticed t) (sym noted)
                (loosened_noticed s at r h.counted.well_formed held work.suspects (more ++ work.suspects) n (λ u m. Member_right u more work.suspects m)
                (λ o e. Member_left (Object o) more work.suspects (suspected o e)));
            as_many = length-map s.rows _;
            room = omega (arith, sum, few_loose, ap length noted, length-append more work.suspects, length-map (reverse names) Object, length-reverse names);
            capacity = sum;
          }
