-- A field that is written: what is asked for, and what the parts keep.
use Rattle.std.proofs.Common.{List, None, Option, Some, ap, arith, inl, inr, length, map, refl, subst, sym, true, ℕ, ◌++◌, ◌+◌, ◌<◌, ◌^◌, ◌∙◌, ◌≡◌, ◌≤◌}
use Rattle.std.proofs.lemmas.List.{length-append, length-map}
use Rattle.lf_base.specs.declared.ids.ObjId.{ObjId}
use Rattle.lf_base.specs.declared.values.Key.{Key}
use Rattle.lf_base.specs.declared.values.Owner.{Owner}
use Rattle.lf_base.specs.declared.values.Owner.TheVariants.{Frozen, In, Local}
use Rattle.lf_base.specs.declared.values.Value.{Value}
use Rattle.lf_base.specs.declared.values.Value.TheVariants.{Obj}
use Rattle.lf_base.specs.Edges.{Slot, slot_edges, slot_targets}
use Rattle.lf_base.specs.MoveSet.{move_set}
use Rattle.lf_base.specs.Noticing.{InSlot, Noticed, NoticesOld}
use Rattle.lf_base.specs.Owners.{names, owner_in, owner_of, row_at}
use Rattle.lf_base.specs.PlainState.{Row, State}
use Rattle.lf_base.specs.Sets.{Member}
use Rattle.lf_base.specs.Suspects.{Object, Suspect}
use Rattle.lf_base.specs.TakeResult.{row_field}
use Rattle.lf_base.specs.WellFormed.{SlotMayHold, WellFormed, from_near}
use Rattle.lf_base.specs.WriteResult.{moved, relabel, write_fields, write_refusal, write_result}
use Rattle.lf_base.proofs.ListLemmas.Members.{Member_left, Member_map, Member_right}
use Rattle.lf_barrier.specs.WritePlans.{IsAsked, IsPlanFor, MovesTo, Planned, home_owner}
use Rattle.lf_domain.specs.Counts.{CountsOf}
use Rattle.lf_graph.specs.StoredRows.{CountedRow}
use Rattle.lf_laws.proofs.Edges.Cells.{cells_write}
use Rattle.lf_laws.proofs.Losses.WriteNoticed.{slot_borrows, write_noticed}
use Rattle.lf_laws.proofs.Writes.WriteLaw.{write_law}
use Rattle.lf_regions.specs.declared.region.Region.{Region}
use Rattle.lf_settle.specs.Drops.{SameCapacity}
use Rattle.lf_settle.specs.WorkLists.{WorkList}
use Rattle.lf_settle.proofs.Counting.EdgeNoticed.{one_or_none}
use Rattle.lf_heap.specs.Following.{Follows}
use Rattle.lf_heap.specs.Heaps.{HasParts}
use Rattle.lf_heap.proofs.States.StoredStates.{Reached, cells_parted, domain_of, reached}

-- an object that a slot names may be held by a further one
pub named_may_be_held : (s : State) (o : ObjId) → WellFormed s → InSlot s o → SlotMayHold s (Obj o)
named_may_be_held s o well m = record {
  object_there = λ p n. elim n [
    | inl e ↦ subst (λ q. from_near (owner_of s q) ≡ true) e (well.leads (record { from = Slot; to = o }) (Member_left (record { from = Slot; to = o }) (slot_edges s.slots) _ m))
    | inr n ↦ absurd n
  ];
  cown_numbered = λ c n. absurd n;
}

-- further suspects notice no less
noticed_more : (s : State) (more old : List Suspect) → Noticed s old → Noticed s (more ++ old)
noticed_more s more old n = record {
  locals = λ o h p. Member_right (Object o) more old (n.locals o h p);
  regions = λ r h b. let z = n.regions r h b in (z.0, (Member_right z.0 more old z.1.0, z.1.1));
  inners = λ o r h d p. Member_right (Object o) more old (n.inners o r h d p);
}

-- a write leaves as many rows
relabelled_length : (rows : List Row) (os : List ObjId) (w : Owner) → length (relabel rows os w) ≡ length rows
relabelled_length rows os w = length-map rows _

moved_length : (rows set : List Row) (w : Option Owner) → length (moved rows set w) ≡ length rows
moved_length rows set None = refl
moved_length rows set (Some Local) = refl
moved_length rows set (Some Frozen) = refl
moved_length rows set (Some (In r)) = relabelled_length rows (names set) (In r)

written_length : (s : State) (x : ObjId) (k : Key) (v : Value) → length (write_result s x k v).rows ≡ length s.rows
written_length s x k v = moved_length (write_fields s.rows x k v) (move_set s v) (owner_in s.rows x) ∙ length-map s.rows _

-- the target of a plan has the plan's owner
home_is : (s : State) (x : ObjId) (v : Value) (home : Option ObjId) (os : List ObjId) → MovesTo s x v home os → owner_in s.rows x ≡ Some (home_owner home)
home_is s x v None os m = m.0
home_is s x v (Some r) os m = m.target

module _ (rows : List CountedRow) (regions : List Region) (most : ℕ) (s : State) (h : HasParts rows regions most s) (x : ObjId) (k : Key) (v : Value) (may : SlotMayHold s v) where
  abbrev well : WellFormed s
  well = (h.counted).well_formed

  abbrev t : State
  t = write_result s x k v

  pub may_ask : InSlot s x → IsAsked rows regions s x v
  may_ask m = record { domain = domain_of rows regions most s h; target = named_may_be_held s x well m; value = may }

  -- ---- a plan that was made and carried out
  module _ (plan : Planned) (at : plan.target ≡ x) (by : plan.key ≡ k) (puts : plan.value ≡ v) (p : IsPlanFor s plan) where
    pub has_owner : owner_in s.rows x ≡ Some (home_owner plan.home)
    has_owner = subst (λ y. owner_in s.rows y ≡ Some (home_owner plan.home)) at (home_is s plan.target plan.value plan.home plan.moved p.moves)

    allowed : write_refusal s x k v ≡ None
    allowed = subst (λ y. write_refusal s y k v ≡ None) at (subst (λ i. write_refusal s plan.target i v ≡ None) by (subst (λ u. write_refusal s plan.target plan.key u ≡ None) puts p.allowed))

    well_after : WellFormed t
    well_after = (write_law s well x k v may (home_owner plan.home) has_owner).0 allowed

    module _ (next : List CountedRow) (table : List Region) (c : CountsOf next table (write_result s plan.target plan.key plan.value)) where
      counts : CountsOf next table t
      counts = subst (λ u. CountsOf next table (write_result s x k u)) puts (subst (λ i. CountsOf next table (write_result s x i plan.value)) by (subst (λ y. CountsOf next table (write_result s y plan.key plan.value)) at c))

      pub write_reached : most + 1 < 2 ^ 62 → Reached next table (most + 1) t
      write_reached few = reached next table (most + 1) t (record {
        counted = record { counts = counts; well_formed = well_after };
        cells = omega (arith, cells_write s x k v well, cells_parted s, cells_parted t, h.cells);
        few = few;
        slots = h.slots;
      })

    -- ---- with the old value as a suspect
    module _ (old : Option Value) (was : old ≡ row_field (row_at s.rows x) k) (work new : WorkList) (noted : new.suspects ≡ map Object (slot_targets old) ++ work.suspects) (sum : SameCapacity work new)
        (one : length (slot_targets old) ≤ 1) where
      notices_old : NoticesOld s x k v (map Object (slot_targets old) ++ work.suspects)
      notices_old o m lone = Member_left (Object o) (map Object (slot_targets old)) work.suspects (Member_map Object o (slot_targets old) (subst (λ w. Member o (slot_targets w)) (sym was) m))

      noticed_after : InSlot s x → Noticed s work.suspects → Noticed t new.suspects
      noticed_after m n =
          subst (Noticed t) (sym noted)
          (write_noticed s well x k v may (map Object (slot_targets old) ++ work.suspects) (home_owner plan.home) has_owner allowed (noticed_more s (map Object (slot_targets old)) work.suspects n) notices_old
          (slot_borrows s well x k v may (map Object (slot_targets old) ++ work.suspects) m))

      pub write_follows : InSlot s x → Follows s t work new 1
      write_follows m = record {
        well_formed = well_after;
        noticed = noticed_after m;
        as_many = written_length s x k v;
        room = omega (arith, sum, ap length noted, length-append (map Object (slot_targets old)) work.suspects, length-map (slot_targets old) Object, one);
        capacity = sum;
      }

-- a slot has at most one target
pub one_target : (w : Option Value) → length (slot_targets w) ≤ 1
one_target w = elim (one_or_none w) [
  | inl e ↦ omega (arith, ap length e)
  | inr e ↦ omega (arith, ap length e.1)
]
