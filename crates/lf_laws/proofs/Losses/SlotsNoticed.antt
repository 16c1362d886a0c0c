-- Further edges from slots leave nothing without justification that had one.
use Rattle.std.proofs.Common.{Bool, List, Option, [], false, ◌++◌, ◌∷◌, ◌≡◌}
use Rattle.std.specs.List.{list_any}
use Rattle.lf_base.specs.Edges.{Edge, edges_by, Slot, rows_edges, slot_edges, slot_targets}
use Rattle.lf_base.specs.Names.{same_name}
use Rattle.lf_base.specs.Noticing.{Noticed}
use Rattle.lf_base.specs.PlainChanges.{with_slot, with_slots}
use Rattle.lf_base.specs.PlainState.{State}
use Rattle.lf_base.specs.Sets.{Member}
use Rattle.lf_base.specs.Suspects.{Suspect}
use Rattle.lf_base.specs.WalkCounts.{borrows}
use Rattle.lf_base.specs.declared.values.Value.{Value}
use Rattle.lf_base.proofs.ListLemmas.Members.{Member_left, Within, Within_append, Within_flat_map, any_more}
use Rattle.lf_laws.proofs.Losses.ContentNoticed.{watches_still}
use Rattle.std.proofs.Common.{refl}
use Rattle.std.proofs.lemmas.Bool.{both_ways, false_from_ne_true}

module _ (s : State) (slots : List (Option Value)) (w : List Suspect) (grow : (e : Edge) → Member e (slot_edges s.slots) → Member e (slot_edges slots)) (before : Noticed s w) where
  abbrev after : State
  after = with_slots s slots

  near_more : Within (slot_edges s.slots ++ rows_edges s.rows) (slot_edges slots ++ rows_edges s.rows)
  near_more = Within_append (slot_edges s.slots) (slot_edges slots) (rows_edges s.rows) (rows_edges s.rows) grow (λ x m. m)

  fewer : (p : Edge → Bool) → list_any p (slot_edges slots ++ rows_edges s.rows) ≡ false → list_any p (slot_edges s.slots ++ rows_edges s.rows) ≡ false
  fewer p n = false_from_ne_true _ (λ h. both_ways _ n (any_more p _ _ near_more h))

  pub slots_noticed : Noticed after w
  slots_noticed = record {
    locals = λ o h n. before.locals o h (fewer (λ e. same_name e.to o) n);
    regions = λ r h bare. watches_still s after r w w refl (λ u m. m) (before.regions r h (record { unowned = bare.unowned; unborrowed = fewer (borrows s.rows r) bare.unborrowed }));
    inners = λ o r h d n. before.inners o r h d (fewer (λ e. same_name e.to o) n);
  }

pub push_noticed : (s : State) (v : Option Value) (w : List Suspect) → Noticed s w → Noticed (with_slot s v) w
push_noticed s v w = slots_noticed s (s.slots ++ v ∷ []) w (Within_flat_map (λ slot. edges_by Slot (slot_targets slot)) s.slots (s.slots ++ v ∷ []) (λ x m. Member_left x s.slots (v ∷ []) m))
