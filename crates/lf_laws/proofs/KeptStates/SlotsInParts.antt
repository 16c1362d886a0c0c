-- Dropping before slots change, and before the end, changes nothing of what stays then.
use Rattle.std.proofs.Common.{Bool, List, None, Option, Some, [], ap, false, inl, inr, not, refl, subst, sym, true, ◌||◌, ◌∙◌, ◌≡◌}
use Rattle.std.proofs.lemmas.Bool.{both_ways, false_from_ne_true}
use Rattle.std.proofs.lemmas.Option.{none-some}
use Rattle.std.specs.List.{filter}
use Rattle.lf_base.specs.declared.ids.ObjId.{ObjId}
use Rattle.lf_base.specs.declared.values.Owner.{Owner}
use Rattle.lf_base.specs.declared.values.Owner.TheVariants.{In}
use Rattle.lf_base.specs.declared.values.Value.{Value}
use Rattle.lf_base.specs.Edges.{edges, row_edges, rows_edges, slot_edges}
use Rattle.lf_base.specs.EndResult.{end_result, without_near}
use Rattle.lf_base.specs.Kept.{kept, kept_rows}
use Rattle.lf_base.specs.Names.{is_local}
use Rattle.lf_base.specs.Owners.{has_row, or_frozen, owner_in, owner_of}
use Rattle.lf_base.specs.PlainChanges.{with_slots}
use Rattle.lf_base.specs.PlainState.{Row, State}
use Rattle.lf_base.specs.Sets.{Member}
use Rattle.lf_base.specs.WellFormed.{SlotMayHold, WellFormed, from_near}
use Rattle.lf_base.proofs.ListLemmas.Filters.{Member_of_filter, filter_swap}
use Rattle.lf_base.proofs.ListLemmas.Members.{Member_of_append, Member_right, Within, Within_append, Within_flat_map}
use Rattle.lf_base.proofs.ListLemmas.Sublists.{sub_filter}
use Rattle.lf_laws.proofs.Changes.FurtherSlot.{slot_held}
use Rattle.lf_laws.proofs.Changes.SameOwners.{slot_edge, value_may_be_held}
use Rattle.lf_laws.proofs.Dropping.KeptState.{kept_is_left, lost, well_formed_kept}
use Rattle.lf_laws.proofs.Dropping.RowsInPlace.{rows_in_place}
use Rattle.lf_laws.proofs.KeptStates.AmongKept.{AmongKept, gone_goes, gone_here, kept_among}
use Rattle.lf_laws.proofs.Rows.RowsByName.{distinct_sub, owner_has, owner_mem, owner_there, row_of}

module _ (s : State) (w : WellFormed s) where
  abbrev gone : ObjId → Bool
  gone = lost s w

  pub gone_mutable : (o : ObjId) → gone o ≡ true → (has_row s.given o || has_row s.own o) ≡ true → ⊥
  gone_mutable o h f = let v = owner_there s.rows (rows_in_place s w).distinct o (gone_here s w o h) in none-some v.owner (sym ((rows_in_place s w).apart o f) ∙ v.is)

  -- a row that goes has no owner in what stays
  owner_gone : (o : ObjId) → gone o ≡ true → (v : Option Owner) → owner_in (kept_rows s) o ≡ v → v ≡ None
  owner_gone o h None e = refl
  owner_gone o h (Some v) e = absurd (both_ways _ (gone_goes s w o h) (owner_has (kept_rows s) o v e))

  pub nothing_there : (o : ObjId) → gone o ≡ true → from_near (owner_of (kept s) o) ≡ true → ⊥
  nothing_there o h e =
      let f : (has_row s.given o || has_row s.own o) ≡ false = false_from_ne_true _ (gone_mutable o h) in
      both_ways _ (λ i. from_near (or_frozen (f i) (owner_gone o h (owner_in (kept_rows s) o) refl i))) e

  module _ (ws : List (Option Value)) (may : (v : Value) → Member (Some v) ws → SlotMayHold (kept s) v) where
    slots_among : AmongKept s (with_slots s ws) gone
    slots_among = record {
      distinct = (rows_in_place s w).distinct;
      owners = λ o v h e. inl e;
      edges = λ e m h. elim (Member_of_append e (slot_edges ws) _ m) [
        | inl k ↦ absurd (nothing_there e.to h (slot_edge (kept s) ws (well_formed_kept s w) may e k).1)
        | inr k ↦ Member_right e (slot_edges s.slots) _ k
      ];
      into = λ o r h e. e;
      mutable = gone_mutable;
    }

    pub slots_in_parts : kept (with_slots (kept s) ws) ≡ kept (with_slots s ws)
    slots_in_parts = ap (λ rows. kept (record s { slots = ws; rows = rows })) (kept_is_left s w) ∙ kept_among s w (with_slots s ws) slots_among

  pub fewer_in_parts : (ws : List (Option Value)) → ((v : Value) → Member (Some v) ws → Member (Some v) s.slots) → kept (with_slots (kept s) ws) ≡ kept (with_slots s ws)
  fewer_in_parts ws h = slots_in_parts ws (λ v m. value_may_be_held (kept s) v (well_formed_kept s w) (slot_held (kept s) v (h v m)))

  -- ---- the end
  abbrev not_local : Row → Bool
  not_local r = not (is_local r.owner)

  near_owner : (o : ObjId) (v : Owner) → owner_in (filter not_local s.rows) o ≡ Some v → owner_in s.rows o ≡ Some v
  near_owner o v e =
      let y = row_of (filter not_local s.rows) o v e in
      let m = (Member_of_filter not_local y.row s.rows y.mem).0 in
      subst (λ n. owner_in s.rows n ≡ Some v) y.name (owner_mem s.rows (rows_in_place s w).distinct y.row m ∙ ap Some y.owner)

  near_edges : Within (edges (without_near s)) (edges s)
  near_edges e m = Member_right e (slot_edges s.slots) _
      (Within_append (rows_edges (without_near s).rows) (rows_edges s.rows) _ _ (Within_flat_map row_edges (without_near s).rows s.rows (λ x n. (Member_of_filter not_local x s.rows n).0)) (λ x h. h) e m)

  end_among : AmongKept s (without_near s) gone
  end_among = record {
    distinct = distinct_sub (sub_filter not_local s.rows) (rows_in_place s w).distinct;
    owners = λ o v h e. inl (near_owner o v e);
    edges = λ e m h. near_edges e m;
    into = λ o r h e. near_owner o (In r) e;
    mutable = gone_mutable;
  }

  pub end_in_parts : end_result (kept s) ≡ end_result s
  end_in_parts =
      ap (λ rows. kept (record s { slots = []; rows = rows }))
      (ap (filter not_local) (kept_is_left s w) ∙ filter_swap not_local (λ (r : Row). not (gone r.name)) s.rows)
      ∙ kept_among s w (without_near s) end_among
