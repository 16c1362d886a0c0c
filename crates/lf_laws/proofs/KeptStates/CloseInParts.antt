-- Dropping before a closing changes nothing of what stays after it, where the regions below that stay are below still.
use Rattle.std.proofs.Common.{Bool, List, None, Option, Some, [], ap, cond, inl, inr, map, not, refl, subst, sym, true, ℕ, ◌∙◌, ◌∷◌, ◌≡◌, false}
use Rattle.std.proofs.lemmas.Bool.{both_ways, false_from_ne_true}
use Rattle.std.specs.Cmp.{both_ways as same_test}
use Rattle.std.specs.List.{filter, list_any}
use Rattle.lf_base.specs.declared.ids.ObjId.{ObjId}
use Rattle.lf_base.specs.declared.values.Key.{Key}
use Rattle.lf_base.specs.declared.values.Owner.TheVariants.{In}
use Rattle.lf_base.specs.declared.values.Value.{Value}
use Rattle.lf_base.specs.declared.values.Value.TheVariants as value
use Rattle.lf_base.specs.CloseResult.{close_result, closed_fields, closed_slot, closed_value, leads_into}
use Rattle.lf_base.specs.Edges.{Edge, Field, Slot, edges, edges_by, row_edges, rows_edges, slot_edges, slot_targets}
use Rattle.lf_base.specs.Kept.{kept, kept_rows}
use Rattle.lf_base.specs.Names.{is_local, targets_of_value}
use Rattle.lf_base.specs.Owners.{has_row, is_in, owner_in}
use Rattle.lf_base.specs.Ownership.{below}
use Rattle.lf_base.specs.PlainChanges.{put_slot, slot_at}
use Rattle.lf_base.specs.PlainState.{Row, State}
use Rattle.lf_base.specs.Sets.{Member}
use Rattle.lf_base.specs.WellFormed.{WellFormed}
use Rattle.lf_base.proofs.ListLemmas.Members.{Member_any, Member_flat_map, Member_left, Member_map, Within, Within_append, Within_flat_map, any_Member}
use Rattle.lf_base.proofs.NameLemmas.SameNames.{same_name_itself}
use Rattle.lf_laws.proofs.Changes.FewerFields.{close_keeps, closed_row, closed_trims, edge_old, slots_after, trimmed_owner}
use Rattle.lf_laws.proofs.Dropping.KeptRows.{kept_in}
use Rattle.lf_laws.proofs.Dropping.KeptState.{bridge_stays, kept_is_left, lost}
use Rattle.lf_laws.proofs.Dropping.RowsInPlace.{rows_in_place}
use Rattle.lf_laws.proofs.Dropping.RowsWithout.{owner_stay}
use Rattle.lf_laws.proofs.KeptStates.AmongKept.{AmongKept, begins_lost, gone_goes, kept_among, not_gone}
use Rattle.lf_laws.proofs.KeptStates.ChangesInParts.{mapped_rows}
use Rattle.lf_laws.proofs.KeptStates.SlotsInParts.{gone_mutable}
use Rattle.lf_laws.proofs.Owners.OwnersGoRound.{above_before, owns_within}
use Rattle.lf_laws.proofs.Owners.PathsOfSets.{below_path}
use Rattle.lf_laws.proofs.Rows.OwnerTests.{in_region}
use Rattle.lf_laws.proofs.Rows.RowEdges.{edge_in, field_is, row_edge}
use Rattle.lf_laws.proofs.Rows.RowsByName.{mem_has, owner_has, owner_mem, row_of}

module _ (s : State) (w : WellFormed s) (at : ℕ) (r : ObjId) (still : (q : ObjId) → Member q (below s r) → has_row (kept_rows s) q ≡ true → Member q (below (kept s) r)) where
  abbrev gone : ObjId → Bool
  gone = lost s w

  -- ---- what lies below
  in_before : (q p : ObjId) → is_in q (owner_in (kept_rows s) p) ≡ true → is_in q (owner_in s.rows p) ≡ true
  in_before q p e =
      let x = row_of (kept_rows s) p (In q) (in_region q (owner_in (kept_rows s) p) e) in
      ap (is_in q) (subst (λ n. owner_in s.rows n ≡ Some (In q)) x.name (owner_mem s.rows (rows_in_place s w).distinct x.row (kept_in s x.row x.mem) ∙ ap Some x.owner)) ∙ same_name_itself q

  edges_before : Within (edges (kept s)) (edges s)
  edges_before = Within_append (slot_edges s.slots) (slot_edges s.slots) _ _ (λ x h. h)
      (Within_append (rows_edges (kept_rows s)) (rows_edges s.rows) _ _ (Within_flat_map row_edges (kept_rows s) s.rows (kept_in s)) (λ x h. h))

  below_before : (q : ObjId) → Member q (below (kept s) r) → Member q (below s r)
  below_before q m = (below_path s r q).1 (above_before s (kept s) (owns_within s (kept s) edges_before in_before) ((below_path (kept s) r q).0 m))

  -- ---- what leads into it, from what stays
  abbrev Stays : Value → Type 0
  Stays v = (o : ObjId) → Member o (targets_of_value v) → gone o ≡ false

  owner_still : (o : ObjId) → gone o ≡ false → owner_in (kept_rows s) o ≡ owner_in s.rows o
  owner_still o n = ap (λ rows. owner_in rows o) (kept_is_left s w) ∙ owner_stay s.rows gone o n

  bridge_still : (o q : ObjId) → gone o ≡ false → is_in q (owner_in s.rows o) ≡ true → has_row (kept_rows s) q ≡ true
  bridge_still o q n e = let own = in_region q (owner_in s.rows o) e in bridge_stays s w o q own (not_gone s w o (owner_has s.rows o (In q) own) n)

  abbrev InTree : State → ObjId → Bool
  InTree t o = list_any (λ q. is_in q (owner_in t.rows o)) (r ∷ below t r)

  tree_before : (o : ObjId) → gone o ≡ false → InTree (kept s) o ≡ true → InTree s o ≡ true
  tree_before o n e =
      let x = any_Member (λ q. is_in q (owner_in (kept_rows s) o)) (r ∷ below (kept s) r) e in
      Member_any (λ q. is_in q (owner_in s.rows o)) x.0 (r ∷ below s r) (elim x.1.0 [ inl k ↦ inl k | inr k ↦ inr (below_before x.0 k) ]) (in_before x.0 o x.1.1)

  tree_after : (o : ObjId) → gone o ≡ false → InTree s o ≡ true → InTree (kept s) o ≡ true
  tree_after o n e =
      let x = any_Member (λ q. is_in q (owner_in s.rows o)) (r ∷ below s r) e in
      Member_any (λ q. is_in q (owner_in (kept_rows s) o)) x.0 (r ∷ below (kept s) r)
      (elim x.1.0 [ inl k ↦ inl k | inr k ↦ inr (still x.0 k (bridge_still o x.0 n x.1.1)) ]) (ap (is_in x.0) (owner_still o n) ∙ x.1.1)

  same_leads : (v : Value) → Stays v → leads_into (kept s) r v ≡ leads_into s r v
  same_leads v h = same_test _ _
      (λ e. let x = any_Member (InTree (kept s)) (targets_of_value v) e in Member_any (InTree s) x.0 (targets_of_value v) x.1.0 (tree_before x.0 (h x.0 x.1.0) x.1.1))
      (λ e. let x = any_Member (InTree s) (targets_of_value v) e in Member_any (InTree (kept s)) x.0 (targets_of_value v) x.1.0 (tree_after x.0 (h x.0 x.1.0) x.1.1))

  same_value : (v : Value) → Stays v → closed_value (kept s) r v ≡ closed_value s r v
  same_value v h = ap (λ b. cond b value.None v) (same_leads v h)

  -- ---- slots and fields
  slot_stays : (v : Value) → Member (Some v) s.slots → Stays v
  slot_stays v m o n = false_from_ne_true _ (λ h.
      let e : Edge = record { from = Slot; to = o } in
      let b = begins_lost s w e (Member_left e (slot_edges s.slots) _ (Member_flat_map (λ slot. edges_by Slot (slot_targets slot)) (Some v) e s.slots m (Member_map (λ (z : ObjId). record { from = Slot; to = z }) o (targets_of_value v) n))) h in
      let z = b.1.0 in cc)

  same_slots : (slots : List (Option Value)) → ((v : Value) → Member (Some v) slots → Stays v) → map (closed_slot (kept s) r) slots ≡ map (closed_slot s r) slots
  same_slots [] h = refl
  same_slots (None ∷ xs) h = ap (λ l. None ∷ l) (same_slots xs (λ v m. h v (inr m)))
  same_slots (Some v ∷ xs) h = λ i. Some (same_value v (h v (inl refl)) i) ∷ same_slots xs (λ u m. h u (inr m)) i

  field_stays : (x : Row) → Member x (kept_rows s) → (f : Key × Value) → Member f x.fields → Stays f.1
  field_stays x m f k o n = false_from_ne_true _ (λ h.
      let e : Edge = record { from = Field x.name; to = o } in
      let b = begins_lost s w e (edge_in s e (row_edge s.rows x e (kept_in s x m) refl (Member_flat_map (λ (g : Key × Value). targets_of_value g.1) f o x.fields k n))) h in
      both_ways _ (gone_goes s w x.name (ap gone (field_is x.name b.0 b.1.0) ∙ b.1.1.0)) (mem_has x (kept_rows s) m))

  abbrev closed_in : State → Key × Value → Key × Value
  closed_in t f = (f.0, closed_value t r f.1)

  same_fields : (fs : List (Key × Value)) → ((f : Key × Value) → Member f fs → Stays f.1) → map (closed_in (kept s)) fs ≡ map (closed_in s) fs
  same_fields [] h = refl
  same_fields (f ∷ fs) h = λ i. (f.0, same_value f.1 (h f (inl refl)) i) ∷ same_fields fs (λ g m. h g (inr m)) i

  same_row : (x : Row) → Member x (kept_rows s) → closed_fields (kept s) r x ≡ closed_fields s r x
  same_row x m = ap (λ fs. cond (is_local x.owner) (record x { fields = fs }) x) (same_fields x.fields (field_stays x m))

  same_rows : (rows : List Row) → ((x : Row) → Member x rows → closed_fields (kept s) r x ≡ closed_fields s r x) → map (closed_fields (kept s) r) rows ≡ map (closed_fields s r) rows
  same_rows [] h = refl
  same_rows (x ∷ xs) h = λ i. h x (inl refl) i ∷ same_rows xs (λ y m. h y (inr m)) i

  -- ---- the closing
  close_among : AmongKept s (close_result s at r) gone
  close_among = record {
    distinct = (rows_in_place (close_result s at r) (close_keeps s at r w)).distinct;
    owners = λ o v h e. inl (sym (trimmed_owner (closed_row s r) (closed_trims s r) s.rows o) ∙ e);
    edges = λ e m h. edge_old (closed_row s r) (closed_trims s r) s (put_slot (map (closed_slot s r) s.slots) at (slot_at s.slots at)) w (slots_after s r at) e m;
    into = λ o q h e. sym (trimmed_owner (closed_row s r) (closed_trims s r) s.rows o) ∙ e;
    mutable = gone_mutable s w;
  }

  rows_left : map (closed_fields (kept s) r) (kept_rows s) ≡ filter (λ x. not (gone x.name)) (map (closed_fields s r) s.rows)
  rows_left = same_rows (kept_rows s) same_row ∙ mapped_rows s w (closed_row s r) (closed_trims s r).name

  pub close_in_parts : kept (close_result (kept s) at r) ≡ kept (close_result s at r)
  close_in_parts =
      (λ i. kept (record s { slots = put_slot (same_slots s.slots slot_stays i) at (slot_at s.slots at); rows = rows_left i }))
      ∙ kept_among s w (close_result s at r) close_among
