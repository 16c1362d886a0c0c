-- What a write leaves without justification: the old value's object, and the home of the rows that moved.
use Rattle.std.proofs.Common.{Bool, List, Some, ap, cond, false, inl, inr, refl, subst, sym, true, ◌&&◌, ◌++◌, ◌||◌, ◌∙◌, ◌∷◌, ◌≡◌, ◌⊎◌, [], None}
use Rattle.lf_base.specs.declared.ids.ObjId.{ObjId}
use Rattle.lf_base.specs.declared.values.Key.{Key}
use Rattle.lf_base.specs.declared.values.Owner.{Owner}
use Rattle.lf_base.specs.declared.values.Owner.TheVariants.{Frozen, In, Local}
use Rattle.lf_base.specs.declared.values.Value.{Value}
use Rattle.lf_base.specs.Edges.{Content, Edge, Field, Slot, Source, content_edges, field_targets, rows_edges, slot_edges, slot_targets}
use Rattle.lf_base.specs.Kept.{is_owned_by, points, points_into}
use Rattle.lf_base.specs.MoveSet.{move_set}
use Rattle.lf_base.specs.Names.{same_key, same_name, targets_of_value}
use Rattle.lf_base.specs.Owners.{has_name, has_row, is_in, is_local_at, or_frozen, owner_in, row_at}
use Rattle.lf_base.specs.Ownership.{is_in_other, is_owning, owning_edges}
use Rattle.lf_base.specs.PlainState.{Row, State}
use Rattle.lf_base.specs.Sets.{Member}
use Rattle.lf_base.specs.Settling.{WatchedBy, Watches}
use Rattle.lf_base.specs.Suspects.{Bare, Object, Region, Suspect}
use Rattle.lf_base.specs.TakeResult.{field_at, row_field}
use Rattle.lf_base.specs.WalkCounts.{borrowed, is_borrower, refs}
use Rattle.lf_base.specs.WellFormed.{Leads, SlotMayHold, WellFormed, from_row, may_lead}
use Rattle.lf_base.specs.WriteResult.{is_at, moved, put_field, relabel, write_fields, write_refusal, write_result}
use Rattle.lf_laws.proofs.Rows.EdgeCounts.{with_rows}
use Rattle.lf_laws.proofs.Rows.EdgeSources.{slot_begins}
use Rattle.lf_laws.proofs.Rows.OwnerTests.{in_region, in_is, in_not_local, other_is}
use Rattle.lf_laws.proofs.Rows.RowEdges.{edge_row, row_edge}
use Rattle.std.proofs.lemmas.Bool.{both_ways, and_from, and_parts, not_from_false}
use Rattle.lf_base.proofs.ListLemmas.Members.{Member_any, Member_map, Within_append, any_Member, Member_left, Member_of_append, Member_right}
use Rattle.lf_laws.proofs.Writes.MovedRows.{edges_relabel, moved_names}
use Rattle.lf_base.proofs.NameLemmas.SameNames.{other_way, same_name_is, same_name_itself}
use Rattle.lf_laws.proofs.Dropping.RowsInPlace.{rows_in_place}
use Rattle.lf_base.proofs.ListLemmas.Tests.{some_is}
use Rattle.lf_laws.proofs.Rows.RowsByName.{at_mem}
use Rattle.lf_laws.proofs.Writes.WriteLaw.{Changes, kind, local_changes, mutable_at, region_changes, shifted, unmoved, write_law}
use Rattle.lf_base.specs.Noticing.{Lone, Noticed, NoticesOld, WatchesHome, bared, field_names, unpointed}
use Rattle.lf_laws.proofs.Losses.DroppedSets.{bare_counts, inner_points, local_points}

-- ---- the edges that a write leaves
put_stays : (fs : List (Key × Value)) (k : Key) (v : Value) (o : ObjId) → Member o (field_targets fs) → Member o (field_targets (put_field fs k v)) ⊎ Member o (slot_targets (field_at fs k))
put_stays [] k v o m = absurd m
put_stays (f ∷ fs) k v o m =
    elim (same_key f.0 k) as (λ b. Member o (field_targets (cond b ((k, v) ∷ fs) (f ∷ put_field fs k v))) ⊎ Member o (slot_targets (cond b (Some f.1) (field_at fs k)))) [
      | true ↦ elim (Member_of_append o (targets_of_value f.1) (field_targets fs) m) [
        | inl n ↦ inr n
        | inr n ↦ inl (Member_right o (targets_of_value v) (field_targets fs) n)
      ]
      | false ↦ elim (Member_of_append o (targets_of_value f.1) (field_targets fs) m) [
        | inl n ↦ inl (Member_left o (targets_of_value f.1) (field_targets (put_field fs k v)) n)
        | inr n ↦ elim (put_stays fs k v o n) [
          | inl z ↦ inl (Member_right o (targets_of_value f.1) (field_targets (put_field fs k v)) z)
          | inr z ↦ inr z
        ]
      ]
    ]

module _ (s : State) (t : WellFormed s) (x : ObjId) (k : Key) (v : Value) where
  abbrev after_put : Row → Row
  after_put r = cond (is_at x r) (record r { fields = put_field r.fields k v }) r

  pub edge_stays : (e : Edge) → Member e (rows_edges s.rows) → Member e (rows_edges (write_fields s.rows x k v)) ⊎ Member e.to (field_names s x k)
  edge_stays e m =
      let y = edge_row s.rows e m in
      let there : Member (after_put y.row) (write_fields s.rows x k v) = Member_map after_put y.row s.rows y.mem in
      elim (same_name (y.row).name x) as (λ b. same_name (y.row).name x ≡ b → Member e (rows_edges (write_fields s.rows x k v)) ⊎ Member e.to (field_names s x k)) [
        | true ↦ λ h.
            let z : Row = record (y.row) { fields = put_field (y.row).fields k v } in
            let n : Member z (write_fields s.rows x k v) = subst (λ r. Member r (write_fields s.rows x k v)) (ap (λ b. cond b z (y.row)) h) there in
            elim (put_stays (y.row).fields k v e.to y.to) [
              | inl a ↦ inl (row_edge (write_fields s.rows x k v) z e n y.from a)
              | inr a ↦ inr (subst (λ r. Member e.to (slot_targets (row_field r k))) (sym (ap (row_at s.rows) (sym (same_name_is (y.row).name x h)) ∙ at_mem s.rows (rows_in_place s t).distinct y.row y.mem)) a)
            ]
        | false ↦ λ h.
            let n : Member (y.row) (write_fields s.rows x k v) = subst (λ r. Member r (write_fields s.rows x k v)) (ap (λ b. cond b (record (y.row) { fields = put_field (y.row).fields k v }) (y.row)) h) there in
            inl (row_edge (write_fields s.rows x k v) y.row e n y.from y.to)
      ] refl

-- ---- whatever is left without justification
module _ (s : State) (t : WellFormed s) (rows : List Row) (x : ObjId) (v : Value) (os : List ObjId) (home : ObjId) (c : Changes s rows x v os home) (may : SlotMayHold s v) where
  abbrev after : State
  after = with_rows s rows

  local_before : (o : ObjId) → owner_in rows o ≡ Some Local → owner_in s.rows o ≡ Some Local
  local_before o h = elim (kind s rows x v os home c t may o) [
    | unmoved e i ↦ sym i ∙ h
    | shifted e n i ↦ n
  ]

  region_after : (o q : ObjId) → owner_in s.rows o ≡ Some (In q) → owner_in rows o ≡ Some (In q)
  region_after o q h = elim (kind s rows x v os home c t may o) [
    | unmoved e i ↦ i ∙ h
    | shifted e n i ↦ absurd (in_not_local q (sym h ∙ n))
  ]

  bridge_before : (r : ObjId) → owner_in rows r ≡ Some (In r) → owner_in s.rows r ≡ Some (In r)
  bridge_before r h = elim (kind s rows x v os home c t may r) [
    | unmoved e i ↦ sym i ∙ h
    | shifted e n i ↦ subst (λ z. owner_in s.rows z ≡ Some (In z)) (in_is home r (some_is (In home) (In r) (sym i ∙ h))) (c.top r e)
  ]

  module _ (leads : Leads after) (w : List Suspect) (before : Noticed s w)
      (stays : (e : Edge) → Member e (rows_edges s.rows) → Member e (rows_edges rows) ⊎ (Lone after e.to → Member (Object e.to) w))
      (near : (o : ObjId) → has_name os o ≡ true → Bare after home → WatchedBy after w home) where
    near_stays : (e : Edge) → Member e (slot_edges s.slots ++ rows_edges s.rows) → Member e (slot_edges s.slots ++ rows_edges rows) ⊎ (Lone after e.to → Member (Object e.to) w)
    near_stays e m = elim (Member_of_append e (slot_edges s.slots) (rows_edges s.rows) m) [
      | inl n ↦ inl (Member_left e (slot_edges s.slots) (rows_edges rows) n)
      | inr n ↦ elim (stays e n) [
        | inl z ↦ inl (Member_right e (slot_edges s.slots) (rows_edges rows) z)
        | inr z ↦ inr z
      ]
    ]

    edge_lost : (o : ObjId) (u : Owner) → owner_in rows o ≡ Some u → is_in o (Some u) ≡ false → points s.rows s o ≡ true → points rows after o ≡ false → Member (Object o) w
    edge_lost o u at other h n =
        let d = any_Member (λ (e : Edge). same_name e.to o) (slot_edges s.slots ++ rows_edges s.rows) h in
        elim (near_stays d.0 d.1.0) [
          | inl m ↦ absurd (both_ways _ n (Member_any (λ (e : Edge). same_name e.to o) d.0 (slot_edges s.slots ++ rows_edges rows) m d.1.1))
          | inr m ↦ let same : (d.0).to ≡ o = same_name_is (d.0).to o d.1.1 in
              subst (λ z. Member (Object z) w) same (m (unpointed u (ap (owner_in rows) same ∙ at) (ap (λ z. is_in z (Some u)) same ∙ other) (ap (points rows after) same ∙ n)))
        ]

    owning_after : (r : ObjId) (f : Source) → is_owning s.rows f r ≡ true → is_owning rows f r ≡ true
    owning_after r Slot h = h
    owning_after r (Content d) h = refl
    owning_after r (Field p) h = let q = other_is r (owner_in s.rows p) h in
        ap (is_in_other r) (region_after p q.region q.is) ∙ not_from_false _ q.other

    abbrev Moved : Source → Type 0
    Moved f = (p : ObjId) × ((f ≡ Field p) × ((has_name os p ≡ true) × (owner_in rows p ≡ Some (In home))))

    borrower_after : (f : Source) → is_borrower s.rows f ≡ true → (is_borrower rows f ≡ true) ⊎ Moved f
    borrower_after Slot h = inl refl
    borrower_after (Content d) h = cc
    borrower_after (Field p) h = elim (kind s rows x v os home c t may p) [
      | unmoved e i ↦ inl (ap is_local_at i ∙ h)
      | shifted e n i ↦ inr (p, (refl, (e, i)))
    ]

    watch_by : (o r : ObjId) → Member (Object o) w → owner_in rows o ≡ Some (In r) → WatchedBy after w r
    watch_by o r m h = (Object o, (m, h))

    owner_lost : (r : ObjId) → owner_in rows r ≡ Some (In r) → Bare after r → is_owned_by s.rows s r ≡ true → WatchedBy after w r
    owner_lost r h b k =
        let d = any_Member (λ (e : Edge). is_owning s.rows e.from r && same_name e.to r) (rows_edges s.rows ++ (content_edges s.held ++ content_edges s.made)) k in
        let p = and_parts (is_owning s.rows (d.0).from r) (same_name (d.0).to r) d.1.1 in
        let no : Member d.0 (rows_edges rows ++ (content_edges s.held ++ content_edges s.made)) → ⊥ = λ m. both_ways _ b.unowned (Member_any (λ (e : Edge). is_owning rows e.from r && same_name e.to r) d.0 (rows_edges rows ++ (content_edges s.held ++ content_edges s.made)) m (and_from _ _ (owning_after r (d.0).from p.0) p.1)) in
        elim (Member_of_append d.0 (rows_edges s.rows) (content_edges s.held ++ content_edges s.made) d.1.0) [
          | inr m ↦ absurd (no (Member_right d.0 (rows_edges rows) (content_edges s.held ++ content_edges s.made) m))
          | inl m ↦ elim (stays d.0 m) [
            | inl z ↦ absurd (no (Member_left d.0 (rows_edges rows) (content_edges s.held ++ content_edges s.made) z))
            | inr z ↦ let to : owner_in rows (d.0).to ≡ Some (In r) = ap (owner_in rows) (same_name_is (d.0).to r p.1) ∙ h in watch_by (d.0).to r (z (bared r to b)) to
          ]
        ]

    -- an edge of a moved row into another region leads to its bridge, and owns it
    moved_owns : (r : ObjId) (e : Edge) → Member e (slot_edges s.slots ++ rows_edges rows) → Moved e.from → owner_in rows e.to ≡ Some (In r) → same_name home r ≡ false → is_owned_by rows after r ≡ true
    moved_owns r e m f h n =
        let a : Bool = has_row s.given f.0 || has_row s.own f.0 in
        let b : Bool = has_row s.given e.to || has_row s.own e.to in
        let l : may_lead after (Field f.0) e.to ≡ true = ap (λ z. may_lead after z e.to) (sym f.1.0) ∙ leads e (Within_append (slot_edges s.slots) (slot_edges s.slots) (rows_edges rows) (rows_edges rows ++ (content_edges s.held ++ (content_edges s.made ++ (rows_edges s.given ++ rows_edges s.own)))) (λ z n. n) (λ z n. Member_left z (rows_edges rows) _ n) e m) in
        let g : (same_name home r || same_name r e.to) ≡ true = (λ i. from_row (or_frozen a (sym f.1.1.1 i)) e.to (or_frozen b (sym h i))) ∙ l in
        let to : r ≡ e.to = same_name_is r e.to (ap (λ z. z || same_name r e.to) (sym n) ∙ g) in
        let own : is_owning rows e.from r ≡ true = ap (λ z. is_owning rows z r) f.1.0 ∙ ap (is_in_other r) f.1.1.1 ∙ not_from_false _ n in
        let k : same_name e.to r ≡ true = ap (λ z. same_name z r) (sym to) ∙ same_name_itself r in
        elim (Member_of_append e (slot_edges s.slots) (rows_edges rows) m) [
          | inl z ↦ let y : Slot ≡ Field f.0 = sym (slot_begins s.slots e z) ∙ f.1.0 in cc
          | inr z ↦ Member_any (λ (e : Edge). is_owning rows e.from r && same_name e.to r) e (rows_edges rows ++ (content_edges s.held ++ content_edges s.made)) (Member_left e (rows_edges rows) _ z) (and_from _ _ own k)
        ]

    borrow_moved : (r : ObjId) → Bare after r → (e : Edge) → Member e (slot_edges s.slots ++ rows_edges rows) → Moved e.from → owner_in rows e.to ≡ Some (In r) → WatchedBy after w r
    borrow_moved r b e m f h =
        elim (same_name home r) as (λ z. same_name home r ≡ z → WatchedBy after w r) [
          | true ↦ λ k. let same : home ≡ r = same_name_is home r k in subst (WatchedBy after w) same (near f.0 f.1.1.0 (subst (Bare after) (sym same) b))
          | false ↦ λ k. absurd (both_ways _ b.unowned (moved_owns r e m f h k))
        ] refl

    borrow_lost : (r : ObjId) → Bare after r → points_into s.rows s r ≡ true → WatchedBy after w r
    borrow_lost r b k =
        let d = any_Member (λ (e : Edge). is_borrower s.rows e.from && is_in r (owner_in s.rows e.to)) (slot_edges s.slots ++ rows_edges s.rows) k in
        let p = and_parts (is_borrower s.rows (d.0).from) (is_in r (owner_in s.rows (d.0).to)) d.1.1 in
        let to : owner_in rows (d.0).to ≡ Some (In r) = region_after (d.0).to r (in_region r (owner_in s.rows (d.0).to) p.1) in
        elim (near_stays d.0 d.1.0) [
          | inr m ↦ watch_by (d.0).to r (m (bared r to b)) to
          | inl m ↦ elim (borrower_after (d.0).from p.0) [
            | inl f ↦ absurd (both_ways _ b.unborrowed (Member_any (λ (e : Edge). is_borrower rows e.from && is_in r (owner_in rows e.to)) d.0 (slot_edges s.slots ++ rows_edges rows) m (and_from _ _ f (ap (is_in r) to ∙ same_name_itself r))))
            | inr f ↦ borrow_moved r b d.0 m f to
          ]
        ]

    watches_still : (r : ObjId) (u : Suspect) → Member u w → Watches s r u → WatchedBy after w r
    watches_still r (Object o) m h = (Object o, (m, region_after o r h))
    watches_still r (Region q) m h = (Region q, (m, h))

    region_lost : (r : ObjId) → owner_in rows r ≡ Some (In r) → Bare after r → WatchedBy after w r
    region_lost r h b =
        elim (is_owned_by s.rows s r) as (λ z. is_owned_by s.rows s r ≡ z → WatchedBy after w r) [
          | true ↦ owner_lost r h b
          | false ↦ λ k. elim (points_into s.rows s r) as (λ z. points_into s.rows s r ≡ z → WatchedBy after w r) [
            | true ↦ borrow_lost r b
            | false ↦ λ i. let u = before.regions r (bridge_before r h) (record { unowned = k; unborrowed = i }) in watches_still r u.0 u.1.0 u.1.1
          ] refl
        ] refl

    pointed_or : (o : ObjId) (u : Owner) → owner_in rows o ≡ Some u → is_in o (Some u) ≡ false → (points s.rows s o ≡ false → Member (Object o) w) → points rows after o ≡ false → Member (Object o) w
    pointed_or o u at other f n = elim (points s.rows s o) as (λ z. points s.rows s o ≡ z → Member (Object o) w) [ true ↦ λ h. edge_lost o u at other h n | false ↦ f ] refl

    inner_before : (o r : ObjId) → owner_in rows o ≡ Some (In r) → same_name r o ≡ false → points s.rows s o ≡ false → Member (Object o) w
    inner_before o r h d n = elim (kind s rows x v os home c t may o) [
      | unmoved e i ↦ before.inners o r (sym i ∙ h) d n
      | shifted e l i ↦ before.locals o l n
    ]

    pub changes_noticed : Noticed after w
    changes_noticed = record {
      locals = λ o h. pointed_or o Local h refl (before.locals o (local_before o h));
      regions = region_lost;
      inners = λ o r h d. pointed_or o (In r) h (other_way r o d) (inner_before o r h d);
    }

-- ---- the write
module _ (s : State) (t : WellFormed s) (x : ObjId) (k : Key) (v : Value) (may : SlotMayHold s v) (w : List Suspect) where
  abbrev result : State
  result = write_result s x k v

  old_alone : (rows : List Row) → result ≡ with_rows s rows → rows_edges rows ≡ rows_edges (write_fields s.rows x k v) → NoticesOld s x k v w → (e : Edge) → Member e (rows_edges s.rows) → Member e (rows_edges rows) ⊎ (Lone (with_rows s rows) e.to → Member (Object e.to) w)
  old_alone rows same kept old e m = elim (edge_stays s t x k v e m) [
    | inl n ↦ inl (subst (Member e) (sym kept) n)
    | inr n ↦ inr (λ l. old e.to n (subst (λ z. Lone z e.to) (sym same) l))
  ]

  by_owner : (u : Owner) → owner_in s.rows x ≡ Some u → (u ≡ Frozen → ⊥) → WellFormed result → Noticed s w → NoticesOld s x k v w → WatchesHome s x k v w → Noticed result w
  by_owner Frozen h n well before old near = absurd (n refl)
  by_owner Local h n well before old near =
      let rows : List Row = write_fields s.rows x k v in
      let same : result ≡ with_rows s rows = ap (λ z. with_rows s (moved rows (move_set s v) z)) h in
      subst (λ z. Noticed z w) (sym same)
      (changes_noticed s t rows x v [] x (local_changes s t x k v h) may (subst Leads same well.leads) w before (old_alone rows same refl old) (λ o e. cc))
  by_owner (In r) h n well before old near =
      let rows : List Row = relabel (write_fields s.rows x k v) (moved_names s v) (In r) in
      let same : result ≡ with_rows s rows = ap (λ z. with_rows s (moved (write_fields s.rows x k v) (move_set s v) z)) h in
      subst (λ z. Noticed z w) (sym same)
      (changes_noticed s t rows x v (moved_names s v) r (region_changes s t x k v r h) may (subst Leads same well.leads) w before
      (old_alone rows same (edges_relabel (write_fields s.rows x k v) (moved_names s v) (In r)) old)
      (λ o e b. subst (λ z. WatchedBy z w r) same (near r h (subst (λ z. Bare z r) (sym same) b))))

  -- the old value's object and the target's region, where the write leaves them alone or bare, are enough
  pub write_noticed : (u : Owner) → owner_in s.rows x ≡ Some u → write_refusal s x k v ≡ None → Noticed s w → NoticesOld s x k v w → WatchesHome s x k v w → Noticed result w
  write_noticed u h e before old near = by_owner u h (λ f. mutable_at s t x (h ∙ ap Some f)) ((write_law s t x k v may u h).0 e) before old near

  owner_stays : (home : ObjId) → owner_in s.rows x ≡ Some (In home) → owner_in result.rows x ≡ Some (In home)
  owner_stays home h =
      let rows : List Row = relabel (write_fields s.rows x k v) (moved_names s v) (In home) in
      let same : result ≡ with_rows s rows = ap (λ z. with_rows s (moved (write_fields s.rows x k v) (move_set s v) z)) h in
      ap (λ (z : State). owner_in z.rows x) same ∙ region_after s t rows x v (moved_names s v) home (region_changes s t x k v home h) may x home h

  -- the target as a suspect watches its region
  pub target_watches : Member (Object x) w → WatchesHome s x k v w
  target_watches m home h b = (Object x, (m, owner_stays home h))

  -- while a slot names the target its region is borrowed
  pub slot_borrows : Member (record { from = Slot; to = x }) (slot_edges s.slots) → WatchesHome s x k v w
  slot_borrows m home h b = absurd (both_ways _
      b.unborrowed (Member_any (λ (e : Edge). is_borrower result.rows e.from && is_in home (owner_in result.rows e.to)) (record { from = Slot; to = x }) (slot_edges s.slots ++ rows_edges result.rows)
      (Member_left _ (slot_edges s.slots) (rows_edges result.rows) m) (ap (is_in home) (owner_stays home h) ∙ same_name_itself home)))

-- ---- by the counts after the write
module _ (s : State) (x : ObjId) (k : Key) (v : Value) (w : List Suspect) (well : WellFormed (write_result s x k v)) where
  abbrev after_write : State
  after_write = write_result s x k v

  no_edge : (o : ObjId) (u : Owner) → owner_in after_write.rows o ≡ Some u → is_in o (Some u) ≡ false → points after_write.rows after_write o ≡ false → refs after_write o ≡ 0
  no_edge o Local h n p = (local_points after_write well o h).0 p
  no_edge o (In r) h n p = (inner_points after_write well o r h (other_way o r n)).0 p
  no_edge o Frozen h n p = absurd (mutable_at after_write well o h)

  pub counts_notice : ((o : ObjId) → Member o (field_names s x k) → refs after_write o ≡ 0 → Member (Object o) w)
      → ((o r : ObjId) → Member o (field_names s x k) → owner_in after_write.rows o ≡ Some (In r) → borrowed after_write r ≡ 0 → owning_edges after_write r ≡ 0 → Member (Object o) w)
      → NoticesOld s x k v w
  counts_notice by_edges by_regions o m (unpointed u h n p) = by_edges o m (no_edge o u h n p)
  counts_notice by_edges by_regions o m (bared r h b) = let z = (bare_counts after_write well r).0 b in by_regions o r m h z.0 z.1
