-- A write keeps a state well-formed exactly where it is not refused.
use Rattle.std.proofs.Common.{Bool, List, None, Option, Some, [], ap, cond, false, inl, inr, map, not, refl, subst, sym, true, ◌&&◌, ◌++◌, ◌||◌, ◌∙◌, ◌≡◌, ◌⊎◌}
use Rattle.std.specs.Prelude.{ltb}
use Rattle.lf_base.specs.declared.ids.ObjId.{ObjId}
use Rattle.lf_base.specs.declared.values.Key.{Key}
use Rattle.lf_base.specs.declared.values.Owner.{Owner}
use Rattle.lf_base.specs.declared.values.Owner.TheVariants.{Frozen, In, Local}
use Rattle.lf_base.specs.declared.values.Value.{Value}
use Rattle.lf_base.specs.Edges.{Content, Edge, Field, Slot, Source, content_edges, edges, rows_edges, slot_edges}
use Rattle.lf_base.specs.MoveSet.{move_set}
use Rattle.lf_base.specs.Names.{name_below, same_name, targets_of_value}
use Rattle.lf_base.specs.Owners.{bridges, has_name, has_row, is_bridge, names, or_frozen, owner_in, owner_of}
use Rattle.lf_base.specs.Ownership.{is_in_other, owning_edges, round}
use Rattle.lf_base.specs.PlainState.{Row, State}
use Rattle.lf_base.specs.Sets.{Differ, InOrder, Member}
use Rattle.lf_base.specs.WellFormed.{Leads, SlotMayHold, WellFormed, field_values, from_content, from_inner, from_near, from_row, may_lead}
use Rattle.lf_base.specs.WriteResult.{fault_shown, is_at, is_inner_source, leads_inside, moved, put_field, refusal_by, relabel, shows_interior, shows_round, shows_two, write_fields, write_refusal, write_result}
use Rattle.lf_laws.proofs.Rows.RowsByName.{Distinct, row_of, owner_has, owner_mem, differ_apart, differ_rows}
use Rattle.lf_laws.proofs.Rows.EdgeCounts.{with_rows}
use Rattle.lf_laws.proofs.Writes.CownNames.{cowns_from, relabel_values, values_by_rows, write_values}
use Rattle.lf_laws.proofs.Rows.OwnerTests.{in_region, in_is, in_not_frozen, in_not_local, is_or_frozen, lead_local, lead_near, local_not_frozen}
use Rattle.lf_base.proofs.ListLemmas.Tests.{some_is, none_any, nor_or}
use Rattle.lf_laws.proofs.Rows.EdgeSources.{at_content, at_frozen, at_row, at_slot, edge_begins}
use Rattle.lf_laws.proofs.Writes.WrittenEdges.{IsNew, edges_write, owner_write}
use Rattle.std.proofs.lemmas.Bool.{ltb-false, both_ways, false_from_ne_true, or_cases}
use Rattle.lf_base.proofs.ListLemmas.Members.{Member_map, Member_of_map, any_more, Member_left, Member_of_append, Member_right}
use Rattle.lf_laws.proofs.Writes.MovedRows.{KeysDiffer, edges_relabel, keys_put, moved_local, moved_names, moved_start, moved_step, names_relabel, names_write}
use Rattle.lf_base.proofs.NameLemmas.RowNames.{has_names}
use Rattle.lf_laws.proofs.Writes.NoFaultShown.{empty_list, inner_quiet, none_shown, well_formed_quiet}
use Rattle.lf_laws.proofs.Writes.Relabelling.{owner_over, owner_relabel}
use Rattle.lf_base.proofs.ListLemmas.Filters.{Member_filter}
use Rattle.lf_laws.proofs.Rows.RowEdges.{field_is}

-- a mutable row isn't Frozen, by its name
pub mutable_at : (s : State) → WellFormed s → (o : ObjId) → owner_in s.rows o ≡ Some Frozen → ⊥
mutable_at s t o h = let y = row_of s.rows o Frozen h in t.mutable y.row y.mem y.owner

-- ---- a state whose rows are changed by a write
pub record Changes (s : State) (rows : List Row) (x : ObjId) (v : Value) (os : List ObjId) (home : ObjId) : Type 0 where
  pub old_or_new : (e : Edge) → Member e (edges (with_rows s rows)) → Member e (edges s) ⊎ IsNew x v e
  pub owners : (o : ObjId) → owner_in rows o ≡ owner_over (has_name os o) (In home) (owner_in s.rows o)
  pub same_names : names rows ≡ names s.rows
  pub keys : (y : Row) → Member y rows → KeysDiffer y.fields
  pub values : (w : Value) → Member w (field_values rows) → Member w (field_values s.rows) ⊎ (v ≡ w)
  pub near : (o : ObjId) → has_name os o ≡ true → owner_in s.rows o ≡ Some Local
  pub closed : (e : Edge) → Member e (edges s) → (p : ObjId) → e.from ≡ Field p → has_name os p ≡ true → owner_in s.rows e.to ≡ Some Local → has_name os e.to ≡ true
  pub start : (q : ObjId) → owner_in s.rows x ≡ Some (In q) → (o : ObjId) → Member o (targets_of_value v) → owner_in s.rows o ≡ Some Local → has_name os o ≡ true
  pub top : (o : ObjId) → has_name os o ≡ true → owner_in s.rows home ≡ Some (In home)
  pub target_stays : has_name os x ≡ false
  pub target : (owner_in s.rows x ≡ Some Local) ⊎ ((q : ObjId) × (owner_in s.rows x ≡ Some (In q)))

module _ (s : State) (rows : List Row) (x : ObjId) (v : Value) (os : List ObjId) (home : ObjId) (c : Changes s rows x v os home) (t : WellFormed s) (may : SlotMayHold s v) where
  abbrev after : State
  after = with_rows s rows

  abbrev froze : ObjId → Bool
  froze o = has_row s.given o || has_row s.own o

  pub data Kind (o : ObjId) : Type 0 where
    unmoved : has_name os o ≡ false → owner_in rows o ≡ owner_in s.rows o → Kind o
    shifted : has_name os o ≡ true → owner_in s.rows o ≡ Some Local → owner_in rows o ≡ Some (In home) → Kind o

  over_stay : (b : Bool) (w : Option Owner) → b ≡ false → owner_over b (In home) w ≡ w
  over_stay true w e = cc
  over_stay false None e = refl
  over_stay false (Some u) e = refl

  pub kind : (o : ObjId) → Kind o
  kind o = elim (has_name os o) as (λ b. has_name os o ≡ b → Kind o) [
    | true ↦ λ e. shifted e (c.near o e) (c.owners o ∙ (λ i. owner_over (e i) (In home) (c.near o e i)))
    | false ↦ λ e. unmoved e (c.owners o ∙ over_stay (has_name os o) (owner_in s.rows o) e)
  ] refl

  near_kept : (o : ObjId) → from_near (owner_of s o) ≡ true → from_near (owner_of after o) ≡ true
  near_kept o e = elim (kind o) [
    | unmoved h k ↦ ap (λ w. from_near (or_frozen (froze o) w)) k ∙ e
    | shifted h k n ↦ ap (λ w. from_near (or_frozen (froze o) w)) n
  ]

  module _ (quiet : shows_interior after ≡ false) where
    -- no edge leads from a region to the inside of another one
    outside : (e : Edge) → Member e (edges after) → (p q r : ObjId) → e.from ≡ Field p → owner_in rows p ≡ Some (In q) → owner_in rows e.to ≡ Some (In r) → from_inner q e.to (Some (In r)) ≡ true
    outside e m p q r f h k =
        let n : leads_inside rows e (owner_in rows e.to) ≡ false = none_any (λ e. leads_inside rows e (owner_in rows e.to)) (edges after) quiet e m in
        nor_or (same_name q r) (same_name r e.to)
        ((λ i. is_in_other r (sym h i) && not (same_name r e.to)) ∙ (λ i. is_inner_source rows (sym f i) r && not (same_name r e.to)) ∙ (λ i. leads_inside rows e (sym k i)) ∙ n)

    -- a row of a region leads where it may
    from_region : (e : Edge) → Member e (edges after) → (p q : ObjId) → e.from ≡ Field p → owner_in rows p ≡ Some (In q) → from_near (owner_of after e.to) ≡ true → (owner_in s.rows e.to ≡ Some Local → has_name os e.to ≡ true) → (b : Option Owner) → owner_of after e.to ≡ b → from_inner q e.to b ≡ true
    from_region e m p q f h n l None k = sym (ap from_near k) ∙ n
    from_region e m p q f h n l (Some Frozen) k = refl
    from_region e m p q f h n l (Some (In r)) k = outside e m p q r f h (is_or_frozen (froze e.to) (owner_in rows e.to) (In r) (in_not_frozen r) k)
    from_region e m p q f h n l (Some Local) k =
        let own : owner_in rows e.to ≡ Some Local = is_or_frozen (froze e.to) (owner_in rows e.to) Local local_not_frozen k in
        elim (kind e.to) [
          | unmoved g z ↦ absurd (both_ways _ g (l (sym z ∙ own)))
          | shifted g z y ↦ absurd (in_not_local home (sym y ∙ own))
        ]

    old_row : (e : Edge) → Member e (edges after) → Member e (edges s) → (p : ObjId) → e.from ≡ Field p → may_lead s (Field p) e.to ≡ true → may_lead after (Field p) e.to ≡ true
    old_row e m o p f l = elim (kind p) [
      | unmoved h k ↦
          let same : owner_of after p ≡ owner_of s p = ap (or_frozen (froze p)) k in
          ap (λ w. from_row w e.to (owner_of after e.to)) same ∙ elim (kind e.to) [
            | unmoved g z ↦ ap (λ w. from_row (owner_of s p) e.to (or_frozen (froze e.to) w)) z ∙ l
            | shifted g z y ↦
                let near : owner_of s p ≡ Some Local = lead_local (owner_of s p) e.to (ap (λ w. from_row (owner_of s p) e.to (or_frozen (froze e.to) w)) (sym z) ∙ l) in
                (λ i. from_row (near i) e.to (or_frozen (froze e.to) (y i)))
          ]
      | shifted h k n ↦
          ap (λ w. from_row (or_frozen (froze p) w) e.to (owner_of after e.to)) n
          ∙ from_region e m p home f n (near_kept e.to (lead_near (owner_of s p) e.to (owner_of s e.to) l)) (λ z. c.closed e o p f h z) (owner_of after e.to) refl
    ]

    new_row : (e : Edge) → Member e (edges after) → e.from ≡ Field x → Member e.to (targets_of_value v) → may_lead after (Field x) e.to ≡ true
    new_row e m f n = elim (kind x) [
      | shifted h k z ↦ absurd (both_ways _ c.target_stays h)
      | unmoved h k ↦ elim c.target [
        | inl l ↦ ap (λ w. from_row (or_frozen (froze x) w) e.to (owner_of after e.to)) (k ∙ l) ∙ near_kept e.to (may.object_there e.to n)
        | inr q ↦ ap (λ w. from_row (or_frozen (froze x) w) e.to (owner_of after e.to)) (k ∙ q.1)
            ∙ from_region e m x q.0 f (k ∙ q.1) (near_kept e.to (may.object_there e.to n)) (c.start q.0 q.1 e.to n) (owner_of after e.to) refl
      ]
    ]

    content_kept : (o : ObjId) → from_content o (owner_of s o) ≡ true → from_content o (owner_of after o) ≡ true
    content_kept o e = elim (kind o) [
      | unmoved h k ↦ ap (λ w. from_content o (or_frozen (froze o) w)) k ∙ e
      | shifted h k n ↦ let z : from_content o (Some Local) ≡ true = ap (λ w. from_content o (or_frozen (froze o) w)) (sym k) ∙ e in cc
    ]

    old_edge : (e : Edge) → Member e (edges after) → Member e (edges s) → (f : Source) → e.from ≡ f → may_lead s f e.to ≡ true → may_lead after f e.to ≡ true
    old_edge e m o Slot f l = near_kept e.to l
    old_edge e m o (Field p) f l = old_row e m o p f l
    old_edge e m o (Content k) f l = content_kept e.to l

    pub leads_after : Leads after
    leads_after e m = elim (c.old_or_new e m) [
      | inl o ↦ old_edge e m o e.from refl (t.leads e o)
      | inr n ↦ ap (λ z. may_lead after z e.to) n.0 ∙ new_row e m n.0 n.1
    ]

  bridge_after : (o r : ObjId) → owner_in rows o ≡ Some (In r) → owner_in rows r ≡ Some (In r)
  bridge_after o r h =
      let old : owner_in s.rows r ≡ Some (In r) = elim (kind o) [
        | unmoved e k ↦ t.bridge o r (sym k ∙ h)
        | shifted e k n ↦ let f : home ≡ r = in_is home r (some_is (In home) (In r) (sym n ∙ h)) in subst (λ z. owner_in s.rows z ≡ Some (In z)) f (c.top o e)
      ] in
      elim (kind r) [
        | unmoved e k ↦ k ∙ old
        | shifted e k n ↦ absurd (in_not_local r (sym old ∙ k))
      ]

  mutable_after : (o : ObjId) → owner_in rows o ≡ Some Frozen → ⊥
  mutable_after o h = elim (kind o) [
    | unmoved e k ↦ mutable_at s t o (sym k ∙ h)
    | shifted e k n ↦ in_not_frozen home (some_is (In home) Frozen (sym n ∙ h))
  ]

  in_bridges : (r : ObjId) → is_bridge rows r ≡ true → Member r (bridges after)
  in_bridges r e =
      let y = row_of rows r (In r) (in_region r (owner_in rows r) e) in
      Member_filter (is_bridge rows) r (map (λ r. r.name) rows) (subst (λ n. Member n (map (λ r. r.name) rows)) y.name (Member_map (λ (r : Row). r.name) y.row rows y.mem)) e

  differ_after : Differ same_name (names rows ++ (names s.given ++ names s.own))
  differ_after = subst (λ l. Differ same_name (l ++ (names s.given ++ names s.own))) (sym c.same_names) t.names_differ

  -- where no fault shows the state is well-formed again
  pub well_formed_after : fault_shown after ≡ None → WellFormed after
  well_formed_after e =
      let q = none_shown (shows_interior after) (shows_two after) (shows_round after) e in
      record {
        rows_rise = subst (InOrder name_below) (sym c.same_names) t.rows_rise;
        given_rise = t.given_rise;
        own_rise = t.own_rise;
        names_differ = differ_after;
        keys_differ = λ y m. elim (Member_of_append y rows (s.given ++ s.own) m) [ inl k ↦ c.keys y k | inr k ↦ t.keys_differ y (Member_right y s.rows (s.given ++ s.own) k) ];
        mutable = λ y m h. mutable_after y.name (owner_mem rows (differ_rows rows (names s.given ++ names s.own) differ_after) y m ∙ ap Some h);
        frozen = t.frozen;
        bridge = bridge_after;
        leads = leads_after q.first;
        one_owner = λ r h. ltb-false 1 (owning_edges after r) (none_any (λ r. ltb 1 (owning_edges after r)) (bridges after) q.second r (in_bridges r h));
        no_round = empty_list (round after) q.third;
        objects_numbered = λ o m. t.objects_numbered o (subst (λ l. Member o (l ++ (names s.given ++ names s.own))) c.same_names m);
        cowns_numbered = λ d m h. elim (cowns_from s after v (λ z n. n) (values_by_rows s rows v c.values) d m) [ inl n ↦ t.cowns_numbered d n h | inr n ↦ may.cown_numbered d n h ];
        cowns_differ = t.cowns_differ;
        made_here = t.made_here;
      }

  -- ---- what a plan may look at: only new edges and edges of moved rows can show F5
  still_content : (o : ObjId) → from_content o (owner_of s o) ≡ true → from_content o (owner_of after o) ≡ true
  still_content o e = elim (kind o) [
    | unmoved h k ↦ ap (λ w. from_content o (or_frozen (froze o) w)) k ∙ e
    | shifted h k n ↦ let z : from_content o (Some Local) ≡ true = ap (λ w. from_content o (or_frozen (froze o) w)) (sym k) ∙ e in cc
  ]

  still_row : (p o : ObjId) → has_name os p ≡ false → may_lead s (Field p) o ≡ true → may_lead after (Field p) o ≡ true
  still_row p o g l = elim (kind p) [
    | shifted h k n ↦ absurd (both_ways _ g h)
    | unmoved h k ↦
        ap (λ w. from_row (or_frozen (froze p) w) o (owner_of after o)) k ∙ elim (kind o) [
          | unmoved j z ↦ ap (λ w. from_row (owner_of s p) o (or_frozen (froze o) w)) z ∙ l
          | shifted j z y ↦
              let near : owner_of s p ≡ Some Local = lead_local (owner_of s p) o (ap (λ w. from_row (owner_of s p) o (or_frozen (froze o) w)) (sym z) ∙ l) in
              (λ i. from_row (near i) o (or_frozen (froze o) (y i)))
        ]
  ]

  abbrev pub FromMoved : Source → Type 0
  FromMoved f = (p : ObjId) × ((f ≡ Field p) × (has_name os p ≡ true))

  still_or : (e : Edge) → (f : Source) → e.from ≡ f → may_lead s f e.to ≡ true → FromMoved e.from ⊎ (may_lead after e.from e.to ≡ true)
  still_or e Slot h l = inr (ap (λ z. may_lead after z e.to) h ∙ near_kept e.to l)
  still_or e (Content k) h l = inr (ap (λ z. may_lead after z e.to) h ∙ still_content e.to l)
  still_or e (Field p) h l = elim (has_name os p) as (λ b. has_name os p ≡ b → FromMoved e.from ⊎ (may_lead after e.from e.to ≡ true)) [
    | true ↦ λ g. inl (p, (h, g))
    | false ↦ λ g. inr (ap (λ z. may_lead after z e.to) h ∙ still_row p e.to g l)
  ] refl

  pub interior_source : (e : Edge) → Member e (edges after) → leads_inside rows e (owner_in rows e.to) ≡ true → IsNew x v e ⊎ FromMoved e.from
  interior_source e m shown = elim (c.old_or_new e m) [
    | inr n ↦ inl n
    | inl o ↦ elim (still_or e e.from refl (t.leads e o)) [
      | inl f ↦ inr f
      | inr l ↦ absurd (both_ways _ (inner_quiet after e.from e.to l (owner_in rows e.to) refl) shown)
    ]
  ]

-- ---- the write itself
keys_write : (rows : List Row) (x : ObjId) (k : Key) (v : Value) → ((y : Row) → Member y rows → KeysDiffer y.fields) → (y : Row) → Member y (write_fields rows x k v) → KeysDiffer y.fields
keys_write rows x k v d y m =
    let o = Member_of_map (λ r. cond (is_at x r) (record r { fields = put_field r.fields k v }) r) y rows m in
    subst (λ (z : Row). KeysDiffer z.fields) o.1.1
    (elim (is_at x o.0) as (λ b. KeysDiffer (cond b (record (o.0) { fields = put_field (o.0).fields k v }) (o.0)).fields) [
      | true ↦ keys_put (o.0).fields k v (d o.0 o.1.0)
      | false ↦ d o.0 o.1.0
    ])

keys_relabel : (rows : List Row) (os : List ObjId) (w : Owner) → ((y : Row) → Member y rows → KeysDiffer y.fields) → (y : Row) → Member y (relabel rows os w) → KeysDiffer y.fields
keys_relabel rows os w d y m =
    let o = Member_of_map (λ r. cond (has_name os r.name) (record r { owner = w }) r) y rows m in
    subst (λ (z : Row). KeysDiffer z.fields) o.1.1
    (elim (has_name os (o.0).name) as (λ b. KeysDiffer (cond b (record (o.0) { owner = w }) (o.0)).fields) [
      | true ↦ d o.0 o.1.0
      | false ↦ d o.0 o.1.0
    ])

module _ (s : State) (t : WellFormed s) (x : ObjId) (k : Key) (v : Value) where
  distinct : Distinct s.rows
  distinct = differ_rows s.rows (names s.given ++ names s.own) t.names_differ

  row_keys : (y : Row) → Member y s.rows → KeysDiffer y.fields
  row_keys y m = t.keys_differ y (Member_left y s.rows (s.given ++ s.own) m)

  over_none : (w : Owner) (u : Option Owner) → u ≡ owner_over false w u
  over_none w None = refl
  over_none w (Some y) = refl

  pub local_changes : owner_in s.rows x ≡ Some Local → Changes s (write_fields s.rows x k v) x v [] x
  local_changes h = record {
    old_or_new = edges_write s x k v;
    owners = λ o. owner_write s.rows x k v o ∙ over_none (In x) (owner_in s.rows o);
    same_names = names_write s.rows x k v;
    keys = keys_write s.rows x k v row_keys;
    values = write_values s.rows x k v;
    near = λ o e. cc;
    closed = λ e m p f g z. cc;
    start = λ q e o m z. absurd (in_not_local q (sym e ∙ h));
    top = λ o e. cc;
    target_stays = refl;
    target = inl h;
  }

  abbrev os : List ObjId
  os = moved_names s v

  pub frozen_other : (y : Row) → (has_row s.given y.name || has_row s.own y.name) ≡ true → (w : Owner) → owner_in s.rows y.name ≡ Some w → ⊥
  frozen_other y e w h =
      differ_apart (names s.rows) (names s.given ++ names s.own) t.names_differ y.name (has_names s.rows y.name ∙ owner_has s.rows y.name w h)
      (elim (or_cases (has_row s.given y.name) (has_row s.own y.name) e) [
        | inl g ↦ any_more (λ p. same_name p y.name) (names s.given) (names s.given ++ names s.own) (λ z m. Member_left z (names s.given) (names s.own) m) (has_names s.given y.name ∙ g)
        | inr g ↦ any_more (λ p. same_name p y.name) (names s.own) (names s.given ++ names s.own) (λ z m. Member_right z (names s.given) (names s.own) m) (has_names s.own y.name ∙ g)
      ])

  frozen_not : (y : Row) → (has_row s.given y.name || has_row s.own y.name) ≡ true → owner_in s.rows y.name ≡ Some Local → ⊥
  frozen_not y e h = frozen_other y e Local h

  moved_closed : (e : Edge) → Member e (edges s) → (p : ObjId) → e.from ≡ Field p → has_name os p ≡ true → owner_in s.rows e.to ≡ Some Local → has_name os e.to ≡ true
  moved_closed e m p f h z = elim (edge_begins s e m) [
    | at_slot g n ↦ let y = sym g ∙ f in cc
    | at_row y n g b ↦ moved_step s v distinct e b p f h z
    | at_content d g n ↦ let y = sym g ∙ f in cc
    | at_frozen y n g ↦ absurd (frozen_not y n (ap (owner_in s.rows) (field_is y.name p (sym g ∙ f)) ∙ moved_local s v distinct p h))
  ]

  region_edges : (r : ObjId) (e : Edge) → Member e (edges (with_rows s (relabel (write_fields s.rows x k v) os (In r)))) → Member e (edges s) ⊎ IsNew x v e
  region_edges r e m = edges_write s x k v e
      (subst (λ l. Member e (slot_edges s.slots ++ (l ++ (content_edges s.held ++ (content_edges s.made ++ (rows_edges s.given ++ rows_edges s.own)))))) (edges_relabel (write_fields s.rows x k v) os (In r)) m)

  pub region_changes : (r : ObjId) → owner_in s.rows x ≡ Some (In r) → Changes s (relabel (write_fields s.rows x k v) os (In r)) x v os r
  region_changes r h = record {
    old_or_new = region_edges r;
    owners = λ o. owner_relabel (write_fields s.rows x k v) os (In r) o ∙ ap (owner_over (has_name os o) (In r)) (owner_write s.rows x k v o);
    same_names = names_relabel (write_fields s.rows x k v) os (In r) ∙ names_write s.rows x k v;
    keys = keys_relabel (write_fields s.rows x k v) os (In r) (keys_write s.rows x k v row_keys);
    values = λ w m. write_values s.rows x k v w (subst (Member w) (relabel_values (write_fields s.rows x k v) os (In r)) m);
    near = moved_local s v distinct;
    closed = moved_closed;
    start = λ q e o m z. moved_start s v distinct o m z;
    top = λ o e. t.bridge x r h;
    target_stays = false_from_ne_true _ (λ e. in_not_local r (sym h ∙ moved_local s v distinct x e));
    target = inr (r, h);
  }

  module _ (may : SlotMayHold s v) where
    write_keeps : (w : Owner) → owner_in s.rows x ≡ Some w → (w ≡ Frozen → ⊥) → fault_shown (write_result s x k v) ≡ None → WellFormed (write_result s x k v)
    write_keeps Frozen h n e = absurd (n refl)
    write_keeps Local h n e =
        let same : write_result s x k v ≡ with_rows s (write_fields s.rows x k v) = ap (λ w. with_rows s (moved (write_fields s.rows x k v) (move_set s v) w)) h in
        subst WellFormed (sym same) (well_formed_after s (write_fields s.rows x k v) x v [] x (local_changes h) t may (ap fault_shown (sym same) ∙ e))
    write_keeps (In r) h n e =
        let same : write_result s x k v ≡ with_rows s (relabel (write_fields s.rows x k v) os (In r)) = ap (λ w. with_rows s (moved (write_fields s.rows x k v) (move_set s v) w)) h in
        subst WellFormed (sym same) (well_formed_after s (relabel (write_fields s.rows x k v) os (In r)) x v os r (region_changes r h) t may (ap fault_shown (sym same) ∙ e))

    refusal_is : (w : Owner) → owner_in s.rows x ≡ Some w → (w ≡ Frozen → ⊥) → write_refusal s x k v ≡ fault_shown (write_result s x k v)
    refusal_is Local h n = ap (refusal_by s x k v) h
    refusal_is (In r) h n = ap (refusal_by s x k v) h
    refusal_is Frozen h n = absurd (n refl)

    -- the write law, both ways
    pub write_law : (w : Owner) → owner_in s.rows x ≡ Some w → (write_refusal s x k v ≡ None → WellFormed (write_result s x k v)) × (WellFormed (write_result s x k v) → write_refusal s x k v ≡ None)
    write_law w h =
        let n : w ≡ Frozen → ⊥ = λ e. mutable_at s t x (h ∙ ap Some e) in
        (λ e. write_keeps w h n (sym (refusal_is w h n) ∙ e), λ g. refusal_is w h n ∙ well_formed_quiet (write_result s x k v) g)
