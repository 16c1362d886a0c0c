-- A freeze leaves a well-formed state.
use Rattle.std.proofs.Common.{Bool, List, None, Option, Some, [], ap, arith, cond, false, inl, inr, map, not, refl, subst, sym, true, ℕ, ◌&&◌, ◌++◌, ◌||◌, ◌∙◌, ◌≡◌, ◌≤◌, ◌⊎◌}
use Rattle.std.proofs.lemmas.List.Sums.{sum_by-append}
use Rattle.std.specs.List.{count_by, filter, flat_map}
use Rattle.lf_base.specs.declared.ids.CownId.{CownId}
use Rattle.lf_base.specs.declared.ids.ObjId.{ObjId}
use Rattle.lf_base.specs.declared.values.Key.{Key}
use Rattle.lf_base.specs.declared.values.Owner.{Owner}
use Rattle.lf_base.specs.declared.values.Owner.TheVariants.{Frozen, In, Local}
use Rattle.lf_base.specs.declared.values.Value.{Value}
use Rattle.lf_base.specs.Edges.{Content, Edge, Field, Slot, Source, content_edges, edges, field_targets, row_edges, rows_edges, slot_edges}
use Rattle.lf_base.specs.FreezeResult.{brings_in, freeze_result, freeze_set, frozen_row, insert_rows}
use Rattle.lf_base.specs.Names.{cowns_of_value, name_below, same_key, same_name}
use Rattle.lf_base.specs.Owners.{has_name, has_row, is_in, names, or_frozen, owner_in, owner_of}
use Rattle.lf_base.specs.Ownership.{is_in_other, is_owning, owning_edges, owns}
use Rattle.lf_base.specs.PlainState.{Row, State}
use Rattle.lf_base.specs.Sets.{Differ, Member}
use Rattle.lf_base.specs.WellFormed.{Leads, WellFormed, all_cowns, all_names, all_values, content_values, field_values, from_content, from_near, from_row, may_lead, own_cowns, slot_values}
use Rattle.lf_laws.proofs.Rows.RowsByName.{Distinct, row_of, mem_has, distinct_sub, has_append, row_there, owner_there, differ_apart, differ_rows, Member_has_name, same_row}
use Rattle.lf_base.proofs.ListLemmas.Sublists.{Sub, sub_all, sub_filter, sub_within, count_sub, differ_sub, order_sub, sub_append, sub_flat_map, sub_map}
use Rattle.std.proofs.lemmas.Bool.{and_from, and_parts, both_ways, false_from_ne_true, not-true, or_left, or_from, or_parts}
use Rattle.lf_laws.proofs.Rows.EdgeSources.{at_content, at_frozen, at_row, at_slot, edge_begins}
use Rattle.lf_base.proofs.ListLemmas.Tests.{none_count}
use Rattle.lf_laws.proofs.Rows.InsertedRows.{RowsApart, all_inserted, all_order, differ_all, distinct_frozen, has_all, has_frozen}
use Rattle.std.proofs.lemmas.List.{append_assoc}
use Rattle.lf_laws.proofs.Rows.RowEdges.{edge_row, field_is}
use Rattle.lf_base.proofs.ListLemmas.Members.{Member_flat_map, Member_map, Member_of_flat_map, Member_of_map, Within_append, Within_flat_map, any_more, Member_left, Member_of_append, Member_right, Within}
use Rattle.std.proofs.Math.Bool.{or-true}
use Rattle.lf_base.proofs.NameLemmas.RowNames.{has_names}
use Rattle.lf_base.proofs.NameLemmas.SameNames.{same_name_itself}
use Rattle.lf_laws.proofs.Owners.OwnersGoRound.{owns_within, round_before}
use Rattle.lf_laws.proofs.Owners.PathsOfSets.{freeze_closed, freeze_part, freeze_within}
use Rattle.lf_laws.proofs.Changes.SameOwners.{lead_there}
use Rattle.lf_base.proofs.ListLemmas.Filters.{Member_of_filter}
use Rattle.lf_laws.proofs.Dropping.RowsInPlace.{rows_in_place}
use Rattle.lf_base.proofs.NameLemmas.NameOrder.{name_below_trans}
use Rattle.lf_laws.proofs.Dropping.RowsWithout.{owner_lost, owner_old, owner_stay, show}
use Rattle.std.proofs.lemmas.Option.{none-some}
use Rattle.lf_laws.proofs.Edges.RowsGone.{frozen_same}

-- what the parts of a state have in turn was there before, where some rows leave and become its own
parts_within : {X : Type 0} (slots rows' rows held made given own' own : List X) → Within rows' rows → ((x : X) → Member x own' → Member x rows ⊎ Member x own)
    → Within (slots ++ (rows' ++ (held ++ (made ++ (given ++ own'))))) (slots ++ (rows ++ (held ++ (made ++ (given ++ own)))))
parts_within slots rows' rows held made given own' own left came =
    Within_append slots slots (rows' ++ (held ++ (made ++ (given ++ own')))) (rows ++ (held ++ (made ++ (given ++ own)))) (λ x m. m) (λ x m. elim (Member_of_append x rows' (held ++ (made ++ (given ++ own'))) m) [
      | inl k ↦ Member_left x rows _ (left x k)
      | inr k ↦ elim (Member_of_append x held (made ++ (given ++ own')) k) [
        | inl n ↦ Member_right x rows _ (Member_left x held _ n)
        | inr n ↦ elim (Member_of_append x made (given ++ own') n) [
          | inl q ↦ Member_right x rows _ (Member_right x held _ (Member_left x made _ q))
          | inr q ↦ elim (Member_of_append x given own' q) [
            | inl z ↦ Member_right x rows _ (Member_right x held _ (Member_right x made _ (Member_left x given own z)))
            | inr z ↦ elim (came x z) [
              | inl y ↦ Member_left x rows _ y
              | inr y ↦ Member_right x rows _ (Member_right x held _ (Member_right x made _ (Member_right x given own y)))
            ]
          ]
        ]
      ]
    ])

module _ (s : State) (v : Value) (t : WellFormed s) where
  abbrev set : List Row
  set = freeze_set s v

  abbrev gone : ObjId → Bool
  gone o = has_row set o

  abbrev rows : List Row
  rows = filter (λ r. not (gone r.name)) s.rows

  abbrev cold : List Row
  cold = map frozen_row set

  abbrev own : List Row
  own = insert_rows cold s.own

  abbrev after : State
  after = freeze_result s v

  rows_distinct : Distinct s.rows
  rows_distinct = differ_rows s.rows (names s.given ++ names s.own) t.names_differ

  set_part : Sub set s.rows
  set_part = freeze_part s v

  rows_part : Sub rows s.rows
  rows_part = sub_filter (λ r. not (gone r.name)) s.rows

  set_distinct : Distinct cold
  set_distinct = distinct_frozen set (distinct_sub set_part rows_distinct)

  -- a cold row comes from a row of the set
  cold_row : (x : Row) → Member x cold → (y : Row) × (Member y set × (frozen_row y ≡ x))
  cold_row x m = Member_of_map frozen_row x set m

  cold_gone : (x : Row) → Member x cold → gone x.name ≡ true
  cold_gone x m = sym (has_frozen set x.name) ∙ mem_has x cold m

  gone_row : (o : ObjId) → gone o ≡ true → has_row s.rows o ≡ true
  gone_row o e = any_more (λ (r : Row). same_name r.name o) set s.rows (freeze_within s v) e

  not_frozen : (o : ObjId) → gone o ≡ true → has_name (names s.given ++ names s.own) o ≡ false
  not_frozen o e = false_from_ne_true _ (λ h. differ_apart (names s.rows) (names s.given ++ names s.own) t.names_differ o (has_names s.rows o ∙ gone_row o e) h)

  not_given : (o : ObjId) → gone o ≡ true → has_name (names s.given) o ≡ false
  not_given o e = (or_parts _ _ (sym (has_append (names s.given) (names s.own) o) ∙ not_frozen o e)).0

  not_own : (o : ObjId) → gone o ≡ true → has_name (names s.own) o ≡ false
  not_own o e = (or_parts _ _ (sym (has_append (names s.given) (names s.own) o) ∙ not_frozen o e)).1

  not_left : (o : ObjId) → gone o ≡ true → has_name (names rows) o ≡ false
  not_left o e = has_names rows o ∙ false_from_ne_true _ (λ h.
      let x = row_there rows o h in
      both_ways _ (not-true _ (Member_of_filter (λ (r : Row). not (gone r.name)) x.0 s.rows x.1.0).1) (ap gone x.1.1 ∙ e))

  cold_apart : RowsApart cold (names s.own)
  cold_apart x m = not_own x.name (cold_gone x m)

  differ_after : Differ same_name (all_names after)
  differ_after =
      let left : Differ same_name ((names rows ++ names s.given) ++ names s.own) =
      subst (Differ same_name) (sym (append_assoc (names rows) (names s.given) (names s.own))) (differ_sub same_name (sub_append (sub_map (λ (r : Row). r.name) rows_part) (sub_all (names s.given ++ names s.own))) t.names_differ) in
      subst (Differ same_name) (sym (sym (append_assoc (names rows) (names s.given) (names own))))
      (differ_all (names rows ++ names s.given) cold s.own set_distinct
      (λ x m. has_append (names rows) (names s.given) x.name ∙ or_from _ _ (not_left x.name (cold_gone x m)) (not_given x.name (cold_gone x m)))
      cold_apart left)

  -- ---- owners after
  gone_owner : (o : ObjId) → gone o ≡ true → owner_of after o ≡ Some Frozen
  gone_owner o e =
      let here : (has_row s.given o || has_row own o) ≡ true = ap (λ b. has_row s.given o || b) (has_all cold s.own o ∙ ap (λ b. b || has_row s.own o) (has_frozen set o ∙ e)) ∙ or-true _ in
      (λ i. or_frozen (here i) (owner_lost s.rows gone o e i))

  left_owner : (o : ObjId) → gone o ≡ false → owner_of after o ≡ owner_of s o
  left_owner o e =
      let same : has_row own o ≡ has_row s.own o = has_all cold s.own o ∙ ap (λ b. b || has_row s.own o) (has_frozen set o ∙ e) in
      (λ i. or_frozen (has_row s.given o || same i) (owner_stay s.rows gone o e i))

  -- ---- edges after
  own_edge : (e : Edge) → Member e (rows_edges own) → Member e (rows_edges s.rows) ⊎ Member e (rows_edges s.own)
  own_edge e m =
      let x = Member_of_flat_map row_edges e own m in
      elim (all_inserted cold s.own x.0 x.1.0) [
        | inl k ↦ inl (Within_flat_map row_edges set s.rows (freeze_within s v) e (subst (Member e) (frozen_same set) (Member_flat_map row_edges x.0 e cold k x.1.1)))
        | inr k ↦ inr (Member_flat_map row_edges x.0 e s.own k x.1.1)
      ]

  pub edge_before : (e : Edge) → Member e (edges after) → Member e (edges s)
  edge_before = parts_within (slot_edges s.slots) (rows_edges rows) (rows_edges s.rows) (content_edges s.held) (content_edges s.made) (rows_edges s.given) (rows_edges own) (rows_edges s.own)
      (Within_flat_map row_edges rows s.rows (sub_within rows_part)) own_edge

  in_set : (y : Row) → Member y s.rows → gone y.name ≡ true → Member y set
  in_set y m e = let x = row_there set y.name e in subst (λ z. Member z set) (same_row s.rows rows_distinct x.0 y (freeze_within s v x.0 x.1.0) m x.1.1) x.1.0

  frozen_near : (b : Bool) → from_near (or_frozen b None) ≡ true → or_frozen b None ≡ Some Frozen
  frozen_near true e = refl
  frozen_near false e = cc

  -- what a row of the set points to is frozen after
  set_leads : (x : Row) → Member x set → (o : ObjId) → Member o (field_targets x.fields) → (u : Option Owner) → owner_in s.rows o ≡ u → from_near (owner_of s o) ≡ true → owner_of after o ≡ Some Frozen
  set_leads x m o n (Some w) h near =
      let y = row_of s.rows o w h in
      let brought : brings_in x y.row ≡ true = or_left _ _ (Member_has_name (y.row).name (field_targets x.fields) (subst (λ z. Member z (field_targets x.fields)) (sym y.name) n)) in
      gone_owner o (subst (λ z. gone z ≡ true) y.name (mem_has y.row set ((freeze_closed s v).next x y.row m y.mem brought)))
  set_leads x m o n None h near =
      elim (gone o) as (λ b. gone o ≡ b → owner_of after o ≡ Some Frozen) [
        | true ↦ λ e. gone_owner o e
        | false ↦ λ e. left_owner o e ∙ ap (or_frozen (has_row s.given o || has_row s.own o)) h ∙ frozen_near (has_row s.given o || has_row s.own o) (ap (λ u. from_near (or_frozen (has_row s.given o || has_row s.own o) u)) (sym h) ∙ near)
      ] refl

  -- to a target that is frozen after
  to_frozen : (f : Source) (u : Option Owner) (o : ObjId) (w : Option Owner) → from_row u o w ≡ true → from_row u o (Some Frozen) ≡ true
  to_frozen f (Some Local) o w l = refl
  to_frozen f (Some (In r)) o w l = refl
  to_frozen f (Some Frozen) o w l = refl
  to_frozen f None o w l = l

  -- from a row that isn't in the set
  left_lead : (p o : ObjId) → gone p ≡ false → from_row (owner_of s p) o (owner_of s o) ≡ true → from_row (owner_of after p) o (owner_of after o) ≡ true
  left_lead p o n l =
      ap (λ u. from_row u o (owner_of after o)) (left_owner p n) ∙ elim (gone o) as (λ b. gone o ≡ b → from_row (owner_of s p) o (owner_of after o) ≡ true) [
        | true ↦ λ e. ap (from_row (owner_of s p) o) (gone_owner o e) ∙ to_frozen Slot (owner_of s p) o (owner_of s o) l
        | false ↦ λ e. ap (from_row (owner_of s p) o) (left_owner o e) ∙ l
      ] refl

  -- from a row of the set
  gone_lead : (e : Edge) → Member e (edges s) → (p : ObjId) → e.from ≡ Field p → gone p ≡ true → from_row (owner_of after p) e.to (owner_of after e.to) ≡ true
  gone_lead e m p f g = elim (edge_begins s e m) [
    | at_slot h n ↦ let z = sym h ∙ f in cc
    | at_content d h n ↦ let z = sym h ∙ f in cc
    | at_frozen x n h ↦
        let same : x.name ≡ p = field_is x.name p (sym h ∙ f) in
        let w = owner_there s.rows rows_distinct p (gone_row p g) in
        absurd (none-some w.owner (sym ((rows_in_place s t).apart p (subst (λ z. (has_row s.given z || has_row s.own z) ≡ true) same n)) ∙ w.is))
    | at_row x n h b ↦
        let y = edge_row s.rows e b in
        let here : Member y.row set = in_set y.row y.mem (ap gone (field_is (y.row).name p (sym y.from ∙ f)) ∙ g) in
        (λ i. from_row (gone_owner p g i) e.to (set_leads y.row here e.to y.to (owner_in s.rows e.to) refl (lead_there s e.from e.to (t.leads e m)) i))
  ]

  row_lead : (e : Edge) → Member e (edges s) → (p : ObjId) → e.from ≡ Field p → may_lead s (Field p) e.to ≡ true → may_lead after (Field p) e.to ≡ true
  row_lead e m p f l = elim (gone p) as (λ b. gone p ≡ b → from_row (owner_of after p) e.to (owner_of after e.to) ≡ true) [
    | true ↦ λ g. gone_lead e m p f g
    | false ↦ λ n. left_lead p e.to n l
  ] refl

  content_lead : (o : ObjId) → from_content o (owner_of s o) ≡ true → from_content o (owner_of after o) ≡ true
  content_lead o l = elim (gone o) as (λ b. gone o ≡ b → from_content o (owner_of after o) ≡ true) [
    | true ↦ λ e. ap (from_content o) (gone_owner o e)
    | false ↦ λ e. ap (from_content o) (left_owner o e) ∙ l
  ] refl

  slot_lead : (o : ObjId) → from_near (owner_of s o) ≡ true → from_near (owner_of after o) ≡ true
  slot_lead o l = elim (gone o) as (λ b. gone o ≡ b → from_near (owner_of after o) ≡ true) [
    | true ↦ λ e. ap from_near (gone_owner o e)
    | false ↦ λ e. ap from_near (left_owner o e) ∙ l
  ] refl

  lead_on : (e : Edge) → Member e (edges s) → (f : Source) → e.from ≡ f → may_lead s f e.to ≡ true → may_lead after f e.to ≡ true
  lead_on e m Slot h l = slot_lead e.to l
  lead_on e m (Field p) h l = row_lead e m p h l
  lead_on e m (Content c) h l = content_lead e.to l

  leads_after : Leads after
  leads_after e m = let n = edge_before e m in lead_on e n e.from refl (t.leads e n)

  bridge_after : (o r : ObjId) → owner_in rows o ≡ Some (In r) → owner_in rows r ≡ Some (In r)
  bridge_after o r h =
      let k = owner_old s.rows gone o (In r) h in
      let top : owner_in s.rows r ≡ Some (In r) = t.bridge o r k.1 in
      owner_stay s.rows gone r (false_from_ne_true _ (λ e.
      let y = row_of s.rows o (In r) k.1 in
      let x = row_of s.rows r (In r) top in
      let here : Member x.row set = in_set x.row x.mem (ap gone x.name ∙ e) in
      let is : is_in (x.row).name (Some ((x.row).owner)) ≡ true = (λ i. is_in (x.name i) (Some (x.owner i))) ∙ same_name_itself r in
      let there : is_in (x.row).name (Some ((y.row).owner)) ≡ true = (λ i. is_in (x.name i) (Some (y.owner i))) ∙ same_name_itself r in
      let brought : brings_in x.row y.row ≡ true = ap (λ b. has_name (field_targets (x.row).fields) (y.row).name || b) (and_from _ _ is there) ∙ or-true _ in
      both_ways _ k.0 (sym (ap gone y.name) ∙ mem_has y.row set ((freeze_closed s v).next x.row y.row here y.mem brought)))) ∙ top

  owning_before : (f : Source) (r : ObjId) → is_owning rows f r ≡ true → is_owning s.rows f r ≡ true
  owning_before Slot r e = e
  owning_before (Field p) r e = show (is_in_other r) refl s.rows gone p e
  owning_before (Content c) r e = e

  -- no frozen row owns
  own_no_row : (x : Row) → Member x own → owner_in rows x.name ≡ None
  own_no_row x m = elim (all_inserted cold s.own x m) [
    | inl k ↦ owner_lost s.rows gone x.name (cold_gone x k)
    | inr k ↦
        let other : gone x.name ≡ false = false_from_ne_true _ (λ e. both_ways _ (not_own x.name e) (has_names s.own x.name ∙ mem_has x s.own k)) in
        owner_stay s.rows gone x.name other ∙ (rows_in_place s t).apart x.name (ap (λ b. has_row s.given x.name || b) (mem_has x s.own k) ∙ or-true _)
  ]

  none_owns : (r : ObjId) → count_by (λ (e : Edge). is_owning rows e.from r && same_name e.to r) (rows_edges own) ≡ 0
  none_owns r = none_count (λ (e : Edge). is_owning rows e.from r && same_name e.to r) (rows_edges own) (λ e m.
      let x = edge_row own e m in
      ap (λ b. b && same_name e.to r) (ap (λ f. is_owning rows f r) x.from ∙ ap (is_in_other r) (own_no_row x.row x.mem)))

  fewer : (r : ObjId) → owning_edges after r ≤ owning_edges s r
  fewer r =
      let p : Edge → Bool = λ e. is_owning rows e.from r && same_name e.to r in
      let q : Edge → Bool = λ e. is_owning s.rows e.from r && same_name e.to r in
      let pq : (e : Edge) → p e ≡ true → q e ≡ true = λ e h. let k = and_parts (is_owning rows e.from r) (same_name e.to r) h in and_from _ _ (owning_before e.from r k.0) k.1 in
      let f : Edge → ℕ = λ e. cond (p e) 1 0 in
      let g : Edge → ℕ = λ e. cond (q e) 1 0 in
      omega (
        arith,
        sum_by-append f (slot_edges s.slots) (rows_edges rows ++ (content_edges s.held ++ (content_edges s.made ++ (rows_edges s.given ++ rows_edges own)))),
        sum_by-append f (rows_edges rows) (content_edges s.held ++ (content_edges s.made ++ (rows_edges s.given ++ rows_edges own))),
        sum_by-append f (content_edges s.held) (content_edges s.made ++ (rows_edges s.given ++ rows_edges own)),
        sum_by-append f (content_edges s.made) (rows_edges s.given ++ rows_edges own),
        sum_by-append f (rows_edges s.given) (rows_edges own),
        sum_by-append g (slot_edges s.slots) (rows_edges s.rows ++ (content_edges s.held ++ (content_edges s.made ++ (rows_edges s.given ++ rows_edges s.own)))),
        sum_by-append g (rows_edges s.rows) (content_edges s.held ++ (content_edges s.made ++ (rows_edges s.given ++ rows_edges s.own))),
        sum_by-append g (content_edges s.held) (content_edges s.made ++ (rows_edges s.given ++ rows_edges s.own)),
        sum_by-append g (content_edges s.made) (rows_edges s.given ++ rows_edges s.own),
        sum_by-append g (rows_edges s.given) (rows_edges s.own),
        count_sub p q pq (sub_all (slot_edges s.slots)),
        count_sub p q pq (sub_flat_map row_edges rows_part),
        count_sub p q pq (sub_all (content_edges s.held)),
        count_sub p q pq (sub_all (content_edges s.made)),
        count_sub p q pq (sub_all (rows_edges s.given)),
        none_owns r,
      )

  owns_old : (q r : ObjId) → owns after q r ≡ true → owns s q r ≡ true
  owns_old = owns_within s after edge_before (λ q p e. show (is_in q) refl s.rows gone p e)

  -- ---- names, keys and values after
  own_row : (x : Row) → Member x own → ((y : Row) × (Member y s.rows × (frozen_row y ≡ x))) ⊎ Member x s.own
  own_row x m = elim (all_inserted cold s.own x m) [
    | inl k ↦ let y = cold_row x k in inl (y.0, (freeze_within s v y.0 y.1.0, y.1.1))
    | inr k ↦ inr k
  ]

  keys_own : (x : Row) → Member x own → Differ same_key (map (λ (f : Key × Value). f.0) x.fields)
  keys_own x m = elim (own_row x m) [
    | inl y ↦ subst (λ (z : Row). Differ same_key (map (λ (f : Key × Value). f.0) z.fields)) y.1.1 (t.keys_differ y.0 (Member_left y.0 s.rows (s.given ++ s.own) y.1.0))
    | inr k ↦ t.keys_differ x (Member_right x s.rows (s.given ++ s.own) (Member_right x s.given s.own k))
  ]

  keys_after : (x : Row) → Member x (rows ++ (s.given ++ own)) → Differ same_key (map (λ (f : Key × Value). f.0) x.fields)
  keys_after x m = elim (Member_of_append x rows (s.given ++ own) m) [
    | inl k ↦ t.keys_differ x (Member_left x s.rows (s.given ++ s.own) (sub_within rows_part x k))
    | inr k ↦ elim (Member_of_append x s.given own k) [
      | inl n ↦ t.keys_differ x (Member_right x s.rows (s.given ++ s.own) (Member_left x s.given s.own n))
      | inr n ↦ keys_own x n
    ]
  ]

  frozen_after : (x : Row) → Member x (s.given ++ own) → x.owner ≡ Frozen
  frozen_after x m = elim (Member_of_append x s.given own m) [
    | inl k ↦ t.frozen x (Member_left x s.given s.own k)
    | inr k ↦ elim (own_row x k) [
      | inl y ↦ ap (λ (z : Row). z.owner) (sym y.1.1)
      | inr n ↦ t.frozen x (Member_right x s.given s.own n)
    ]
  ]

  own_name : (o : ObjId) → Member o (names own) → Member o (names s.rows) ⊎ Member o (names s.own)
  own_name o m =
      let x = Member_of_map (λ (r : Row). r.name) o own m in
      elim (own_row x.0 x.1.0) [
        | inl y ↦ inl (subst (λ z. Member z (names s.rows)) (ap (λ (z : Row). z.name) y.1.1 ∙ x.1.1) (Member_map (λ (r : Row). r.name) y.0 s.rows y.1.0))
        | inr k ↦ inr (subst (λ z. Member z (names s.own)) x.1.1 (Member_map (λ (r : Row). r.name) x.0 s.own k))
      ]

  name_before : (o : ObjId) → Member o (all_names after) → Member o (all_names s)
  name_before = parts_within [] (names rows) (names s.rows) [] [] (names s.given) (names own) (names s.own) (sub_within (sub_map (λ (r : Row). r.name) rows_part)) own_name

  abbrev row_values : Row → List Value
  row_values r = map (λ (f : Key × Value). f.1) r.fields

  own_value : (w : Value) → Member w (field_values own) → Member w (field_values s.rows) ⊎ Member w (field_values s.own)
  own_value w m =
      let x = Member_of_flat_map row_values w own m in
      elim (own_row x.0 x.1.0) [
        | inl y ↦ inl (Member_flat_map row_values y.0 w s.rows y.1.0 (subst (λ (z : Row). Member w (row_values z)) (sym y.1.1) x.1.1))
        | inr k ↦ inr (Member_flat_map row_values x.0 w s.own k x.1.1)
      ]

  value_before : (w : Value) → Member w (all_values after) → Member w (all_values s)
  value_before = parts_within (slot_values s.slots) (field_values rows) (field_values s.rows) (content_values s.held) (content_values s.made) (field_values s.given) (field_values own) (field_values s.own)
      (Within_flat_map row_values rows s.rows (sub_within rows_part)) own_value

  cown_before : (c : CownId) → Member c (all_cowns after) → Member c (all_cowns s)
  cown_before c m = elim (Member_of_append c (own_cowns s) (flat_map cowns_of_value (all_values after)) m) [
    | inl k ↦ Member_left c (own_cowns s) (flat_map cowns_of_value (all_values s)) k
    | inr k ↦ Member_right c (own_cowns s) (flat_map cowns_of_value (all_values s)) (Within_flat_map cowns_of_value (all_values after) (all_values s) value_before c k)
  ]

  pub freeze_keeps : WellFormed after
  freeze_keeps = record {
    rows_rise = order_sub name_below name_below_trans (sub_map (λ (r : Row). r.name) rows_part) t.rows_rise;
    given_rise = t.given_rise;
    own_rise = all_order cold s.own set_distinct cold_apart t.own_rise;
    names_differ = differ_after;
    keys_differ = keys_after;
    mutable = λ x m. t.mutable x (sub_within rows_part x m);
    frozen = frozen_after;
    bridge = bridge_after;
    leads = leads_after;
    one_owner = λ r b. let one = t.one_owner r (show (is_in r) refl s.rows gone r b) in omega (arith, one, fewer r);
    no_round = round_before s after owns_old t.no_round;
    objects_numbered = λ o m. t.objects_numbered o (name_before o m);
    cowns_numbered = λ c m. t.cowns_numbered c (cown_before c m);
    cowns_differ = t.cowns_differ;
    made_here = t.made_here;
  }
