-- What giving all rows of a region to another owner leaves.
use Rattle.std.proofs.Common.{Bool, List, None, Option, Some, [], ap, cond, false, inl, inr, map, refl, subst, sym, true, ◌++◌, ◌||◌, ◌∙◌, ◌∷◌, ◌≡◌, ◌≤◌}
use Rattle.std.specs.List.{flat_map}
use Rattle.lf_base.specs.declared.ids.ObjId.{ObjId}
use Rattle.lf_base.specs.declared.values.Key.{Key}
use Rattle.lf_base.specs.declared.values.Owner.{Owner}
use Rattle.lf_base.specs.declared.values.Owner.TheVariants.{Frozen, In, Local}
use Rattle.lf_base.specs.declared.values.Value.{Value}
use Rattle.lf_base.specs.Edges.{Edge, content_edges, edges, row_edges, rows_edges, slot_edges}
use Rattle.lf_base.specs.MergeResult.{lies_in, relabel_region}
use Rattle.lf_base.specs.Names.{cowns_of_value, name_below, same_key, same_name}
use Rattle.lf_base.specs.Owners.{has_row, is_bridge, is_in, names, or_frozen, owner_in, owner_of, row_at, row_owner}
use Rattle.lf_base.specs.Ownership.{NoRound, owning_edges}
use Rattle.lf_base.specs.PlainState.{Row, State}
use Rattle.lf_base.specs.Sets.{Differ, InOrder, Member}
use Rattle.lf_base.specs.WellFormed.{Leads, WellFormed, content_values, field_values, from_near, own_cowns, slot_values}
use Rattle.lf_laws.proofs.Rows.EdgeCounts.{with_rows}
use Rattle.lf_base.proofs.ListLemmas.Members.{Member_of_map, Member_left, Member_of_append, Member_right}
use Rattle.lf_base.proofs.NameLemmas.SameNames.{same_name_is, same_name_itself}
use Rattle.lf_laws.proofs.Owners.OwnersGoRound.{round_none}
use Rattle.lf_laws.proofs.Writes.WriteLaw.{mutable_at}

module _ (b : ObjId) (w : Owner) where
  -- the owner after, by the owner before
  abbrev pub swapped : Option Owner → Option Owner
  swapped None = None
  swapped (Some u) = Some (cond (is_in b (Some u)) w u)

  pub names_of_relabelled : (rows : List Row) → names (relabel_region rows b w) ≡ names rows
  names_of_relabelled [] = refl
  names_of_relabelled (x ∷ xs) = elim (lies_in b x) as (λ c. (cond c (record x { owner = w }) x).name ∷ names (relabel_region xs b w) ≡ x.name ∷ names xs) [
    | true ↦ ap (λ l. x.name ∷ l) (names_of_relabelled xs)
    | false ↦ ap (λ l. x.name ∷ l) (names_of_relabelled xs)
  ]

  pub region_edges : (rows : List Row) → rows_edges (relabel_region rows b w) ≡ rows_edges rows
  region_edges [] = refl
  region_edges (x ∷ xs) = elim (lies_in b x) as (λ c. row_edges (cond c (record x { owner = w }) x) ++ rows_edges (relabel_region xs b w) ≡ row_edges x ++ rows_edges xs) [
    | true ↦ ap (λ l. row_edges x ++ l) (region_edges xs)
    | false ↦ ap (λ l. row_edges x ++ l) (region_edges xs)
  ]

  pub region_values : (rows : List Row) → field_values (relabel_region rows b w) ≡ field_values rows
  region_values [] = refl
  region_values (x ∷ xs) = elim (lies_in b x) as (λ c. map (λ (f : Key × Value). f.1) (cond c (record x { owner = w }) x).fields ++ field_values (relabel_region xs b w) ≡ field_values (x ∷ xs)) [
    | true ↦ ap (λ l. map (λ (f : Key × Value). f.1) x.fields ++ l) (region_values xs)
    | false ↦ ap (λ l. map (λ (f : Key × Value). f.1) x.fields ++ l) (region_values xs)
  ]

  pub region_owner : (rows : List Row) (o : ObjId) → owner_in (relabel_region rows b w) o ≡ swapped (owner_in rows o)
  region_owner [] o = refl
  region_owner (x ∷ xs) o = elim (lies_in b x) as (λ c. lies_in b x ≡ c → owner_in (cond c (record x { owner = w }) x ∷ relabel_region xs b w) o ≡ swapped (owner_in (x ∷ xs) o)) [
    | true ↦ λ e. elim (same_name x.name o) as (λ c. row_owner (cond c (Some (record x { owner = w })) (row_at (relabel_region xs b w) o)) ≡ swapped (row_owner (cond c (Some x) (row_at xs o)))) [
      | true ↦ ap (λ c. Some (cond c w (x.owner))) (sym e)
      | false ↦ region_owner xs o
    ]
    | false ↦ λ e. elim (same_name x.name o) as (λ c. row_owner (cond c (Some x) (row_at (relabel_region xs b w) o)) ≡ swapped (row_owner (cond c (Some x) (row_at xs o)))) [
      | true ↦ ap (λ c. Some (cond c w (x.owner))) (sym e)
      | false ↦ region_owner xs o
    ]
  ] refl

  -- an owner that isn't that region's stays
  pub swap_other : (u : Owner) → is_in b (Some u) ≡ false → swapped (Some u) ≡ Some u
  swap_other u h = ap (λ c. Some (cond c w u)) h

  pub swap_region : swapped (Some (In b)) ≡ Some w
  swap_region = ap (λ c. Some (cond c w (In b))) (same_name_itself b)

  -- what became of an owner: it is the new one, or the same and not that region's
  pub data Became (u : Option Owner) : Type 0 where
    nothing : u ≡ None → swapped u ≡ None → Became u
    the_new : u ≡ Some (In b) → swapped u ≡ Some w → Became u
    the_same : (v : Owner) → u ≡ Some v → is_in b (Some v) ≡ false → swapped u ≡ Some v → Became u

  pub in_that : (v : Owner) → is_in b (Some v) ≡ true → v ≡ In b
  in_that Local e = cc
  in_that Frozen e = cc
  in_that (In q) e = ap In (sym (same_name_is b q e))

  pub became : (u : Option Owner) → Became u
  became None = nothing refl refl
  became (Some v) = elim (is_in b (Some v)) as (λ c. is_in b (Some v) ≡ c → Became (Some v)) [
    | true ↦ λ e. the_new (ap Some (in_that v e)) (ap (λ c. Some (cond c w v)) e)
    | false ↦ λ e. the_same v refl e (ap (λ c. Some (cond c w v)) e)
  ] refl

  module _ (s : State) (t : WellFormed s) where
    abbrev rows : List Row
    rows = relabel_region s.rows b w

    abbrev after : State
    after = with_rows s rows

    pub edges_same : edges after ≡ edges s
    edges_same = ap (λ l. slot_edges s.slots ++ (l ++ (content_edges s.held ++ (content_edges s.made ++ (rows_edges s.given ++ rows_edges s.own))))) (region_edges s.rows)

    pub edge_before : (e : Edge) → Member e (edges after) → Member e (edges s)
    edge_before e m = subst (Member e) edges_same m

    abbrev froze : ObjId → Bool
    froze o = has_row s.given o || has_row s.own o

    pub of_after : (o : ObjId) (u : Option Owner) → swapped (owner_in s.rows o) ≡ u → owner_of after o ≡ or_frozen (froze o) u
    of_after o u h = ap (or_frozen (froze o)) (region_owner s.rows o ∙ h)

    -- what has a row has one still
    near_same : (z : Bool) (u : Option Owner) → from_near (or_frozen z u) ≡ true → from_near (or_frozen z (swapped u)) ≡ true
    near_same z None h = h
    near_same z (Some v) h = refl

    pub near_on : (o : ObjId) → from_near (owner_of s o) ≡ true → from_near (owner_of after o) ≡ true
    near_on o h = ap from_near (of_after o (swapped (owner_in s.rows o)) refl) ∙ near_same (froze o) (owner_in s.rows o) h

    frozen_by : (o : ObjId) (u : Option Owner) → owner_in s.rows o ≡ u → or_frozen (froze o) u ≡ Some Frozen → or_frozen (froze o) (swapped u) ≡ Some Frozen
    frozen_by o None e h = h
    frozen_by o (Some v) e h = absurd (mutable_at s t o (e ∙ h))

    -- a frozen row is frozen still
    pub frozen_on : (o : ObjId) → owner_of s o ≡ Some Frozen → owner_of after o ≡ Some Frozen
    frozen_on o h = of_after o (swapped (owner_in s.rows o)) refl ∙ frozen_by o (owner_in s.rows o) refl h

    keys_after : (x : Row) → Member x rows → Differ same_key (map (λ (f : Key × Value). f.0) x.fields)
    keys_after x m =
        let y = Member_of_map (λ (row : Row). cond (lies_in b row) (record row { owner = w }) row) x s.rows m in
        subst (λ (z : Row). Differ same_key (map (λ (f : Key × Value). f.0) z.fields)) y.1.1
        (elim (lies_in b y.0) as (λ c. Differ same_key (map (λ (f : Key × Value). f.0) (cond c (record (y.0) { owner = w }) (y.0)).fields)) [
          | true ↦ t.keys_differ y.0 (Member_left y.0 s.rows (s.given ++ s.own) y.1.0)
          | false ↦ t.keys_differ y.0 (Member_left y.0 s.rows (s.given ++ s.own) y.1.0)
        ])

    mutable_after : (w ≡ Frozen → ⊥) → (x : Row) → Member x rows → x.owner ≡ Frozen → ⊥
    mutable_after n x m h =
        let y = Member_of_map (λ (row : Row). cond (lies_in b row) (record row { owner = w }) row) x s.rows m in
        (elim (lies_in b y.0) as (λ c. (cond c (record (y.0) { owner = w }) (y.0)).owner ≡ Frozen → ⊥) [
          | true ↦ λ e. n e
          | false ↦ λ e. t.mutable y.0 y.1.0 e
        ]) (ap (λ (z : Row). z.owner) y.1.1 ∙ h)

    pub moves_keep : (w ≡ Frozen → ⊥) → ((o r : ObjId) → owner_in rows o ≡ Some (In r) → owner_in rows r ≡ Some (In r)) → Leads after
        → ((r : ObjId) → is_bridge rows r ≡ true → owning_edges after r ≤ 1) → NoRound after → WellFormed after
    moves_keep n bridges_stay lead one straight = record {
      rows_rise = subst (InOrder name_below) (sym (names_of_relabelled s.rows)) t.rows_rise;
      given_rise = t.given_rise;
      own_rise = t.own_rise;
      names_differ = subst (λ l. Differ same_name (l ++ (names s.given ++ names s.own))) (sym (names_of_relabelled s.rows)) t.names_differ;
      keys_differ = λ x m. elim (Member_of_append x rows (s.given ++ s.own) m) [ inl k ↦ keys_after x k | inr k ↦ t.keys_differ x (Member_right x s.rows (s.given ++ s.own) k) ];
      mutable = mutable_after n;
      frozen = t.frozen;
      bridge = bridges_stay;
      leads = lead;
      one_owner = one;
      no_round = round_none after straight;
      objects_numbered = λ o m. t.objects_numbered o (subst (λ l. Member o (l ++ (names s.given ++ names s.own))) (names_of_relabelled s.rows) m);
      cowns_numbered = λ c m. t.cowns_numbered c (subst (λ vs. Member c (own_cowns s ++ flat_map cowns_of_value (slot_values s.slots ++ (vs ++ (content_values s.held ++ (content_values s.made ++ (field_values s.given ++ field_values s.own))))))) (region_values s.rows) m);
      cowns_differ = t.cowns_differ;
      made_here = t.made_here;
    }
