-- Contents after a behaviour's end stand by themselves, with the frozen rows that are then committed; and more frozen rows don't matter to them.
use Rattle.lf_base.proofs.ListLemmas.Sublists.{differ_left, differ_right}
use Rattle.lf_laws.proofs.MoreGiven.MoreWellFormed.{big_whole}
use Rattle.std.proofs.Common.{Bool, List, None, Option, Some, [], ap, arith, cond, false, inl, inr, map, refl, subst, sym, true, ℕ, ◌&&◌, ◌++◌, ◌+◌, ◌||◌, ◌∙◌, ◌∷◌, ◌≡◌, ◌≤◌}
use Rattle.std.proofs.lemmas.List.{append-nil}
use Rattle.std.proofs.lemmas.List.Sums.{sum_by-append}
use Rattle.std.specs.List.{count_by, flat_map}
use Rattle.lf_base.specs.declared.ids.CownId.{CownId}
use Rattle.lf_base.specs.declared.ids.ObjId.{ObjId}
use Rattle.lf_base.specs.declared.values.Key.{Key}
use Rattle.lf_base.specs.declared.values.Owner.{Owner}
use Rattle.lf_base.specs.declared.values.Owner.TheVariants.{Frozen, In, Local}
use Rattle.lf_base.specs.declared.values.Value.{Value}
use Rattle.lf_base.specs.Edges.{Content, Edge, Field, Slot, Source, content_edges, edges, edges_by, row_edges, rows_edges, slot_edges}
use Rattle.lf_base.specs.FreezeResult.{insert_rows}
use Rattle.lf_base.specs.Names.{cowns_of_value, name_below, same_key, same_name, targets_of_value}
use Rattle.lf_base.specs.Owners.{has_name, has_row, names, or_frozen, owner_in, owner_of}
use Rattle.lf_base.specs.Ownership.{is_owning}
use Rattle.lf_base.specs.PlainState.{Row, State}
use Rattle.lf_base.specs.Sets.{Differ, InOrder, Member}
use Rattle.lf_base.specs.WellFormed.{MayBeGiven, WellFormed, all_cowns, all_names, all_values, content_values, field_values, from_content, from_frozen, from_near, from_row, may_lead, own_cowns, slot_values}
use Rattle.lf_laws.proofs.Rows.RowsByName.{Distinct, has_append, row_of, mem_has, owner_has, differ_apart, differ_rows}
use Rattle.lf_base.proofs.ListLemmas.Tests.{some_is}
use Rattle.lf_laws.proofs.Rows.InsertedRows.{RowsApart, all_inserted, all_order, differ_all, has_all}
use Rattle.lf_laws.proofs.Dropping.KeptState.{kept_again, well_formed_kept}
use Rattle.lf_laws.proofs.Rows.RowEdges.{edge_row, row_edge}
use Rattle.lf_laws.proofs.Dropping.KeptRows.{kept_in}
use Rattle.std.proofs.lemmas.Bool.{both_ways, false_from_ne_true}
use Rattle.lf_base.proofs.ListLemmas.Members.{Member_flat_map, Member_map, Member_of_flat_map, Member_of_map, Member_left, Member_of_append, Member_right, Within}
use Rattle.std.proofs.Math.Bool.{or-true}
use Rattle.lf_base.proofs.NameLemmas.RowNames.{has_names}
use Rattle.lf_laws.proofs.Owners.OwnersGoRound.{owns_within, round_before}
use Rattle.lf_base.specs.Contents.{Parked}
use Rattle.lf_base.specs.MoreGiven.{with_given}
use Rattle.lf_base.specs.Contents.{part, single}
use Rattle.lf_base.specs.WholeContents.{Ended, Whole}
use Rattle.lf_laws.proofs.Rows.InsertedRows.{count_rows}

pub or_comm : (a b : Bool) → (a || b) ≡ (b || a)
or_comm true true = refl
or_comm true false = refl
or_comm false true = refl
or_comm false false = refl

or_nothing : (a : Bool) → (a || false) ≡ a
or_nothing true = refl
or_nothing false = refl

member_count : (p : Edge → Bool) (c : CownId × Value) (cs : List (CownId × Value)) → Member c cs → count_by p (content_edges (c ∷ [])) ≤ count_by p (content_edges cs)
member_count p c [] m = absurd m
member_count p c (d ∷ ds) (inl e) = subst (λ (x : CownId × Value). count_by p (content_edges (x ∷ [])) ≤ count_by p (content_edges (d ∷ ds))) e
    (omega (arith, sum_by-append (λ e. cond (p e) 1 0) (edges_by (Content d.0) (targets_of_value d.1)) [], sum_by-append (λ e. cond (p e) 1 0) (edges_by (Content d.0) (targets_of_value d.1)) (content_edges ds)))
member_count p c (d ∷ ds) (inr m) = omega (arith, member_count p c ds m, sum_by-append (λ e. cond (p e) 1 0) (edges_by (Content d.0) (targets_of_value d.1)) (content_edges ds))

-- ---- the end of a behaviour, for one of its contents
module _ (e : State) (t : Ended e) (b : ℕ) (c : CownId × Value) (here : Member c (e.held ++ e.made))
    (no_object : (o : ObjId) → Member o (all_names e) → o.birth ≡ b → ⊥) (no_cown : (d : CownId) → Member d (all_cowns e) → d.birth ≡ b → ⊥) where
  abbrev cold : List Row
  cold = insert_rows e.own e.given

  abbrev lone : State
  lone = record { birth = b; objects = 0; cowns = 0; rows = e.rows; slots = []; held = c ∷ []; made = []; given = cold; own = [] }

  w : WellFormed e
  w = t.whole

  rows_apart : (o : ObjId) → has_name (names e.rows) o ≡ true → has_name (names e.given ++ names e.own) o ≡ true → ⊥
  rows_apart = differ_apart (names e.rows) (names e.given ++ names e.own) w.names_differ

  later_names : Differ same_name (names e.given ++ names e.own)
  later_names = differ_right same_name (names e.rows) (names e.given ++ names e.own) w.names_differ

  distinct_names : (rows : List Row) → Differ same_name (names rows) → Distinct rows
  distinct_names rows d = differ_rows rows [] (subst (Differ same_name) (sym (append-nil (names rows))) d)

  own_distinct : Distinct e.own
  own_distinct = distinct_names e.own (differ_right same_name (names e.given) (names e.own) later_names)

  own_apart : RowsApart e.own (names e.given)
  own_apart x m = false_from_ne_true _ (λ h. differ_apart (names e.given) (names e.own) later_names x.name h (has_names e.own x.name ∙ mem_has x e.own m))

  own_rows : RowsApart e.own (names e.rows)
  own_rows x m = false_from_ne_true _ (λ h. rows_apart x.name h (has_append (names e.given) (names e.own) x.name ∙ ap (λ z. has_name (names e.given) x.name || z) (has_names e.own x.name ∙ mem_has x e.own m) ∙ or-true _))

  front_differ : Differ same_name (names e.rows ++ names e.given)
  front_differ = differ_left same_name (names e.rows ++ names e.given) (names e.own) (subst (Differ same_name) (assoc (names e.rows) (names e.given) (names e.own)) w.names_differ)
    where
      assoc : (us vs ws : List ObjId) → us ++ (vs ++ ws) ≡ (us ++ vs) ++ ws
      assoc [] vs ws = refl
      assoc (u ∷ us) vs ws = ap (λ l. u ∷ l) (assoc us vs ws)

  cold_same : (o : ObjId) → (has_row cold o || false) ≡ (has_row e.given o || has_row e.own o)
  cold_same o = or_nothing (has_row cold o) ∙ has_all e.own e.given o ∙ or_comm (has_row e.own o) (has_row e.given o)

  owner_same : (o : ObjId) → owner_of lone o ≡ owner_of e o
  owner_same o = ap (λ z. or_frozen z (owner_in e.rows o)) (cold_same o)

  lead_same : (f : Source) (o : ObjId) → may_lead e f o ≡ true → may_lead lone f o ≡ true
  lead_same Slot o k = ap from_near (owner_same o) ∙ k
  lead_same (Field x) o k = (λ i. from_row (owner_same x i) o (owner_same o i)) ∙ k
  lead_same (Content d) o k = ap (from_content o) (owner_same o) ∙ k

  content_in : (f : Edge) → Member f (content_edges (c ∷ [])) → Member f (content_edges e.held ++ content_edges e.made)
  content_in f m = elim (Member_of_append f (edges_by (Content c.0) (targets_of_value c.1)) [] m) [
    | inl n ↦ elim (Member_of_append c e.held e.made here) [
      | inl q ↦ Member_left f (content_edges e.held) (content_edges e.made) (Member_flat_map (λ (x : CownId × Value). edges_by (Content x.0) (targets_of_value x.1)) c f e.held q n)
      | inr q ↦ Member_right f (content_edges e.held) (content_edges e.made) (Member_flat_map (λ (x : CownId × Value). edges_by (Content x.0) (targets_of_value x.1)) c f e.made q n)
    ]
    | inr n ↦ absurd n
  ]

  edge_in : Within (edges lone) (edges e)
  edge_in f m = Member_right f (slot_edges e.slots) _ (elim (Member_of_append f (rows_edges e.rows) _ m) [
    | inl n ↦ Member_left f (rows_edges e.rows) _ n
    | inr n ↦ Member_right f (rows_edges e.rows) _ (elim (Member_of_append f (content_edges (c ∷ [])) (rows_edges cold ++ []) n) [
      | inl q ↦ elim (Member_of_append f (content_edges e.held) (content_edges e.made) (content_in f q)) [
        | inl z ↦ Member_left f (content_edges e.held) _ z
        | inr z ↦ Member_right f (content_edges e.held) _ (Member_left f (content_edges e.made) _ z)
      ]
      | inr q ↦ Member_right f (content_edges e.held) _ (Member_right f (content_edges e.made) _ (elim (Member_of_append f (rows_edges cold) [] q) [
        | inl z ↦ let x = Member_of_flat_map row_edges f cold z in elim (all_inserted e.own e.given x.0 x.1.0) [
          | inl y ↦ Member_right f (rows_edges e.given) (rows_edges e.own) (Member_flat_map row_edges x.0 f e.own y x.1.1)
          | inr y ↦ Member_left f (rows_edges e.given) (rows_edges e.own) (Member_flat_map row_edges x.0 f e.given y x.1.1)
        ]
        | inr z ↦ absurd z
      ]))
    ])
  ])

  contents_count : (p : Edge → Bool) → count_by p (content_edges (c ∷ [])) ≤ count_by p (content_edges e.held) + count_by p (content_edges e.made)
  contents_count p = elim (Member_of_append c e.held e.made here) [ inl q ↦ omega (arith, member_count p c e.held q) | inr q ↦ omega (arith, member_count p c e.made q) ]

  count_less : (p : Edge → Bool) → count_by p (edges lone) ≤ count_by p (edges e)
  count_less p = omega (
    arith,
    contents_count p,
    count_rows p e.own e.given,
    sum_by-append (λ e. cond (p e) 1 0) (rows_edges e.rows) (content_edges (c ∷ []) ++ (rows_edges cold ++ [])),
    sum_by-append (λ e. cond (p e) 1 0) (content_edges (c ∷ [])) (rows_edges cold ++ []),
    sum_by-append (λ e. cond (p e) 1 0) (rows_edges cold) [],
    sum_by-append (λ e. cond (p e) 1 0) (slot_edges e.slots) (rows_edges e.rows ++ (content_edges e.held ++ (content_edges e.made ++ (rows_edges e.given ++ rows_edges e.own)))),
    sum_by-append (λ e. cond (p e) 1 0) (rows_edges e.rows) (content_edges e.held ++ (content_edges e.made ++ (rows_edges e.given ++ rows_edges e.own))),
    sum_by-append (λ e. cond (p e) 1 0) (content_edges e.held) (content_edges e.made ++ (rows_edges e.given ++ rows_edges e.own)),
    sum_by-append (λ e. cond (p e) 1 0) (content_edges e.made) (rows_edges e.given ++ rows_edges e.own),
    sum_by-append (λ e. cond (p e) 1 0) (rows_edges e.given) (rows_edges e.own),
  )

  name_in : (o : ObjId) → Member o (all_names lone) → Member o (all_names e)
  name_in o m = elim (Member_of_append o (names e.rows) (names cold ++ []) m) [
    | inl n ↦ Member_left o (names e.rows) _ n
    | inr n ↦ Member_right o (names e.rows) _ (elim (Member_of_append o (names cold) [] n) [
      | inl q ↦ let x = Member_of_map (λ (r : Row). r.name) o cold q in elim (all_inserted e.own e.given x.0 x.1.0) [
        | inl z ↦ Member_right o (names e.given) (names e.own) (subst (λ y. Member y (names e.own)) x.1.1 (Member_map (λ (r : Row). r.name) x.0 e.own z))
        | inr z ↦ Member_left o (names e.given) (names e.own) (subst (λ y. Member y (names e.given)) x.1.1 (Member_map (λ (r : Row). r.name) x.0 e.given z))
      ]
      | inr q ↦ absurd q
    ])
  ]

  value_in : (v : Value) → Member v (all_values lone) → Member v (all_values e)
  value_in v m = Member_right v (slot_values e.slots) _ (elim (Member_of_append v (field_values e.rows) _ m) [
    | inl n ↦ Member_left v (field_values e.rows) _ n
    | inr n ↦ Member_right v (field_values e.rows) _ (elim n [
      | inl q ↦ elim (Member_of_append c e.held e.made here) [
        | inl z ↦ Member_left v (content_values e.held) _ (subst (λ y. Member y (content_values e.held)) q (Member_map (λ (x : CownId × Value). x.1) c e.held z))
        | inr z ↦ Member_right v (content_values e.held) _ (Member_left v (content_values e.made) _ (subst (λ y. Member y (content_values e.made)) q (Member_map (λ (x : CownId × Value). x.1) c e.made z)))
      ]
      | inr q ↦ Member_right v (content_values e.held) _ (Member_right v (content_values e.made) _ (elim (Member_of_append v (field_values cold) [] q) [
        | inl z ↦ let x = Member_of_flat_map (λ (r : Row). map (λ (f : Key × Value). f.1) r.fields) v cold z in elim (all_inserted e.own e.given x.0 x.1.0) [
          | inl y ↦ Member_right v (field_values e.given) (field_values e.own) (Member_flat_map (λ (r : Row). map (λ (f : Key × Value). f.1) r.fields) x.0 v e.own y x.1.1)
          | inr y ↦ Member_left v (field_values e.given) (field_values e.own) (Member_flat_map (λ (r : Row). map (λ (f : Key × Value). f.1) r.fields) x.0 v e.given y x.1.1)
        ]
        | inr z ↦ absurd z
      ]))
    ])
  ])

  own_cown : (d : CownId) → Member d (own_cowns lone) → Member d (own_cowns e)
  own_cown d m = elim m [
    | inl q ↦ elim (Member_of_append c e.held e.made here) [
      | inl z ↦ Member_left d (map (λ (x : CownId × Value). x.0) e.held) _ (subst (λ y. Member y (map (λ (x : CownId × Value). x.0) e.held)) q (Member_map (λ (x : CownId × Value). x.0) c e.held z))
      | inr z ↦ Member_right d (map (λ (x : CownId × Value). x.0) e.held) _ (subst (λ y. Member y (map (λ (x : CownId × Value). x.0) e.made)) q (Member_map (λ (x : CownId × Value). x.0) c e.made z))
    ]
    | inr q ↦ absurd q
  ]

  cown_in : (d : CownId) → Member d (all_cowns lone) → Member d (all_cowns e)
  cown_in d m = elim (Member_of_append d (own_cowns lone) (flat_map cowns_of_value (all_values lone)) m) [
    | inl n ↦ Member_left d (own_cowns e) _ (own_cown d n)
    | inr n ↦ let x = Member_of_flat_map cowns_of_value d (all_values lone) n in Member_right d (own_cowns e) _ (Member_flat_map cowns_of_value x.0 d (all_values e) (value_in x.0 x.1.0) x.1.1)
  ]

  row_in : (x : Row) → Member x (e.rows ++ (cold ++ [])) → Member x (e.rows ++ (e.given ++ e.own))
  row_in x m = elim (Member_of_append x e.rows (cold ++ []) m) [
    | inl n ↦ Member_left x e.rows _ n
    | inr n ↦ Member_right x e.rows _ (cold_in x n)
  ]
    where
      cold_in : (x : Row) → Member x (cold ++ []) → Member x (e.given ++ e.own)
      cold_in x n = elim (Member_of_append x cold [] n) [
        | inl q ↦ elim (all_inserted e.own e.given x q) [ inl z ↦ Member_right x e.given e.own z | inr z ↦ Member_left x e.given e.own z ]
        | inr q ↦ absurd q
      ]

  lone_whole : WellFormed lone
  lone_whole = record {
    rows_rise = w.rows_rise;
    given_rise = all_order e.own e.given own_distinct own_apart w.given_rise;
    own_rise = tt;
    names_differ = subst (λ l. Differ same_name (names e.rows ++ l)) (sym (append-nil (names cold))) (differ_all (names e.rows) e.own e.given own_distinct own_rows own_apart front_differ);
    keys_differ = λ x m. w.keys_differ x (row_in x m);
    mutable = w.mutable;
    frozen = λ x m. w.frozen x (elim (Member_of_append x cold [] m) [ inl q ↦ elim (all_inserted e.own e.given x q) [ inl z ↦ Member_right x e.given e.own z | inr z ↦ Member_left x e.given e.own z ] | inr q ↦ absurd q ]);
    bridge = w.bridge;
    leads = λ f m. lead_same f.from f.to (w.leads f (edge_in f m));
    one_owner = λ r k. let few = w.one_owner r k in omega (arith, few, count_less (λ (f : Edge). is_owning e.rows f.from r && same_name f.to r));
    no_round = round_before e lone (owns_within e lone edge_in (λ q p k. k)) w.no_round;
    objects_numbered = λ o m k. absurd (no_object o (name_in o m) k);
    cowns_numbered = λ d m k. absurd (no_cown d (cown_in d m) k);
    cowns_differ = (refl, tt);
    made_here = λ d m. absurd m;
  }

  -- the content that is put back stands by itself
  pub content_stands : Whole b c.0 (record { value = c.1; rows = part e c }) cold
  content_stands = record {
    whole = well_formed_kept lone lone_whole;
    all_stay = kept_again lone lone_whole;
    no_locals = λ x m. t.no_locals x (kept_in lone x m);
  }

-- ---- the committed frozen rows after a behaviour's end
module _ (e : State) (t : Ended e) where
  tail_differ : (xs ys : List ObjId) → Differ same_name (xs ++ ys) → Differ same_name ys
  tail_differ [] ys d = d
  tail_differ (x ∷ xs) ys d = tail_differ xs ys d.1

  frozen_differ : Differ same_name (names e.given ++ names e.own)
  frozen_differ = tail_differ (names e.rows) (names e.given ++ names e.own) (t.whole).names_differ

  pub all_rise : InOrder name_below (names (insert_rows e.own e.given))
  all_rise = all_order e.own e.given (differ_rows e.own [] (subst (Differ same_name) (sym (append-nil (names e.own))) (tail_differ (names e.given) (names e.own) frozen_differ)))
      (λ x m. false_from_ne_true _ (λ h. differ_apart (names e.given) (names e.own) frozen_differ x.name h (has_names e.own x.name ∙ mem_has x e.own m))) (t.whole).given_rise

  row_of_both : (x : Row) → Member x (insert_rows e.own e.given) → Member x (e.given ++ e.own)
  row_of_both x m = elim (all_inserted e.own e.given x m) [ inl z ↦ Member_right x e.given e.own z | inr z ↦ Member_left x e.given e.own z ]

  pub all_keys : (x : Row) → Member x (insert_rows e.own e.given) → Differ same_key (map (λ (f : Key × Value). f.0) x.fields)
  all_keys x m = (t.whole).keys_differ x (Member_right x e.rows (e.given ++ e.own) (row_of_both x m))

  pub all_cold : (x : Row) → Member x (insert_rows e.own e.given) → x.owner ≡ Frozen
  all_cold x m = (t.whole).frozen x (row_of_both x m)

  froze : (o : ObjId) → (has_row e.given o || has_row e.own o) ≡ true → owner_of e o ≡ Some Frozen
  froze o h = (λ i. or_frozen (h i) (none (owner_in e.rows o) refl i))
    where
      none : (u : Option Owner) → owner_in e.rows o ≡ u → u ≡ None
      none None k = refl
      none (Some x) k = absurd (differ_apart (names e.rows) (names e.given ++ names e.own) (t.whole).names_differ o (has_names e.rows o ∙ owner_has e.rows o x k)
          (has_append (names e.given) (names e.own) o ∙ (λ i. has_names e.given o i || has_names e.own o i) ∙ h))

  only_frozen : (o : ObjId) (u : Option Owner) → owner_of e o ≡ u → from_frozen u ≡ true → (has_row e.given o || has_row e.own o) ≡ true
  only_frozen o (Some Frozen) h k = go (owner_in e.rows o) refl
    where
      go : (u : Option Owner) → owner_in e.rows o ≡ u → (has_row e.given o || has_row e.own o) ≡ true
      go None q = elim (has_row e.given o || has_row e.own o) as (λ b. or_frozen b None ≡ Some Frozen → b ≡ true) [ true ↦ λ z. refl | false ↦ λ z. absurd cc ] (ap (or_frozen (has_row e.given o || has_row e.own o)) (sym q) ∙ h)
      go (Some x) q =
          let is : x ≡ Frozen = some_is x Frozen (ap (or_frozen (has_row e.given o || has_row e.own o)) (sym q) ∙ h) in
          let y = row_of e.rows o x q in
          absurd ((t.whole).mutable y.row y.mem (y.owner ∙ is))
  only_frozen o (Some Local) h k = absurd (both_ways _ refl k)
  only_frozen o (Some (In r)) h k = absurd (both_ways _ refl k)
  only_frozen o None h k = absurd (both_ways _ refl k)

  pub all_lead : (d : Edge) → Member d (rows_edges (insert_rows e.own e.given)) → has_row (insert_rows e.own e.given) d.to ≡ true
  all_lead d m =
      let x = edge_row (insert_rows e.own e.given) d m in
      let near : (has_row e.given (x.row).name || has_row e.own (x.row).name) ≡ true = sym (has_all e.own e.given (x.row).name ∙ or_comm (has_row e.own (x.row).name) (has_row e.given (x.row).name)) ∙ mem_has x.row (insert_rows e.own e.given) x.mem in
      let there : Member d (rows_edges e.given ++ rows_edges e.own) = elim (all_inserted e.own e.given x.row x.mem) [
        | inl z ↦ Member_right d (rows_edges e.given) (rows_edges e.own) (row_edge e.own x.row d z x.from x.to)
        | inr z ↦ Member_left d (rows_edges e.given) (rows_edges e.own) (row_edge e.given x.row d z x.from x.to)
      ] in
      let lead : may_lead e (Field (x.row).name) d.to ≡ true = ap (λ z. may_lead e z d.to) (sym x.from) ∙ (t.whole).leads d (Member_right d (slot_edges e.slots) _ (Member_right d (rows_edges e.rows) _ (Member_right d (content_edges e.held) _ (Member_right d (content_edges e.made) _ there)))) in
      let cold : from_frozen (owner_of e d.to) ≡ true = ap (λ u. from_row u d.to (owner_of e d.to)) (sym (froze (x.row).name near)) ∙ lead in
      has_all e.own e.given d.to ∙ or_comm (has_row e.own d.to) (has_row e.given d.to) ∙ only_frozen d.to (owner_of e d.to) refl cold

-- ---- more frozen rows
pub more_stands : (b : ℕ) (c : CownId) (v : Parked) (few many : List Row) → Whole b c v few → MayBeGiven b many
    → ((o : ObjId) → has_row few o ≡ true → has_row many o ≡ true) → ((o : ObjId) → has_row many o ≡ true → has_row v.rows o ≡ false) → Whole b c v many
more_stands b c v few many t g there far = record {
  whole = big_whole (single b c v few) many t.whole g there far (λ o h. refl);
  all_stay = ap (λ x. with_given x many) t.all_stay;
  no_locals = t.no_locals;
}
