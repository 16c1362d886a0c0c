-- Further frozen rows that a behaviour may be given keep its state well-formed, where none has a name of its rows.
use Rattle.lf_base.proofs.ListLemmas.Sublists.{differ_left, differ_right}
use Rattle.lf_laws.proofs.Rows.OwnerTests.{frozen_there, source_near}
use Rattle.std.proofs.Common.{List, None, Option, Some, [], ap, arith, false, inl, inr, refl, subst, sym, true, ◌++◌, ◌||◌, ◌∙◌, ◌∷◌, ◌≡◌, ◌⊎◌}
use Rattle.std.proofs.Math.Bool.{or-true}
use Rattle.std.proofs.lemmas.Bool.{both_ways, false_from_ne_true, or_cases, or_left}
use Rattle.std.specs.List.{flat_map}
use Rattle.lf_base.specs.declared.ids.ObjId.{ObjId}
use Rattle.lf_base.specs.declared.values.Owner.{Owner}
use Rattle.lf_base.specs.declared.values.Owner.TheVariants.{Frozen}
use Rattle.lf_base.specs.declared.values.Value.{Value}
use Rattle.lf_base.specs.Edges.{Content, Edge, Field, Slot, Source, content_edges, edges, rows_edges, slot_edges}
use Rattle.lf_base.specs.MoreGiven.{Foreign, Holds, More, with_given}
use Rattle.lf_base.specs.Names.{cowns_of_value, same_name}
use Rattle.lf_base.specs.Owners.{has_row, names, or_frozen, owner_in, owner_of, row_owner}
use Rattle.lf_base.specs.PlainState.{Row, State}
use Rattle.lf_base.specs.Sets.{Differ, Member}
use Rattle.lf_base.specs.WellFormed.{Leads, MayBeGiven, WellFormed, all_values, content_values, field_values, from_content, from_near, from_row, may_lead, own_cowns, slot_values}
use Rattle.lf_base.proofs.ListLemmas.Members.{Member_any, Member_flat_map, Member_left, Member_of_append, Member_of_flat_map, Member_right}
use Rattle.lf_base.proofs.ListLemmas.Tests.{any_none}
use Rattle.lf_base.proofs.NameLemmas.NameOrder.{order_differ}
use Rattle.lf_base.proofs.NameLemmas.RowNames.{has_names}
use Rattle.lf_base.proofs.NameLemmas.SameNames.{same_name_is}
use Rattle.lf_laws.proofs.Changes.SameOwners.{lead_there}
use Rattle.lf_laws.proofs.MoreGiven.GivenRows.{found_row, owning_same, round_same}
use Rattle.lf_laws.proofs.Rows.RowEdges.{edge_row}
use Rattle.lf_laws.proofs.Rows.RowsByName.{Member_has_name, differ_apart, mem_has, owner_has, no_owner}

differ_join : (xs ys : List ObjId) → Differ same_name xs → Differ same_name ys → ((o : ObjId) → Member o xs → Member o ys → ⊥) → Differ same_name (xs ++ ys)
differ_join [] ys d k h = k
differ_join (x ∷ xs) ys d k h = (
  any_none (λ y. same_name y x) (xs ++ ys) (λ y m. elim (Member_of_append y xs ys m) [
    | inl n ↦ false_from_ne_true _ (λ q. both_ways _ d.0 (Member_any (λ z. same_name z x) y xs n q))
    | inr n ↦ false_from_ne_true _ (λ q. h x (inl refl) (subst (λ z. Member z ys) (same_name_is y x q) n))
  ]),
  differ_join xs ys d.1 k (λ o m n. h o (inr m) n),
)

module _ (s : State) (many : List Row) (w : WellFormed s) (g : MayBeGiven s.birth many) (given_there : (o : ObjId) → has_row s.given o ≡ true → has_row many o ≡ true)
    (no_row : (o : ObjId) → has_row many o ≡ true → has_row s.rows o ≡ false) (no_own : (o : ObjId) → has_row many o ≡ true → has_row s.own o ≡ false) where
  abbrev big : State
  big = with_given s many

  many_far : Foreign s.rows many
  many_far x m = no_row x.name (mem_has x many m)

  few_far : Foreign s.rows s.given
  few_far x m = no_row x.name (given_there x.name (mem_has x s.given m))

  flag_on : (o : ObjId) → (has_row s.given o || has_row s.own o) ≡ true → (has_row many o || has_row s.own o) ≡ true
  flag_on o e = elim (or_cases (has_row s.given o) (has_row s.own o) e) [
    | inl k ↦ or_left _ _ (given_there o k)
    | inr k ↦ ap (λ b. has_row many o || b) k ∙ or-true (has_row many o)
  ]

  owner_on : (o : ObjId) → from_near (owner_of s o) ≡ true → owner_of big o ≡ owner_of s o
  owner_on o near = go (owner_in s.rows o) refl
    where
      go : (u : Option Owner) → owner_in s.rows o ≡ u → owner_of big o ≡ owner_of s o
      go (Some x) e = ap (or_frozen (has_row many o || has_row s.own o)) e ∙ sym (ap (or_frozen (has_row s.given o || has_row s.own o)) e)
      go None e =
          let here : (has_row s.given o || has_row s.own o) ≡ true = frozen_there _ (ap (λ u. from_near (or_frozen (has_row s.given o || has_row s.own o) u)) (sym e) ∙ near) in
          ap (λ b. or_frozen b (owner_in s.rows o)) (flag_on o here ∙ sym here)

  lead_on : (f : Source) (o : ObjId) → may_lead s f o ≡ true → may_lead big f o ≡ true
  lead_on Slot o e = ap from_near (owner_on o e) ∙ e
  lead_on (Field p) o e = (λ i. from_row (owner_on p (source_near (owner_of s p) o (owner_of s o) e) i) o (owner_on o (lead_there s (Field p) o e) i)) ∙ e
  lead_on (Content c) o e = ap (from_content o) (owner_on o (lead_there s (Content c) o e)) ∙ e

  froze : (o : ObjId) → has_row many o ≡ true → owner_of big o ≡ Some Frozen
  froze o h = λ i. or_frozen (or_left (has_row many o) (has_row s.own o) h i) (no_owner s.rows o (no_row o h) i)

  -- an edge of it is one of before, or begins at a given row
  old_or_given : (e : Edge) → Member e (edges big) → Member e (edges s) ⊎ Member e (rows_edges many)
  old_or_given e m = elim (Member_of_append e (slot_edges s.slots) _ m) [
    | inl k ↦ inl (Member_left e (slot_edges s.slots) _ k)
    | inr k ↦ elim (Member_of_append e (rows_edges s.rows) _ k) [
      | inl n ↦ inl (Member_right e (slot_edges s.slots) _ (Member_left e (rows_edges s.rows) _ n))
      | inr n ↦ elim (Member_of_append e (content_edges s.held) _ n) [
        | inl q ↦ inl (Member_right e (slot_edges s.slots) _ (Member_right e (rows_edges s.rows) _ (Member_left e (content_edges s.held) _ q)))
        | inr q ↦ elim (Member_of_append e (content_edges s.made) _ q) [
          | inl z ↦ inl (Member_right e (slot_edges s.slots) _ (Member_right e (rows_edges s.rows) _ (Member_right e (content_edges s.held) _ (Member_left e (content_edges s.made) _ z))))
          | inr z ↦ elim (Member_of_append e (rows_edges many) (rows_edges s.own) z) [
            | inl y ↦ inr y
            | inr y ↦ inl (Member_right e (slot_edges s.slots) _ (Member_right e (rows_edges s.rows) _ (Member_right e (content_edges s.held) _ (Member_right e (content_edges s.made) _ (Member_right e (rows_edges s.given) (rows_edges s.own) y)))))
          ]
        ]
      ]
    ]
  ]

  leads_big : Leads big
  leads_big e m = elim (old_or_given e m) [
    | inl n ↦ lead_on e.from e.to (w.leads e n)
    | inr n ↦
        let x = edge_row many e n in
        ap (λ f. may_lead big f e.to) x.from ∙ (λ i. from_row (froze (x.row).name (mem_has x.row many x.mem) i) e.to (froze e.to (g.leads e n) i))
  ]

  value_old : (v : Value) → Member v (all_values big) → Member v (all_values s) ⊎ Member v (field_values many)
  value_old v m = elim (Member_of_append v (slot_values s.slots) _ m) [
    | inl k ↦ inl (Member_left v (slot_values s.slots) _ k)
    | inr k ↦ elim (Member_of_append v (field_values s.rows) _ k) [
      | inl n ↦ inl (Member_right v (slot_values s.slots) _ (Member_left v (field_values s.rows) _ n))
      | inr n ↦ elim (Member_of_append v (content_values s.held) _ n) [
        | inl q ↦ inl (Member_right v (slot_values s.slots) _ (Member_right v (field_values s.rows) _ (Member_left v (content_values s.held) _ q)))
        | inr q ↦ elim (Member_of_append v (content_values s.made) _ q) [
          | inl z ↦ inl (Member_right v (slot_values s.slots) _ (Member_right v (field_values s.rows) _ (Member_right v (content_values s.held) _ (Member_left v (content_values s.made) _ z))))
          | inr z ↦ elim (Member_of_append v (field_values many) (field_values s.own) z) [
            | inl y ↦ inr y
            | inr y ↦ inl (Member_right v (slot_values s.slots) _ (Member_right v (field_values s.rows) _ (Member_right v (content_values s.held) _ (Member_right v (content_values s.made) _ (Member_right v (field_values s.given) (field_values s.own) y)))))
          ]
        ]
      ]
    ]
  ]

  names_big : Differ same_name (names s.rows ++ (names many ++ names s.own))
  names_big =
      let rest = differ_right same_name (names s.rows) (names s.given ++ names s.own) w.names_differ in
      differ_join (names s.rows) (names many ++ names s.own) (differ_left same_name (names s.rows) (names s.given ++ names s.own) w.names_differ)
      (differ_join (names many) (names s.own) (order_differ (names many) g.rise) (differ_right same_name (names s.given) (names s.own) rest)
      (λ o m n. both_ways _ (no_own o (name_row many o m)) (name_row s.own o n)))
      (λ o m n. elim (Member_of_append o (names many) (names s.own) n) [
        | inl k ↦ both_ways _ (no_row o (name_row many o k)) (name_row s.rows o m)
        | inr k ↦ differ_apart (names s.rows) (names s.given ++ names s.own) w.names_differ o (Member_has_name o (names s.rows) m) (Member_has_name o (names s.given ++ names s.own) (Member_right o (names s.given) (names s.own) k))
      ])
    where
      name_row : (rows : List Row) (o : ObjId) → Member o (names rows) → has_row rows o ≡ true
      name_row rows o m = sym (has_names rows o) ∙ Member_has_name o (names rows) m

  pub big_whole : WellFormed big
  big_whole = record {
    rows_rise = w.rows_rise;
    given_rise = g.rise;
    own_rise = w.own_rise;
    names_differ = names_big;
    keys_differ = λ x m. elim (Member_of_append x s.rows (many ++ s.own) m) [
      | inl n ↦ w.keys_differ x (Member_left x s.rows _ n)
      | inr n ↦ elim (Member_of_append x many s.own n) [
        | inl k ↦ g.keys_differ x k
        | inr k ↦ w.keys_differ x (Member_right x s.rows _ (Member_right x s.given s.own k))
      ]
    ];
    mutable = w.mutable;
    frozen = λ x m. elim (Member_of_append x many s.own m) [ inl k ↦ g.frozen x k | inr k ↦ w.frozen x (Member_right x s.given s.own k) ];
    bridge = w.bridge;
    leads = leads_big;
    one_owner = λ r k. let one = w.one_owner r k in omega (arith, one, owning_same s many few_far many_far r);
    no_round = round_same s many few_far many_far ∙ w.no_round;
    objects_numbered = λ o m e. elim (Member_of_append o (names s.rows) (names many ++ names s.own) m) [
      | inl n ↦ w.objects_numbered o (Member_left o (names s.rows) _ n) e
      | inr n ↦ elim (Member_of_append o (names many) (names s.own) n) [
        | inl k ↦ absurd (g.no_object o k e)
        | inr k ↦ w.objects_numbered o (Member_right o (names s.rows) _ (Member_right o (names s.given) (names s.own) k)) e
      ]
    ];
    cowns_numbered = λ c m e. elim (Member_of_append c (own_cowns s) (flat_map cowns_of_value (all_values big)) m) [
      | inl n ↦ w.cowns_numbered c (Member_left c (own_cowns s) _ n) e
      | inr n ↦ let v = Member_of_flat_map cowns_of_value c (all_values big) n in elim (value_old v.0 v.1.0) [
        | inl k ↦ w.cowns_numbered c (Member_right c (own_cowns s) (flat_map cowns_of_value (all_values s)) (Member_flat_map cowns_of_value v.0 c (all_values s) k v.1.1)) e
        | inr k ↦ absurd (g.no_cown c (Member_flat_map cowns_of_value v.0 c (field_values many) k v.1.1) e)
      ]
    ];
    cowns_differ = w.cowns_differ;
    made_here = w.made_here;
  }

pub more_given : (s : State) (many : List Row) → WellFormed s → MayBeGiven s.birth many → Holds s.given many
    → ((o : ObjId) → has_row many o ≡ true → has_row s.rows o ≡ false) → ((o : ObjId) → has_row many o ≡ true → has_row s.own o ≡ false) → More s many
more_given s many w g holds no_row no_own =
    let there : (o : ObjId) → has_row s.given o ≡ true → has_row many o ≡ true = λ o e. let x = found_row s.given o e in owner_has many o (x.0).owner (ap row_owner (holds o e ∙ x.1)) in
    record { whole = w; more = big_whole s many w g there no_row no_own; holds = holds }
