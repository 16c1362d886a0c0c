-- One more content beside others: the joined state is well-formed where both are and their names differ.
use Rattle.lf_laws.proofs.Contents.PartsOfStates.{PartOf, from_back, lead_on, owning_back}
use Rattle.std.proofs.Common.{Bool, List, None, Option, Some, [], ap, arith, cond, false, inl, inr, length, map, not, refl, subst, sym, true, ℕ, ◌&&◌, ◌++◌, ◌+◌, ◌||◌, ◌∙◌, ◌∷◌, ◌≡◌, ◌≤◌, ◌⊎◌}
use Rattle.std.proofs.lemmas.List.Sums.{sum_by-append}
use Rattle.std.specs.List.{count_by, filter, flat_map, list_any}
use Rattle.lf_base.specs.declared.ids.CownId.{CownId}
use Rattle.lf_base.specs.declared.ids.ObjId.{ObjId}
use Rattle.lf_base.specs.declared.values.Key.{Key}
use Rattle.lf_base.specs.declared.values.Owner.{Owner}
use Rattle.lf_base.specs.declared.values.Owner.TheVariants.{In}
use Rattle.lf_base.specs.declared.values.Value.{Value}
use Rattle.lf_base.specs.Edges.{Content, Edge, Field, Slot, Source, content_edges, edges, edges_by, rows_edges}
use Rattle.lf_base.specs.Names.{cowns_of_value, same_cown, same_name, targets_of_value}
use Rattle.lf_base.specs.Owners.{bridges, has_row, is_bridge, is_in, names, or_frozen, owner_in}
use Rattle.lf_base.specs.Ownership.{is_from, is_owning, owning_edges, owns, round}
use Rattle.lf_base.specs.PlainState.{Row, State}
use Rattle.lf_base.specs.Sets.{Differ, Member}
use Rattle.lf_base.specs.WellFormed.{Leads, WellFormed, all_cowns, all_values, content_values, field_values, from_near, own_cowns}
use Rattle.lf_laws.proofs.Rows.RowsByName.{Distinct, row_of, mem_has, owner_has, owner_there, differ_apart, differ_rows}
use Rattle.lf_base.proofs.ListLemmas.Tests.{any_none, none_any, none_count, count_like}
use Rattle.lf_laws.proofs.Rows.InsertedRows.{all_inserted, all_order, count_rows, differ_names, or_owner, owner_all, rows_edge_of}
use Rattle.lf_laws.proofs.Rows.OwnerTests.{in_region, frozen_there}
use Rattle.lf_base.proofs.ListLemmas.Sublists.{sub_shrink, sub_within}
use Rattle.std.proofs.lemmas.Bool.{and_from, and_parts, false_from_ne_true}
use Rattle.lf_base.proofs.ListLemmas.Members.{Member_any, Member_flat_map, Member_map, Member_of_flat_map, Member_of_map, any_Member, any_more, Member_left, Member_of_append, Member_right}
use Rattle.lf_base.proofs.NameLemmas.RowNames.{has_names}
use Rattle.lf_base.proofs.NameLemmas.SameNames.{same_name_is, same_name_itself}
use Rattle.lf_laws.proofs.Changes.SameOwners.{lead_there}
use Rattle.lf_base.proofs.ListLemmas.Filters.{Member_filter, Member_of_filter}
use Rattle.lf_base.proofs.ListLemmas.GreatestSets.{greatest_has, greatest_meets}
use Rattle.lf_base.specs.Contents.{cowns_of}
use Rattle.lf_base.specs.Contents.{Parked}
use Rattle.lf_laws.proofs.Rows.RowsByName.{Member_has_name}
use Rattle.lf_base.specs.Contents.{joined_rows, single, stored, values_of}

bridge_of_from : (a : State) → WellFormed a → (q : ObjId) (f : Source) → is_from a.rows q f ≡ true → owner_in a.rows q ≡ Some (In q)
bridge_of_from a w q Slot e = cc
bridge_of_from a w q (Field x) e = w.bridge x q (in_region q (owner_in a.rows x) e)
bridge_of_from a w q (Content c) e = cc

-- ---- the joined state
module _ (b : ℕ) (c : CownId) (v : Parked) (cs : List (CownId × Parked)) (frozen : List Row)
    (t : WellFormed (single b c v frozen)) (s : WellFormed (stored b cs frozen))
    (apart : (o : ObjId) → has_row v.rows o ≡ true → has_row (joined_rows cs) o ≡ true → ⊥)
    (new : list_any (λ d. same_cown d c) (cowns_of (values_of cs)) ≡ false) where
  abbrev one : State
  one = single b c v frozen

  abbrev rest : State
  rest = stored b cs frozen

  abbrev both : State
  both = stored b ((c, v) ∷ cs) frozen

  abbrev more : List Row
  more = joined_rows cs

  one_distinct : Distinct v.rows
  one_distinct = differ_rows v.rows (names frozen ++ []) t.names_differ

  rest_distinct : Distinct more
  rest_distinct = differ_rows more (names frozen ++ []) s.names_differ

  no_row : (x : Row) → Member x v.rows → has_row more x.name ≡ false
  no_row x m = false_from_ne_true _ (λ e. apart x.name (mem_has x v.rows m) e)

  owner_both : (o : ObjId) → owner_in both.rows o ≡ or_owner (owner_in v.rows o) (owner_in more o)
  owner_both o = owner_all v.rows more o one_distinct no_row

  first_owner : (o : ObjId) (w : Owner) → owner_in v.rows o ≡ Some w → owner_in both.rows o ≡ Some w
  first_owner o w e = owner_both o ∙ ap (λ u. or_owner u (owner_in more o)) e

  none_first : (o : ObjId) → has_row more o ≡ true → (u : Option Owner) → owner_in v.rows o ≡ u → u ≡ None
  none_first o h None e = refl
  none_first o h (Some w) e = absurd (apart o (owner_has v.rows o w e) h)

  rest_owner : (o : ObjId) (w : Owner) → owner_in more o ≡ Some w → owner_in both.rows o ≡ Some w
  rest_owner o w e = owner_both o ∙ ap (λ u. or_owner u (owner_in more o)) (none_first o (owner_has more o w e) (owner_in v.rows o) refl) ∙ e

  frozen_in : (o : ObjId) → (has_row frozen o || false) ≡ true → has_row frozen o ≡ true
  frozen_in o e = elim (has_row frozen o) as (λ b. (b || false) ≡ true → b ≡ true) [ true ↦ λ k. refl | false ↦ λ k. k ] e

  frozen_name : (rows : List Row) → Differ same_name (names rows ++ (names frozen ++ [])) → (o : ObjId) → has_row frozen o ≡ true → (u : Option Owner) → owner_in rows o ≡ u → u ≡ None
  frozen_name rows d o h None e = refl
  frozen_name rows d o h (Some w) e = absurd (differ_apart (names rows) (names frozen ++ []) d o (has_names rows o ∙ owner_has rows o w e)
      (any_more (λ p. same_name p o) (names frozen) (names frozen ++ []) (λ z m. Member_left z (names frozen) [] m) (has_names frozen o ∙ h)))

  frozen_out : (o : ObjId) → (has_row frozen o || false) ≡ true → owner_in both.rows o ≡ None
  frozen_out o e = owner_both o ∙ (λ i. or_owner (frozen_name v.rows t.names_differ o (frozen_in o e) (owner_in v.rows o) refl i) (frozen_name more s.names_differ o (frozen_in o e) (owner_in more o) refl i))

  part_one : PartOf one both
  part_one = record { whole = t; keeps = first_owner; given = refl; own = refl; frozen_apart = frozen_out }

  part_rest : PartOf rest both
  part_rest = record { whole = s; keeps = rest_owner; given = refl; own = refl; frozen_apart = frozen_out }

  -- an edge of the whole is one of a part
  edge_of : (e : Edge) → Member e (edges both) → Member e (edges one) ⊎ Member e (edges rest)
  edge_of e m = elim (Member_of_append e (rows_edges both.rows) _ m) [
    | inl n ↦ elim (rows_edge_of v.rows more e n) [ inl q ↦ inl (Member_left e (rows_edges v.rows) _ q) | inr q ↦ inr (Member_left e (rows_edges more) _ q) ]
    | inr n ↦ elim (Member_of_append e (content_edges ((c, v.value) ∷ values_of cs)) (rows_edges frozen ++ []) n) [
      | inl q ↦ elim (Member_of_append e (edges_by (Content c) (targets_of_value v.value)) (content_edges (values_of cs)) q) [
        | inl z ↦ inl (Member_right e (rows_edges v.rows) _ (Member_left e (content_edges ((c, v.value) ∷ [])) _ (Member_left e (edges_by (Content c) (targets_of_value v.value)) [] z)))
        | inr z ↦ inr (Member_right e (rows_edges more) _ (Member_left e (content_edges (values_of cs)) _ z))
      ]
      | inr q ↦ inl (Member_right e (rows_edges v.rows) _ (Member_right e (content_edges ((c, v.value) ∷ [])) _ q))
    ]
  ]

  leads_both : Leads both
  leads_both e m = elim (edge_of e m) [
    | inl n ↦ lead_on one both part_one e.from e.to (t.leads e n)
    | inr n ↦ lead_on rest both part_rest e.from e.to (s.leads e n)
  ]

  -- an owner in the whole is one in a part
  owner_of_part : (o : ObjId) (w : Owner) → owner_in both.rows o ≡ Some w → (owner_in v.rows o ≡ Some w) ⊎ (owner_in more o ≡ Some w)
  owner_of_part o w e = go (owner_in v.rows o) refl
    where
      go : (u : Option Owner) → owner_in v.rows o ≡ u → (owner_in v.rows o ≡ Some w) ⊎ (owner_in more o ≡ Some w)
      go (Some x) h = inl (h ∙ sym (ap (λ u. or_owner u (owner_in more o)) h) ∙ sym (owner_both o) ∙ e)
      go None h = inr (sym (ap (λ u. or_owner u (owner_in more o)) h) ∙ sym (owner_both o) ∙ e)

  bridge_both : (o r : ObjId) → owner_in both.rows o ≡ Some (In r) → owner_in both.rows r ≡ Some (In r)
  bridge_both o r e = elim (owner_of_part o (In r) e) [
    | inl h ↦ first_owner r (In r) (t.bridge o r h)
    | inr h ↦ rest_owner r (In r) (s.bridge o r h)
  ]

  -- edges of one part don't lead to mutable rows of the other
  to_first : (e : Edge) → Member e (edges rest) → has_row v.rows e.to ≡ true → ⊥
  to_first e m h = go (owner_in more e.to) refl
    where
      go : (u : Option Owner) → owner_in more e.to ≡ u → ⊥
      go (Some w) k = apart e.to h (owner_has more e.to w k)
      go None k =
          let near = lead_there rest e.from e.to (s.leads e m) in
          let cold = frozen_in e.to (frozen_there (has_row frozen e.to || false) (ap (λ u. from_near (or_frozen (has_row frozen e.to || false) u)) (sym k) ∙ near)) in
          let x = owner_there v.rows one_distinct e.to h in
          let none = frozen_name v.rows t.names_differ e.to cold (owner_in v.rows e.to) refl in
          let is = x.is in cc

  to_rest : (e : Edge) → Member e (edges one) → has_row more e.to ≡ true → ⊥
  to_rest e m h = go (owner_in v.rows e.to) refl
    where
      go : (u : Option Owner) → owner_in v.rows e.to ≡ u → ⊥
      go (Some w) k = apart e.to (owner_has v.rows e.to w k) h
      go None k =
          let near = lead_there one e.from e.to (t.leads e m) in
          let cold = frozen_in e.to (frozen_there (has_row frozen e.to || false) (ap (λ u. from_near (or_frozen (has_row frozen e.to || false) u)) (sym k) ∙ near)) in
          let x = owner_there more rest_distinct e.to h in
          let none = frozen_name more s.names_differ e.to cold (owner_in more e.to) refl in
          let is = x.is in cc

  -- counts over the edges
  count_both : (p : Edge → Bool) → count_by p (edges both) ≤ count_by p (edges one) + count_by p (edges rest)
  count_both p = omega (
    arith,
    sum_by-append (λ e. cond (p e) 1 0) (rows_edges both.rows) (content_edges ((c, v.value) ∷ values_of cs) ++ (rows_edges frozen ++ [])),
    sum_by-append (λ e. cond (p e) 1 0) (content_edges ((c, v.value) ∷ values_of cs)) (rows_edges frozen ++ []),
    sum_by-append (λ e. cond (p e) 1 0) (edges_by (Content c) (targets_of_value v.value)) (content_edges (values_of cs)),
    sum_by-append (λ e. cond (p e) 1 0) (rows_edges v.rows) (content_edges ((c, v.value) ∷ []) ++ (rows_edges frozen ++ [])),
    sum_by-append (λ e. cond (p e) 1 0) (content_edges ((c, v.value) ∷ [])) (rows_edges frozen ++ []),
    sum_by-append (λ e. cond (p e) 1 0) (edges_by (Content c) (targets_of_value v.value)) [],
    sum_by-append (λ e. cond (p e) 1 0) (rows_edges more) (content_edges (values_of cs) ++ (rows_edges frozen ++ [])),
    sum_by-append (λ e. cond (p e) 1 0) (content_edges (values_of cs)) (rows_edges frozen ++ []),
    count_rows p v.rows more,
  )

  owner_count : (r : ObjId) → is_bridge both.rows r ≡ true → owning_edges both r ≤ 1
  owner_count r h = elim (owner_of_part r (In r) (in_region r (owner_in both.rows r) h)) [
    | inl k ↦
        let few = t.one_owner r (ap (is_in r) k ∙ same_name_itself r) in
        let same = count_like (λ (e : Edge). is_owning both.rows e.from r && same_name e.to r) (λ (e : Edge). is_owning v.rows e.from r && same_name e.to r) (edges one) (λ e m. ap (λ b. b && same_name e.to r) (owning_back one both part_one e m e.from refl r)) in
        let none = none_count (λ (e : Edge). is_owning both.rows e.from r && same_name e.to r) (edges rest) (λ e m. false_from_ne_true _ (λ q. to_first e m (subst (λ n. has_row v.rows n ≡ true) (sym (same_name_is e.to r (and_parts (is_owning both.rows e.from r) _ q).1)) (owner_has v.rows r (In r) k)))) in
        omega (arith, few, same, none, count_both (λ (e : Edge). is_owning both.rows e.from r && same_name e.to r))
    | inr k ↦
        let few = s.one_owner r (ap (is_in r) k ∙ same_name_itself r) in
        let same = count_like (λ (e : Edge). is_owning both.rows e.from r && same_name e.to r) (λ (e : Edge). is_owning more e.from r && same_name e.to r) (edges rest) (λ e m. ap (λ b. b && same_name e.to r) (owning_back rest both part_rest e m e.from refl r)) in
        let none = none_count (λ (e : Edge). is_owning both.rows e.from r && same_name e.to r) (edges one) (λ e m. false_from_ne_true _ (λ q. to_rest e m (subst (λ n. has_row more n ≡ true) (sym (same_name_is e.to r (and_parts (is_owning both.rows e.from r) _ q).1)) (owner_has more r (In r) k)))) in
        omega (arith, few, same, none, count_both (λ (e : Edge). is_owning both.rows e.from r && same_name e.to r))
  ]

  -- ---- owners don't go round
  first_owns : (q r : ObjId) → owner_in v.rows r ≡ Some (In r) → owns both q r ≡ true → (owner_in v.rows q ≡ Some (In q)) × (owns one q r ≡ true)
  first_owns q r k e =
      let a = and_parts (not (same_name q r)) _ e in
      let b = and_parts (is_bridge both.rows r) _ a.1 in
      let x = any_Member (λ (d : Edge). is_from both.rows q d.from && same_name d.to r) (edges both) b.1 in
      let p = and_parts (is_from both.rows q (x.0).from) (same_name (x.0).to r) x.1.1 in
      elim (edge_of x.0 x.1.0) [
        | inl m ↦
            let f : is_from v.rows q (x.0).from ≡ true = sym (from_back one both part_one x.0 m (x.0).from refl q) ∙ p.0 in
            (bridge_of_from one t q (x.0).from f, and_from _ _ a.0 (and_from _ _ (ap (is_in r) k ∙ same_name_itself r) (Member_any (λ (d : Edge). is_from v.rows q d.from && same_name d.to r) x.0 (edges one) m (and_from _ _ f p.1))))
        | inr m ↦ absurd (to_first x.0 m (subst (λ n. has_row v.rows n ≡ true) (sym (same_name_is (x.0).to r p.1)) (owner_has v.rows r (In r) k)))
      ]

  rest_owns : (q r : ObjId) → owner_in more r ≡ Some (In r) → owns both q r ≡ true → (owner_in more q ≡ Some (In q)) × (owns rest q r ≡ true)
  rest_owns q r k e =
      let a = and_parts (not (same_name q r)) _ e in
      let b = and_parts (is_bridge both.rows r) _ a.1 in
      let x = any_Member (λ (d : Edge). is_from both.rows q d.from && same_name d.to r) (edges both) b.1 in
      let p = and_parts (is_from both.rows q (x.0).from) (same_name (x.0).to r) x.1.1 in
      elim (edge_of x.0 x.1.0) [
        | inl m ↦ absurd (to_rest x.0 m (subst (λ n. has_row more n ≡ true) (sym (same_name_is (x.0).to r p.1)) (owner_has more r (In r) k)))
        | inr m ↦
            let f : is_from more q (x.0).from ≡ true = sym (from_back rest both part_rest x.0 m (x.0).from refl q) ∙ p.0 in
            (bridge_of_from rest s q (x.0).from f, and_from _ _ a.0 (and_from _ _ (ap (is_in r) k ∙ same_name_itself r) (Member_any (λ (d : Edge). is_from more q d.from && same_name d.to r) x.0 (edges rest) m (and_from _ _ f p.1))))
      ]

  -- of a list of bridges of the whole, those of one part
  abbrev of_part : List Row → List ObjId → List ObjId
  of_part rows qs = filter (is_bridge rows) qs

  bridge_name : (rows : List Row) (q : ObjId) → owner_in rows q ≡ Some (In q) → Member q (filter (is_bridge rows) (names rows))
  bridge_name rows q e = let x = row_of rows q (In q) e in Member_filter (is_bridge rows) q (names rows) (subst (λ n. Member n (names rows)) x.name (Member_map (λ (r : Row). r.name) x.row rows x.mem)) (ap (is_in q) e ∙ same_name_itself q)

  bridge_is : (rows : List Row) (q : ObjId) (qs : List ObjId) → Member q (filter (is_bridge rows) qs) → Member q qs × (owner_in rows q ≡ Some (In q))
  bridge_is rows q qs m = let k = Member_of_filter (is_bridge rows) q qs m in (k.0, in_region q (owner_in rows q) k.1)

  round_meets : (r : ObjId) → Member r (round both) → list_any (λ q. owns both q r) (round both) ≡ true
  round_meets r m = greatest_meets (λ qs r. list_any (λ q. owns both q r) qs) (bridges both) r m

  first_none : (r : ObjId) → Member r (round both) → owner_in v.rows r ≡ Some (In r) → ⊥
  first_none r m k = subst (Member r) t.no_round (greatest_has (λ qs r. list_any (λ p. owns one p r) qs) (λ xs ys x w e. any_more (λ p. owns one p x) xs ys w e) (bridges one) (of_part v.rows (round both))
      (λ x n. let y = bridge_is v.rows x (round both) n in
      let z = any_Member (λ q. owns both q x) (round both) (round_meets x y.0) in
      let w = first_owns z.0 x y.1 z.1.1 in
      Member_any (λ q. owns one q x) z.0 (of_part v.rows (round both)) (Member_filter (is_bridge v.rows) z.0 (round both) z.1.0 (ap (is_in z.0) w.0 ∙ same_name_itself z.0)) w.1)
      (λ x n. bridge_name v.rows x (bridge_is v.rows x (round both) n).1) r (Member_filter (is_bridge v.rows) r (round both) m (ap (is_in r) k ∙ same_name_itself r)))

  rest_none : (r : ObjId) → Member r (round both) → owner_in more r ≡ Some (In r) → ⊥
  rest_none r m k = subst (Member r) s.no_round (greatest_has (λ qs r. list_any (λ p. owns rest p r) qs) (λ xs ys x w e. any_more (λ p. owns rest p x) xs ys w e) (bridges rest) (of_part more (round both))
      (λ x n. let y = bridge_is more x (round both) n in
      let z = any_Member (λ q. owns both q x) (round both) (round_meets x y.0) in
      let w = rest_owns z.0 x y.1 z.1.1 in
      Member_any (λ q. owns rest q x) z.0 (of_part more (round both)) (Member_filter (is_bridge more) z.0 (round both) z.1.0 (ap (is_in z.0) w.0 ∙ same_name_itself z.0)) w.1)
      (λ x n. bridge_name more x (bridge_is more x (round both) n).1) r (Member_filter (is_bridge more) r (round both) m (ap (is_in r) k ∙ same_name_itself r)))

  all_none : (qs : List ObjId) → ((r : ObjId) → Member r qs → ⊥) → qs ≡ []
  all_none [] h = refl
  all_none (q ∷ qs) h = absurd (h q (inl refl))

  round_in : (r : ObjId) → Member r (round both) → owner_in both.rows r ≡ Some (In r)
  round_in r m = (bridge_is both.rows r (names both.rows) (sub_within (sub_shrink (λ qs r. list_any (λ q. owns both q r) qs) (length (bridges both)) (bridges both)) r m)).1

  no_round_both : round both ≡ []
  no_round_both = all_none (round both) (λ r m. elim (owner_of_part r (In r) (round_in r m)) [ inl k ↦ first_none r m k | inr k ↦ rest_none r m k ])

  -- ---- names, keys, cowns
  name_in : (o : ObjId) → Member o (names both.rows ++ (names frozen ++ [])) → Member o (names v.rows ++ (names frozen ++ [])) ⊎ Member o (names more ++ (names frozen ++ []))
  name_in o m = elim (Member_of_append o (names both.rows) (names frozen ++ []) m) [
    | inl n ↦ let x = Member_of_map (λ (r : Row). r.name) o both.rows n in elim (all_inserted v.rows more x.0 x.1.0) [
      | inl q ↦ inl (Member_left o (names v.rows) _ (subst (λ z. Member z (names v.rows)) x.1.1 (Member_map (λ (r : Row). r.name) x.0 v.rows q)))
      | inr q ↦ inr (Member_left o (names more) _ (subst (λ z. Member z (names more)) x.1.1 (Member_map (λ (r : Row). r.name) x.0 more q)))
    ]
    | inr n ↦ inl (Member_right o (names v.rows) _ n)
  ]

  row_in : (x : Row) → Member x (both.rows ++ (frozen ++ [])) → Member x (v.rows ++ (frozen ++ [])) ⊎ Member x (more ++ (frozen ++ []))
  row_in x m = elim (Member_of_append x both.rows (frozen ++ []) m) [
    | inl n ↦ elim (all_inserted v.rows more x n) [ inl q ↦ inl (Member_left x v.rows _ q) | inr q ↦ inr (Member_left x more _ q) ]
    | inr n ↦ inl (Member_right x v.rows _ n)
  ]

  value_in : (w : Value) → Member w (all_values both) → Member w (all_values one) ⊎ Member w (all_values rest)
  value_in w m = elim (Member_of_append w (field_values both.rows) _ m) [
    | inl n ↦ let x = Member_of_flat_map (λ (r : Row). map (λ (f : Key × Value). f.1) r.fields) w both.rows n in elim (all_inserted v.rows more x.0 x.1.0) [
      | inl q ↦ inl (Member_left w (field_values v.rows) _ (Member_flat_map (λ (r : Row). map (λ (f : Key × Value). f.1) r.fields) x.0 w v.rows q x.1.1))
      | inr q ↦ inr (Member_left w (field_values more) _ (Member_flat_map (λ (r : Row). map (λ (f : Key × Value). f.1) r.fields) x.0 w more q x.1.1))
    ]
    | inr n ↦ elim n [
      | inl q ↦ inl (Member_right w (field_values v.rows) _ (inl q))
      | inr q ↦ elim (Member_of_append w (content_values (values_of cs)) _ q) [
        | inl z ↦ inr (Member_right w (field_values more) _ (Member_left w (content_values (values_of cs)) _ z))
        | inr z ↦ inl (Member_right w (field_values v.rows) _ (inr z))
      ]
    ]
  ]

  cown_in : (d : CownId) → Member d (all_cowns both) → Member d (all_cowns one) ⊎ Member d (all_cowns rest)
  cown_in d m = elim (Member_of_append d (own_cowns both) (flat_map cowns_of_value (all_values both)) m) [
    | inl n ↦ elim n [ inl q ↦ inl (inl q) | inr q ↦ inr (Member_left d (own_cowns rest) _ q) ]
    | inr n ↦ let x = Member_of_flat_map cowns_of_value d (all_values both) n in elim (value_in x.0 x.1.0) [
      | inl q ↦ inl (Member_right d (own_cowns one) _ (Member_flat_map cowns_of_value x.0 d (all_values one) q x.1.1))
      | inr q ↦ inr (Member_right d (own_cowns rest) _ (Member_flat_map cowns_of_value x.0 d (all_values rest) q x.1.1))
    ]
  ]

  other_name : (x : Row) → Member x v.rows → (o : ObjId) → Member o (names more ++ (names frozen ++ [])) → same_name o x.name ≡ false
  other_name x m o n = false_from_ne_true _ (λ e.
      let here : has_row v.rows o ≡ true = subst (λ z. has_row v.rows z ≡ true) (sym (same_name_is o x.name e)) (mem_has x v.rows m) in
      elim (Member_of_append o (names more) (names frozen ++ []) n) [
        | inl q ↦ apart o here (sym (has_names more o) ∙ Member_has_name o (names more) q)
        | inr q ↦ differ_apart (names v.rows) (names frozen ++ []) t.names_differ o (has_names v.rows o ∙ here) (Member_has_name o (names frozen ++ []) q)
      ])

  cowns_apart : Differ same_cown (own_cowns both)
  cowns_apart = (any_end (cowns_of (values_of cs)), s.cowns_differ)
    where
      any_end : (ks : List CownId) → list_any (λ y. same_cown y c) (cowns_of (values_of cs) ++ []) ≡ false
      any_end ks = any_none (λ y. same_cown y c) (cowns_of (values_of cs) ++ []) (λ y m. elim (Member_of_append y (cowns_of (values_of cs)) [] m) [ inl n ↦ none_any (λ d. same_cown d c) (cowns_of (values_of cs)) new y n | inr n ↦ absurd n ])

  pub joined_whole : WellFormed both
  joined_whole = record {
    rows_rise = all_order v.rows more one_distinct (λ x m. has_names more x.name ∙ no_row x m) s.rows_rise;
    given_rise = s.given_rise;
    own_rise = s.own_rise;
    names_differ = differ_names v.rows more (names frozen ++ []) one_distinct other_name s.names_differ;
    keys_differ = λ x m. elim (row_in x m) [ inl n ↦ t.keys_differ x n | inr n ↦ s.keys_differ x n ];
    mutable = λ x m. elim (all_inserted v.rows more x m) [ inl n ↦ t.mutable x n | inr n ↦ s.mutable x n ];
    frozen = s.frozen;
    bridge = bridge_both;
    leads = leads_both;
    one_owner = owner_count;
    no_round = no_round_both;
    objects_numbered = λ o m e. elim (name_in o m) [ inl n ↦ t.objects_numbered o n e | inr n ↦ s.objects_numbered o n e ];
    cowns_numbered = λ d m e. elim (cown_in d m) [ inl n ↦ t.cowns_numbered d n e | inr n ↦ s.cowns_numbered d n e ];
    cowns_differ = cowns_apart;
    made_here = λ d m. absurd m;
  }
