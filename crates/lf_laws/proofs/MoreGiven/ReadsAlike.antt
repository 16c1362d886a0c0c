-- Reads and questions don't see frozen rows that nothing of the state leads to.
use Rattle.lf_base.proofs.ListLemmas.Sublists.{differ_right}
use Rattle.lf_laws.proofs.Rows.OwnerTests.{frozen_there}
use Rattle.std.proofs.Common.{List, None, Option, Some, [], ap, cond, false, inl, inr, not, refl, sym, true, ℕ, ◌++◌, ◌||◌, ◌∙◌, ◌∷◌, ◌≡◌}
use Rattle.lf_base.specs.declared.ids.ObjId.{ObjId}
use Rattle.lf_base.specs.declared.values.Key.{Key}
use Rattle.lf_base.specs.declared.values.Owner.{Owner}
use Rattle.lf_base.specs.declared.values.Owner.TheVariants.{Frozen, In, Local}
use Rattle.lf_base.specs.declared.values.Value.{Value}
use Rattle.lf_base.specs.declared.values.Value.TheVariants as value
use Rattle.lf_base.specs.Accesses.{read_value}
use Rattle.lf_base.specs.Edges.{Edge, content_edges, rows_edges, slot_edges}
use Rattle.lf_base.specs.Names.{same_name, targets_of_value}
use Rattle.lf_base.specs.Owners.{bridge_of, has_row, names, or_frozen, owner_in, owner_of, row_at, row_owner}
use Rattle.lf_base.specs.PlainChanges.{with_slot_at}
use Rattle.lf_base.specs.PlainState.{Row, State}
use Rattle.lf_base.specs.Questions.{borrowed_answer, first_refs, is_closed_answer, of_bridge, open_children_answer, refs_answer, label_of, label_by}
use Rattle.lf_base.specs.Sets.{Member}
use Rattle.lf_base.specs.TakeResult.{row_field}
use Rattle.lf_base.specs.WalkCounts.{refs}
use Rattle.lf_base.specs.WellFormed.{SlotMayHold, WellFormed, from_frozen, from_near, from_row, may_lead}
use Rattle.lf_base.proofs.ListLemmas.Tests.{none_count}
use Rattle.lf_laws.proofs.Rows.RowsByName.{row_of, mem_has, owner_has, owner_there, differ_apart, differ_rows}
use Rattle.lf_laws.proofs.Rows.RowEdges.{edge_row}
use Rattle.std.proofs.lemmas.Bool.{both_ways, false_from_ne_true, or_cases}
use Rattle.lf_base.proofs.NameLemmas.RowNames.{has_names}
use Rattle.lf_base.proofs.NameLemmas.SameNames.{same_name_is}
use Rattle.lf_laws.proofs.Dropping.RowsInPlace.{rows_in_place}
use Rattle.lf_base.proofs.ListLemmas.Members.{Member_left, Member_right}
use Rattle.lf_base.specs.MoreGiven.{More, with_given}
use Rattle.lf_laws.proofs.MoreGiven.GivenRows.{borrowed_same, children_same, count_skip, few_foreign, many_foreign, open_same, owner_same}

abbrev or_row : Option Row → Option Row → Option Row
or_row None y = y
or_row (Some x) y = Some x

at_both : (xs ys : List Row) (o : ObjId) → row_at (xs ++ ys) o ≡ or_row (row_at xs o) (row_at ys o)
at_both [] ys o = refl
at_both (x ∷ xs) ys o = elim (same_name x.name o) as (λ b. cond b (Some x) (row_at (xs ++ ys) o) ≡ or_row (cond b (Some x) (row_at xs o)) (row_at ys o)) [ true ↦ refl | false ↦ at_both xs ys o ]

module _ (s : State) (many : List Row) (h : More s many) where
  -- the row of an object of the domain
  pub row_same : (o : ObjId) → from_near (owner_of s o) ≡ true → row_at (s.rows ++ (many ++ s.own)) o ≡ row_at (s.rows ++ (s.given ++ s.own)) o
  row_same o near = at_both s.rows (many ++ s.own) o ∙ go (row_at s.rows o) refl ∙ sym (at_both s.rows (s.given ++ s.own) o)
    where
      own_row : has_row s.own o ≡ true → row_at many o ≡ None
      own_row e = go (row_at many o) refl
        where
          go : (r : Option Row) → row_at many o ≡ r → r ≡ None
          go None k = refl
          go (Some x) k = absurd (differ_apart (names many) (names s.own) (differ_right same_name (names s.rows) (names many ++ names s.own) (h.more).names_differ) o (has_names many o ∙ owner_has many o x.owner (ap row_owner k)) (has_names s.own o ∙ e))

      go : (r : Option Row) → row_at s.rows o ≡ r → or_row (row_at s.rows o) (row_at (many ++ s.own) o) ≡ or_row (row_at s.rows o) (row_at (s.given ++ s.own) o)
      go (Some x) e = ap (λ z. or_row z (row_at (many ++ s.own) o)) e ∙ sym (ap (λ z. or_row z (row_at (s.given ++ s.own) o)) e)
      go None e =
          let there = frozen_there (has_row s.given o || has_row s.own o) (ap (λ u. from_near (or_frozen (has_row s.given o || has_row s.own o) u)) (sym (ap row_owner e)) ∙ near) in
          ap (or_row (row_at s.rows o)) (at_both many s.own o ∙ elim (or_cases (has_row s.given o) (has_row s.own o) there) [
            | inl k ↦ ap (λ z. or_row z (row_at s.own o)) (h.holds o k)
            | inr k ↦ ap (λ z. or_row z (row_at s.own o)) (own_row k ∙ sym (none_given (row_at s.given o) refl k))
          ] ∙ sym (at_both s.given s.own o))
        where
          none_given : (r : Option Row) → row_at s.given o ≡ r → has_row s.own o ≡ true → row_at s.given o ≡ None
          none_given None k j = k
          none_given (Some x) k j = absurd (differ_apart (names s.given) (names s.own) (differ_right same_name (names s.rows) (names s.given ++ names s.own) (h.whole).names_differ) o (has_names s.given o ∙ owner_has s.given o x.owner (ap row_owner k)) (has_names s.own o ∙ j))

  pub read_alike : (t : Value) (k : Option Key) → SlotMayHold s t → read_value (with_given s many) t k ≡ read_value s t k
  read_alike (value.Obj o) (Some k) may = ap (λ r. row_field r k) (row_same o (may.object_there o (inl refl)))
  read_alike (value.Cown c) (Some k) may = refl
  read_alike (value.Obj o) None may = refl
  read_alike (value.Cown c) None may = refl
  read_alike value.None k may = refl
  read_alike (value.Bool b) k may = refl
  read_alike (value.Int n) k may = refl
  read_alike (value.Text n) k may = refl

  pub label_alike : (v : Value) → SlotMayHold s v → label_of (with_given s many) v ≡ label_of s v
  label_alike (value.Obj o) may = ap label_by (owner_same s many h o (may.object_there o (inl refl)))
  label_alike (value.Cown c) may = refl
  label_alike value.None may = refl
  label_alike (value.Bool b) may = refl
  label_alike (value.Int n) may = refl
  label_alike (value.Text n) may = refl

  -- no frozen row leads to a mutable one
  cold_edge : (t : State) → WellFormed t → (e : Edge) → Member e (rows_edges t.given) → has_row t.rows e.to ≡ false
  cold_edge t w e m =
      let x = edge_row t.given e m in
      let near : (has_row t.given (x.row).name || has_row t.own (x.row).name) ≡ true = ap (λ b. b || has_row t.own (x.row).name) (mem_has x.row t.given x.mem) in
      let cold : owner_of t (x.row).name ≡ Some Frozen = (λ i. or_frozen (near i) ((rows_in_place t w).apart (x.row).name near i)) in
      let lead : from_row (owner_of t (x.row).name) e.to (owner_of t e.to) ≡ true = ap (λ z. may_lead t z e.to) (sym x.from) ∙ w.leads e (Member_right e (slot_edges t.slots) _ (Member_right e (rows_edges t.rows) _ (Member_right e (content_edges t.held) _ (Member_right e (content_edges t.made) _ (Member_left e (rows_edges t.given) (rows_edges t.own) m))))) in
      let frozen : from_frozen (owner_of t e.to) ≡ true = ap (λ u. from_row u e.to (owner_of t e.to)) (sym cold) ∙ lead in
      false_from_ne_true _ (λ k.
      let o = owner_there t.rows (differ_rows t.rows (names t.given ++ names t.own) w.names_differ) e.to k in
      mutable_not t w e.to o.owner o.is (ap (λ u. from_frozen (or_frozen (has_row t.given e.to || has_row t.own e.to) u)) (sym o.is) ∙ frozen))
    where
      mutable_not : (t : State) → WellFormed t → (o : ObjId) (x : Owner) → owner_in t.rows o ≡ Some x → from_frozen (Some x) ≡ true → ⊥
      mutable_not t w o Local e k = both_ways _ refl k
      mutable_not t w o (In r) e k = both_ways _ refl k
      mutable_not t w o Frozen e k = let y = row_of t.rows o Frozen e in w.mutable y.row y.mem y.owner

  refs_same : (o : ObjId) → has_row s.rows o ≡ true → refs (with_given s many) o ≡ refs s o
  refs_same o m = count_skip (λ (e : Edge). same_name e.to o) (slot_edges s.slots) (rows_edges s.rows) (content_edges s.held) (content_edges s.made) (rows_edges many) (rows_edges s.given) (rows_edges s.own)
      (none_count (λ (e : Edge). same_name e.to o) (rows_edges many) (λ e k. false_from_ne_true _ (λ q. both_ways _ (sym (ap (has_row s.rows) (same_name_is e.to o q)) ∙ cold_edge (with_given s many) h.more e k) m)))
      (none_count (λ (e : Edge). same_name e.to o) (rows_edges s.given) (λ e k. false_from_ne_true _ (λ q. both_ways _ (sym (ap (has_row s.rows) (same_name_is e.to o q)) ∙ cold_edge s h.whole e k) m)))

  pub refs_alike : (v : Value) → refs_answer (with_given s many) v ≡ refs_answer s v
  refs_alike v = go (targets_of_value v)
    where
      go : (os : List ObjId) → first_refs (with_given s many) os ≡ first_refs s os
      go [] = refl
      go (o ∷ os) = elim (has_row s.rows o) as (λ b. has_row s.rows o ≡ b → cond b (Some (refs (with_given s many) o)) None ≡ cond b (Some (refs s o)) None) [ true ↦ λ e. ap Some (refs_same o e) | false ↦ λ e. refl ] refl

  of_alike : {X : Type 0} (f q : ObjId → X) → ((r : ObjId) → f r ≡ q r) → (b : Option ObjId) → of_bridge f b ≡ of_bridge q b
  of_alike f q e None = refl
  of_alike f q e (Some r) = ap Some (e r)

  pub borrowed_alike : (v : Value) → borrowed_answer (with_given s many) v ≡ borrowed_answer s v
  borrowed_alike v = of_alike _ _ (borrowed_same s many (few_foreign s many h) (many_foreign s many h)) (bridge_of s v)

  pub children_alike : (v : Value) → open_children_answer (with_given s many) v ≡ open_children_answer s v
  children_alike v = of_alike _ _ (children_same s many (few_foreign s many h) (many_foreign s many h)) (bridge_of s v)

  pub closed_alike : (n : ℕ) (v : Value) → is_closed_answer (with_given s many) n v ≡ is_closed_answer s n v
  closed_alike n v = of_alike _ _ (λ r. ap not (open_same (with_slot_at s n None) many (few_foreign s many h) (many_foreign s many h) r)) (bridge_of s v)
