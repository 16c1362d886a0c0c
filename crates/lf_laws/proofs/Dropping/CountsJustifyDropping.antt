-- What the counts show to be without a justification may go.
use Rattle.std.proofs.Common.{Bool, None, Option, Some, ap, cond, false, inl, inr, not, refl, subst, sym, true, ◌&&◌, ◌++◌, ◌||◌, ◌∙◌, ◌≡◌}
use Rattle.lf_base.specs.declared.ids.ObjId.{ObjId}
use Rattle.lf_base.specs.declared.values.Owner.{Owner}
use Rattle.lf_base.specs.declared.values.Owner.TheVariants.{Frozen, In, Local}
use Rattle.lf_base.specs.Edges.{Content, Edge, Field, Source, content_edges, edges, row_edges, rows_edges, slot_edges}
use Rattle.lf_base.specs.Kept.{is_owned_by, kept_rows, points, points_into}
use Rattle.lf_base.specs.Names.{same_name}
use Rattle.lf_base.specs.Owners.{has_row, is_in, is_local_at, or_frozen, owner_in}
use Rattle.lf_base.specs.Ownership.{is_in_other, is_owning, owning_edges}
use Rattle.lf_base.specs.PlainState.{Row, State}
use Rattle.lf_base.specs.Sets.{Member}
use Rattle.lf_base.specs.Settling.{CanGo, without}
use Rattle.lf_base.specs.Suspects.{Bare, MustGo}
use Rattle.lf_base.specs.WalkCounts.{borrowed, borrows, is_borrower, refs}
use Rattle.lf_base.specs.WellFormed.{from_content, from_frozen, from_row, may_lead}
use Rattle.lf_laws.proofs.Rows.OwnerTests.{in_region, in_is}
use Rattle.lf_laws.proofs.Rows.RowsByName.{owner_has, owner_is, owner_mem}
use Rattle.std.proofs.lemmas.Bool.{and_from, and_parts, both_ways, false_from_ne_true, not-true}
use Rattle.lf_laws.proofs.Rows.RowEdges.{row_leads, to_region}
use Rattle.lf_laws.proofs.Dropping.KeptRows.{kept_stays}
use Rattle.lf_base.proofs.ListLemmas.Members.{Within_append, Within_flat_map, Member_left, Member_of_append, Member_right, Within}
use Rattle.lf_base.proofs.NameLemmas.SameNames.{same_name_is, same_name_itself}
use Rattle.lf_base.proofs.ListLemmas.Filters.{Member_of_filter}
use Rattle.lf_laws.proofs.Dropping.RowsInPlace.{RowsInPlace}
use Rattle.lf_laws.proofs.Dropping.HangingIsWatched.{bare_goes, bare_inner, bare_region}
use Rattle.lf_base.proofs.ListLemmas.Tests.{any_none, count_none, none_any, none_count}
use Rattle.lf_laws.proofs.Rows.EdgeSources.{at_content, at_frozen, at_row, at_slot, edge_begins}
use Rattle.lf_base.specs.Losses.{of_region}

pub rest_within : (s : State) (gone : ObjId → Bool) → Within (edges (without s gone)) (edges s)
rest_within s gone = Within_append (slot_edges s.slots) (slot_edges s.slots) _ _ (λ x h. h)
    (Within_append (rows_edges (without s gone).rows) (rows_edges s.rows) _ _ (Within_flat_map row_edges (without s gone).rows s.rows (λ x m. (Member_of_filter (λ (r : Row). not (gone r.name)) x s.rows m).0)) (λ x h. h))

near_in : (s : State) → Within (slot_edges s.slots ++ rows_edges s.rows) (edges s)
near_in s = Within_append (slot_edges s.slots) (slot_edges s.slots) (rows_edges s.rows) _ (λ x h. h) (λ x m. Member_left x (rows_edges s.rows) _ m)

owners_in : (s : State) → Within (rows_edges s.rows ++ (content_edges s.held ++ content_edges s.made)) (edges s)
owners_in s e m = Member_right e (slot_edges s.slots) _ (elim (Member_of_append e (rows_edges s.rows) (content_edges s.held ++ content_edges s.made) m) [
  | inl k ↦ Member_left e (rows_edges s.rows) _ k
  | inr k ↦ Member_right e (rows_edges s.rows) _ (elim (Member_of_append e (content_edges s.held) (content_edges s.made) k) [
    | inl n ↦ Member_left e (content_edges s.held) _ n
    | inr n ↦ Member_right e (content_edges s.held) _ (Member_left e (content_edges s.made) _ n)
  ])
])

module _ (s : State) (g : RowsInPlace s) where
  pub zero_points : (o : ObjId) → refs s o ≡ 0 → points s.rows s o ≡ false
  zero_points o e = any_none (λ (d : Edge). same_name d.to o) (slot_edges s.slots ++ rows_edges s.rows) (λ d m. count_none (λ (d : Edge). same_name d.to o) (edges s) e d (near_in s d m))

  pub zero_into : (r : ObjId) → borrowed s r ≡ 0 → points_into s.rows s r ≡ false
  zero_into r e = any_none (borrows s.rows r) (slot_edges s.slots ++ rows_edges s.rows) (λ d m. count_none (borrows s.rows r) (edges s) e d (near_in s d m))

  pub zero_owned : (r : ObjId) → owning_edges s r ≡ 0 → is_owned_by s.rows s r ≡ false
  zero_owned r e = any_none (λ (d : Edge). is_owning s.rows d.from r && same_name d.to r) (rows_edges s.rows ++ (content_edges s.held ++ content_edges s.made))
      (λ d m. count_none (λ (d : Edge). is_owning s.rows d.from r && same_name d.to r) (edges s) e d (owners_in s d m))

  -- the other way
  pub into_zero : (r : ObjId) → points_into s.rows s r ≡ false → borrowed s r ≡ 0
  into_zero r h = none_count (borrows s.rows r) (edges s) (λ e m. elim (edge_begins s e m) [
    | at_slot f k ↦ none_any (borrows s.rows r) (slot_edges s.slots ++ rows_edges s.rows) h e (Member_left e (slot_edges s.slots) _ k)
    | at_row x n f k ↦ none_any (borrows s.rows r) (slot_edges s.slots ++ rows_edges s.rows) h e (Member_right e (slot_edges s.slots) _ k)
    | at_content c f k ↦ ap (λ z. is_borrower s.rows z && is_in r (owner_in s.rows e.to)) f
    | at_frozen x k f ↦ ap (λ z. is_borrower s.rows z && is_in r (owner_in s.rows e.to)) f ∙ ap (λ w. is_local_at w && is_in r (owner_in s.rows e.to)) (g.apart x.name k)
  ])

  pub owned_zero : (r : ObjId) → is_owned_by s.rows s r ≡ false → owning_edges s r ≡ 0
  owned_zero r h = none_count (λ (d : Edge). is_owning s.rows d.from r && same_name d.to r) (edges s) (λ e m. elim (edge_begins s e m) [
    | at_slot f k ↦ ap (λ z. is_owning s.rows z r && same_name e.to r) f
    | at_row x n f k ↦ none_any (λ (d : Edge). is_owning s.rows d.from r && same_name d.to r) (rows_edges s.rows ++ (content_edges s.held ++ content_edges s.made)) h e (Member_left e (rows_edges s.rows) _ k)
    | at_content c f k ↦ none_any (λ (d : Edge). is_owning s.rows d.from r && same_name d.to r) (rows_edges s.rows ++ (content_edges s.held ++ content_edges s.made)) h e (Member_right e (rows_edges s.rows) _ k)
    | at_frozen x k f ↦ ap (λ z. is_owning s.rows z r && same_name e.to r) f ∙ ap (λ w. is_in_other r w && same_name e.to r) (g.apart x.name k)
  ])

  -- a row that no content and no frozen row may lead to
  abbrev pub Inside : ObjId → Owner → Type 0
  Inside o Local = Unit {0}
  Inside o (In r) = same_name r o ≡ false
  Inside o Frozen = ⊥

  lead_of : (e : Edge) → Member e (edges s) → (o : ObjId) → e.to ≡ o → (f : Source) → e.from ≡ f → may_lead s f o ≡ true
  lead_of e m o t f k = (λ i. may_lead s (sym k i) (sym t i)) ∙ g.leads e m

  no_content : (o : ObjId) (w : Owner) → Inside o w → from_content o (Some w) ≡ true → ⊥
  no_content o Local i e = cc
  no_content o (In r) i e = both_ways _ i e
  no_content o Frozen i e = i

  no_frozen : (o : ObjId) (w : Owner) → Inside o w → from_frozen (Some w) ≡ true → ⊥
  no_frozen o Local i e = cc
  no_frozen o (In r) i e = cc
  no_frozen o Frozen i e = i

  or_frozen_is : (b : Bool) → b ≡ true → (w : Option Owner) → w ≡ None → or_frozen b w ≡ Some Frozen
  or_frozen_is b e w h = λ i. or_frozen (e i) (h i)

  pub points_zero : (o : ObjId) (w : Owner) → owner_in s.rows o ≡ Some w → Inside o w → points s.rows s o ≡ false → refs s o ≡ 0
  points_zero o w h i n = none_count (λ (d : Edge). same_name d.to o) (edges s) (λ e m. elim (edge_begins s e m) [
    | at_slot f k ↦ none_any (λ (d : Edge). same_name d.to o) (slot_edges s.slots ++ rows_edges s.rows) n e (Member_left e (slot_edges s.slots) _ k)
    | at_row x y f k ↦ none_any (λ (d : Edge). same_name d.to o) (slot_edges s.slots ++ rows_edges s.rows) n e (Member_right e (slot_edges s.slots) _ k)
    | at_content c f k ↦ false_from_ne_true _ (λ t. no_content o w i (ap (λ z. from_content o (or_frozen (has_row s.given o || has_row s.own o) z)) (sym h) ∙ lead_of e m o (same_name_is e.to o t) (Content c) f))
    | at_frozen x k f ↦ false_from_ne_true _ (λ t. no_frozen o w i
        ((λ j. from_row (sym (or_frozen_is (has_row s.given x.name || has_row s.own x.name) k (owner_in s.rows x.name) (g.apart x.name k)) j) o (or_frozen (has_row s.given o || has_row s.own o) (sym h j)))
        ∙ lead_of e m o (same_name_is e.to o t) (Field x.name) f))
  ])

  -- ---- what may go
  no_edge : (o : ObjId) → refs s o ≡ 0 → (gone : ObjId → Bool) → (e : Edge) → Member e (edges (without s gone)) → same_name o e.to ≡ false
  no_edge o z gone e m = false_from_ne_true _ (λ h. both_ways _ (count_none (λ (d : Edge). same_name d.to o) (edges s) z e (rest_within s gone e m)) (ap (λ n. same_name n o) (sym (same_name_is o e.to h)) ∙ same_name_itself o))

  local_not_in : (o r : ObjId) → owner_in s.rows o ≡ Some Local → owner_in s.rows o ≡ Some (In r) → ⊥
  local_not_in o r h k = let e = owner_is s.rows o Local (In r) h k in cc

  pub local_goes : (o : ObjId) → owner_in s.rows o ≡ Some Local → refs s o ≡ 0 → CanGo s (same_name o)
  local_goes o h z = record {
    must = λ p e. subst (MustGo s) (same_name_is o p e) (bare_goes s g o Local h (zero_points o z));
    clear = no_edge o z (same_name o);
    whole = λ p r k e. absurd (local_not_in o r h (ap (owner_in s.rows) (same_name_is o r e) ∙ g.bridge p r k));
    apart = λ p r k e n b. local_not_in o r h (ap (owner_in s.rows) (same_name_is o p e) ∙ k);
  }

  pub inner_goes : (o r : ObjId) → owner_in s.rows o ≡ Some (In r) → same_name r o ≡ false → (Bare s r → ⊥) → refs s o ≡ 0 → CanGo s (same_name o)
  inner_goes o r h d alive z = record {
    must = λ p e. subst (MustGo s) (same_name_is o p e) (bare_goes s g o (In r) h (bare_inner s g o r d (zero_points o z)));
    clear = no_edge o z (same_name o);
    whole = λ p q k e. let f : o ≡ q = same_name_is o q e in
        let t : owner_in s.rows o ≡ Some (In o) = subst (λ n. owner_in s.rows n ≡ Some (In n)) (sym f) (g.bridge p q k) in
        absurd (both_ways _ d (ap (λ n. same_name n o) (in_is r o (owner_is s.rows o (In r) (In o) h t)) ∙ same_name_itself o));
    apart = λ p q k e n b. alive (subst (Bare s) (in_is q r (owner_is s.rows p (In q) (In r) k (ap (owner_in s.rows) (sym (same_name_is o p e)) ∙ h))) b);
  }

  bare_of : (r : ObjId) → borrowed s r ≡ 0 → owning_edges s r ≡ 0 → Bare s r
  bare_of r b z = record { unowned = zero_owned r z; unborrowed = zero_into r b }

  region_must : (r : ObjId) → owner_in s.rows r ≡ Some (In r) → Bare s r → (o : ObjId) → owner_in s.rows o ≡ Some (In r) → has_row (kept_rows s) o ≡ true → ⊥
  region_must r h b o k e =
      let top : has_row (kept_rows s) r ≡ true → ⊥ = λ t. both_ways _ (bare_goes s g r (In r) h (bare_region s g r b)).goes t in
      elim (same_name r o) as (λ c. same_name r o ≡ c → ⊥) [
        | true ↦ λ t. top (ap (has_row (kept_rows s)) (same_name_is r o t) ∙ e)
        | false ↦ λ t. top (and_parts (has_row (kept_rows s) r) _ (sym (ap (λ c. cond c (is_owned_by (kept_rows s) s r || points_into (kept_rows s) s r) (has_row (kept_rows s) r && points (kept_rows s) s o)) t) ∙ kept_stays s g.distinct o (In r) k e)).0
      ] refl

  not_content : (o r : ObjId) → from_content o (Some (In r)) ≡ true → r ≡ o
  not_content o r e = same_name_is r o e

  -- no edge from outside leads into the region
  region_clear : (r : ObjId) → owner_in s.rows r ≡ Some (In r) → borrowed s r ≡ 0 → owning_edges s r ≡ 0 → (e : Edge) → Member e (edges (without s (of_region s r))) → of_region s r e.to ≡ true → ⊥
  region_clear r h b z e m t =
      let own : owner_in s.rows e.to ≡ Some (In r) = in_region r (owner_in s.rows e.to) t in
      let old : Member e (edges s) = rest_within s (of_region s r) e m in
      let not_near : is_borrower s.rows e.from ≡ true → ⊥ = λ n. both_ways _ (count_none (borrows s.rows r) (edges s) b e old) (and_from _ _ n t) in
      let not_owning : is_owning s.rows e.from r ≡ true → r ≡ e.to → ⊥ = λ n k. both_ways _ (count_none (λ (d : Edge). is_owning s.rows d.from r && same_name d.to r) (edges s) z e old) (and_from _ _ n (ap (λ x. same_name x r) (sym k) ∙ same_name_itself r)) in
      elim (edge_begins (without s (of_region s r)) e m) [
        | at_slot f k ↦ not_near (ap (is_borrower s.rows) f)
        | at_row x y f k ↦
            let u = Member_of_filter (λ (w : Row). not (of_region s r w.name)) x s.rows y in
            let own_x : owner_in s.rows x.name ≡ Some (x.owner) = owner_mem s.rows g.distinct x u.0 in
            elim (to_region x.owner e.to r (row_leads s g.distinct g.leads x u.0 e old f (In r) own)) [
              | inl l ↦ not_near (ap (is_borrower s.rows) f ∙ ap is_local_at (own_x ∙ ap Some l))
              | inr (inl l) ↦ both_ways _ (not-true _ u.1) (ap (is_in r) (own_x ∙ ap Some l) ∙ same_name_itself r)
              | inr (inr l) ↦ not_owning (ap (λ w. is_owning s.rows w r) f ∙ ap (is_in_other r) (own_x ∙ ap Some l.1.0) ∙ ap not l.1.1.0) l.1.1.1
            ]
        | at_content c f k ↦ not_owning (ap (λ w. is_owning s.rows w r) f)
            (not_content e.to r (ap (λ w. from_content e.to (or_frozen (has_row s.given e.to || has_row s.own e.to) w)) (sym own) ∙ lead_of e old e.to refl (Content c) f))
        | at_frozen x k f ↦
            let v : from_frozen (Some (In r)) ≡ true = (λ j. from_row (sym (or_frozen_is (has_row s.given x.name || has_row s.own x.name) k (owner_in s.rows x.name) (g.apart x.name k)) j) e.to (or_frozen (has_row s.given e.to || has_row s.own e.to) (sym own j)))
            ∙ lead_of e old e.to refl (Field x.name) f in cc
      ]

  pub region_goes : (r : ObjId) → owner_in s.rows r ≡ Some (In r) → borrowed s r ≡ 0 → owning_edges s r ≡ 0 → CanGo s (of_region s r)
  region_goes r h b z = record {
    must = λ o e. let k : owner_in s.rows o ≡ Some (In r) = in_region r (owner_in s.rows o) e in
        record { here = owner_has s.rows o (In r) k; goes = false_from_ne_true _ (region_must r h (bare_of r b z) o k) };
    clear = λ e m. false_from_ne_true _ (region_clear r h b z e m);
    whole = λ o q k e.
        let f : q ≡ r = in_is q r (owner_is s.rows q (In q) (In r) (g.bridge o q k) (in_region r (owner_in s.rows q) e)) in
        ap (is_in r) (k ∙ ap (λ n. Some (In n)) f) ∙ same_name_itself r;
    apart = λ o q k e n w.
        let f : q ≡ r = in_is q r (owner_is s.rows o (In q) (In r) k (in_region r (owner_in s.rows o) e)) in
        both_ways _ n (ap (λ n. is_in r (owner_in s.rows n)) f ∙ ap (is_in r) h ∙ same_name_itself r);
  }
