-- What is left of a well-formed state after some of its rows, to which nothing that is left leads, is well-formed.
use Rattle.std.proofs.Common.{Bool, Some, ap, arith, false, inl, inr, map, not, refl, sym, true, ◌&&◌, ◌++◌, ◌||◌, ◌∙◌, ◌≡◌, ◌≤◌}
use Rattle.lf_base.specs.declared.ids.ObjId.{ObjId}
use Rattle.lf_base.specs.declared.values.Key.{Key}
use Rattle.lf_base.specs.declared.values.Owner.TheVariants.{In}
use Rattle.lf_base.specs.declared.values.Value.{Value}
use Rattle.lf_base.specs.Edges.{Content, Edge, Field, Slot, Source, content_edges, edges, row_edges, rows_edges, slot_edges}
use Rattle.lf_base.specs.Names.{cowns_of_value, name_below, same_name}
use Rattle.lf_base.specs.Owners.{has_row, is_in, names, or_frozen, owner_in, owner_of}
use Rattle.lf_base.specs.Ownership.{is_in_other, is_owning, owning_edges, owns}
use Rattle.lf_base.specs.PlainState.{Row, State}
use Rattle.lf_base.specs.Sets.{Member}
use Rattle.lf_base.specs.Settling.{CanGo, without}
use Rattle.lf_base.specs.WellFormed.{WellFormed, all_cowns, all_values, content_values, field_values, from_content, from_near, from_row, may_lead, own_cowns, slot_values}
use Rattle.lf_base.proofs.ListLemmas.Sublists.{Sub, sub_all, sub_filter, sub_within, count_sub, differ_sub, order_sub, sub_append, sub_flat_map, sub_map}
use Rattle.std.proofs.lemmas.Bool.{and_from, and_parts, both_ways, false_from_ne_true, not-true}
use Rattle.lf_laws.proofs.Rows.EdgeSources.{at_content, at_frozen, at_row, at_slot, edge_begins}
use Rattle.lf_laws.proofs.Rows.RowsByName.{owner_there, differ_rows}
use Rattle.lf_laws.proofs.Owners.OwnersGoRound.{owns_within, round_before}
use Rattle.lf_base.proofs.ListLemmas.Members.{Member_left, Member_of_append, Member_right}
use Rattle.lf_base.proofs.ListLemmas.Filters.{Member_of_filter}
use Rattle.lf_laws.proofs.Dropping.RowsInPlace.{rows_in_place}
use Rattle.lf_base.proofs.NameLemmas.NameOrder.{name_below_trans}
use Rattle.lf_laws.proofs.Rows.RowEdges.{field_is}
use Rattle.lf_laws.proofs.Dropping.RowsWithout.{owner_old, owner_stay, show}
use Rattle.std.proofs.lemmas.Option.{none-some}

-- a set of rows may leave: they are mutable rows, no edge that is left leads to them, and with a bridge goes its region
pub record MayLeave (s : State) (gone : ObjId → Bool) : Type 0 where
  pub here : (o : ObjId) → gone o ≡ true → has_row s.rows o ≡ true
  pub clear : (e : Edge) → Member e (edges (without s gone)) → gone e.to ≡ false
  pub whole : (o r : ObjId) → owner_in s.rows o ≡ Some (In r) → gone r ≡ true → gone o ≡ true

pub can_leave : (s : State) (gone : ObjId → Bool) → CanGo s gone → MayLeave s gone
can_leave s gone c = record { here = λ o e. (c.must o e).here; clear = c.clear; whole = c.whole }

module _ (s : State) (gone : ObjId → Bool) (t : WellFormed s) (c : MayLeave s gone) where
  abbrev rest : State
  rest = without s gone

  rows_part : Sub rest.rows s.rows
  rows_part = sub_filter (λ r. not (gone r.name)) s.rows

  names_part : Sub (names rest.rows) (names s.rows)
  names_part = sub_map (λ (r : Row). r.name) rows_part

  row_before : (x : Row) → Member x rest.rows → Member x s.rows
  row_before = sub_within rows_part

  edges_part : Sub (edges rest) (edges s)
  edges_part = sub_append (sub_all (slot_edges s.slots)) (sub_append (sub_flat_map row_edges rows_part) (sub_all (content_edges s.held ++ (content_edges s.made ++ (rows_edges s.given ++ rows_edges s.own)))))

  values_part : Sub (all_values rest) (all_values s)
  values_part = sub_append (sub_all (slot_values s.slots)) (sub_append (sub_flat_map (λ (r : Row). map (λ (f : Key × Value). f.1) r.fields) rows_part) (sub_all (content_values s.held ++ (content_values s.made ++ (field_values s.given ++ field_values s.own)))))

  cowns_part : Sub (all_cowns rest) (all_cowns s)
  cowns_part = sub_append (sub_all (own_cowns s)) (sub_flat_map cowns_of_value values_part)

  owning_before : (f : Source) (r : ObjId) → is_owning rest.rows f r ≡ true → is_owning s.rows f r ≡ true
  owning_before Slot r e = e
  owning_before (Field p) r e = show (is_in_other r) refl s.rows gone p e
  owning_before (Content k) r e = e

  owning_less : (r : ObjId) → owning_edges rest r ≤ owning_edges s r
  owning_less r = count_sub (λ (e : Edge). is_owning rest.rows e.from r && same_name e.to r) (λ (e : Edge). is_owning s.rows e.from r && same_name e.to r)
      (λ e h. let p = and_parts _ _ h in and_from _ _ (owning_before e.from r p.0) p.1) edges_part

  -- what is left has its owner
  owner_same : (o : ObjId) → gone o ≡ false → owner_of rest o ≡ owner_of s o
  owner_same o n = ap (or_frozen (has_row s.given o || has_row s.own o)) (owner_stay s.rows gone o n)

  frozen_left : (o : ObjId) → (has_row s.given o || has_row s.own o) ≡ true → gone o ≡ false
  frozen_left o h = false_from_ne_true _ (λ e.
      let w = owner_there s.rows (differ_rows s.rows (names s.given ++ names s.own) t.names_differ) o (c.here o e) in
      none-some w.owner (sym ((rows_in_place s t).apart o h) ∙ w.is))

  abbrev Left : Source → Type 0
  Left f = (p : ObjId) → f ≡ Field p → gone p ≡ false

  source_left : (e : Edge) → Member e (edges rest) → Left e.from
  source_left e m p f = elim (edge_begins rest e m) [
    | at_slot h n ↦ let z = sym h ∙ f in cc
    | at_row x n h b ↦ ap gone (field_is p x.name (sym f ∙ h)) ∙ not-true _ (Member_of_filter (λ (r : Row). not (gone r.name)) x s.rows n).1
    | at_content d h n ↦ let z = sym h ∙ f in cc
    | at_frozen x n h ↦ ap gone (field_is p x.name (sym f ∙ h)) ∙ frozen_left x.name n
  ]

  lead_same : (f : Source) (o : ObjId) → Left f → gone o ≡ false → may_lead rest f o ≡ may_lead s f o
  lead_same Slot o l n = ap from_near (owner_same o n)
  lead_same (Field p) o l n = (λ i. from_row (owner_same p (l p refl) i) o (owner_same o n i))
  lead_same (Content k) o l n = ap (from_content o) (owner_same o n)

  owns_old : (q r : ObjId) → owns rest q r ≡ true → owns s q r ≡ true
  owns_old = owns_within s rest (λ e m. sub_within edges_part e m) (λ q p e. show (is_in q) refl s.rows gone p e)

  pub left_well_formed : WellFormed rest
  left_well_formed = record {
    rows_rise = order_sub name_below name_below_trans names_part t.rows_rise;
    given_rise = t.given_rise;
    own_rise = t.own_rise;
    names_differ = differ_sub same_name (sub_append names_part (sub_all (names s.given ++ names s.own))) t.names_differ;
    keys_differ = λ x m. elim (Member_of_append x rest.rows (s.given ++ s.own) m) [
      | inl k ↦ t.keys_differ x (Member_left x s.rows (s.given ++ s.own) (row_before x k))
      | inr k ↦ t.keys_differ x (Member_right x s.rows (s.given ++ s.own) k)
    ];
    mutable = λ x m. t.mutable x (row_before x m);
    frozen = t.frozen;
    bridge = λ o r h. let k = owner_old s.rows gone o (In r) h in
        owner_stay s.rows gone r (false_from_ne_true _ (λ e. both_ways _ k.0 (c.whole o r k.1 e))) ∙ t.bridge o r k.1;
    leads = λ e m. lead_same e.from e.to (source_left e m) (c.clear e m) ∙ t.leads e (sub_within edges_part e m);
    one_owner = λ r b. let one = t.one_owner r (show (is_in r) refl s.rows gone r b) in omega (arith, one, owning_less r);
    no_round = round_before s rest owns_old t.no_round;
    objects_numbered = λ o m. t.objects_numbered o (sub_within (sub_append names_part (sub_all (names s.given ++ names s.own))) o m);
    cowns_numbered = λ d m. t.cowns_numbered d (sub_within cowns_part d m);
    cowns_differ = t.cowns_differ;
    made_here = t.made_here;
  }

pub well_formed_without : (s : State) (gone : ObjId → Bool) → WellFormed s → CanGo s gone → WellFormed (without s gone)
well_formed_without s gone t c = left_well_formed s gone t (can_leave s gone c)
