-- A behaviour that begins with frozen rows alone begins well-formed.
use Rattle.std.proofs.Common.{List, None, Some, [], ap, false, inl, inr, refl, subst, sym, true, ℕ, ◌++◌, ◌||◌, ◌∙◌, ◌≡◌}
use Rattle.std.proofs.lemmas.List.{append-nil}
use Rattle.std.specs.List.{flat_map}
use Rattle.lf_base.specs.declared.ids.CownId.{CownId}
use Rattle.lf_base.specs.declared.ids.ObjId.{ObjId}
use Rattle.lf_base.specs.declared.values.Owner.TheVariants.{Frozen, In}
use Rattle.lf_base.specs.Edges.{rows_edges}
use Rattle.lf_base.specs.Names.{cowns_of_value, same_name}
use Rattle.lf_base.specs.Owners.{has_row, names, or_frozen, owner_of}
use Rattle.lf_base.specs.PlainChanges.{first_state}
use Rattle.lf_base.specs.PlainState.{Row, State}
use Rattle.lf_base.specs.Sets.{Differ, Member}
use Rattle.lf_base.specs.WellFormed.{Leads, MayBeGiven, WellFormed, field_values, from_row, may_lead}
use Rattle.lf_laws.proofs.Rows.RowsByName.{mem_has}
use Rattle.lf_laws.proofs.Rows.RowEdges.{edge_row}
use Rattle.lf_base.proofs.ListLemmas.Members.{Within_flat_map, Member_of_append}
use Rattle.lf_base.proofs.NameLemmas.NameOrder.{order_differ}
use Rattle.std.proofs.lemmas.Option.{none-some}

ends_empty : {X : Type 0} (x : X) (xs : List X) → Member x (xs ++ []) → Member x xs
ends_empty x xs m = elim (Member_of_append x xs [] m) [ inl h ↦ h | inr h ↦ absurd h ]

module _ (birth : ℕ) (given : List Row) (g : MayBeGiven birth given) where
  abbrev first : State
  first = first_state birth given

  given_owner : (o : ObjId) → has_row given o ≡ true → owner_of first o ≡ Some Frozen
  given_owner o h = ap (λ b. or_frozen (b || false) None) h

  leads_first : Leads first
  leads_first e m =
      let n = ends_empty e (rows_edges given) m in
      let x = edge_row given e n in
      ap (λ f. may_lead first f e.to) x.from ∙ (λ i. from_row (given_owner (x.row).name (mem_has x.row given x.mem) i) e.to (given_owner e.to (g.leads e n) i))

  cown_given : (c : CownId) → Member c (flat_map cowns_of_value (field_values given ++ [])) → Member c (flat_map cowns_of_value (field_values given))
  cown_given c m = Within_flat_map cowns_of_value (field_values given ++ []) (field_values given) (λ v n. ends_empty v (field_values given) n) c m

  pub first_whole : WellFormed first
  first_whole = record {
    rows_rise = tt;
    given_rise = g.rise;
    own_rise = tt;
    names_differ = subst (Differ same_name) (sym (append-nil (names given))) (order_differ (names given) g.rise);
    keys_differ = λ x m. g.keys_differ x (ends_empty x given m);
    mutable = λ x m h. m;
    frozen = λ x m. g.frozen x (ends_empty x given m);
    bridge = λ o r h. absurd (none-some (In r) h);
    leads = leads_first;
    one_owner = λ r b. cc;
    no_round = refl;
    objects_numbered = λ o m e. absurd (g.no_object o (ends_empty o (names given) m) e);
    cowns_numbered = λ c m e. absurd (g.no_cown c (cown_given c m) e);
    cowns_differ = tt;
    made_here = λ c m. absurd m;
  }
