-- The loss of one edge: its target is a suspect where it lost its last edge, or its region its last owner or borrow.
use Rattle.std.proofs.Common.{List, None, Some, [], ap, arith, false, inl, inr, ltb, refl, sym, true, ◌+◌, ◌<◌, ◌≤◌, ◌∙◌, ◌∷◌, ◌≡◌}
use Rattle.std.specs.List.{count_by}
use Rattle.lf_base.specs.Edges.{Edge}
use Rattle.lf_base.specs.Losses.{Loses, LosesEdges, LostLast, StillJustified, is_held, justified, last_edge, last_of_region}
use Rattle.lf_base.specs.Names.{same_name}
use Rattle.lf_base.specs.Owners.{is_bridge, is_in, owner_in}
use Rattle.lf_base.specs.PlainState.{State}
use Rattle.lf_base.specs.Sets.{Member}
use Rattle.lf_base.specs.Suspects.{Object, Suspect}
use Rattle.lf_base.specs.WalkCounts.{refs}
use Rattle.lf_base.specs.WellFormed.{WellFormed}
use Rattle.lf_base.specs.declared.ids.ObjId.{ObjId}
use Rattle.lf_base.specs.declared.values.Owner.{Owner}
use Rattle.lf_base.specs.declared.values.Owner.TheVariants.{In}
use Rattle.lf_base.proofs.NameLemmas.SameNames.{same_name_itself}
use Rattle.lf_laws.proofs.Losses.CountsFall.{borrowed_fewer, held_less, positive_test, justified_by_region, justified_by_row, justified_less, not_above, owning_fewer, refs_fewer}
use Rattle.std.proofs.lemmas.Bool.{both_ways}
use Rattle.std.proofs.lemmas.Option.{none-some}
use Rattle.lf_laws.proofs.Owners.ListedBridges.{bridge_listed, name_listed}
use Rattle.lf_laws.proofs.Losses.ManyLosses.{into, named, refs_lost}

-- the only edge of a list of one
single : (e d : Edge) → Member d (e ∷ []) → e ≡ d
single e d (inl h) = h
single e d (inr m) = absurd m

module _ (s t : State) (e : Edge) (lost : LosesEdges s t (e ∷ [])) (well : WellFormed s) where
  abbrev gone : List Edge
  gone = e ∷ []

  refs_one : (o : ObjId) → refs s o ≡ count_by (λ (d : Edge). same_name d.to o) gone + refs t o
  refs_one o = refs_fewer s t gone lost o

  only_to : (o : ObjId) → 0 < refs s o → refs t o ≡ 0 → e.to ≡ o
  only_to o some last = let d = refs_lost s t gone lost o some last in ap (λ (z : Edge). z.to) (single e d.0 d.1.0) ∙ d.1.1

  to_named : 0 < refs s e.to
  to_named = named s t gone lost e (inl refl)

  -- a region that has neither owner nor borrow any more is that of the edge's target
  inside : (r : ObjId) → is_bridge s.rows r ≡ true → is_held s r ≡ true → is_held t r ≡ false → owner_in s.rows e.to ≡ Some (In r)
  inside r b h n = let d = into s t gone lost r b h n in ap (λ (z : Edge). owner_in s.rows z.to) (single e d.0 d.1.0) ∙ d.1.1

  pushed : (old : List Suspect) → (o : ObjId) → e.to ≡ o → Member (Object o) (Object e.to ∷ old)
  pushed old o h = inl (ap Object h)

  paid : (w : Owner) → owner_in s.rows e.to ≡ Some w → LostLast s t e.to → justified t + 1 ≤ justified s
  paid w h (last_edge z) = justified_by_row s t gone lost e.to (name_listed s.rows e.to w h) (not_above (refs t e.to) z) (positive_test (refs s e.to) to_named)
  paid w h (last_of_region r k held n) =
      let b : owner_in s.rows r ≡ Some (In r) = well.bridge e.to r k in
      justified_by_region s t gone lost r (bridge_listed s r (ap (is_in r) b ∙ same_name_itself r)) n held

  -- where the target lost its last justification it is a suspect
  pub one_noticed : (old : List Suspect) (w : Owner) → owner_in s.rows e.to ≡ Some w → LostLast s t e.to → Loses s t old (Object e.to ∷ old)
  one_noticed old w h l = record {
    owners = lost.owners;
    fewer_refs = λ o. omega (arith, refs_one o);
    fewer_held = held_less s t gone lost;
    rows_lost = λ o u k some last. pushed old o (only_to o some last);
    regions_lost = λ r b k n. record { row = e.to; inside = inside r b k n; named = to_named; suspect = inl refl };
    suspects_stay = λ u m. inr m;
    paid = omega (arith, paid w h l);
  }

  -- and else there is nothing to notice
  pub none_noticed : (old : List Suspect) → StillJustified s t e.to → Loses s t old old
  none_noticed old still = record {
    owners = lost.owners;
    fewer_refs = λ o. omega (arith, refs_one o);
    fewer_held = held_less s t gone lost;
    rows_lost = λ o u k some last. absurd (omega (arith, still.named, ap (refs t) (only_to o some last), last));
    regions_lost = λ r b k n. absurd (both_ways _ n (still.held r (inside r b k n) k));
    suspects_stay = λ u m. m;
    paid = omega (arith, justified_less s t gone lost);
  }

  -- nor where it is no mutable row
  pub no_row : (old : List Suspect) → owner_in s.rows e.to ≡ None → Loses s t old old
  no_row old h = record {
    owners = lost.owners;
    fewer_refs = λ o. omega (arith, refs_one o);
    fewer_held = held_less s t gone lost;
    rows_lost = λ o u k some last. absurd (none-some u (sym h ∙ ap (owner_in s.rows) (only_to o some last) ∙ k));
    regions_lost = λ r b k n. absurd (none-some (In r) (sym h ∙ inside r b k n));
    suspects_stay = λ u m. m;
    paid = omega (arith, justified_less s t gone lost);
  }

-- ---- no edge lost
module _ (s t : State) (lost : LosesEdges s t []) where
  refs_same : (o : ObjId) → refs s o ≡ refs t o
  refs_same o = omega (arith, refs_fewer s t [] lost o)

  held_same : (r : ObjId) → is_held s r ≡ is_held t r
  held_same r = ap (ltb 0) (omega (arith, owning_fewer s t [] lost r, borrowed_fewer s t [] lost r))

  pub nothing_lost : (old : List Suspect) → Loses s t old old
  nothing_lost old = record {
    owners = lost.owners;
    fewer_refs = λ o. omega (arith, refs_same o);
    fewer_held = held_less s t [] lost;
    rows_lost = λ o w h some last. absurd (omega (arith, some, last, refs_same o));
    regions_lost = λ r b k n. absurd (both_ways _ n (sym (held_same r) ∙ k));
    suspects_stay = λ u m. m;
    paid = omega (arith, justified_less s t [] lost);
  }
