-- Losses one after the other.
use Rattle.std.proofs.Common.{Bool, List, Some, ap, arith, false, ltb, refl, sym, true, ◌<◌, ◌∙◌, ◌≡◌}
use Rattle.lf_base.specs.declared.ids.ObjId.{ObjId}
use Rattle.lf_base.specs.declared.values.Owner.{Owner}
use Rattle.lf_base.specs.Owners.{is_bridge, is_in, owner_in}
use Rattle.lf_base.specs.PlainState.{State}
use Rattle.lf_base.specs.Sets.{Member}
use Rattle.lf_base.specs.Suspects.{Object, Suspect}
use Rattle.lf_base.specs.WalkCounts.{refs}
use Rattle.std.proofs.lemmas.Bool.{both_ways}
use Rattle.lf_base.specs.Losses.{LostIn, Loses}
use Rattle.lf_base.specs.Losses.{is_held}
use Rattle.lf_laws.proofs.Losses.CountsFall.{above_zero, zero_not}

-- nothing lost
pub loses_nothing : (s : State) (w : List Suspect) → Loses s s w w
loses_nothing s w = record {
  owners = λ o. refl;
  fewer_refs = λ o. omega arith;
  fewer_held = λ r h. h;
  rows_lost = λ o w h some zero. absurd (omega (arith, some, zero));
  regions_lost = λ r b h n. absurd (both_ways _ n h);
  suspects_stay = λ u m. m;
  paid = omega arith;
}

module _ (s t u : State) (first middle last : List Suspect) (a : Loses s t first middle) (b : Loses t u middle last) where
  row_lost : (o : ObjId) (w : Owner) → owner_in s.rows o ≡ Some w → 0 < refs s o → refs u o ≡ 0 → (c : Bool) → ltb 0 (refs t o) ≡ c → Member (Object o) last
  row_lost o w h some zero true e = b.rows_lost o w (a.owners o ∙ h) (above_zero (refs t o) e) zero
  row_lost o w h some zero false e = b.suspects_stay (Object o) (a.rows_lost o w h some (zero_not (refs t o) e))

  region_lost : (r : ObjId) → is_bridge s.rows r ≡ true → is_held s r ≡ true → is_held u r ≡ false → (c : Bool) → is_held t r ≡ c → LostIn s r last
  region_lost r k h n true e = let l = b.regions_lost r (ap (is_in r) (a.owners r) ∙ k) e n in
      record { row = l.row; inside = sym (a.owners l.row) ∙ l.inside; named = omega (arith, l.named, a.fewer_refs l.row); suspect = l.suspect }
  region_lost r k h n false e = let l = a.regions_lost r k h e in
      record { row = l.row; inside = l.inside; named = l.named; suspect = b.suspects_stay (Object l.row) l.suspect }

  pub loses_then : Loses s u first last
  loses_then = record {
    owners = λ o. b.owners o ∙ a.owners o;
    fewer_refs = λ o. omega (arith, a.fewer_refs o, b.fewer_refs o);
    fewer_held = λ r h. a.fewer_held r (b.fewer_held r h);
    rows_lost = λ o w h some zero. row_lost o w h some zero (ltb 0 (refs t o)) refl;
    regions_lost = λ r k h n. region_lost r k h n (is_held t r) refl;
    suspects_stay = λ x m. b.suspects_stay x (a.suspects_stay x m);
    paid = omega (arith, a.paid, b.paid);
  }
