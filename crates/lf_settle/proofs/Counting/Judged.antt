-- What the counts say of a suspect.
use Rattle.std.proofs.Common.{Bool, List, None, Some, ap, arith, cond, eqb, false, not, refl, suc, sym, true, zero, ℕ, ◌+◌, ◌<◌, ◌∙◌, ◌≡◌}
use Rattle.lf_base.specs.declared.ids.ObjId.{ObjId}
use Rattle.lf_base.specs.declared.values.Owner.{Owner}
use Rattle.lf_base.specs.declared.values.Owner.TheVariants.{In, Local}
use Rattle.lf_base.specs.Names.{same_name}
use Rattle.lf_base.specs.Owners.{is_bridge, owner_in}
use Rattle.lf_base.specs.Ownership.{owning_edges}
use Rattle.lf_base.specs.PlainState.{State}
use Rattle.lf_base.specs.Suspects.{Object, Region}
use Rattle.lf_base.specs.WalkCounts.{borrowed, refs}
use Rattle.lf_base.proofs.NameLemmas.SameNames.{same_name_flips, same_name_is, same_name_itself}
use Rattle.lf_graph.specs.StoredRows.{CountedRow, owner_at, refs_at}
use Rattle.lf_laws.proofs.Losses.CountsFall.{above_zero, zero_not}
use Rattle.lf_laws.proofs.Losses.DroppedSets.{bare_counts, bridge_idle, inner_can_go, inner_idle, local_can_go, local_idle, no_bridge_idle, nothing_idle, region_spends}
use Rattle.lf_regions.specs.declared.region.Region as table
use Rattle.lf_settle.specs.declared.verdict.Verdict.TheVariants.{DropRegion, DropRow, Stays}
use Rattle.lf_settle.specs.LostEdges.{is_bare}
use Rattle.lf_settle.specs.SettledStates.{IsCounted}
use Rattle.lf_settle.specs.Verdicts.{GoesWhole, Judges, row_verdict}
use Rattle.lf_settle.proofs.Counting.CountsTell.{bare_is_not_held, bridge_told, else_is_held, owner_is_told, refs_told}

zero_of : (n : ℕ) → eqb n 0 ≡ true → n ≡ 0
zero_of n e = grind (arith, e)

above_of : (n : ℕ) → eqb n 0 ≡ false → 0 < n
above_of zero e = cc
above_of (suc n) e = omega arith

is_same : (a b : Bool) → a ≡ not b → a ≡ false → b ≡ true
is_same a true e f = refl
is_same a false e f = absurd (let z : false ≡ true = sym f ∙ e in cc)

module _ (rows : List CountedRow) (regions : List table.Region) (s : State) (c : IsCounted rows regions s) where
  -- a row that lies in the region of its own name
  pub bridge_found : (r home : ObjId) (differs : Bool) → Some (In home) ≡ owner_at rows r → differs ≡ not (same_name home r) → differs ≡ false → owner_in s.rows r ≡ Some (In r)
  bridge_found r home differs found e f = sym (owner_is_told rows regions s c r) ∙ sym found ∙ ap (λ q. Some (In q)) (same_name_is home r (is_same differs (same_name home r) e f))

  pub region_goes_whole : (o r : ObjId) → owner_in s.rows o ≡ Some (In r) → is_bare regions r ≡ true → GoesWhole s r
  region_goes_whole o r h b =
      let z : owning_edges s r + borrowed s r ≡ 0 = zero_not (owning_edges s r + borrowed s r) (bare_is_not_held rows regions s c r (bridge_told rows regions s c o r h) b) in
      record { bridge = c.well_formed.bridge o r h; bare = (bare_counts s c.well_formed r).1 ((omega (arith, z)), (omega (arith, z))) }

  pub judges_region : (o r : ObjId) → owner_in s.rows o ≡ Some (In r) → is_bare regions r ≡ true → Judges s (DropRegion r) (Object o)
  judges_region o r h b = (region_goes_whole o r h b, (region_spends s c.well_formed o r h).0)

  pub judges_bridge : (r : ObjId) → owner_in s.rows r ≡ Some (In r) → is_bare regions r ≡ true → Judges s (DropRegion r) (Region r)
  judges_bridge r h b = (region_goes_whole r r h b, (region_spends s c.well_formed r r h).1)

  is_above : (o r : ObjId) → owner_in s.rows o ≡ Some (In r) → is_bare regions r ≡ false → 0 < owning_edges s r + borrowed s r
  is_above o r h b = above_zero (owning_edges s r + borrowed s r) (else_is_held rows regions s c r (bridge_told rows regions s c o r h) b)

  pub bridge_stays : (r : ObjId) → owner_in s.rows r ≡ Some (In r) → is_bare regions r ≡ false → Judges s Stays (Object r) × Judges s Stays (Region r)
  bridge_stays r h b = bridge_idle s c.well_formed r h (is_above r r h b)

  pub no_region_stays : (r : ObjId) → is_bridge s.rows r ≡ false → Judges s Stays (Region r)
  no_region_stays = no_bridge_idle s c.well_formed

  pub nothing_stays : (o : ObjId) → owner_in s.rows o ≡ None → Judges s Stays (Object o)
  nothing_stays = nothing_idle s c.well_formed

  by_count : (o : ObjId) (w : Owner) → (eqb (refs_at rows o) 0 ≡ true → Judges s (DropRow o w) (Object o)) → (eqb (refs_at rows o) 0 ≡ false → Judges s Stays (Object o))
      → Judges s (row_verdict rows o w) (Object o)
  by_count o w goes stays = elim (eqb (refs_at rows o) 0) as (λ b. eqb (refs_at rows o) 0 ≡ b → Judges s (cond b (DropRow o w) Stays) (Object o)) [ true ↦ goes | false ↦ stays ] refl

  pub judges_local : (o : ObjId) → owner_in s.rows o ≡ Some Local → Judges s (row_verdict rows o Local) (Object o)
  judges_local o h = by_count o Local
      (λ z. let none : refs s o ≡ 0 = sym (refs_told rows regions s c o Local h) ∙ zero_of (refs_at rows o) z in
      (record { here = h; no_bridge = refl; no_edge = none; goes = local_can_go s c.well_formed o h none }, same_name_itself o))
      (λ z. local_idle s c.well_formed o h (omega (arith, above_of (refs_at rows o) z, refs_told rows regions s c o Local h)))

  pub judges_inner : (o r : ObjId) → owner_in s.rows o ≡ Some (In r) → is_bare regions r ≡ false → same_name r o ≡ false → Judges s (row_verdict rows o (In r)) (Object o)
  judges_inner o r h b d = by_count o (In r)
      (λ z. let none : refs s o ≡ 0 = sym (refs_told rows regions s c o (In r) h) ∙ zero_of (refs_at rows o) z in
      (record { here = h; no_bridge = same_name_flips o r ∙ d; no_edge = none; goes = inner_can_go s c.well_formed o r h d (is_above o r h b) none }, same_name_itself o))
      (λ z. inner_idle s c.well_formed o r h (is_above o r h b) (omega (arith, above_of (refs_at rows o) z, refs_told rows regions s c o (In r) h)))
