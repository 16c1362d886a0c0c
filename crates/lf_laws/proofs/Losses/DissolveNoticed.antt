-- After a dissolving nothing is left without justification, where a slot or a row points to the bridge.
use Rattle.std.proofs.Common.{Bool, List, Some, ap, arith, false, refl, sym, true, ◌&&◌, ◌++◌, ◌+◌, ◌∙◌, ◌≡◌}
use Rattle.std.specs.List.{count_by, list_any}
use Rattle.lf_base.specs.DissolveResult.{dissolve_result}
use Rattle.lf_base.specs.Edges.{Edge, edges, slot_edges}
use Rattle.lf_base.specs.Kept.{points}
use Rattle.lf_base.specs.Names.{same_name}
use Rattle.lf_base.specs.Noticing.{Noticed}
use Rattle.lf_base.specs.Owners.{is_in, owner_in}
use Rattle.lf_base.specs.Ownership.{is_from, is_owning, owning_edges}
use Rattle.lf_base.specs.PlainState.{State}
use Rattle.lf_base.specs.Sets.{Member}
use Rattle.lf_base.specs.Settling.{WatchedBy, Watches}
use Rattle.lf_base.specs.Suspects.{Bare, Object, Region, Suspect}
use Rattle.lf_base.specs.WalkCounts.{borrowed, borrows}
use Rattle.lf_base.specs.WellFormed.{WellFormed}
use Rattle.lf_base.specs.declared.ids.ObjId.{ObjId}
use Rattle.lf_base.specs.declared.values.Owner.TheVariants.{In, Local}
use Rattle.lf_base.proofs.ListLemmas.Tests.{count_none, none_count}
use Rattle.lf_base.proofs.NameLemmas.SameNames.{same_name_is, same_name_itself}
use Rattle.lf_laws.proofs.Changes.RelabelledRegion.{became, nothing, region_edges, region_owner, swap_other, swapped, the_new, the_same}
use Rattle.lf_laws.proofs.Edges.GivenRegions.{freed_other, owning_less}
use Rattle.lf_laws.proofs.Edges.OwnerEdges.{all_region}
use Rattle.lf_laws.proofs.Losses.DroppedSets.{bare_counts}
use Rattle.std.proofs.Math.Bool.{and-false}
use Rattle.std.proofs.lemmas.Bool.{both_ways, false_from_ne_true}
use Rattle.std.proofs.lemmas.Option.{none-some}

local_in : (r : ObjId) → Some Local ≡ Some (In r) → ⊥
local_in r e = cc

module _ (s : State) (r : ObjId) (t : WellFormed s) (whole : WellFormed (dissolve_result s r)) (bridge : owner_in s.rows r ≡ Some (In r)) (named : points s.rows s r ≡ true) (w : List Suspect) (before : Noticed s w) where
  abbrev after : State
  after = dissolve_result s r

  owner_then : (o : ObjId) → owner_in after.rows o ≡ swapped r Local (owner_in s.rows o)
  owner_then o = region_owner r Local s.rows o

  points_same : (o : ObjId) → points after.rows after o ≡ points s.rows s o
  points_same o = ap (λ l. list_any (λ (e : Edge). same_name e.to o) (slot_edges s.slots ++ l)) (region_edges r Local s.rows)

  was_in : (o c : ObjId) → owner_in after.rows o ≡ Some (In c) → (owner_in s.rows o ≡ Some (In c)) × (is_in r (Some (In c)) ≡ false)
  was_in o c h = elim (became r Local (owner_in s.rows o)) [
    | nothing u z ↦ absurd (none-some (In c) (sym z ∙ sym (owner_then o) ∙ h))
    | the_new u z ↦ absurd (local_in c (sym z ∙ sym (owner_then o) ∙ h))
    | the_same v u n z ↦ let same : Some v ≡ Some (In c) = sym z ∙ sym (owner_then o) ∙ h in (u ∙ same, ap (is_in r) (sym same) ∙ n)
  ]

  -- a row that is local then was so, or lay in the region
  local_watched : (o : ObjId) → owner_in after.rows o ≡ Some Local → points s.rows s o ≡ false → Member (Object o) w
  local_watched o h n = elim (became r Local (owner_in s.rows o)) [
    | nothing u z ↦ absurd (none-some Local (sym z ∙ sym (owner_then o) ∙ h))
    | the_new u z ↦ before.inners o r u (false_from_ne_true _ (λ e. both_ways _ (ap (points s.rows s) (same_name_is r o e) ∙ n) named)) n
    | the_same v u m z ↦ before.locals o (u ∙ (sym z ∙ sym (owner_then o) ∙ h)) n
  ]

  module _ (c : ObjId) (at : owner_in s.rows c ≡ Some (In c)) (apart : same_name r c ≡ false) (bare : Bare after c) where
    zeros : (borrowed after c ≡ 0) × (owning_edges after c ≡ 0)
    zeros = (bare_counts after whole c).0 bare

    abbrev into : Edge → Bool
    into e = is_from s.rows r e.from && is_in c (owner_in s.rows e.to)

    abbrev to : Edge → Bool
    to e = is_from s.rows r e.from && same_name e.to c

    borrows_parted : borrowed after c ≡ borrowed s c + count_by into (edges s)
    borrows_parted = ap (count_by (borrows after.rows c)) (all_region s r Local) ∙ freed_other s.rows r (edges s) c apart

    none_into : count_by into (edges s) ≡ 0
    none_into = omega (arith, borrows_parted, zeros.0)

    -- what led from the region to the bridge would borrow it then
    none_to : count_by to (edges s) ≡ 0
    none_to = none_count to (edges s) (λ e m.
        elim (same_name e.to c) as (λ b. same_name e.to c ≡ b → (is_from s.rows r e.from && b) ≡ false) [
          | true ↦ λ h.
              let inside : is_in c (owner_in s.rows e.to) ≡ true = ap (is_in c) (ap (owner_in s.rows) (same_name_is e.to c h) ∙ at) ∙ same_name_itself c in
              ap (λ b. is_from s.rows r e.from && b) (sym inside) ∙ count_none into (edges s) none_into e m
          | false ↦ λ h. and-false (is_from s.rows r e.from)
        ] refl)

    bare_before : Bare s c
    bare_before =
        let own : owning_edges s c ≡ 0 = omega (
          arith,
          ap (count_by (λ (e : Edge). is_owning after.rows e.from c && same_name e.to c)) (all_region s r Local),
          owning_less s.rows r Local (edges s) c refl apart,
          none_to,
          zeros.1,
        ) in
        (bare_counts s t c).1 (omega (arith, borrows_parted, zeros.0), own)

  still : (c : ObjId) → same_name r c ≡ false → (u : Suspect) → Member u w → Watches s c u → WatchedBy after w c
  still c n (Region q) m h = (Region q, (m, h))
  still c n (Object o) m h = (Object o, (m, owner_then o ∙ ap (swapped r Local) h ∙ swap_other r Local (In c) n))

  region_watched : (c : ObjId) → owner_in after.rows c ≡ Some (In c) → Bare after c → WatchedBy after w c
  region_watched c h bare =
      let k = was_in c c h in
      let u = before.regions c k.0 (bare_before c k.0 k.1 bare) in
      still c k.1 u.0 u.1.0 u.1.1

  pub dissolve_noticed : Noticed after w
  dissolve_noticed = record {
    locals = λ o h n. local_watched o h (sym (points_same o) ∙ n);
    regions = region_watched;
    inners = λ o c h d n. before.inners o c (was_in o c h).0 d (sym (points_same o) ∙ n);
  }
