-- What counts say of a suspect: what has a justification, and which rows can go at once where one has none.
use Rattle.std.proofs.Common.{Bool, None, Some, ap, arith, false, refl, subst, sym, true, ◌+◌, ◌<◌, ◌∙◌, ◌≡◌, ◌≤◌}
use Rattle.std.proofs.lemmas.List.Sums.{count_by-le-length}
use Rattle.std.specs.Prelude.{length, ◌↔◌}
use Rattle.lf_base.specs.Kept.{points}
use Rattle.lf_base.specs.Losses.{is_held, has_references, justified, of_region}
use Rattle.lf_base.specs.Names.{same_name}
use Rattle.lf_base.specs.Owners.{bridges, is_bridge, is_in, names, owner_in}
use Rattle.lf_base.specs.Ownership.{owning_edges}
use Rattle.lf_base.specs.PlainState.{Row, State}
use Rattle.lf_base.specs.Settling.{CanGo, Idle}
use Rattle.lf_base.specs.Suspects.{Bare, Object, Region}
use Rattle.lf_base.specs.WalkCounts.{borrowed, refs}
use Rattle.lf_base.specs.WellFormed.{WellFormed}
use Rattle.lf_base.specs.declared.ids.ObjId.{ObjId}
use Rattle.lf_base.specs.declared.values.Owner.TheVariants.{In, Local}
use Rattle.lf_base.proofs.NameLemmas.SameNames.{same_name_itself}
use Rattle.lf_laws.proofs.Dropping.CountsJustifyDropping.{inner_goes, into_zero, local_goes, owned_zero, points_zero, region_goes, zero_into, zero_owned, zero_points}
use Rattle.lf_laws.proofs.Dropping.RowsInPlace.{RowsInPlace, rows_in_place}
use Rattle.lf_laws.proofs.Rows.OwnerTests.{in_is}
use Rattle.lf_laws.proofs.Rows.RowsByName.{owner_is}
use Rattle.std.proofs.lemmas.Bool.{both_ways}
use Rattle.std.proofs.lemmas.Option.{none-some}
use Rattle.std.proofs.lemmas.List.{length-map}

local_in : (r : ObjId) → Some Local ≡ Some (In r) → ⊥
local_in r e = cc

true_or_not : (b : Bool) → (b ≡ false → ⊥) → b ≡ true
true_or_not true h = refl
true_or_not false h = absurd (h refl)

module _ (s : State) (t : WellFormed s) where
  g : RowsInPlace s
  g = rows_in_place s t

  -- ---- what is bare, and what nothing points to
  pub bare_counts : (r : ObjId) → Bare s r ↔ ((borrowed s r ≡ 0) × (owning_edges s r ≡ 0))
  bare_counts r = (
    (λ b. (into_zero s g r b.unborrowed, owned_zero s g r b.unowned)),
    (λ z. record { unowned = zero_owned s g r z.1; unborrowed = zero_into s g r z.0 }),
  )

  pub local_points : (o : ObjId) → owner_in s.rows o ≡ Some Local → (points s.rows s o ≡ false) ↔ (refs s o ≡ 0)
  local_points o h = (points_zero s g o Local h tt, zero_points s g o)

  pub inner_points : (o r : ObjId) → owner_in s.rows o ≡ Some (In r) → same_name r o ≡ false → (points s.rows s o ≡ false) ↔ (refs s o ≡ 0)
  inner_points o r h n = (points_zero s g o (In r) h n, zero_points s g o)

  -- ---- what can go
  pub local_can_go : (o : ObjId) → owner_in s.rows o ≡ Some Local → refs s o ≡ 0 → CanGo s (same_name o)
  local_can_go = local_goes s g

  abbrev Held : ObjId → Type 0
  Held r = 0 < owning_edges s r + borrowed s r

  not_bare : (r : ObjId) → Held r → Bare s r → ⊥
  not_bare r h b = let z = (bare_counts r).0 b in absurd (omega (arith, h, z.0, z.1))

  pub inner_can_go : (o r : ObjId) → owner_in s.rows o ≡ Some (In r) → same_name r o ≡ false → Held r → refs s o ≡ 0 → CanGo s (same_name o)
  inner_can_go o r h n held = inner_goes s g o r h n (not_bare r held)

  pub region_can_go : (r : ObjId) → owner_in s.rows r ≡ Some (In r) → borrowed s r ≡ 0 → owning_edges s r ≡ 0 → CanGo s (of_region s r)
  region_can_go = region_goes s g

  pub region_spends : (o r : ObjId) → owner_in s.rows o ≡ Some (In r) → (of_region s r o ≡ true) × (of_region s r r ≡ true)
  region_spends o r h = (ap (is_in r) h ∙ same_name_itself r, ap (is_in r) (t.bridge o r h) ∙ same_name_itself r)

  -- ---- what has a justification
  pointed : (o : ObjId) → 0 < refs s o → (points s.rows s o ≡ false → refs s o ≡ 0) → points s.rows s o ≡ true
  pointed o some z = true_or_not (points s.rows s o) (λ n. absurd (omega (arith, some, z n)))

  pub local_idle : (o : ObjId) → owner_in s.rows o ≡ Some Local → 0 < refs s o → Idle s (Object o)
  local_idle o h some = ((λ k. pointed o some (local_points o h).0), (λ r k. absurd (local_in r (sym h ∙ k))))

  in_same : (o r q : ObjId) → owner_in s.rows o ≡ Some (In r) → owner_in s.rows o ≡ Some (In q) → r ≡ q
  in_same o r q h k = in_is r q (owner_is s.rows o (In r) (In q) h k)

  inner_by : (o r : ObjId) → owner_in s.rows o ≡ Some (In r) → Held r → (same_name r o ≡ false → points s.rows s o ≡ true) → Idle s (Object o)
  inner_by o r h held p = (
    (λ k. absurd (local_in r (sym k ∙ h))),
    (λ q k. ((λ b. not_bare r held (subst (Bare s) (sym (in_same o r q h k)) b)), (λ d. p (ap (λ m. same_name m o) (in_same o r q h k) ∙ d)))),
  )

  pub inner_idle : (o r : ObjId) → owner_in s.rows o ≡ Some (In r) → Held r → 0 < refs s o → Idle s (Object o)
  inner_idle o r h held some = inner_by o r h held (λ n. pointed o some (inner_points o r h n).0)

  pub bridge_idle : (r : ObjId) → owner_in s.rows r ≡ Some (In r) → Held r → Idle s (Object r) × Idle s (Region r)
  bridge_idle r h held = (inner_by r r h held (λ n. absurd (both_ways _ n (same_name_itself r))), (λ k. not_bare r held))

  pub nothing_idle : (o : ObjId) → owner_in s.rows o ≡ None → Idle s (Object o)
  nothing_idle o h = ((λ k. absurd (none-some Local (sym h ∙ k))), (λ r k. absurd (none-some (In r) (sym h ∙ k))))

  pub no_bridge_idle : (r : ObjId) → is_bridge s.rows r ≡ false → Idle s (Region r)
  no_bridge_idle r n k = absurd (both_ways _ n (ap (is_in r) k ∙ same_name_itself r))

-- no more can be justified than there are rows and regions
pub justified_most : (s : State) → justified s ≤ length s.rows + length (bridges s)
justified_most s =
    omega (
      arith,
      count_by-le-length (has_references s) (names s.rows),
      count_by-le-length (is_held s) (bridges s),
      length-map s.rows (λ (r : Row). r.name),
    )
