-- After a merge the bridge that is one no more is suspect enough.
use Rattle.std.proofs.Common.{Bool, List, Some, ap, false, inl, inr, refl, sym, true, ◌&&◌, ◌++◌, ◌∙◌, ◌∷◌, ◌≡◌, ◌⊎◌}
use Rattle.std.specs.List.{list_any}
use Rattle.lf_base.specs.Edges.{Edge, content_edges, rows_edges, slot_edges}
use Rattle.lf_base.specs.Kept.{is_owned_by, points, points_into}
use Rattle.lf_base.specs.MergeResult.{merge_result}
use Rattle.lf_base.specs.Names.{same_name}
use Rattle.lf_base.specs.Noticing.{Noticed}
use Rattle.lf_base.specs.Owners.{is_in, owner_in}
use Rattle.lf_base.specs.Ownership.{is_owning}
use Rattle.lf_base.specs.PlainState.{State}
use Rattle.lf_base.specs.Sets.{Member}
use Rattle.lf_base.specs.Settling.{WatchedBy, Watches}
use Rattle.lf_base.specs.Suspects.{Bare, Object, Region, Suspect}
use Rattle.lf_base.specs.WalkCounts.{borrows, is_borrower}
use Rattle.lf_base.specs.declared.ids.ObjId.{ObjId}
use Rattle.lf_base.specs.declared.values.Owner.TheVariants.{In, Local}
use Rattle.lf_base.proofs.ListLemmas.Tests.{some_is}
use Rattle.lf_base.proofs.NameLemmas.SameNames.{other_way, same_name_is, same_name_itself}
use Rattle.lf_laws.proofs.Changes.RelabelledRegion.{became, nothing, region_edges, region_owner, swap_other, swap_region, swapped, the_new, the_same}
use Rattle.lf_laws.proofs.Edges.EdgeParts.{any_same, counts_same}
use Rattle.lf_laws.proofs.Edges.GivenRegions.{borrower_merged, in_other, owning_merged}
use Rattle.lf_laws.proofs.Rows.OwnerTests.{in_is}
use Rattle.std.proofs.lemmas.Bool.{both_ways, false_from_ne_true}
use Rattle.std.proofs.lemmas.Option.{none-some}

in_local : (r : ObjId) → Some (In r) ≡ Some Local → ⊥
in_local r e = cc

any_alike : {X : Type 0} (p q : X → Bool) (xs : List X) → ((x : X) → p x ≡ q x) → list_any p xs ≡ list_any q xs
any_alike p q xs h = any_same p xs q xs (counts_same p q xs h)

module _ (s : State) (a b : ObjId) (bridge : owner_in s.rows b ≡ Some (In b)) (w : List Suspect) (before : Noticed s w) where
  abbrev after : State
  after = merge_result s a b

  owner_then : (o : ObjId) → owner_in after.rows o ≡ swapped b (In a) (owner_in s.rows o)
  owner_then o = region_owner b (In a) s.rows o

  moved : owner_in after.rows b ≡ Some (In a)
  moved = owner_then b ∙ ap (swapped b (In a)) bridge ∙ swap_region b (In a)

  was_local : (o : ObjId) → owner_in after.rows o ≡ Some Local → owner_in s.rows o ≡ Some Local
  was_local o h = elim (became b (In a) (owner_in s.rows o)) [
    | nothing u z ↦ absurd (none-some Local (sym z ∙ sym (owner_then o) ∙ h))
    | the_new u z ↦ absurd (in_local a (sym z ∙ sym (owner_then o) ∙ h))
    | the_same v u n z ↦ u ∙ (sym z ∙ sym (owner_then o) ∙ h)
  ]

  was_in : (o r : ObjId) → owner_in after.rows o ≡ Some (In r) → (owner_in s.rows o ≡ Some (In r)) ⊎ ((owner_in s.rows o ≡ Some (In b)) × (a ≡ r))
  was_in o r h = elim (became b (In a) (owner_in s.rows o)) [
    | nothing u z ↦ absurd (none-some (In r) (sym z ∙ sym (owner_then o) ∙ h))
    | the_new u z ↦ inr (u, in_is a r (some_is (In a) (In r) (sym z ∙ sym (owner_then o) ∙ h)))
    | the_same v u n z ↦ inl (u ∙ (sym z ∙ sym (owner_then o) ∙ h))
  ]

  -- ---- the same edges, judged alike in other regions
  points_same : (o : ObjId) → points after.rows after o ≡ points s.rows s o
  points_same o = ap (λ l. list_any (λ (e : Edge). same_name e.to o) (slot_edges s.slots ++ l)) (region_edges b (In a) s.rows)

  module _ (r : ObjId) (not_a : same_name a r ≡ false) (not_b : same_name b r ≡ false) where
    owned_same : is_owned_by after.rows after r ≡ is_owned_by s.rows s r
    owned_same =
        ap (λ l. list_any (λ (e : Edge). is_owning after.rows e.from r && same_name e.to r) (l ++ (content_edges s.held ++ content_edges s.made))) (region_edges b (In a) s.rows)
        ∙ any_alike (λ (e : Edge). is_owning after.rows e.from r && same_name e.to r) (λ (e : Edge). is_owning s.rows e.from r && same_name e.to r) (rows_edges s.rows ++ (content_edges s.held ++ content_edges s.made))
        (λ e. ap (λ c. c && same_name e.to r) (owning_merged s.rows b a r not_a not_b e.from))

    into_same : points_into after.rows after r ≡ points_into s.rows s r
    into_same =
        ap (λ l. list_any (borrows after.rows r) (slot_edges s.slots ++ l)) (region_edges b (In a) s.rows)
        ∙ any_alike (borrows after.rows r) (borrows s.rows r) (slot_edges s.slots ++ rows_edges s.rows) (λ e.
        ap (λ c. c && is_in r (owner_in after.rows e.to)) (borrower_merged s.rows b a e.from)
        ∙ ap (λ c. is_borrower s.rows e.from && c) (ap (is_in r) (owner_then e.to) ∙ in_other b (In a) r (owner_in s.rows e.to) (other_way a r not_a) not_b))

    bare_before : Bare after r → Bare s r
    bare_before bare = record { unowned = sym owned_same ∙ bare.unowned; unborrowed = sym into_same ∙ bare.unborrowed }

    still : (u : Suspect) → Member u w → Watches s r u → WatchedBy after (Object b ∷ w) r
    still (Region q) m h = (Region q, (inr m, h))
    still (Object o) m h = (Object o, (inr m, owner_then o ∙ ap (swapped b (In a)) h ∙ swap_other b (In a) (In r) not_b))

  abbrev new : List Suspect
  new = Object b ∷ w

  other_region : (r : ObjId) → owner_in after.rows r ≡ Some (In r) → Bare after r → same_name a r ≡ false → WatchedBy after new r
  other_region r h bare n =
      let not_b : same_name b r ≡ false = false_from_ne_true _ (λ e.
      let same : Some (In a) ≡ Some (In r) = sym moved ∙ ap (owner_in after.rows) (same_name_is b r e) ∙ h in
      both_ways _ n (ap (λ z. same_name z r) (in_is a r (some_is (In a) (In r) same)) ∙ same_name_itself r)) in
      elim (was_in r r h) [
        | inl k ↦ let u = before.regions r k (bare_before r n not_b bare) in still r n not_b u.0 u.1.0 u.1.1
        | inr k ↦ absurd (both_ways _ n (ap (λ z. same_name z r) k.1 ∙ same_name_itself r))
      ]

  region_watched : (r : ObjId) → owner_in after.rows r ≡ Some (In r) → Bare after r → WatchedBy after new r
  region_watched r h bare = elim (same_name a r) as (λ c. same_name a r ≡ c → WatchedBy after new r) [
    | true ↦ λ e. (Object b, (inl refl, moved ∙ ap (λ z. Some (In z)) (same_name_is a r e)))
    | false ↦ λ e. other_region r h bare e
  ] refl

  inner_watched : (o r : ObjId) → owner_in after.rows o ≡ Some (In r) → same_name r o ≡ false → points s.rows s o ≡ false → Member (Object o) new
  inner_watched o r h d n = elim (was_in o r h) [
    | inl k ↦ inr (before.inners o r k d n)
    | inr k ↦ elim (same_name b o) as (λ c. same_name b o ≡ c → Member (Object o) new) [
      | true ↦ λ e. inl (ap Object (same_name_is b o e))
      | false ↦ λ e. inr (before.inners o b k.0 e n)
    ] refl
  ]

  pub merge_noticed : Noticed after new
  merge_noticed = record {
    locals = λ o h n. inr (before.locals o (was_local o h) (sym (points_same o) ∙ n));
    regions = region_watched;
    inners = λ o r h d n. inner_watched o r h d (sym (points_same o) ∙ n);
  }
