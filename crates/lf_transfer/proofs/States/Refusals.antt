-- What a merge and a dissolving are refused for, by the table and the rows.
use Rattle.std.proofs.Common.{Bool, List, None, Option, Some, [], ap, arith, cond, count_by, false, not, refl, subst, sym, true, ◌&&◌, ◌+◌, ◌∙◌, ◌∷◌, ◌≡◌}
use Rattle.std.proofs.Math.Bool.{and-false, or-false}
use Rattle.std.proofs.lemmas.Bool.{false_from_ne_true}
use Rattle.std.specs.List.{list_any}
use Rattle.lf_base.specs.declared.faults.Fault.TheVariants.{Cycle, Owned}
use Rattle.lf_base.specs.declared.ids.ObjId.{ObjId}
use Rattle.lf_base.specs.declared.values.Owner.{Owner}
use Rattle.lf_base.specs.declared.values.Owner.TheVariants.{In}
use Rattle.lf_base.specs.Edges.{Content, Edge, Field, Slot, Source, edges}
use Rattle.lf_base.specs.MergeResult.{is_owned_elsewhere, is_owning_elsewhere, merge_fault}
use Rattle.lf_base.specs.Names.{same_name}
use Rattle.lf_base.specs.Owners.{first_bridge, has_name, is_bridge, is_in, owner_in}
use Rattle.lf_base.specs.Ownership.{Above, below, direct, is_from, is_in_other, is_owned, is_owning, owns}
use Rattle.lf_base.specs.PlainState.{State}
use Rattle.lf_base.proofs.NameLemmas.SameNames.{same_name_is, same_name_itself}
use Rattle.lf_barrier.specs.Descents.{IsBelow, is_child, region_targets}
use Rattle.lf_barrier.specs.Surveys.{is_other_bridge}
use Rattle.lf_barrier.proofs.Descents.OwnedBelow.{child_owned, not_below, owned_child}
use Rattle.lf_domain.specs.Counts.{IsDomain}
use Rattle.lf_domain.proofs.NearCounts.{from_near}
use Rattle.lf_domain.proofs.StoreEdges.{owner_told}
use Rattle.lf_graph.specs.StoredRows.{CountedRow, owner_at}
use Rattle.lf_laws.proofs.Edges.EdgeParts.{any_some, bit, counts_one, same_by, some_any}
use Rattle.lf_laws.proofs.Owners.PathsOfSets.{below_path}
use Rattle.lf_laws.proofs.Rows.OwnerTests.{in_region}
use Rattle.lf_laws.proofs.Rows.RowsByName.{Member_has_name, has_name_Member}
use Rattle.lf_regions.specs.declared.region.Region.{Region}
use Rattle.lf_regions.specs.Regions.{has_region, owned_of}
use Rattle.lf_regions.specs.TableCounts.{owns_region}
use Rattle.lf_transfer.proofs.States.MergedCounts.{one_less}

-- ---- bridges
pub bridge_found : (s : State) (os : List ObjId) (r : ObjId) → first_bridge s os ≡ Some r → is_bridge s.rows r ≡ true
bridge_found s [] r e = absurd (cc)
bridge_found s (o ∷ os) r e = elim (is_bridge s.rows o) as (λ b. is_bridge s.rows o ≡ b → cond b (Some o) None ≡ Some r → is_bridge s.rows r ≡ true) [
  | true ↦ λ h k. let same : o ≡ r = cc in ap (is_bridge s.rows) (sym same) ∙ h
  | false ↦ λ h k. absurd (cc)
] refl e

module _ (rows : List CountedRow) (regions : List Region) (s : State) (d : IsDomain rows regions s) where
  pub region_of_bridge : (r : ObjId) → is_bridge s.rows r ≡ true → has_region regions r ≡ true
  region_of_bridge r b = ((d.counts).table).regions r ∙ b

  pub bridge_of_region : (r : ObjId) → has_region regions r ≡ true → is_bridge s.rows r ≡ true
  bridge_of_region r h = sym (((d.counts).table).regions r) ∙ h

  pub owner_shown : (r : ObjId) → has_region regions r ≡ true → owned_of regions r ≡ is_owned s r
  owner_shown r h = ((from_near s d.well_formed rows regions d.counts).table).owned r (bridge_of_region r h)

  -- ---- which region owns which
  pub owning_shown : (q o : ObjId) → same_name q o ≡ false → has_region regions o ≡ true → has_name (region_targets rows q) o ≡ owns s q o
  owning_shown q o n h =
      let bridge : owner_at rows o ≡ Some (In o) = sym (owner_told rows s.rows o ((d.counts).store).rows) ∙ in_region o (owner_in s.rows o) (bridge_of_region o h) in
      let child : is_child q o (owner_at rows o) ≡ true = ap (is_child q o) bridge ∙ ap (λ b. b && not (same_name q o)) (same_name_itself o) ∙ ap not n in
      same_by (has_name (region_targets rows q) o) (owns s q o)
      (λ k. child_owned rows regions s d q o (has_name_Member o (region_targets rows q) k) child)
      (λ k. Member_has_name o (region_targets rows q) (owned_child rows regions s d q o k).0)

  module _ (a b : ObjId) (other : same_name a b ≡ false) where
    abbrev elsewhere : Edge → Bool
    elsewhere e = is_owning_elsewhere s.rows a b e.from && same_name e.to b

    abbrev from_a : Edge → Bool
    from_a e = is_from s.rows a e.from && same_name e.to b

    one_edge : (f : Source) (to : Bool) → bit (is_owning_elsewhere s.rows a b f && to) + bit (is_from s.rows a f && to) ≡ bit (is_owning s.rows f b && to)
    one_edge Slot to = refl
    one_edge (Content c) to = elim to as (λ x. bit x + 0 ≡ bit x) [ true ↦ refl | false ↦ refl ]
    one_edge (Field p) to = by_owner (owner_in s.rows p) where
      by_owner : (w : Option Owner) → bit ((is_in_other b w && not (is_in a w)) && to) + bit (is_in a w && to) ≡ bit (is_in_other b w && to)
      by_owner w = elim (is_in a w) as (λ x. is_in a w ≡ x → bit ((is_in_other b w && not x) && to) + bit (x && to) ≡ bit (is_in_other b w && to)) [
        | true ↦ λ h.
            let is : is_in_other b w ≡ true = ap (is_in_other b) (in_region a w h) ∙ ap not other in
            omega (arith, ap (λ y. bit ((y && false) && to)) is, ap (λ y. bit (y && to)) is)
        | false ↦ λ h. elim (is_in_other b w) as (λ y. bit ((y && true) && to) + bit (false && to) ≡ bit (y && to)) [ true ↦ omega arith | false ↦ refl ]
      ] refl

    -- the one owner is there, and isn't a
    pub elsewhere_is : has_region regions b ≡ true → (not (owns s a b) && is_owned s b) ≡ is_owned_elsewhere s a b
    elsewhere_is h =
        let bridge : is_bridge s.rows b ≡ true = bridge_of_region b h in
        let told : owns s a b ≡ list_any from_a (edges s) = ap (λ c. not c && (is_bridge s.rows b && list_any from_a (edges s))) other ∙ ap (λ c. c && list_any from_a (edges s)) bridge in
        ap (λ c. not c && is_owned s b) told
        ∙ one_less (is_owned s b) (list_any from_a (edges s)) (is_owned_elsewhere s a b) (count_by (owns_region s.rows b) (edges s)) (count_by from_a (edges s)) (count_by elsewhere (edges s))
        (some_any (owns_region s.rows b) (edges s)) (any_some (owns_region s.rows b) (edges s)) (some_any from_a (edges s)) (any_some from_a (edges s)) (some_any elsewhere (edges s)) (any_some elsewhere (edges s))
        (counts_one elsewhere from_a (owns_region s.rows b) (edges s) (λ e m. one_edge e.from (same_name e.to b)))
        ((d.well_formed).one_owner b bridge)

    -- ---- the refusal
    pub refused_owned : is_owned_elsewhere s a b ≡ true → merge_fault s a b ≡ Some Owned
    refused_owned h =
        ap (λ c. cond c None (cond (is_owned_elsewhere s a b) (Some Owned) (cond (has_name (below s b) a && not (owns s b a)) (Some Cycle) None))) other
        ∙ ap (λ c. cond c (Some Owned) (cond (has_name (below s b) a && not (owns s b a)) (Some Cycle) None)) h

    fault_is : is_owned_elsewhere s a b ≡ false → merge_fault s a b ≡ cond (has_name (below s b) a && not (owns s b a)) (Some Cycle) None
    fault_is h =
        ap (λ c. cond c None (cond (is_owned_elsewhere s a b) (Some Owned) (cond (has_name (below s b) a && not (owns s b a)) (Some Cycle) None))) other
        ∙ ap (λ c. cond c (Some Owned) (cond (has_name (below s b) a && not (owns s b a)) (Some Cycle) None)) h

    not_listed : (Above s b a → ⊥) → has_name (below s b) a ≡ false
    not_listed none = false_from_ne_true _ (λ h. none ((below_path s b a).0 (has_name_Member a (below s b) h)))

    pub owns_not : (Above s b a → ⊥) → owns s b a ≡ false
    owns_not none = false_from_ne_true _ (λ h. none (direct h))

    pub none_above : has_region regions a ≡ true → owned_of regions a ≡ false → Above s b a → ⊥
    none_above h free above = not_below rows regions s d a h free b above

    pub allowed_apart : is_owned_elsewhere s a b ≡ false → (Above s b a → ⊥) → merge_fault s a b ≡ None
    allowed_apart h none = fault_is h ∙ ap (λ c. cond (c && not (owns s b a)) (Some Cycle) None) (not_listed none)

    pub allowed_child : is_owned_elsewhere s a b ≡ false → owns s b a ≡ true → merge_fault s a b ≡ None
    allowed_child h own = fault_is h ∙ ap (λ c. cond (has_name (below s b) a && not c) (Some Cycle) None) own ∙ ap (λ c. cond c (Some Cycle) None) (and-false (has_name (below s b) a))

    pub refused_cycle : is_owned_elsewhere s a b ≡ false → owns s b a ≡ false → Above s b a → merge_fault s a b ≡ Some Cycle
    refused_cycle h apart above =
        fault_is h ∙ ap (λ c. cond (c && not (owns s b a)) (Some Cycle) None) (Member_has_name a (below s b) ((below_path s b a).1 above))
        ∙ ap (λ c. cond (not c) (Some Cycle) None) apart

  -- ---- one bridge alone
  pub only_other : (a b : ObjId) → same_name a b ≡ false → has_region regions b ≡ true → (names : List ObjId) → names ≡ b ∷ [] → (o : ObjId) → has_name names o ≡ true → is_other_bridge a o (owner_at rows o) ≡ true
  only_other a b n h names is o k =
      let same : b ≡ o = same_name_is b o (sym (or-false (same_name b o)) ∙ sym (ap (λ l. has_name l o) is) ∙ k) in
      let bridge : owner_at rows b ≡ Some (In b) = sym (owner_told rows s.rows b ((d.counts).store).rows) ∙ in_region b (owner_in s.rows b) (bridge_of_region b h) in
      subst (λ p. is_other_bridge a p (owner_at rows p) ≡ true) same (ap (is_other_bridge a b) bridge ∙ ap (λ c. not c && same_name b b) n ∙ same_name_itself b)

  above_one : (a b : ObjId) (names : List ObjId) → names ≡ b ∷ [] → IsBelow s names a true → Above s b a
  above_one a b names is x =
      let same : b ≡ x.0 = same_name_is b x.0 (sym (or-false (same_name b x.0)) ∙ sym (ap (λ l. has_name l x.0) is) ∙ x.1.0) in
      subst (λ o. Above s o a) (sym same) x.1.1

  pub is_above : (a b : ObjId) (names : List ObjId) → names ≡ b ∷ [] → (found : Bool) → IsBelow s names a found → found ≡ true → Above s b a
  is_above a b names is true x e = above_one a b names is x
  is_above a b names is false x e = absurd (let z : false ≡ true = e in cc)

  pub not_above : (a b : ObjId) (names : List ObjId) → names ≡ b ∷ [] → (found : Bool) → IsBelow s names a found → found ≡ false → Above s b a → ⊥
  not_above a b names is true x e above = let z : true ≡ false = e in cc
  not_above a b names is false x e above = x b (ap (λ l. has_name l b) is ∙ or-false (same_name b b) ∙ same_name_itself b) above
