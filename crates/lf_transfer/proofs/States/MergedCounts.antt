-- The counts of a state in which one region went into another one.
use Rattle.std.proofs.Common.{Bool, List, None, Some, [], ap, arith, cond, count_by, false, not, refl, subst, suc, sym, true, zero, ℕ, ◌&&◌, ◌+◌, ◌<◌, ◌∙◌, ◌∷◌, ◌≡◌, ◌≤◌}
use Rattle.std.specs.List.{list_any}
use Rattle.lf_base.specs.declared.ids.ObjId.{ObjId}
use Rattle.lf_base.specs.declared.values.Owner.TheVariants.{In}
use Rattle.lf_base.specs.Edges.{Edge, edges}
use Rattle.lf_base.specs.MergeResult.{lies_in, merge_fault, merge_result, relabel_region}
use Rattle.lf_base.specs.Names.{same_name}
use Rattle.lf_base.specs.Owners.{is_bridge, is_in, owner_in}
use Rattle.lf_base.specs.Ownership.{is_from, owns}
use Rattle.lf_base.specs.PlainState.{Row, State}
use Rattle.lf_base.specs.WalkCounts.{borrows}
use Rattle.lf_base.specs.WellFormed.{WellFormed}
use Rattle.lf_base.proofs.NameLemmas.SameNames.{other_way, same_name_is, same_name_itself}
use Rattle.lf_domain.specs.Counts.{CountsOf, IsDomain}
use Rattle.lf_domain.proofs.NearCounts.{from_all, from_near}
use Rattle.lf_graph.specs.StoreCounts.{IsStoreOf}
use Rattle.lf_graph.specs.StoredRows.{CountedRow}
use Rattle.lf_laws.proofs.Changes.Merging.{merge_keeps}
use Rattle.lf_laws.proofs.Changes.RelabelledRegion.{in_that, region_owner, swap_other, swap_region, swapped}
use Rattle.lf_laws.proofs.Edges.EdgeParts.{any_same, any_some, some_any}
use Rattle.lf_laws.proofs.Edges.OwnerEdges.{all_region}
use Rattle.lf_laws.proofs.Edges.GivenRegions.{in_other, merged_home, merged_other, merged_owning, owning_less}
use Rattle.lf_laws.proofs.Rows.EdgeCounts.{with_rows}
use Rattle.lf_laws.proofs.Rows.OwnerTests.{in_region}
use Rattle.lf_regions.specs.declared.region.Region.{Region}
use Rattle.lf_regions.specs.Regions.{borrowed_of, has_region, owned_of}
use Rattle.lf_regions.specs.TableCounts.{IsTableOf, owns_region}
use Rattle.lf_transfer.specs.Merging.{Joins}

-- with one edge at most that passes, and those of a part of them taken away, one is left exactly where the part has none
pub one_less : (some_before some_part some_after : Bool) (before part after : ℕ) → (some_before ≡ true → 0 < before) → (0 < before → some_before ≡ true) → (some_part ≡ true → 0 < part) → (0 < part → some_part ≡ true)
    → (some_after ≡ true → 0 < after) → (0 < after → some_after ≡ true) → after + part ≡ before → before ≤ 1 → (not some_part && some_before) ≡ some_after
one_less true true true before part after f f' g g' h h' e one = absurd (omega (arith, h refl, g refl, e, one))
one_less true true false before part after f f' g g' h h' e one = refl
one_less true false true before part after f f' g g' h h' e one = refl
one_less true false false before part after f f' g g' h h' e one = go part refl where
  go : (n : ℕ) → part ≡ n → true ≡ false
  go zero k = sym (h' (omega (arith, f refl, e, k)))
  go (suc n) k = sym (g' (omega (arith, k)))
one_less false true true before part after f f' g g' h h' e one = absurd (let z : false ≡ true = f' (omega (arith, h refl, e)) in cc)
one_less false true false before part after f f' g g' h h' e one = refl
one_less false false true before part after f f' g g' h h' e one = absurd (let z : false ≡ true = f' (omega (arith, h refl, e)) in cc)
one_less false false false before part after f f' g g' h h' e one = refl

module _ (s : State) (well : WellFormed s) (a b : ObjId) (a_bridge : is_bridge s.rows a ≡ true) (b_bridge : is_bridge s.rows b ≡ true) (other : same_name b a ≡ false) where
  abbrev after : List Row
  after = relabel_region s.rows b (In a)

  a_owner : owner_in after a ≡ Some (In a)
  a_owner = region_owner b (In a) s.rows a ∙ ap (swapped b (In a)) (in_region a (owner_in s.rows a) a_bridge) ∙ swap_other b (In a) (In a) other

  bridge_here : is_bridge after a ≡ true
  bridge_here = ap (is_in a) a_owner ∙ same_name_itself a

  bridge_gone : is_bridge after b ≡ false
  bridge_gone = ap (is_in b) (region_owner b (In a) s.rows b ∙ ap (swapped b (In a)) (in_region b (owner_in s.rows b) b_bridge) ∙ swap_region b (In a)) ∙ other

  bridge_else : (q : ObjId) → same_name a q ≡ false → same_name b q ≡ false → is_bridge after q ≡ is_bridge s.rows q
  bridge_else q n m = ap (is_in q) (region_owner b (In a) s.rows q) ∙ in_other b (In a) q (owner_in s.rows q) (other_way a q n) m

  abbrev from_b : Edge → Bool
  from_b e = is_from s.rows b e.from && same_name e.to a

  child_told : owns s b a ≡ list_any from_b (edges s)
  child_told = ap (λ c. not c && (is_bridge s.rows a && list_any from_b (edges s))) other ∙ ap (λ c. c && list_any from_b (edges s)) a_bridge

  owned_then : (not (owns s b a) && list_any (owns_region s.rows a) (edges s)) ≡ list_any (owns_region after a) (edges s)
  owned_then =
      ap (λ c. not c && list_any (owns_region s.rows a) (edges s)) child_told
      ∙ one_less (list_any (owns_region s.rows a) (edges s)) (list_any from_b (edges s)) (list_any (owns_region after a) (edges s)) (count_by (owns_region s.rows a) (edges s)) (count_by from_b (edges s)) (count_by (owns_region after a) (edges s))
      (some_any (owns_region s.rows a) (edges s)) (any_some (owns_region s.rows a) (edges s)) (some_any from_b (edges s)) (any_some from_b (edges s)) (some_any (owns_region after a) (edges s)) (any_some (owns_region after a) (edges s))
      (owning_less s.rows b (In a) (edges s) a (ap not (same_name_itself a)) other)
      (well.one_owner a a_bridge)

  module _ (regions next : List Region) (is_child : Bool) (child : is_child ≡ owns s b a) (t : IsTableOf regions s.rows (edges s)) (j : Joins regions next a b is_child) where
    by_region : (q : ObjId) (P : ObjId → Type 0) → P a → (same_name a q ≡ false → same_name b q ≡ false → P q) → is_bridge after q ≡ true → P q
    by_region q P at_a else bridge = elim (same_name a q) as (λ c. same_name a q ≡ c → P q) [
      | true ↦ λ e. subst P (same_name_is a q e) at_a
      | false ↦ λ e. elim (same_name b q) as (λ c. same_name b q ≡ c → P q) [
        | true ↦ λ k. absurd (let z : false ≡ true = sym bridge_gone ∙ ap (is_bridge after) (same_name_is b q k) ∙ bridge in cc)
        | false ↦ λ k. else e k
      ] refl
    ] refl

    names_then : (q : ObjId) → has_region next q ≡ is_bridge after q
    names_then q = j.names q ∙ (elim (same_name b q) as (λ c. same_name b q ≡ c → (not c && has_region regions q) ≡ is_bridge after q) [
      | true ↦ λ k. sym (ap (is_bridge after) (sym (same_name_is b q k)) ∙ bridge_gone)
      | false ↦ λ k. elim (same_name a q) as (λ c. same_name a q ≡ c → has_region regions q ≡ is_bridge after q) [
        | true ↦ λ e. subst (λ o. has_region regions o ≡ is_bridge after o) (same_name_is a q e) (t.regions a ∙ a_bridge ∙ sym bridge_here)
        | false ↦ λ e. t.regions q ∙ sym (bridge_else q e k)
      ] refl
    ] refl)

    pub table_joined : IsTableOf next after (edges s)
    table_joined = record {
      regions = names_then;
      borrowed = λ q bridge. by_region q (λ o. borrowed_of next o ≡ count_by (borrows after o) (edges s))
          (j.borrowed_there ∙ (λ i. t.borrowed a a_bridge i + t.borrowed b b_bridge i) ∙ sym (merged_home s.rows b a (edges s) other))
          (λ e k. j.borrowed q e k ∙ t.borrowed q (sym (bridge_else q e k) ∙ bridge) ∙ sym (merged_other s.rows b a (edges s) q e k))
          bridge;
      owned = λ q bridge. by_region q (λ o. owned_of next o ≡ list_any (owns_region after o) (edges s))
          (j.owned_there ∙ (λ i. not (child i) && t.owned a a_bridge i) ∙ owned_then)
          (λ e k. j.owned q e k ∙ t.owned q (sym (bridge_else q e k) ∙ bridge)
          ∙ any_same (owns_region s.rows q) (edges s) (owns_region after q) (edges s) (sym (merged_owning s.rows b a (edges s) q e k)))
          bridge;
    }

pub merged_counts : (rows new : List CountedRow) (regions next : List Region) (s : State) (a b : ObjId) (is_child : Bool) → IsDomain rows regions s → is_bridge s.rows a ≡ true → is_bridge s.rows b ≡ true
    → same_name a b ≡ false → merge_fault s a b ≡ None → is_child ≡ owns s b a → IsStoreOf new (relabel_region s.rows b (In a)) (edges s) → Joins regions next a b is_child → CountsOf new next (merge_result s a b)
merged_counts rows new regions next s a b is_child d a_bridge b_bridge other allowed child store j =
    let same : edges (merge_result s a b) ≡ edges s = all_region s b (In a) in
    from_all (merge_result s a b) (merge_keeps s a b d.well_formed a_bridge b_bridge allowed) new next (record {
      store = subst (IsStoreOf new (relabel_region s.rows b (In a))) (sym same) store;
      table = subst (IsTableOf next (relabel_region s.rows b (In a))) (sym same)
          (table_joined s d.well_formed a b a_bridge b_bridge (other_way a b other) regions next is_child child (from_near s d.well_formed rows regions d.counts).table j);
    })

-- a region that goes into itself stays
pub itself_counts : (rows : List CountedRow) (regions : List Region) (s : State) (a b : ObjId) → same_name a b ≡ true → CountsOf rows regions s → CountsOf rows regions (merge_result s a b)
itself_counts rows regions s a b same c = subst (λ q. CountsOf rows regions (merge_result s q b)) (sym (same_name_is a b same)) (subst (λ of. CountsOf rows regions (with_rows s of)) (sym (merge_itself s.rows b)) c) where
  merge_itself : (of : List Row) (b : ObjId) → relabel_region of b (In b) ≡ of
  merge_itself [] b = refl
  merge_itself (x ∷ xs) b = elim (lies_in b x) as (λ c. lies_in b x ≡ c → cond c (record x { owner = In b }) x ∷ relabel_region xs b (In b) ≡ x ∷ xs) [
    | true ↦ λ e. (λ i. record x { owner = sym (in_that b (In b) (x.owner) e) i } ∷ merge_itself xs b i)
    | false ↦ λ e. ap (λ l. x ∷ l) (merge_itself xs b)
  ] refl
