-- The names of a list of regions after a change, and their order.
use Rattle.std.proofs.Common.{◌≡◌, ◌∙◌, ◌⊎◌, List, [], ◌∷◌, ap, cond, false, filter, inl, inr, not, refl, sym, true}
use Rattle.std.proofs.lemmas.Bool.{or_parts}
use Rattle.lf_base.specs.declared.ids.ObjId.{ObjId}
use Rattle.lf_base.specs.Names.{name_below, same_name}
use Rattle.lf_base.specs.Sets.{InOrder, Member}
use Rattle.lf_base.proofs.ListLemmas.Sublists.{order_all, order_cons, order_sub, order_tail, sub_filter, sub_map}
use Rattle.lf_base.proofs.NameLemmas.NameOrder.{name_below_trans, other_below}
use Rattle.lf_base.proofs.NameLemmas.SameNames.{other_way}
use Rattle.lf_regions.specs.declared.region.Region.{Region}
use Rattle.lf_regions.specs.RegionChanges.{new_region, with_region, without_region}
use Rattle.lf_regions.specs.Regions.{InNameOrder, has_region, region_names}

pub names_without : (regions : List Region) (r : ObjId) → region_names (without_region regions r) ≡ filter (λ q. not (same_name q r)) (region_names regions)
names_without [] r = refl
names_without (x ∷ xs) r =
    elim (not (same_name x.name r)) as (λ b. region_names (cond b (x ∷ without_region xs r) (without_region xs r)) ≡ cond b (x.name ∷ filter (λ q. not (same_name q r)) (region_names xs)) (filter (λ q. not (same_name q r)) (region_names xs))) [
      | true ↦ ap (λ l. x.name ∷ l) (names_without xs r)
      | false ↦ names_without xs r
    ]

pub order_without : (regions : List Region) (r : ObjId) → InNameOrder regions → InNameOrder (without_region regions r)
order_without regions r o = order_sub name_below name_below_trans (sub_map (λ (x : Region). x.name) (sub_filter (λ (x : Region). not (same_name x.name r)) regions)) o

-- a name of the list with a new region is the new one, or was there before
name_with : (regions : List Region) (r q : ObjId) → Member q (region_names (with_region regions r)) → (r ≡ q) ⊎ Member q (region_names regions)
name_with [] r q (inl same) = inl same
name_with [] r q (inr none) = absurd none
name_with (x ∷ xs) r q m =
    elim (name_below r x.name) as (λ b. Member q (region_names (cond b (new_region r ∷ x ∷ xs) (x ∷ with_region xs r))) → (r ≡ q) ⊎ Member q (region_names (x ∷ xs))) [
      | true ↦ λ m. elim m [ inl same ↦ inl same | inr later ↦ inr later ]
      | false ↦ λ m. elim m [
        | inl same ↦ inr (inl same)
        | inr later ↦ elim (name_with xs r q later) [ inl same ↦ inl same | inr there ↦ inr (inr there) ]
      ]
    ] m

pub order_with : (regions : List Region) (r : ObjId) → InNameOrder regions → has_region regions r ≡ false → InNameOrder (with_region regions r)
order_with [] r o absent = tt
order_with (x ∷ xs) r o absent =
    let apart = or_parts (same_name x.name r) (has_region xs r) absent in
    elim (name_below r x.name) as (λ b. name_below r x.name ≡ b → InOrder name_below (region_names (cond b (new_region r ∷ x ∷ xs) (x ∷ with_region xs r)))) [
      | true ↦ λ e. (e, o)
      | false ↦ λ e. order_cons name_below name_below_trans x.name (region_names (with_region xs r))
          (λ q m. elim (name_with xs r q m) [
            | inl same ↦ ap (name_below x.name) (sym same) ∙ other_below r x.name e (other_way x.name r apart.0)
            | inr there ↦ order_all name_below name_below_trans x.name (region_names xs) o q there
          ])
          (order_with xs r (order_tail name_below name_below_trans x.name (region_names xs) o) apart.1)
    ] refl
