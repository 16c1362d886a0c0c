-- The trees of two contents share no region, and each region is in some tree.
use Rattle.std.proofs.Common.{None, Option, Some, ap, inl, inr, refl, subst, sym, true, ◌++◌, ◌∙◌, ◌≡◌}
use Rattle.lf_base.specs.declared.ids.CownId.{CownId}
use Rattle.lf_base.specs.declared.ids.ObjId.{ObjId}
use Rattle.lf_base.specs.declared.values.Owner.TheVariants.{In}
use Rattle.lf_base.specs.declared.values.Value.{Value}
use Rattle.lf_base.specs.Kept.{kept}
use Rattle.lf_base.specs.Owners.{bridge_of, has_name, has_row, is_bridge, is_in, owner_in}
use Rattle.lf_base.specs.Ownership.{Above, direct, step}
use Rattle.lf_base.specs.PlainState.{State}
use Rattle.lf_base.specs.Sets.{Member}
use Rattle.lf_laws.proofs.Rows.OwnerTests.{in_region}
use Rattle.lf_laws.proofs.Rows.RowsByName.{row_of, mem_has, Member_has_name, has_name_Member}
use Rattle.lf_base.proofs.ListLemmas.Members.{Member_any, any_Member}
use Rattle.lf_laws.proofs.Changes.Merging.{owned_by}
use Rattle.lf_base.proofs.NameLemmas.SameNames.{same_name_is, same_name_itself}
use Rattle.lf_laws.proofs.Owners.PathsOfSets.{below_path}
use Rattle.lf_base.proofs.ListLemmas.Filters.{Member_filter, Member_of_filter}
use Rattle.lf_base.specs.ContentTrees.{lies_in_one, regions_from}
use Rattle.lf_laws.proofs.Contents.PartsAreTrees.{names_bridge, part_in_tree, tree_in_part}
use Rattle.lf_base.specs.Contents.{part}
use Rattle.lf_base.specs.WholeContents.{Ended}
use Rattle.lf_laws.proofs.Contents.PartsCover.{rows_covered}
use Rattle.lf_laws.proofs.Contents.PartsApart.{parts_apart}

above_bridge : (e : State) {p q : ObjId} → Above e p q → owner_in e.rows q ≡ Some (In q)
above_bridge e (direct {q = p} {r = q} o) = (owned_by e p q o).bridge
above_bridge e (step o a) = above_bridge e a

tree_bridge : (e : State) (v : Value) (root : Option ObjId) → bridge_of e v ≡ root → (q : ObjId) → Member q (regions_from e root) → owner_in e.rows q ≡ Some (In q)
tree_bridge e v None h q m = absurd m
tree_bridge e v (Some r) h q (inl k) = subst (λ z. owner_in e.rows z ≡ Some (In z)) k (names_bridge e v r h).1
tree_bridge e v (Some r) h q (inr k) = above_bridge e ((below_path e r q).0 k)

module _ (e : State) (t : Ended e) (all : kept e ≡ e) where
  -- the bridge of a tree's region is in the content's part
  bridge_in_part : (c : CownId × Value) → Member c (e.held ++ e.made) → (q : ObjId) → has_name (regions_from e (bridge_of e c.1)) q ≡ true → has_row (part e c) q ≡ true
  bridge_in_part c m q h =
      let n = has_name_Member q (regions_from e (bridge_of e c.1)) h in
      let y = row_of e.rows q (In q) (tree_bridge e c.1 (bridge_of e c.1) refl q n) in
      subst (λ z. has_row (part e c) z ≡ true) y.name (mem_has y.row (part e c) (tree_in_part e t all c m y.row (Member_filter (lies_in_one (regions_from e (bridge_of e c.1))) y.row e.rows y.mem (Member_any (λ p. is_in p (Some ((y.row).owner))) q (regions_from e (bridge_of e c.1)) n (ap (λ w. is_in q (Some w)) y.owner ∙ same_name_itself q)))))

  pub trees_apart : (c d : CownId × Value) → Member c (e.held ++ e.made) → Member d (e.held ++ e.made) → (c.0 ≡ d.0 → ⊥) → (q : ObjId) → has_name (regions_from e (bridge_of e c.1)) q ≡ true → has_name (regions_from e (bridge_of e d.1)) q ≡ true → ⊥
  trees_apart c d m n differ q h k = parts_apart e t c d m n differ q (bridge_in_part c m q h) (bridge_in_part d n q k)

  pub trees_cover : (q : ObjId) → is_bridge e.rows q ≡ true → (c : CownId × Value) × (Member c (e.held ++ e.made) × (has_name (regions_from e (bridge_of e c.1)) q ≡ true))
  trees_cover q h =
      let y = row_of e.rows q (In q) (in_region q (owner_in e.rows q) h) in
      let c = rows_covered e t all y.row y.mem in
      let k = Member_of_filter (lies_in_one (regions_from e (bridge_of e (c.0).1))) y.row e.rows (part_in_tree e t all c.0 c.1.0 y.row c.1.1) in
      let p = any_Member (λ p. is_in p (Some ((y.row).owner))) (regions_from e (bridge_of e (c.0).1)) k.1 in
      let same : p.0 ≡ q = same_name_is p.0 q (ap (λ w. is_in p.0 (Some w)) (sym y.owner) ∙ p.1.1) in
      (c.0, (c.1.0, Member_has_name q (regions_from e (bridge_of e (c.0).1)) (subst (λ z. Member z (regions_from e (bridge_of e (c.0).1))) same p.1.0)))
